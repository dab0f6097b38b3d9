-- The presence of a clock is known in a reset body as around it.
use Rattle.hept_ast.specs.Meaning.{Is}
use Rattle.accepted_meaning.specs.Running.{Run, IsSoundRun}
use Rattle.accepted_meaning.proofs.FitsKept.{PresentMoves}
use Rattle.accepted_meaning.proofs.KnownScopes.{Texts}
use Rattle.accepted_meaning.proofs.KnownCarried.{body_present}

pub present_moves : (r : Run) → IsSoundRun r → Texts r → PresentMoves r
present_moves r sound texts k s every block x d c t outer stands sees = record {
  inward = λ b h. (body_present r sound texts k s every block c t outer stands).to (Is b) h;
  outward = λ b h. (body_present r sound texts k s every block c t outer stands).from (Is b) h;
}
