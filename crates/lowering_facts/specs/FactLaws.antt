-- The static rules that the core keeps which comes of an accepted program without switches, resets, automata and `last`.
use Rattle.std.specs.Prelude.{◌≡◌, ℕ, suc, List, [], ◌∷◌, Some, slice_get}
use Rattle.hept_ast.specs.CallPlaces.{text_places}
use Rattle.hept_ast.specs.Paths.{AllDiffer}
use Rattle.hept_ast.specs.Scopes.{Lowered}
use Rattle.hept_ast.specs.Stages.{ClockedProgram, IsAcceptedProgram}
use Rattle.hept_ast.specs.declared.tree.Core.{Core}
use Rattle.hept_ast.specs.declared.tree.CoreNode.{CoreNode}
use Rattle.accepted_meaning.specs.Ranges.{IsInRange}
use Rattle.core_rules.specs.Cores.{HasNoCoreCycle}
use Rattle.lowering_rules.specs.Lowering.{LowersProgram}

abbrev pub LoweringMakesNoCycle : Type 0
LoweringMakesNoCycle = (c : ClockedProgram) (core : Core) → IsInRange c.program → IsAcceptedProgram c → LowersProgram c core → HasNoCoreCycle core

-- numbers that count up from n on, the next one being m
pub data CountsUp : (n : ℕ) → List ℕ → (m : ℕ) → Type 0 where
  no_numbers : {n : ℕ} → CountsUp n [] n
  next_number : {n m : ℕ} {xs : List ℕ} → CountsUp (suc n) xs m → CountsUp n (n ∷ xs) m

-- the places of a node's calls count up from 0 in text order, so no two calls have one place
abbrev pub LoweringNumbersCalls : Type 0
LoweringNumbersCalls = (c : ClockedProgram) (core : Core) (k : ℕ) (low : CoreNode) → IsInRange c.program → IsAcceptedProgram c → LowersProgram c core → slice_get core.nodes k ≡ Some low →
    (m : ℕ) × CountsUp 0 (text_places (Lowered low)) m × AllDiffer (text_places (Lowered low))
