use Rattle.std.proofs.Common.{◌≡◌, ◌<◌, ◌++◌, true, length, Option, List, ℕ, Err, refl, ap}
use Rattle.std.proofs.lemmas.Result.{err_from_is_err_and}
use Rattle.hept_io.specs.Lines.{HasNoNewline, Reading, Moves}
use Rattle.hept_io.specs.Unread.{Came, unread}
use Rattle.hept_io.specs.declared.lines.LineFault.{LineFault}
use Rattle.hept_io.specs.declared.lines.LineFault.TheVariants.{Failed, TooLong}
use Rattle.hept_io.proofs.LineLaws.{LosesLine-taken, GivesUp-came, FirstIsTooLong-came}
use Rattle.hept_io.proofs.LineLemmas.{few_unread}
use Rattle.hept_io.proofs.lines.LineReader.next.Goals as goal

-- what a refusal does
gives_up : (old new : Reading) (bytes : List ℕ) (left rest : Option (List ℕ)) (fault : LineFault) → new.is_spent ≡ true → Came old.pending bytes left rest → HasNoNewline bytes
    → (fault ≡ Failed → length bytes < 65536) → (fault ≡ TooLong → length bytes ≡ 65536) → Moves old left (Err fault) new rest
gives_up old new bytes left rest Failed spent came clean failed long =
    let up = GivesUp-came old new bytes left rest spent came clean in
    (up.0, rw up.1 (failed refl))
gives_up old new bytes left rest TooLong spent came clean failed long =
    let up = GivesUp-came old new bytes left rest spent came clean in
    let all : length (old.pending ++ up.0.came) ≡ 65536 = rw up.1 (long refl) in
    (up.0, all, FirstIsTooLong-came old.pending left rest up.0.came up.0.consumed up.0.clean all)

pub returns-in-Some : goal.returns-in-Some
returns-in-Some g c =
    let was : unread c.self.inside.ahead ≡ c.args.self.now.pending = ap (λ (r : Reading). r.pending) c.self.view_is in
    let clauses = rw c.in-Some.is at c.in_ok-line.ensures in
    let shown = c.part.ensures in
    let line = rw (← shown) at clauses.line in
    let takes = rw was at line.1 in (
      (refl, λ _. tt, record { goes_on = refl; few = few_unread c.next_line.new.self; loses = LosesLine-taken _ _ _ _ _ line.0.0 takes }),
      record { line = line.0; failed = tt; count = c.next_line.ensures.count; moves = tt },
    )

pub returns-in_err-line : goal.returns-in_err-line
returns-in_err-line g c =
    let was : unread c.self.inside.ahead ≡ c.args.self.now.pending = ap (λ (r : Reading). r.pending) c.self.view_is in
    let clauses = c.in_err-line.ensures in
    let came = rw was at clauses.refused.0 in
    let fault = c.in_err-line.field-0.0 in
    let is = err_from_is_err_and c.from_residual.result c.from_residual.ensures.1 in
    rw (is.1, is.2) (
      (
        refl,
        λ _. tt,
        gives_up c.args.self.now (record { pending = unread c.next_line.new.self; is_spent = true }) (unread c.next_line.new.self) _ _ fault refl came clauses.refused.1 (λ is. (clauses.failed (ap Err is)).0) (λ is. clauses.too_long (ap Err is)),
      ),
      record { line = tt; failed = λ is. (clauses.failed (ap Err is)).1; count = c.next_line.ensures.count; moves = tt },
    )
