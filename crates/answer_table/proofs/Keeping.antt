-- An answer that is kept stands among right ones.
use Rattle.std.proofs.Common.{◌≡◌, ℕ, ◌<◌, Bool, true, false, cond, List, [], ◌∷◌, ◌++◌, All, get_or, length, sym, ap, subst}
use Rattle.std.proofs.Math.ListN.{set}
use Rattle.std.proofs.lemmas.List.Elements.{All-push, All-set}
use Rattle.hept_ast.specs.Stages.{ClockedProgram}
use Rattle.answer_table.specs.declared.paths.Step.{Step}
use Rattle.answer_table.specs.declared.questions.Asked.{Asked}
use Rattle.answer_table.specs.declared.questions.Answer.{Answer}
use Rattle.answer_table.specs.declared.answers.Answers.{Answers}
use Rattle.answer_table.specs.Things.{thing_at}
use Rattle.answer_table.specs.Asking.{Answered}
use Rattle.answer_table.specs.Tables.{AnswerAt, IsSameRun}

-- what holds of each element of a list, and of one more, holds of the list with it or without
added : {X : Type 0} (P : X → Type 0) (xs ys : List X) (x : X) (kept : Bool) → ys ≡ cond kept (xs ++ x ∷ []) xs → All P xs → P x → All P ys
added {X} P xs ys x true is h p = subst (λ (zs : List X). All P zs) (sym is) (All-push P xs x h p)
added {X} P xs ys x false is h p = subst (λ (zs : List X). All P zs) (sym is) h

pub added_within : {V X : Type 0} (items : V → List X) (P : X → Type 0) (vs : List V) (i : ℕ) (old new : V) (x : X) (kept : Bool) →
    i < length vs → old ≡ get_or vs i old → items new ≡ cond kept (items old ++ x ∷ []) (items old) →
    All (λ (v : V). All P (items v)) vs → P x → All (λ (v : V). All P (items v)) (set vs i new)
added_within {V} {X} items P vs i old new x kept less at is h p =
    All-set (λ (v : V). All P (items v)) vs i new
    (added P (items old) (items new) x kept is (subst (λ (v : V). All P (items v)) (sym at) (h i old less)) p) h

-- an answer of a run is one of the same run
pub answer_kept : (s u : Answers) (path : List Step) (q : Asked) (t : ℕ) (a : Answer) → IsSameRun s u → AnswerAt s path q t a → AnswerAt u path q t a
answer_kept s u path q t a same h =
    subst (λ (c : ClockedProgram). Answered c u.rows.now (thing_at c u.top path) q t a) (sym (ap (λ r. r.now) same.accepted))
    (subst (λ (rows : List (List ℕ)). Answered s.accepted.now rows (thing_at s.accepted.now u.top path) q t a) (sym (ap (λ r. r.now) same.rows))
    (subst (λ (top : ℕ). Answered s.accepted.now s.rows.now (thing_at s.accepted.now top path) q t a) (sym same.top) h))
