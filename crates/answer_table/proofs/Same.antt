-- What is asked of the same in the same way is the same question.
use Rattle.std.proofs.Common.{◌≡◌, ℕ, Option, Some, List, All, slice_get, get_or, length, ◌<◌, refl, sym, ap, subst, ◌∙◌}
use Rattle.std.specs.Option.{option_map}
use Rattle.std.proofs.lemmas.Option.{slice_get_within, get_or_from_slice_get}
use Rattle.hept_ast.specs.Scopes.{Clock, Scope, block_of, text_of}
use Rattle.hept_ast.specs.Meaning.{Question, Setting, Variable, Last, Defined, Defines, Present, clock_in}
use Rattle.hept_ast.specs.Texts.{Name}
use Rattle.hept_ast.specs.Stages.{ClockedProgram}
use Rattle.hept_ast.specs.declared.tree.Expr.{Expr}
use Rattle.answer_table.specs.declared.paths.Step.{Step}
use Rattle.answer_table.specs.declared.questions.Asked.{Asked}
use Rattle.answer_table.specs.declared.questions.Asked.TheVariants as asked
use Rattle.answer_table.specs.declared.questions.Answer.{Answer}
use Rattle.answer_table.specs.declared.questions.Entry.{Entry}
use Rattle.answer_table.specs.Things.{Thing, In, At, Nowhere, setting_of, thing_at}
use Rattle.answer_table.specs.Asking.{scope_question, expression_question, question_of, Answered, HasAnswer, answer_of, IsSameAsked, IsAbout, IsRight}

same_in_scope : (w : Setting) (s : Scope) (p q : Asked) (t : ℕ) → IsSameAsked p q → scope_question w s p t ≡ scope_question w s q t
same_in_scope w s asked.Gives asked.Gives t h = refl
same_in_scope w s asked.Present asked.Present t h = refl
same_in_scope w s asked.Active asked.Active t h = refl
same_in_scope w s asked.Restarted asked.Restarted t h = refl
same_in_scope w s (asked.Output i) (asked.Output j) t h = refl
same_in_scope w s (asked.ActiveState i) (asked.ActiveState j) t h = ap (λ (n : ℕ). scope_question w s (asked.ActiveState n) t) h
same_in_scope w s (asked.LeftState i) (asked.LeftState j) t h = ap (λ (n : ℕ). scope_question w s (asked.LeftState n) t) h
same_in_scope w s (asked.Variable x) (asked.Variable y) t h = ap (λ (n : Name). Some (Variable n s t)) h
same_in_scope w s (asked.Last x) (asked.Last y) t h = ap (λ (n : Name). Some (Last n s t)) h
same_in_scope w s (asked.Defined x) (asked.Defined y) t h = ap (λ (n : Name). Some (Defined n s t)) h
same_in_scope w s (asked.PresentOf x) (asked.PresentOf y) t h = ap (λ (n : Name). Some (Present (clock_in w (text_of s) n) s t)) h
same_in_scope w s (asked.Defines i x) (asked.Defines j y) t h =
    ap (λ (n : ℕ). option_map (λ e. Defines x.now e) (slice_get (block_of s).body n)) h.0 ∙
    ap (λ (n : Name). option_map (λ e. Defines n e) (slice_get (block_of s).body j)) h.1
same_in_scope w s _ _ t h = absurd h

same_of_expression : (e : Expr) (clock : Clock) (s : Scope) (p q : Asked) (t : ℕ) → IsSameAsked p q → expression_question e clock s p t ≡ expression_question e clock s q t
same_of_expression e clock s asked.Gives asked.Gives t h = refl
same_of_expression e clock s asked.Present asked.Present t h = refl
same_of_expression e clock s asked.Active asked.Active t h = refl
same_of_expression e clock s asked.Restarted asked.Restarted t h = refl
same_of_expression e clock s (asked.Output i) (asked.Output j) t h = ap (λ (n : ℕ). expression_question e clock s (asked.Output n) t) h
same_of_expression e clock s (asked.ActiveState i) (asked.ActiveState j) t h = refl
same_of_expression e clock s (asked.LeftState i) (asked.LeftState j) t h = refl
same_of_expression e clock s (asked.Variable x) (asked.Variable y) t h = refl
same_of_expression e clock s (asked.Last x) (asked.Last y) t h = refl
same_of_expression e clock s (asked.Defined x) (asked.Defined y) t h = refl
same_of_expression e clock s (asked.PresentOf x) (asked.PresentOf y) t h = refl
same_of_expression e clock s (asked.Defines i x) (asked.Defines j y) t h = refl
same_of_expression e clock s _ _ t h = absurd h

same_question : (w : Setting) (thing : Thing) (p q : Asked) (t : ℕ) → IsSameAsked p q → question_of w thing p t ≡ question_of w thing q t
same_question w (In s) p q t h = same_in_scope w s p q t h
same_question w (At e clock s) p q t h = same_of_expression e clock s p q t h
same_question w Nowhere p q t h = refl

-- an entry about what is asked has its answer
pub about_is_right : (c : ClockedProgram) (rows : List (List ℕ)) (top : ℕ) (e : Entry) (path : List Step) (q : Asked) (t : ℕ) (a : Answer) →
    IsRight c rows top e → IsAbout e path q t → e.answer ≡ a → Answered c rows (thing_at c top path) q t a
about_is_right c rows top e path q t a h about answer =
    subst (λ (b : Answer). Answered c rows (thing_at c top path) q t b) answer
    (subst (λ (i : ℕ). Answered c rows (thing_at c top path) q i e.answer) about.0
    (subst (λ (o : Option Question). HasAnswer c rows o (answer_of e.answer)) (same_question (setting_of c) (thing_at c top path) e.question.asked q e.question.instant about.1)
    (subst (λ (p : List Step). Answered c rows (thing_at c top p) e.question.asked e.question.instant e.answer) about.2 h)))

pub all_got : {X : Type 0} (P : X → Type 0) (xs : List X) (i : ℕ) (x : X) → All P xs → slice_get xs i ≡ Some x → P x
all_got P xs i x h e = subst P (get_or_from_slice_get xs i x x e) (h i x (slice_get_within xs i x e))

-- an entry among right ones that is about what is asked has its answer
pub found_right : (entries : List Entry) (i : ℕ) (e : Entry) (path : List Step) (q : Asked) (t : ℕ) → i < length entries → e ≡ get_or entries i e → IsAbout e path q t →
    (c : ClockedProgram) (rows : List (List ℕ)) (top : ℕ) → All (IsRight c rows top) entries → Answered c rows (thing_at c top path) q t e.answer
found_right entries i e path q t within is about c rows top all =
    about_is_right c rows top e path q t e.answer (subst (λ (x : Entry). IsRight c rows top x) (sym is) (all i e within)) about refl

pub got_within : {V X : Type 0} (items : V → List X) (P : X → Type 0) (xs : List V) (i : ℕ) (v : V) → All (λ (e : V). All P (items e)) xs → slice_get xs i ≡ Some v → All P (items v)
got_within {V} {X} items P xs i v h e = all_got (λ (x : V). All P (items x)) xs i v h e

-- what stands at a position of a list that is the same
pub got_via : {X : Type 0} (xs ys : List X) (i : ℕ) (v : X) → xs ≡ ys → Some v ≡ slice_get xs i → slice_get ys i ≡ Some v
got_via {X} xs ys i v same h = ap (λ (zs : List X). slice_get zs i) (sym same) ∙ sym h

pub all_via : {X : Type 0} (P : X → Type 0) (xs ys : List X) → xs ≡ ys → All P ys → All P xs
all_via {X} P xs ys same h = subst (λ (zs : List X). All P zs) (sym same) h
