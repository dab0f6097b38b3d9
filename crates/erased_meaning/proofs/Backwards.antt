-- What forms give that look at the previous instant.
use Rattle.std.proofs.Common.{◌≡◌, ℕ, List, Option, Some, None, refl, ap}
use Rattle.hept_ast.specs.Scopes.{Clock, Scope}
use Rattle.hept_ast.specs.Meaning.{Gives, Present, Restarted, Says, answer_to}
use Rattle.hept_ast.specs.Meaning as meaning
use Rattle.hept_ast.specs.Outputs.{said}
use Rattle.hept_ast.specs.declared.tree.Expr.{Expr}
use Rattle.hept_ast.specs.declared.tree.Form.TheOpen.{Form-F}
use Rattle.answer_table.specs.declared.paths.Step.{Step}
use Rattle.answer_table.specs.declared.questions.Asked.TheVariants as asked_of
use Rattle.answer_table.specs.declared.questions.Answer.{Answer}
use Rattle.answer_table.specs.declared.questions.Answer.TheVariants as answer
use Rattle.answer_table.specs.declared.answers.Answers.{Answers}
use Rattle.answer_table.specs.Things.{Thing, At}
use Rattle.answer_table.specs.Asking.{question_of}
use Rattle.answer_table.specs.Tables.{IsScopeOfPath, setting_in, thing_in}
use Rattle.erased_meaning.specs.Rules.{FormGives, GoesTo, OperandGets, Went}
use Rattle.erased_meaning.proofs.Following.{answer_gives}
use Rattle.erased_meaning.proofs.FormsOf.{of_form}

module _ (s : Answers) (path scope : List Step) (t : ℕ) where
  -- the search of an expression
  search_of : (o : Option ℕ) → Went s path asked_of.Present scope t o → IsScopeOfPath s path scope → (e : Expr) (clock : Clock) (sc : Scope) → thing_in s path ≡ At e clock sc →
      GoesTo s (λ p. Present clock sc p) (λ p. Restarted sc p) t o
  search_of o went scoped e clock sc is =
      went (λ p. Present clock sc p) (λ p. Restarted sc p)
      (λ p. ap (λ (thing : Thing). question_of (setting_in s) thing asked_of.Present p) is)
      (λ p. ap (λ (thing : Thing). question_of (setting_in s) thing asked_of.Restarted p) (scoped e clock sc is))

  pub fby_before : (p : ℕ) (r : Answer) → Went s path asked_of.Present scope t (Some p) → OperandGets s path 1 p r → IsScopeOfPath s path scope → (a b : Expr) → FormGives s path (Form-F.Fby a b) t r
  fby_before p r went h scoped a b e clock sc is same =
      search_of (Some p) went scoped e clock sc is (λ i. answer_to (Gives b clock sc i)) (answer_to (Gives a clock sc t)) r (answer_gives s (Gives b clock sc p) r (of_form s path p (Form-F.Fby a b) 1 r h e b clock sc is same refl))

  pub fby_first : (r : Answer) → Went s path asked_of.Present scope t None → OperandGets s path 0 t r → IsScopeOfPath s path scope → (a b : Expr) → FormGives s path (Form-F.Fby a b) t r
  fby_first r went h scoped a b e clock sc is same =
      search_of None went scoped e clock sc is (λ i. answer_to (Gives b clock sc i)) (answer_to (Gives a clock sc t)) r (answer_gives s (Gives a clock sc t) r (of_form s path t (Form-F.Fby a b) 0 r h e a clock sc is same refl))

  pub pre_before : (p : ℕ) (r : Answer) → Went s path asked_of.Present scope t (Some p) → OperandGets s path 0 p r → IsScopeOfPath s path scope → (a : Expr) → FormGives s path (Form-F.Pre a) t r
  pre_before p r went h scoped a e clock sc is same =
      search_of (Some p) went scoped e clock sc is (λ i. answer_to (Gives a clock sc i)) (Says meaning.Nil) r (answer_gives s (Gives a clock sc p) r (of_form s path p (Form-F.Pre a) 0 r h e a clock sc is same refl))

  pub pre_first : Went s path asked_of.Present scope t None → IsScopeOfPath s path scope → (a : Expr) → FormGives s path (Form-F.Pre a) t answer.Nil
  pre_first went scoped a e clock sc is same = search_of None went scoped e clock sc is (λ i. answer_to (Gives a clock sc i)) (Says meaning.Nil) answer.Nil said

  pub arrow_after : (p : ℕ) (r : Answer) → Went s path asked_of.Present scope t (Some p) → OperandGets s path 1 t r → IsScopeOfPath s path scope → (a b : Expr) → FormGives s path (Form-F.Arrow a b) t r
  arrow_after p r went h scoped a b e clock sc is same =
      search_of (Some p) went scoped e clock sc is (λ i. answer_to (Gives b clock sc t)) (answer_to (Gives a clock sc t)) r (answer_gives s (Gives b clock sc t) r (of_form s path t (Form-F.Arrow a b) 1 r h e b clock sc is same refl))

  pub arrow_first : (r : Answer) → Went s path asked_of.Present scope t None → OperandGets s path 0 t r → IsScopeOfPath s path scope → (a b : Expr) → FormGives s path (Form-F.Arrow a b) t r
  arrow_first r went h scoped a b e clock sc is same =
      search_of None went scoped e clock sc is (λ i. answer_to (Gives b clock sc t)) (answer_to (Gives a clock sc t)) r (answer_gives s (Gives a clock sc t) r (of_form s path t (Form-F.Arrow a b) 0 r h e a clock sc is same refl))
