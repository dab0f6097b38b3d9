-- The clocks of the operands of a merge.
use Rattle.std.proofs.Common.{◌≡◌, ℕ, List, [], ◌∷◌, ◌++◌, Option, Some, None, slice_get, refl, sym, ap, ◌∙◌}
use Rattle.hept_ast.specs.Texts.{Name}
use Rattle.hept_ast.specs.Scopes.{Clock}
use Rattle.hept_ast.specs.declared.tree.Expr.{Expr}
use Rattle.hept_ast.specs.declared.tree.MergeBranch.{MergeBranch}
use Rattle.hept_ast.specs.declared.tree.Form.{Form}
use Rattle.hept_ast.specs.declared.tree.Form.TheOpen.{Form-F}
use Rattle.answer_table.specs.declared.paths.Held.{Held}
use Rattle.answer_table.specs.Things.{merge_clock, operand_clock}
use Rattle.answer_table.specs.Tables.{held_clock}

held_more : (clock : List Held) (h : Held) → held_clock (clock ++ h ∷ []) ≡ held_clock clock ++ record { tag = h.tag.now; name = h.name.now } ∷ []
held_more [] h = refl
held_more (k ∷ clock) h = ap (λ (rest : Clock). record { tag = k.tag.now; name = k.name.now } ∷ rest) (held_more clock h)

module _ (form : Form-F Form Expr MergeBranch) (x : Name) (branches : List MergeBranch) (n : ℕ) (is : form ≡ Form-F.Merge x branches) where
  of_merge : (o : Option MergeBranch) (clock : Clock) → slice_get branches n ≡ o → operand_clock form n clock ≡ merge_clock o x clock
  of_merge o clock found = ap (λ (f : Form-F Form Expr MergeBranch). operand_clock f n clock) is ∙ ap (λ (b : Option MergeBranch). merge_clock b x clock) found

  pub merge_none : (clock : Clock) → slice_get branches n ≡ None → clock ≡ operand_clock form n clock
  merge_none clock found = sym (of_merge None clock found)

  pub merge_some : (b : MergeBranch) (old new : List Held) (h : Held) → slice_get branches n ≡ Some b → new ≡ old ++ h ∷ [] → h.tag.now ≡ b.tag → h.name.now ≡ x →
      held_clock new ≡ operand_clock form n (held_clock old)
  merge_some b old new h found pushed tag name =
      ap held_clock pushed ∙ held_more old h ∙ ap (λ (t : _). held_clock old ++ record { tag = t; name = h.name.now } ∷ []) tag ∙
      ap (λ (y : Name). held_clock old ++ record { tag = b.tag; name = y } ∷ []) name ∙ sym (of_merge (Some b) (held_clock old) found)
