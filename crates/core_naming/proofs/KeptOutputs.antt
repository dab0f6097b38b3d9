-- Naming a subexpression of a core keeps the outputs.
use Rattle.std.proofs.Common.{◌≡◌, ◌↔◌, ℕ, suc, false, List, [], ◌∷◌, map, sym, subst}
use Rattle.std.specs.List.{find}
use Rattle.std.specs.Option.{option_map}
use Rattle.hept_ast.specs.Texts.{Name, same, is_in}
use Rattle.hept_ast.specs.Scopes.{Text, Lowered, Top, outputs_of}
use Rattle.hept_ast.specs.Meaning.{Question, Variable, Value, Setting}
use Rattle.hept_ast.specs.Outputs.{Knows, HaveValues, OutputsFrom, Outputs}
use Rattle.hept_ast.specs.Settings.{Marks, Replies, of_core}
use Rattle.hept_ast.specs.declared.tree.Core.{Core}
use Rattle.hept_ast.specs.declared.tree.TypeDec.{TypeDec}
use Rattle.core_rules.specs.WellFormed.{IsWellFormed}
use Rattle.core_naming.specs.Names.{IsNaming}
use Rattle.core_naming.specs.NamingLaws.{NamingKeepsOutputs}
use Rattle.core_naming.specs.Ties.{TiedText, top}
use Rattle.core_naming.proofs.Mentions.{not_head, not_tail}
use Rattle.core_naming.proofs.TiedNodes.{at_one_position}
use Rattle.core_naming.proofs.TiedTexts.{IsQuiet, outputs_same, text_outputs_free}
use Rattle.core_naming.proofs.TiedQuestions.{w, v, variable}
use Rattle.core_naming.proofs.NewVariable.{knows_there, knows_back}
use Rattle.core_naming.proofs.NewNames.{naming_is_quiet}

-- ---- from one setting to another, for the names other than x

values_carried : (a b : Setting) (rows : List (List ℕ)) (f g : Name → Question) (x : Name) →
    ((y : Name) (u : ℕ) → same x y ≡ false → Knows a rows (f y) (Value u) → Knows b rows (g y) (Value u)) →
    (ys : List Name) → is_in x ys ≡ false → (us : List ℕ) → HaveValues a rows (map f ys) us → HaveValues b rows (map g ys) us
values_carried a b rows f g x h [] e [] k = tt
values_carried a b rows f g x h [] e (u ∷ us) k = elim k [ ]
values_carried a b rows f g x h (y ∷ ys) e [] k = elim k [ ]
values_carried a b rows f g x h (y ∷ ys) e (u ∷ us) k = (h y u (not_head x y ys e) k.0, values_carried a b rows f g x h ys (not_tail x y ys e) us k.1)

module _ (a b : Setting) (rows : List (List ℕ)) (text moved : Text) (x : Name)
    (h : (y : Name) (t u : ℕ) → same x y ≡ false → Knows a rows (Variable y (Top text) t) (Value u) → Knows b rows (Variable y (Top moved) t) (Value u))
    (free : is_in x (outputs_of text) ≡ false) (alike : outputs_of moved ≡ outputs_of text) where
  outputs_carried : (t : ℕ) (left outs : List (List ℕ)) → OutputsFrom a rows text t left outs → OutputsFrom b rows moved t left outs
  outputs_carried t [] [] k = tt
  outputs_carried t [] (out ∷ outs) k = elim k [ ]
  outputs_carried t (row ∷ left) [] k = elim k [ ]
  outputs_carried t (row ∷ left) (out ∷ outs) k = (
    subst (λ (ys : List Name). HaveValues b rows (map (λ y. Variable y (Top moved) t) ys) out) (sym alike)
        (values_carried a b rows (λ y. Variable y (Top text) t) (λ y. Variable y (Top moved) t) x (λ y u. h y t u) (outputs_of text) free out k.0),
    outputs_carried (suc t) left outs k.1,
  )

module _ (core other : Core) (n : IsNaming core other) (marked : Marks) (replies : Replies) (formed : IsWellFormed core) (text moved : Text) (tie : TiedText core other n text moved)
    (rows outs : List (List ℕ)) where
  abbrev quiet : IsQuiet core other n
  quiet = naming_is_quiet core other n formed

  outputs_there : Outputs (w core other n marked replies quiet) text rows outs → Outputs (v core other n marked replies quiet) moved rows outs
  outputs_there k =
      outputs_carried (w core other n marked replies quiet) (v core other n marked replies quiet) rows text moved n.x
      (λ y t u e. knows_there core other n marked replies quiet rows _ _ (Value u) (variable (top tie) e))
      (text_outputs_free core other n quiet text moved tie) (outputs_same core other n quiet text moved tie) 0 rows outs k

  outputs_back : Outputs (v core other n marked replies quiet) moved rows outs → Outputs (w core other n marked replies quiet) text rows outs
  outputs_back k =
      outputs_carried (v core other n marked replies quiet) (w core other n marked replies quiet) rows moved text n.x
      (λ y t u e. knows_back core other n marked replies quiet rows _ _ (Value u) (variable (top tie) e))
      (subst (λ (ys : List Name). is_in n.x ys ≡ false) (sym (outputs_same core other n quiet text moved tie)) (text_outputs_free core other n quiet text moved tie))
      (sym (outputs_same core other n quiet text moved tie)) 0 rows outs k

pub naming_keeps_outputs : NamingKeepsOutputs
naming_keeps_outputs core other marked replies k node moved rows outs formed n at moved_at =
    let tie = at_one_position core other n k node moved at moved_at in
    subst (λ (types : List TypeDec). Outputs (of_core core marked replies) (Lowered node) rows outs
    ↔ Outputs (record (of_core core marked replies) { types = types; node = λ f. option_map Lowered (find (λ m. same f m.name) other.nodes) }) (Lowered moved) rows outs)
    (sym n.types)
    (outputs_there core other n marked replies formed (Lowered node) (Lowered moved) tie rows outs, outputs_back core other n marked replies formed (Lowered node) (Lowered moved) tie rows outs)
