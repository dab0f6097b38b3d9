-- In an order in which each equation stands after those that it reads, what it and its clock read is an input or an earlier left side.
use Rattle.std.proofs.Common.{◌≡◌, inl, inr, ℕ, zero, suc, ◌<◌, true, List, [], ◌∷◌, ◌++◌, length, refl, sym, ap, subst, ◌∙◌, arith, Some}
use Rattle.std.specs.Prelude.{slice_get}
use Rattle.std.proofs.lemmas.Bool.{false≢true}
use Rattle.hept_ast.specs.Texts.{Name, is_in, names}
use Rattle.hept_ast.specs.declared.tree.Core.{Core}
use Rattle.hept_ast.specs.declared.tree.CoreEquation.{CoreEquation}
use Rattle.hept_ast.specs.declared.tree.CoreNode.{CoreNode}
use Rattle.core_rules.specs.Cores.{equation_reads}
use Rattle.core_rules.specs.WellFormed.{IsWellFormedNode}
use Rattle.schedule.specs.Order.{AreInOrder}
use Rattle.core_fitting.proofs.Lists.{same_some}
use Rattle.core_fitting.proofs.NamesRead.{in_either, in_left, in_right}
use Rattle.buildable_cores.proofs.Computing.{ReadsKnown}
use Rattle.buildable_cores.proofs.Places.{input_or_left, lefts}

record Defining (x : Name) (es : List CoreEquation) : Type 0 where
  place : ℕ
  equation : CoreEquation
  at : slice_get es place ≡ Some equation
  left : is_in x equation.left ≡ true

defining : (x : Name) (es : List CoreEquation) → is_in x (lefts es) ≡ true → Defining x es
defining x [] h = absurd (false≢true h)
defining x (e ∷ es) h = elim (in_either x e.left (lefts es) h) [
  | inl i ↦ record { place = 0; equation = e; at = refl; left = i }
  | inr i ↦ let d = defining x es i in record { place = suc d.place; equation = d.equation; at = d.at; left = d.left }
]

-- a left side that stands before some place is one of those before it
before : (x : Name) (front rest : List CoreEquation) (j : ℕ) (d : CoreEquation) → slice_get (front ++ rest) j ≡ Some d → j < length front → is_in x d.left ≡ true → is_in x (lefts front) ≡ true
before x [] rest j d at lt i = absurd (omega (arith, lt))
before x (f ∷ front) rest zero d at lt i = in_left x f.left (lefts front) (subst (λ (z : CoreEquation). is_in x z.left ≡ true) (sym (same_some f d at)) i)
before x (f ∷ front) rest (suc j) d at lt i = in_right x f.left (lefts front) (before x front rest j d at (omega (arith, lt)) i)

at_seam : {A : Type 0} (front : List A) (e : A) (rest : List A) → slice_get (front ++ e ∷ rest) (length front) ≡ Some e
at_seam [] e rest = refl
at_seam (f ∷ front) e rest = at_seam front e rest

pub reads_before : (core : Core) (node : CoreNode) → IsWellFormedNode core node → AreInOrder node.equations → (front : List CoreEquation) (e : CoreEquation) (rest : List CoreEquation) → node.equations ≡ front ++ e ∷ rest →
    ReadsKnown node (names node.inputs ++ lefts front) (equation_reads e)
reads_before core node wf order front e rest all y read is_declared = elim (input_or_left core node wf y is_declared) [
  | inl i ↦ in_left y (names node.inputs) (lefts front) i
  | inr i ↦
      let d = defining y node.equations i in
      let here : slice_get node.equations (length front) ≡ Some e = ap (λ (es : List CoreEquation). slice_get es (length front)) all ∙ at_seam front e rest in
      let lt = order (length front) d.place e d.equation here d.at (y, read, d.left) in
      in_right y (names node.inputs) (lefts front) (before y front (e ∷ rest) d.place d.equation (sym (ap (λ (es : List CoreEquation). slice_get es d.place) all) ∙ d.at) lt d.left)
]
