-- The clocks of variables and equations, once a subexpression is named.
use Rattle.std.proofs.Common.{◌≡◌, ℕ, ◌+◌, suc, Bool, true, false, if◌then◌else◌, List, [], ◌∷◌, ◌++◌, get_or, refl, sym, ap, subst, ◌∙◌, arith, Option, Some}
use Rattle.std.specs.List.{find, flat_map}
use Rattle.hept_ast.specs.Texts.{Name, same, is_in, names}
use Rattle.hept_ast.specs.Scopes.{Clock}
use Rattle.hept_ast.specs.Meaning.{clock_of_equation}
use Rattle.hept_ast.specs.declared.tree.Core.{Core}
use Rattle.hept_ast.specs.declared.tree.CoreNode.{CoreNode}
use Rattle.hept_ast.specs.declared.tree.CoreEquation.{CoreEquation}
use Rattle.hept_ast.specs.declared.tree.Form.TheVariants as form
use Rattle.hept_ast.proofs.Unfolded.{static}
use Rattle.core_rules.proofs.Ends.{same_self}
use Rattle.core_rules.specs.Cores.{core_clock, core_decls}
use Rattle.core_rules.specs.WellFormed.{IsClockedEquation, IsWellFormed}
use Rattle.core_naming.specs.Names.{IsNaming, new_equation, with_right}
use Rattle.core_naming.specs.Ties.{mentions}
use Rattle.naming_rules.proofs.Names.{out_left, out_right, same_turned}
use Rattle.naming_rules.proofs.Mentions.{old_mentions_nothing_new}
use Rattle.erased_rules.proofs.Standing.{Given, Reading, Stands, under}
use Rattle.erased_rules.proofs.Numbering.{if_stands, stands_if}
use Rattle.naming_rules.proofs.StandsOf.{stands_kept}
use Rattle.naming_rules.proofs.StandsMoved.{stands_moved}
use Rattle.naming_rules.proofs.Declarations.{lefts_changed, own_moved, own_new, undefined}

-- ---- equations that stand on their clocks, with and without numbers

abbrev pub StandsIn : CoreNode → CoreEquation → Type 0
StandsIn m e = Stands (names (core_decls m)) (core_clock m) e.clock.steps e.right.form

pub clocked_stands : (m : CoreNode) (e : CoreEquation) → IsClockedEquation m e → StandsIn m e
clocked_stands m e h = stands_if (names (core_decls m)) (core_clock m) h.numbers 0 e.right.place.0 e.clock.steps e.right.form h.right h.meets

given_from : (e : ℕ → Clock) (n : ℕ) (ks : List Clock) → ((i : ℕ) → e (n + i) ≡ get_or ks i []) → Given e n ks
given_from e n [] h = tt
given_from e n (k ∷ ks) h = (
  (let z : n ≡ n + 0 = omega arith in ap e z ∙ h 0),
  given_from e (n + 1) ks (λ i. let z : n + 1 + i ≡ n + suc i = omega arith in ap e z ∙ h (suc i)),
)

pub stands_clocked : (m : CoreNode) (e : CoreEquation) → StandsIn m e → IsClockedEquation m e
stands_clocked m e h =
    let ks = e.clock.steps ∷ under (names (core_decls m)) (core_clock m) e.clock.steps e.right.form in
    let numbers : ℕ → Clock = λ i. get_or ks i [] in
    let g : Given numbers 0 ks = given_from numbers 0 ks (λ i. let z : 0 + i ≡ i = omega arith in ap numbers z) in
    let q = if_stands (names (core_decls m)) (core_clock m) numbers 0 e.right.place.0 e.clock.steps e.right.form g.0 g.1 h in
    record { numbers = numbers; right = q.0; meets = q.1 }

-- ---- clocks of variables

abbrev clock_by : List CoreEquation → Name → Clock
clock_by es y = clock_of_equation (find (λ e. is_in y e.left) es)

clock_first : (b : Bool) (e d : CoreEquation) (o q : Option CoreEquation) → d.clock.steps ≡ e.clock.steps → clock_of_equation q ≡ clock_of_equation o →
    clock_of_equation (if b then Some d else q) ≡ clock_of_equation (if b then Some e else o)
clock_first true e d o q h k = h
clock_first false e d o q h k = k

module _ (core other : Core) (well : IsWellFormed core) (n : IsNaming core other) where
  abbrev old : CoreEquation
  old = n.step.equation

  abbrev changed : CoreEquation
  changed = with_right old n.step.right

  abbrev new : CoreEquation
  new = new_equation n.x n.a n.d old.resets

  clock_end : (y : Name) → same n.x y ≡ false → (es : List CoreEquation) → clock_by (es ++ new ∷ []) y ≡ clock_by es y
  clock_end y f [] = rw (same_turned n.x y f) refl
  clock_end y f (e ∷ es) = clock_first (is_in y e.left) e e (find (λ e. is_in y e.left) es) (find (λ e. is_in y e.left) (es ++ new ∷ [])) refl (clock_end y f es)

  clock_front : (y : Name) → same n.x y ≡ false → (es : List CoreEquation) → clock_by (es ++ changed ∷ n.step.back ++ new ∷ []) y ≡ clock_by (es ++ old ∷ n.step.back) y
  clock_front y f [] = clock_first (is_in y old.left) old changed (find (λ e. is_in y e.left) n.step.back) (find (λ e. is_in y e.left) (n.step.back ++ new ∷ [])) refl (clock_end y f n.step.back)
  clock_front y f (e ∷ es) =
      clock_first (is_in y e.left) e e (find (λ e. is_in y e.left) (es ++ old ∷ n.step.back)) (find (λ e. is_in y e.left) (es ++ changed ∷ n.step.back ++ new ∷ [])) refl (clock_front y f es)

  pub clock_moved : (y : Name) → same n.x y ≡ false → core_clock n.moved y ≡ core_clock n.node y
  clock_moved y f =
      ap (λ (es : List CoreEquation). clock_by es y) n.step.others
      ∙ clock_front y f n.step.front
      ∙ ap (λ (es : List CoreEquation). clock_by es y) (sym n.step.equations)

  clock_last : (es : List CoreEquation) → is_in n.x (flat_map (λ e. e.left) es) ≡ false → clock_by (es ++ new ∷ []) n.x ≡ n.d
  clock_last [] f = rw (same_self n.x) refl
  clock_last (e ∷ es) f = rw (out_left n.x e.left (flat_map (λ (e : CoreEquation). e.left) es) f) (clock_last es (out_right n.x e.left (flat_map (λ (e : CoreEquation). e.left) es) f))

  clock_new : core_clock n.moved n.x ≡ n.d
  clock_new =
      ap (λ (es : List CoreEquation). clock_by es n.x) n.step.others
      ∙ clock_last (n.step.front ++ changed ∷ n.step.back) (ap (is_in n.x) (lefts_changed core other well n ∙ ap (flat_map (λ (e : CoreEquation). e.left)) (sym n.step.equations)) ∙ undefined core other well n)

  -- ---- equations

  pub clocked_moved : (e : CoreEquation) → is_in n.x (mentions e.right) ≡ false → IsClockedEquation n.node e → StandsIn n.moved e
  clocked_moved e f h =
      stands_kept (names (core_decls n.node)) (names (core_decls n.moved)) (core_clock n.node) (core_clock n.moved) n.x (own_moved core other well n) clock_moved e.right e.clock.steps f (clocked_stands n.node e h)

  new_stands : Stands (names (core_decls n.moved)) (core_clock n.moved) n.d (form.Var n.x)
  unfolding static Stands
  new_stands = subst (λ (b : Bool). Reading b (core_clock n.moved n.x) n.d) (sym (own_new core other well n)) clock_new

  named_stands : IsClockedEquation n.node old → StandsIn n.moved new × StandsIn n.moved changed
  named_stands h =
      stands_moved n.x n.a n.d (names (core_decls n.moved)) (core_clock n.moved) new_stands old.clock.steps old.right n.step.right n.step.named (clocked_moved old (old_mentions_nothing_new core other well n) h)

  pub new_clocked : IsClockedEquation n.node old → IsClockedEquation n.moved new
  new_clocked h = stands_clocked n.moved new (named_stands h).0

  pub changed_clocked : IsClockedEquation n.node old → IsClockedEquation n.moved changed
  changed_clocked h = stands_clocked n.moved changed (named_stands h).1
