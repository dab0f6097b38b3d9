-- The blocks inside equations end, and what equations set by their views.
use Rattle.std.proofs.Common.{◌≡◌, ◌⊎◌, inl, inr, ℕ, zero, suc, List, [], ◌∷◌, map, Some, sym, ap, subst, ◌∙◌}
use Rattle.std.specs.Prelude.{Contains, slice_get}
use Rattle.std.proofs.lemmas.List.Folds.{flat_map-map}
use Rattle.hept_ast.specs.Texts.{Name}
use Rattle.hept_ast.specs.Parts.{sets_of, block_sets, branch_case, state_case}
use Rattle.hept_ast.specs.declared.name.Place.{Place}
use Rattle.hept_ast.specs.declared.tree.Expr.{Expr}
use Rattle.hept_ast.specs.declared.tree.Block.{Block}
use Rattle.hept_ast.specs.declared.tree.Branch.{Branch}
use Rattle.hept_ast.specs.declared.tree.State.{State}
use Rattle.hept_ast.specs.declared.tree.Equation.{Equation, out-Equation, roll-Equation, map-Equation, ind-Equation}
use Rattle.hept_ast.specs.declared.tree.Equation.TheOpen.{Equation-F, Block-F, Branch-F, State-F}
use Rattle.hept_ast.specs.declared.tree.Equation.TheViews.{out-roll-Equation, roll-out-Equation, roll-Block, roll-Branch, roll-State}
use Rattle.hept_ast.specs.declared.tree.Equation.TheVariants as eqv
use Rattle.hept_ast.proofs.PartsOf.{sets-Define, sets-Switch, sets-Reset, sets-Automaton}
use Rattle.accepted_meaning.specs.SoundNodes.{all_sets}
use Rattle.accepted_meaning.proofs.KnownTrees.{none_contained, contains_first, contains_more, contains_cases}

no_item : {A : Type 0} (j : ℕ) (x : A) → slice_get [] j ≡ Some x → ⊥
no_item j x h = cc

pub contains_at : {A : Type 0} (xs : List A) (j : ℕ) (x : A) → slice_get xs j ≡ Some x → Contains xs x
contains_at (y ∷ xs) zero x h = let e : y ≡ x = cc in contains_first y x xs e
contains_at (y ∷ xs) (suc j) x h = contains_more y xs x (contains_at xs j x h)
contains_at [] j x h = absurd (no_item j x h)

-- ---- blocks inside

abbrev pub inner_blocks : Equation-F Equation Block Branch State → List Block
inner_blocks (Equation-F.Define p left right) = []
inner_blocks (Equation-F.Switch p on bs) = map (λ b. b.block) bs
inner_blocks (Equation-F.Reset p block every) = block ∷ []
inner_blocks (Equation-F.Automaton p qs) = map (λ q. q.block) qs

-- the blocks inside an equation end
pub data Descends : Equation → Type 0 where
  descend : {e : Equation} → ((block : Block) (x : Equation) → Contains (inner_blocks (out-Equation e)) block → Contains block.body x → Descends x) → Descends e

abbrev BodyDescends : Block → Type 0
BodyDescends block = (x : Equation) → Contains block.body x → Descends x

-- what holds of each element that a list was made of
each_kept : {A : Type 0} (P : A → Type 0) (ys : List ((a : A) × P a)) (x : A) → Contains (map (λ y. y.0) ys) x → P x
each_kept P [] x h = absurd (none_contained x h)
each_kept {A} P (y ∷ ys) x h = split (λ i. each_kept P ys x i) (contains_cases y.0 (map (λ z. z.0) ys) x h)
  where
    split : (Contains (map (λ z. z.0) ys) x → P x) → (y.0 ≡ x) ⊎ Contains (map (λ z. z.0) ys) x → P x
    split next (inl e) = subst (λ (z : A). P z) e y.1
    split next (inr i) = next i

each_block : {A : Type 0} (block : A → Block) (ys : List ((a : A) × BodyDescends (block a))) (b : Block) → Contains (map block (map (λ y. y.0) ys)) b → BodyDescends b
each_block block [] b h = absurd (none_contained b h)
each_block block (y ∷ ys) b h = split (λ i. each_block block ys b i) (contains_cases (block y.0) (map block (map (λ z. z.0) ys)) b h)
  where
    split : (Contains (map block (map (λ z. z.0) ys)) b → BodyDescends b) → (block y.0 ≡ b) ⊎ Contains (map block (map (λ z. z.0) ys)) b → BodyDescends b
    split next (inl e) = subst (λ (z : Block). BodyDescends z) e y.1
    split next (inr i) = next i

abbrev Layer : Type 0
Layer = Equation-F ((e : Equation) × Descends e) ((b : Block) × BodyDescends b) ((b : Branch) × BodyDescends b.block) ((q : State) × BodyDescends q.block)

abbrev bare : Layer → Equation-F Equation Block Branch State
bare y = map-Equation ((e : Equation) × Descends e) ((b : Block) × BodyDescends b) ((b : Branch) × BodyDescends b.block) ((q : State) × BodyDescends q.block) Equation Block Branch State
    (λ z. z.0) (λ z. z.0) (λ z. z.0) (λ z. z.0) y

layer_blocks : (y : Layer) (b : Block) → Contains (inner_blocks (bare y)) b → BodyDescends b
layer_blocks (Equation-F.Define p left right) b h = absurd (none_contained b h)
layer_blocks (Equation-F.Switch p on ys) b h = each_block (λ (x : Branch). x.block) ys b h
layer_blocks (Equation-F.Reset p block every) b h = split (contains_cases block.0 [] b h)
  where
    split : (block.0 ≡ b) ⊎ Contains [] b → BodyDescends b
    split (inl e) = subst (λ (z : Block). BodyDescends z) e block.1
    split (inr i) = absurd (none_contained b i)
layer_blocks (Equation-F.Automaton p ys) b h = each_block (λ (x : State). x.block) ys b h

layer_descends : (x : Equation-F Equation Block Branch State) (y : Layer) → bare y ≡ x → Descends (roll-Equation x)
layer_descends x y is = descend (λ b e i j. layer_blocks y b (subst (λ (z : Equation-F Equation Block Branch State). Contains (inner_blocks z) b) (out-roll-Equation x ∙ sym is) i) e j)

pub descends : (e : Equation) → Descends e
descends e = ind-Equation Descends BodyDescends (λ b. BodyDescends b.block) (λ q. BodyDescends q.block)
    (λ x y is. layer_descends x y is)
    (λ x y is. subst (λ (z : Block-F Equation Block Branch State). BodyDescends (roll-Block z)) is (each_kept Descends y.body))
    (λ x y is. subst (λ (z : Branch-F Equation Block Branch State). BodyDescends (roll-Branch z).block) is y.block.1)
    (λ x y is. subst (λ (z : State-F Equation Block Branch State). BodyDescends (roll-State z).block) is y.block.1) e

-- ---- what equations set

pub equation_by : (e : Equation) (v : Equation-F Equation Block Branch State) → out-Equation e ≡ v → e ≡ roll-Equation v
equation_by e v h = sym (roll-out-Equation e) ∙ ap roll-Equation h

pub sets_define : (e : Equation) (p : Place) (left : List Name) (right : Expr) → out-Equation e ≡ Equation-F.Define p left right → sets_of e ≡ left
sets_define e p left right h = ap sets_of (equation_by e _ h ∙ eqv.rolls-Define p left right) ∙ sets-Define p left right

pub sets_switch : (e : Equation) (p : Place) (on : Expr) (bs : List Branch) → out-Equation e ≡ Equation-F.Switch p on bs → sets_of e ≡ all_sets (map branch_case bs)
sets_switch e p on bs h = ap sets_of (equation_by e _ h ∙ eqv.rolls-Switch p on bs) ∙ sets-Switch p on bs ∙ sym (flat_map-map _ branch_case bs)

pub sets_reset : (e : Equation) (p : Place) (block : Block) (every : Expr) → out-Equation e ≡ Equation-F.Reset p block every → sets_of e ≡ block_sets block
sets_reset e p block every h = ap sets_of (equation_by e _ h ∙ eqv.rolls-Reset p block every) ∙ sets-Reset p block every

pub sets_automaton : (e : Equation) (p : Place) (qs : List State) → out-Equation e ≡ Equation-F.Automaton p qs → sets_of e ≡ all_sets (map state_case qs)
sets_automaton e p qs h = ap sets_of (equation_by e _ h ∙ eqv.rolls-Automaton p qs) ∙ sets-Automaton p qs ∙ sym (flat_map-map _ state_case qs)
