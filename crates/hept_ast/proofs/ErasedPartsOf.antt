-- Erasure keeps the parts of a text: each part of what is erased is an erased part.
use Rattle.std.proofs.Common.{◌≡◌, ℕ, zero, suc, Bool, true, false, List, [], ◌∷◌, ◌++◌, map, refl, sym, ap, subst, ◌∙◌}
use Rattle.std.specs.Prelude.{not, filter, if◌then◌else◌, slice_get, IsTrue, Some}
use mathlib.Core.Path.{fun_ext}
use Rattle.std.specs.List.{flat_map, list_any}
use Rattle.hept_ast.specs.Texts.{Name, is_in, names}
use Rattle.hept_ast.specs.Parts.{Around, Branch_of, Body_of, State_of, Surroundings, Case, Part, Block as Block_part, Plain, Switch as Switch_part, Reset as Reset_part, Automaton as Automaton_part, Transition, Placed, place_of, from_outside, sets_of, parts_of, conditions_of, transitions, block_sets, equation_case, branch_case, block_parts, state_case, strong_of_all, state_parts, parts}
use Rattle.hept_ast.specs.Erasure.{erased_expr, erased_decl, erased_escape, erased_equation, block_step, branch_step, state_step, erased_block, erased_equation_of, erased_branch_of, erased_state, erased_node}
use Rattle.hept_ast.specs.ErasedParts.{erased_around, erased_part, erased_placed, ErasedKeepsParts, ErasedKeepsVariableReads, ErasedKeepsCausal, ErasedKeepsLeastGrades}
use Rattle.hept_ast.specs.Causal.{reads, reads_around, reads_in, variable_reads, HasNoCycle, Reads}
use Rattle.hept_ast.specs.declared.tree.Tag.{Tag}
use Rattle.hept_ast.specs.declared.tree.Node.{Node}
use Rattle.hept_ast.specs.declared.tree.Expr.{Expr}
use Rattle.hept_ast.specs.declared.tree.Decl.{Decl}
use Rattle.hept_ast.specs.declared.tree.Escape.{Escape}
use Rattle.hept_ast.specs.declared.tree.Block.{Block}
use Rattle.hept_ast.specs.declared.tree.Branch.{Branch, fold-Branch, fold_out-Branch}
use Rattle.hept_ast.specs.declared.tree.State.{State, fold-State, fold_out-State}
use Rattle.hept_ast.specs.declared.tree.Equation.{Equation, out-Equation, roll-Equation, fold_out-Equation, map-Equation, ind-Equation}
use Rattle.hept_ast.specs.declared.tree.Equation as eq
use Rattle.hept_ast.specs.declared.tree.Equation.TheOpen.{Equation-F, Block-F, Branch-F, State-F}
use Rattle.hept_ast.specs.declared.tree.Equation.TheViews.{out-roll-Equation, roll-Block, roll-Branch, roll-State}
use Rattle.hept_ast.specs.declared.tree.Equation.TheVariants as eqv
use Rattle.hept_ast.proofs.ErasedViews.{block_is}
use Rattle.hept_ast.proofs.Unfolded.{static}
use Rattle.hept_ast.specs.Initial.{Grades, grade, right_sides_in, right_sides}
use Rattle.hept_ast.proofs.ErasedGrades.{grade_kept}
use Rattle.hept_ast.proofs.ErasedReads.{reads_kept}
use Rattle.hept_ast.proofs.PartsOf.{sets-Define, sets-Switch, sets-Reset, sets-Automaton, parts-Define, parts-Switch, parts-Reset, parts-Automaton}

map_append : {A B : Type 0} (f : A → B) (xs ys : List A) → map f (xs ++ ys) ≡ map f xs ++ map f ys
map_append f [] ys = refl
map_append f (x ∷ xs) ys = ap (λ (l : List _). f x ∷ l) (map_append f xs ys)

names_same : (ds : List Decl) → names (map erased_decl ds) ≡ names ds
names_same [] = refl
names_same (d ∷ ds) = ap (λ (l : List Name). d.name ∷ l) (names_same ds)

outside_same : (ds : List Decl) (xs : List Name) → from_outside (map erased_decl ds) xs ≡ from_outside ds xs
outside_same ds xs = ap (λ (ns : List Name). filter (λ x. not (is_in x ns)) xs) (names_same ds)

transitions_same : (site : Surroundings) (strong : Bool) (states : List Name) (es : List Escape) →
    transitions (map erased_around site) strong states (map erased_escape es) ≡ map erased_placed (transitions site strong states es)
transitions_same site strong states [] = refl
transitions_same site strong states (e ∷ es) =
    ap (λ (l : List Placed). record { site = map erased_around site; part = Transition strong states (erased_escape e) } ∷ l) (transitions_same site strong states es)

conditions_same : (es : List Escape) → conditions_of (map erased_escape es) ≡ map erased_expr (conditions_of es)
conditions_same [] = refl
conditions_same (e ∷ es) = ap (λ (l : List Expr). erased_expr e.condition ∷ l) (conditions_same es)

strong_same : (qs : List State) → strong_of_all (map erased_state qs) ≡ map erased_expr (strong_of_all qs)
strong_same [] = refl
strong_same (q ∷ qs) =
    ap (λ (l : List Expr). l ++ strong_of_all (map erased_state qs)) (conditions_same q.strong)
    ∙ ap (λ (l : List Expr). map erased_expr (conditions_of q.strong) ++ l) (strong_same qs)
    ∙ sym (map_append erased_expr (conditions_of q.strong) (strong_of_all qs))

-- ---- what is kept of an equation and of a block

record Kept (e : Equation) : Type 0 where
  place : place_of (erased_equation_of e) ≡ place_of e
  sets : sets_of (erased_equation_of e) ≡ sets_of e
  parts : (site : Surroundings) → parts_of (map erased_around site) (erased_equation_of e) ≡ map erased_placed (parts_of site e)

record Kept_block (b : Block) : Type 0 where
  sets : block_sets (erased_block b) ≡ block_sets b
  parts : (site : Surroundings) → block_parts (map erased_around site) (erased_block b) ≡ map erased_placed (block_parts site b)

sets_list : {S : Type 0} (e0 : S → Equation) → ((x : S) → Kept (e0 x)) → (xs : List S) → flat_map sets_of (map erased_equation_of (map e0 xs)) ≡ flat_map sets_of (map e0 xs)
sets_list e0 h [] = refl
sets_list e0 h (x ∷ xs) = let e = (h x).sets in let t = sets_list e0 h xs in cc

cases_list : {S : Type 0} (e0 : S → Equation) → ((x : S) → Kept (e0 x)) → (xs : List S) → map equation_case (map erased_equation_of (map e0 xs)) ≡ map equation_case (map e0 xs)
cases_list e0 h [] = refl
cases_list e0 h (x ∷ xs) = let d = (h x).place in let e = (h x).sets in let t = cases_list e0 h xs in cc

parts_list : {S : Type 0} (e0 : S → Equation) → ((x : S) → Kept (e0 x)) → (site : Surroundings) (xs : List S) →
    flat_map (parts_of (map erased_around site)) (map erased_equation_of (map e0 xs)) ≡ map erased_placed (flat_map (parts_of site) (map e0 xs))
parts_list e0 h site [] = refl
parts_list e0 h site (x ∷ xs) =
    ap (λ (l : List Placed). l ++ flat_map (parts_of (map erased_around site)) (map erased_equation_of (map e0 xs))) ((h x).parts site)
    ∙ ap (λ (l : List Placed). map erased_placed (parts_of site (e0 x)) ++ l) (parts_list e0 h site xs)
    ∙ sym (map_append erased_placed (parts_of site (e0 x)) (flat_map (parts_of site) (map e0 xs)))

block_kept : {S : Type 0} (e0 : S → Equation) → ((x : S) → Kept (e0 x)) → (locals : List Decl) (xs : List S) → Kept_block (record { locals = locals; body = map e0 xs })
block_kept e0 h locals xs = record {
  sets = ap block_sets (block_is (record { locals = locals; body = map e0 xs }))
      ∙ ap (λ (l : List Name). from_outside (map erased_decl locals) l) (sets_list e0 h xs)
      ∙ outside_same locals (flat_map sets_of (map e0 xs));
  parts = λ site.
      ap (λ (b : Block). block_parts (map erased_around site) b) (block_is (record { locals = locals; body = map e0 xs }))
      ∙ ap (λ (l : List (Case (Unit {0}))). record { site = map erased_around site; part = Block_part (map erased_decl locals) l } ∷ flat_map (parts_of (map erased_around site)) (map erased_equation_of (map e0 xs))) (cases_list e0 h xs)
      ∙ ap (λ (l : List Placed). record { site = map erased_around site; part = Block_part (map erased_decl locals) (map equation_case (map e0 xs)) } ∷ l) (parts_list e0 h site xs);
}

-- ---- what an erased equation is

branch_is : (b : Branch) → fold-Branch Equation Block Branch State erased_equation block_step branch_step state_step b ≡ erased_branch_of b
branch_is b = fold_out-Branch Equation Block Branch State erased_equation block_step branch_step state_step b

state_is : (s : State) → fold-State Equation Block Branch State erased_equation block_step branch_step state_step s ≡ erased_state s
state_is s = fold_out-State Equation Block Branch State erased_equation block_step branch_step state_step s

map_same : {A B : Type 0} {f g : A → B} → ((x : A) → f x ≡ g x) → (xs : List A) → map f xs ≡ map g xs
map_same e [] = refl
map_same e (x ∷ xs) = let h = e x in let t = map_same e xs in cc

abbrev erased_layer : Equation-F Equation Block Branch State → Equation
erased_layer (Equation-F.Define p left right) = eq.Define p left (erased_expr right)
erased_layer (Equation-F.Switch p on bs) = eq.Switch p (erased_expr on) (map erased_branch_of bs)
erased_layer (Equation-F.Reset p block every) = eq.Reset p (erased_block block) (erased_expr every)
erased_layer (Equation-F.Automaton p states) = eq.Automaton p (map erased_state states)

layer_is : (v : Equation-F Equation Block Branch State) → erased_equation_of (roll-Equation v) ≡ erased_layer v
layer_is v =
    fold_out-Equation Equation Block Branch State erased_equation block_step branch_step state_step (roll-Equation v)
    ∙ ap (λ (f : Equation-F Equation Block Branch State). erased_equation (map-Equation Equation Block Branch State Equation Block Branch State erased_equation_of erased_block
    (fold-Branch Equation Block Branch State erased_equation block_step branch_step state_step)
    (fold-State Equation Block Branch State erased_equation block_step branch_step state_step) f)) (out-roll-Equation v)
    ∙ go v
  where
    go : (f : Equation-F Equation Block Branch State) →
        erased_equation (map-Equation Equation Block Branch State Equation Block Branch State erased_equation_of erased_block
        (fold-Branch Equation Block Branch State erased_equation block_step branch_step state_step)
        (fold-State Equation Block Branch State erased_equation block_step branch_step state_step) f) ≡ erased_layer f
    go (Equation-F.Define p left right) = refl
    go (Equation-F.Switch p on branches) = ap (λ (bs : List Branch). eq.Switch p (erased_expr on) bs) (map_same branch_is branches)
    go (Equation-F.Reset p block every) = refl
    go (Equation-F.Automaton p states) = ap (λ (ss : List State). eq.Automaton p ss) (map_same state_is states)

-- the equation that a layer is
abbrev plain_layer : Equation-F Equation Block Branch State → Equation
plain_layer (Equation-F.Define p left right) = eq.Define p left right
plain_layer (Equation-F.Switch p on bs) = eq.Switch p on bs
plain_layer (Equation-F.Reset p block every) = eq.Reset p block every
plain_layer (Equation-F.Automaton p states) = eq.Automaton p states

plain_is : (v : Equation-F Equation Block Branch State) → roll-Equation v ≡ plain_layer v
plain_is (Equation-F.Define p left right) = eqv.rolls-Define p left right
plain_is (Equation-F.Switch p on bs) = eqv.rolls-Switch p on bs
plain_is (Equation-F.Reset p block every) = eqv.rolls-Reset p block every
plain_is (Equation-F.Automaton p states) = eqv.rolls-Automaton p states

-- ---- branches and states

branch_sets : {S : Type 0} (b0 : S → Branch) → ((x : S) → Kept_block (b0 x).block) → (xs : List S) →
    flat_map (λ (b : Branch). block_sets b.block) (map erased_branch_of (map b0 xs)) ≡ flat_map (λ (b : Branch). block_sets b.block) (map b0 xs)
branch_sets b0 h [] = refl
branch_sets b0 h (x ∷ xs) = let e = (h x).sets in let t = branch_sets b0 h xs in cc

branch_cases : {S : Type 0} (b0 : S → Branch) → ((x : S) → Kept_block (b0 x).block) → (xs : List S) → map branch_case (map erased_branch_of (map b0 xs)) ≡ map branch_case (map b0 xs)
branch_cases b0 h [] = refl
branch_cases b0 h (x ∷ xs) = let e = (h x).sets in let t = branch_cases b0 h xs in cc

locals_same : (b : Block) → (erased_block b).locals ≡ map erased_decl b.locals
locals_same b = ap (λ (x : Block). x.locals) (block_is b)

branch_parts : {S : Type 0} (b0 : S → Branch) → ((x : S) → Kept_block (b0 x).block) → (on : Expr) (site : Surroundings) (xs : List S) →
    flat_map (λ (b : Branch). block_parts (Branch_of (erased_expr on) b.block.locals ∷ map erased_around site) b.block) (map erased_branch_of (map b0 xs))
    ≡ map erased_placed (flat_map (λ (b : Branch). block_parts (Branch_of on b.block.locals ∷ site) b.block) (map b0 xs))
branch_parts b0 h on site [] = refl
branch_parts b0 h on site (x ∷ xs) =
    ap (λ (ds : List Decl). block_parts (Branch_of (erased_expr on) ds ∷ map erased_around site) (erased_block (b0 x).block)
    ++ flat_map (λ (b : Branch). block_parts (Branch_of (erased_expr on) b.block.locals ∷ map erased_around site) b.block) (map erased_branch_of (map b0 xs))) (locals_same (b0 x).block)
    ∙ ap (λ (l : List Placed). l ++ flat_map (λ (b : Branch). block_parts (Branch_of (erased_expr on) b.block.locals ∷ map erased_around site) b.block) (map erased_branch_of (map b0 xs)))
    ((h x).parts (Branch_of on (b0 x).block.locals ∷ site))
    ∙ ap (λ (l : List Placed). map erased_placed (block_parts (Branch_of on (b0 x).block.locals ∷ site) (b0 x).block) ++ l) (branch_parts b0 h on site xs)
    ∙ sym (map_append erased_placed (block_parts (Branch_of on (b0 x).block.locals ∷ site) (b0 x).block) (flat_map (λ (b : Branch). block_parts (Branch_of on b.block.locals ∷ site) b.block) (map b0 xs)))

state_sets : {S : Type 0} (q0 : S → State) → ((x : S) → Kept_block (q0 x).block) → (xs : List S) →
    flat_map (λ (q : State). block_sets q.block) (map erased_state (map q0 xs)) ≡ flat_map (λ (q : State). block_sets q.block) (map q0 xs)
state_sets q0 h [] = refl
state_sets q0 h (x ∷ xs) = let e = (h x).sets in let t = state_sets q0 h xs in cc

state_cases : {S : Type 0} (q0 : S → State) → ((x : S) → Kept_block (q0 x).block) → (xs : List S) → map state_case (map erased_state (map q0 xs)) ≡ map state_case (map q0 xs)
state_cases q0 h [] = refl
state_cases q0 h (x ∷ xs) = let e = (h x).sets in let t = state_cases q0 h xs in cc

one_state : (site : Surroundings) (strong : List Expr) (states : List Name) (q : State) → Kept_block q.block →
    state_parts (map erased_around site) (map erased_expr strong) states (erased_state q) ≡ map erased_placed (state_parts site strong states q)
one_state site strong states q h =
    ap (λ (ds : List Decl). block_parts (State_of (map erased_expr strong) ds ∷ map erased_around site) (erased_block q.block)
    ++ transitions (State_of (map erased_expr strong) ds ∷ map erased_around site) false states (map erased_escape q.weak)
    ++ transitions (map erased_around site) true states (map erased_escape q.strong)) (locals_same q.block)
    ∙ ap (λ (l : List Placed). l ++ transitions (State_of (map erased_expr strong) (map erased_decl q.block.locals) ∷ map erased_around site) false states (map erased_escape q.weak)
    ++ transitions (map erased_around site) true states (map erased_escape q.strong)) (h.parts (State_of strong q.block.locals ∷ site))
    ∙ ap (λ (l : List Placed). map erased_placed (block_parts (State_of strong q.block.locals ∷ site) q.block) ++ l ++ transitions (map erased_around site) true states (map erased_escape q.strong))
    (transitions_same (State_of strong q.block.locals ∷ site) false states q.weak)
    ∙ ap (λ (l : List Placed). map erased_placed (block_parts (State_of strong q.block.locals ∷ site) q.block) ++ map erased_placed (transitions (State_of strong q.block.locals ∷ site) false states q.weak) ++ l)
    (transitions_same site true states q.strong)
    ∙ ap (λ (l : List Placed). l ++ map erased_placed (transitions site true states q.strong))
    (sym (map_append erased_placed (block_parts (State_of strong q.block.locals ∷ site) q.block) (transitions (State_of strong q.block.locals ∷ site) false states q.weak)))
    ∙ sym (map_append erased_placed (block_parts (State_of strong q.block.locals ∷ site) q.block ++ transitions (State_of strong q.block.locals ∷ site) false states q.weak) (transitions site true states q.strong))

all_states : {S : Type 0} (q0 : S → State) → ((x : S) → Kept_block (q0 x).block) → (site : Surroundings) (strong : List Expr) (states : List Name) (xs : List S) →
    flat_map (state_parts (map erased_around site) (map erased_expr strong) states) (map erased_state (map q0 xs)) ≡ map erased_placed (flat_map (state_parts site strong states) (map q0 xs))
all_states q0 h site strong states [] = refl
all_states q0 h site strong states (x ∷ xs) =
    ap (λ (l : List Placed). l ++ flat_map (state_parts (map erased_around site) (map erased_expr strong) states) (map erased_state (map q0 xs))) (one_state site strong states (q0 x) (h x))
    ∙ ap (λ (l : List Placed). map erased_placed (state_parts site strong states (q0 x)) ++ l) (all_states q0 h site strong states xs)
    ∙ sym (map_append erased_placed (state_parts site strong states (q0 x)) (flat_map (state_parts site strong states) (map q0 xs)))

-- ---- each equation

record Kept_layer (v : Equation-F Equation Block Branch State) : Type 0 where
  place : place_of (erased_layer v) ≡ place_of (plain_layer v)
  sets : sets_of (erased_layer v) ≡ sets_of (plain_layer v)
  parts : (site : Surroundings) → parts_of (map erased_around site) (erased_layer v) ≡ map erased_placed (parts_of site (plain_layer v))

rolled : (v : Equation-F Equation Block Branch State) → Kept_layer v → Kept (roll-Equation v)
rolled v k = record {
  place = ap place_of (layer_is v) ∙ k.place ∙ sym (ap place_of (plain_is v));
  sets = ap sets_of (layer_is v) ∙ k.sets ∙ sym (ap sets_of (plain_is v));
  parts = λ site. ap (λ (e : Equation). parts_of (map erased_around site) e) (layer_is v) ∙ k.parts site ∙ sym (ap (λ (e : Equation). map erased_placed (parts_of site e)) (plain_is v));
}

same_place : (v : Equation-F Equation Block Branch State) → place_of (erased_layer v) ≡ place_of (plain_layer v)
unfolding static
same_place (Equation-F.Define p left right) = refl
same_place (Equation-F.Switch p on bs) = refl
same_place (Equation-F.Reset p block every) = refl
same_place (Equation-F.Automaton p states) = refl

module _ {SE SB SR SS : Type 0} (e0 : SE → Equation) (b0 : SB → Block) (r0 : SR → Branch) (q0 : SS → State) (bh : (x : SB) → Kept_block (b0 x)) (rh : (x : SR) → Kept_block (r0 x).block) (qh : (x : SS) → Kept_block (q0 x).block) where
  layer_kept : (y : Equation-F SE SB SR SS) → Kept_layer (map-Equation SE SB SR SS Equation Block Branch State e0 b0 r0 q0 y)
  layer_kept (Equation-F.Define p left right) = record {
    place = same_place (Equation-F.Define p left right);
    sets = sets-Define p left (erased_expr right) ∙ sym (sets-Define p left right);
    parts = λ site. parts-Define (map erased_around site) p left (erased_expr right) ∙ sym (ap (λ (l : List Placed). map erased_placed l) (parts-Define site p left right));
  }
  layer_kept (Equation-F.Switch p on xs) = record {
    place = same_place (Equation-F.Switch p on (map r0 xs));
    sets = sets-Switch p (erased_expr on) (map erased_branch_of (map r0 xs)) ∙ branch_sets r0 rh xs ∙ sym (sets-Switch p on (map r0 xs));
    parts = λ site.
        parts-Switch (map erased_around site) p (erased_expr on) (map erased_branch_of (map r0 xs))
        ∙ ap (λ (cs : List (Case Tag)). record { site = map erased_around site; part = Switch_part p.0 (erased_expr on) cs }
        ∷ flat_map (λ (b : Branch). block_parts (Branch_of (erased_expr on) b.block.locals ∷ map erased_around site) b.block) (map erased_branch_of (map r0 xs))) (branch_cases r0 rh xs)
        ∙ ap (λ (l : List Placed). record { site = map erased_around site; part = Switch_part p.0 (erased_expr on) (map branch_case (map r0 xs)) } ∷ l) (branch_parts r0 rh on site xs)
        ∙ sym (ap (λ (l : List Placed). map erased_placed l) (parts-Switch site p on (map r0 xs)));
  }
  layer_kept (Equation-F.Reset p block every) = record {
    place = same_place (Equation-F.Reset p (b0 block) every);
    sets = sets-Reset p (erased_block (b0 block)) (erased_expr every) ∙ (bh block).sets ∙ sym (sets-Reset p (b0 block) every);
    parts = λ site.
        parts-Reset (map erased_around site) p (erased_block (b0 block)) (erased_expr every)
        ∙ ap (λ (xs : List Name). record { site = map erased_around site; part = Reset_part p.0 (erased_expr every) xs }
        ∷ block_parts (Body_of (erased_expr every) (erased_block (b0 block)).locals ∷ map erased_around site) (erased_block (b0 block))) (bh block).sets
        ∙ ap (λ (ds : List Decl). record { site = map erased_around site; part = Reset_part p.0 (erased_expr every) (block_sets (b0 block)) }
        ∷ block_parts (Body_of (erased_expr every) ds ∷ map erased_around site) (erased_block (b0 block))) (locals_same (b0 block))
        ∙ ap (λ (l : List Placed). record { site = map erased_around site; part = Reset_part p.0 (erased_expr every) (block_sets (b0 block)) } ∷ l) ((bh block).parts (Body_of every (b0 block).locals ∷ site))
        ∙ sym (ap (λ (l : List Placed). map erased_placed l) (parts-Reset site p (b0 block) every));
  }
  layer_kept (Equation-F.Automaton p xs) = record {
    place = same_place (Equation-F.Automaton p (map q0 xs));
    sets = sets-Automaton p (map erased_state (map q0 xs)) ∙ state_sets q0 qh xs ∙ sym (sets-Automaton p (map q0 xs));
    parts = λ site.
        parts-Automaton (map erased_around site) p (map erased_state (map q0 xs))
        ∙ ap (λ (cs : List (Case Name)). record { site = map erased_around site; part = Automaton_part p.0 cs }
        ∷ flat_map (state_parts (map erased_around site) (strong_of_all (map erased_state (map q0 xs))) (map (λ c. c.label) cs)) (map erased_state (map q0 xs))) (state_cases q0 qh xs)
        ∙ ap (λ (es : List Expr). record { site = map erased_around site; part = Automaton_part p.0 (map state_case (map q0 xs)) }
        ∷ flat_map (state_parts (map erased_around site) es (map (λ c. c.label) (map state_case (map q0 xs)))) (map erased_state (map q0 xs))) (strong_same (map q0 xs))
        ∙ ap (λ (l : List Placed). record { site = map erased_around site; part = Automaton_part p.0 (map state_case (map q0 xs)) } ∷ l)
        (all_states q0 qh site (strong_of_all (map q0 xs)) (map (λ c. c.label) (map state_case (map q0 xs))) xs)
        ∙ sym (ap (λ (l : List Placed). map erased_placed l) (parts-Automaton site p (map q0 xs)));
  }

equation_kept : (e : Equation) → Kept e
equation_kept e = ind-Equation Kept Kept_block (λ b. Kept_block b.block) (λ q. Kept_block q.block)
    (λ x y is. subst (λ (z : Equation-F Equation Block Branch State). Kept (roll-Equation z)) is
    (rolled _ (layer_kept (λ s. s.0) (λ s. s.0) (λ s. s.0) (λ s. s.0) (λ s. s.1) (λ s. s.1) (λ s. s.1) y)))
    (λ x y is. subst (λ (z : Block-F Equation Block Branch State). Kept_block (roll-Block z)) is (block_kept (λ s. s.0) (λ s. s.1) y.locals y.body))
    (λ x y is. subst (λ (z : Branch-F Equation Block Branch State). Kept_block (roll-Branch z).block) is y.block.1)
    (λ x y is. subst (λ (z : State-F Equation Block Branch State). Kept_block (roll-State z).block) is y.block.1) e

-- ---- nodes

map_id : {A : Type 0} (xs : List A) → map (λ (x : A). x) xs ≡ xs
map_id [] = refl
map_id (x ∷ xs) = ap (λ (l : List _). x ∷ l) (map_id xs)

body_cases : (es : List Equation) → map equation_case (map erased_equation_of es) ≡ map equation_case es
body_cases es = subst (λ (l : List Equation). map equation_case (map erased_equation_of l) ≡ map equation_case l) (map_id es) (cases_list (λ x. x) equation_kept es)

body_parts : (es : List Equation) → flat_map (parts_of []) (map erased_equation_of es) ≡ map erased_placed (flat_map (parts_of []) es)
body_parts es = subst (λ (l : List Equation). flat_map (parts_of []) (map erased_equation_of l) ≡ map erased_placed (flat_map (parts_of []) l)) (map_id es) (parts_list (λ x. x) equation_kept [] es)

pub erased_keeps_parts : ErasedKeepsParts
erased_keeps_parts n =
    ap (λ (x : Block). record { site = []; part = Block_part (map erased_decl n.outputs ++ x.locals) (map equation_case x.body) } ∷ flat_map (parts_of []) x.body) (block_is n.block)
    ∙ ap (λ (ds : List Decl). record { site = []; part = Block_part ds (map equation_case (map erased_equation_of n.block.body)) } ∷ flat_map (parts_of []) (map erased_equation_of n.block.body))
    (sym (map_append erased_decl n.outputs n.block.locals))
    ∙ ap (λ (cs : List (Case (Unit {0}))). record { site = []; part = Block_part (map erased_decl (n.outputs ++ n.block.locals)) cs } ∷ flat_map (parts_of []) (map erased_equation_of n.block.body)) (body_cases n.block.body)
    ∙ ap (λ (l : List Placed). record { site = []; part = Block_part (map erased_decl (n.outputs ++ n.block.locals)) (map equation_case n.block.body) } ∷ l) (body_parts n.block.body)

-- ---- reads

strong_reads : (es : List Expr) → flat_map (λ (e : Expr). reads e.form) (map erased_expr es) ≡ flat_map (λ (e : Expr). reads e.form) es
strong_reads [] = refl
strong_reads (e ∷ es) = let h = reads_kept e in let t = strong_reads es in cc

around_reads : (a : Around) → reads_around (erased_around a) ≡ reads_around a
around_reads (Branch_of on locals) = reads_kept on
around_reads (Body_of every locals) = reads_kept every
around_reads (State_of strong locals) = strong_reads strong

site_reads : (site : Surroundings) → flat_map reads_around (map erased_around site) ≡ flat_map reads_around site
site_reads [] = refl
site_reads (a ∷ site) = let h = around_reads a in let t = site_reads site in cc

part_reads : (x : Name) (site : Surroundings) (part : Part) → reads_in x (map erased_around site) (erased_part part) ≡ reads_in x site part
part_reads x site (Block_part ds es) = refl
part_reads x site (Plain p left right) =
    ap (λ (l : List Name). if is_in x left then l ++ flat_map reads_around (map erased_around site) else []) (reads_kept right)
    ∙ ap (λ (l : List Name). if is_in x left then reads right.form ++ l else []) (site_reads site)
part_reads x site (Switch_part p on cs) = refl
part_reads x site (Reset_part p every sets) = refl
part_reads x site (Automaton_part p states) = refl
part_reads x site (Transition strong states e) = refl

all_reads : (x : Name) (qs : List Placed) → flat_map (λ (q : Placed). reads_in x q.site q.part) (map erased_placed qs) ≡ flat_map (λ (q : Placed). reads_in x q.site q.part) qs
all_reads x [] = refl
all_reads x (q ∷ qs) = let h = part_reads x q.site q.part in let t = all_reads x qs in cc

pub erased_keeps_variable_reads : ErasedKeepsVariableReads
erased_keeps_variable_reads n clock x =
    ap (λ (qs : List Placed). flat_map (λ (q : Placed). reads_in x q.site q.part) qs ++ map (λ s. s.name) (clock x)) (erased_keeps_parts n)
    ∙ ap (λ (l : List Name). l ++ map (λ s. s.name) (clock x)) (all_reads x (parts n))

node_at : (nodes : List Node) (k : ℕ) (m : Node) → slice_get (map erased_node nodes) k ≡ Some m → (n : Node) × (slice_get nodes k ≡ Some n) × (erased_node n ≡ m)
node_at [] k m is = cc
node_at (n ∷ nodes) zero m is = (n, refl, let e : erased_node n ≡ m = cc in e)
node_at (n ∷ nodes) (suc k) m is = node_at nodes k m is

no_cycle : (f g : Name → List Name) → f ≡ g → HasNoCycle (λ (x y : Name). IsTrue (is_in y (f x))) → HasNoCycle (λ (x y : Name). IsTrue (is_in y (g x)))
no_cycle f g e h = subst (λ (r : Name → List Name). HasNoCycle (λ (x y : Name). IsTrue (is_in y (r x)))) e h

pub erased_keeps_causal : ErasedKeepsCausal
erased_keeps_causal p clock h k m is =
    let (n, at, e) = node_at p.nodes k m is in
    subst (λ (z : Node). HasNoCycle (Reads z (clock k))) e
    (no_cycle (variable_reads n (clock k)) (variable_reads (erased_node n) (clock k)) (sym (fun_ext (λ x. erased_keeps_variable_reads n (clock k) x))) (h k n at))

-- ---- grades

grades_list : (g : Grades) (es : List Expr) → list_any (λ (e : Expr). grade g e.form) (map erased_expr es) ≡ list_any (λ (e : Expr). grade g e.form) es
grades_list g [] = refl
grades_list g (e ∷ es) = let h = grade_kept g e in let t = grades_list g es in cc

sides_if : (b : Bool) (right : Expr) → (if b then erased_expr right ∷ [] else []) ≡ map erased_expr (if b then right ∷ [] else [])
sides_if true right = refl
sides_if false right = refl

part_sides : (x : Name) (part : Part) → right_sides_in x (erased_part part) ≡ map erased_expr (right_sides_in x part)
part_sides x (Block_part ds es) = refl
part_sides x (Plain p left right) = sides_if (is_in x left) right
part_sides x (Switch_part p on cs) = refl
part_sides x (Reset_part p every sets) = refl
part_sides x (Automaton_part p states) = refl
part_sides x (Transition strong states e) = refl

all_sides : (x : Name) (qs : List Placed) → flat_map (λ (q : Placed). right_sides_in x q.part) (map erased_placed qs) ≡ map erased_expr (flat_map (λ (q : Placed). right_sides_in x q.part) qs)
all_sides x [] = refl
all_sides x (q ∷ qs) =
    ap (λ (l : List Expr). l ++ flat_map (λ (r : Placed). right_sides_in x r.part) (map erased_placed qs)) (part_sides x q.part)
    ∙ ap (λ (l : List Expr). map erased_expr (right_sides_in x q.part) ++ l) (all_sides x qs)
    ∙ sym (map_append erased_expr (right_sides_in x q.part) (flat_map (λ (r : Placed). right_sides_in x r.part) qs))

-- what the grades of a variable's right sides come to
sides_grade : (n : Node) (g : Grades) (x : Name) → list_any (λ (e : Expr). grade g e.form) (right_sides (erased_node n) x) ≡ list_any (λ (e : Expr). grade g e.form) (right_sides n x)
sides_grade n g x =
    ap (λ (qs : List Placed). list_any (λ (e : Expr). grade g e.form) (flat_map (λ (q : Placed). right_sides_in x q.part) qs)) (erased_keeps_parts n)
    ∙ ap (λ (es : List Expr). list_any (λ (e : Expr). grade g e.form) es) (all_sides x (parts n))
    ∙ grades_list g (right_sides n x)

pub erased_keeps_least_grades : ErasedKeepsLeastGrades
erased_keeps_least_grades n g h = record {
  meets = λ x. h.meets x ∙ sym (sides_grade n g x);
  least = λ k meets x t. h.least k (λ y. meets y ∙ sides_grade n k y) x t;
}
