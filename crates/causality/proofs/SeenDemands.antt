-- What the parts of each equation demand, by what they see.
use Rattle.std.proofs.Common.{◌≡◌, ℕ, List, [], ◌∷◌, ◌++◌, refl, sym, ◌∙◌, ap, append-nil, append_assoc, Some, None}
use Rattle.std.specs.Prelude.{Option}
use Rattle.std.specs.List.{flat_map, filter_map, cons_option}
use Rattle.hept_ast.specs.Texts.{Name}
use Rattle.hept_ast.specs.Initial.{Grades, unmet_decl, unmet_expr, unmet_outside}
use Rattle.hept_ast.specs.Parts.{Case, block_sets, branch_case, state_case, declaration}
use Rattle.std.proofs.Common.{map, Bool, true, false}
use Rattle.std.proofs.lemmas.Grind.{flat_map-append}
use Rattle.std.proofs.lemmas.List.{take_all}
use Rattle.hept_ast.specs.declared.name.Place.{Place}
use Rattle.hept_ast.specs.declared.tree.Decl.{Decl}
use Rattle.hept_ast.specs.declared.tree.Expr.{Expr}
use Rattle.hept_ast.specs.declared.tree.Block.{Block}
use Rattle.hept_ast.specs.declared.tree.Branch.{Branch}
use Rattle.hept_ast.specs.declared.tree.State.{State}
use Rattle.hept_ast.specs.declared.tree.Escape.{Escape}
use Rattle.hept_ast.specs.declared.tree.Equation as eq
use Rattle.hept_ast.specs.declared.tree.Equation.{Equation}
use Rattle.hept_ast.specs.SeenParts.{seen_parts, seen_block, seen_state, seen_escapes}
use Rattle.hept_ast.proofs.SeenParts.{seen-Define, seen-Switch, seen-Reset, seen-Automaton}
use Rattle.causality.specs.Demands.{unmet_declared, unmet_last, unmet_seen, unmet_in_equation, unmet_in_block, unmet_in_state}
use Rattle.causality.proofs.LowestOf.{flat_flat}

by_option : (g : Grades) (d : Option Decl) (ds : List Decl) → flat_map (unmet_decl g) (cons_option d ds) ≡ unmet_declared g d ++ flat_map (unmet_decl g) ds
by_option g None ds = refl
by_option g (Some d) ds = refl

pub outside-each : (g : Grades) (seen : List Decl) (xs : List Name) → unmet_outside g seen xs ≡ flat_map (λ x. unmet_declared g (declaration seen x)) xs
outside-each g seen [] = refl
outside-each g seen (x ∷ xs) = by_option g (declaration seen x) (filter_map (declaration seen) xs) ∙ ap (λ t. unmet_declared g (declaration seen x) ++ t) (outside-each g seen xs)

-- ---- by equations, blocks and states

F_flat : (g : Grades) (own inner : List Decl) (es : List Equation) → flat_map (unmet_seen g own) (flat_map (seen_parts inner) es) ≡ flat_map (unmet_in_equation g own inner) es
F_flat g own inner es = flat_flat (unmet_seen g own) (seen_parts inner) es

pub demand-block : (g : Grades) (own inner : List Decl) (block : Block) → unmet_in_block g own inner block ≡ flat_map (unmet_last g) block.locals ++ flat_map (unmet_in_equation g own (block.locals ++ inner)) block.body
demand-block g own inner block = ap (λ t. flat_map (unmet_last g) block.locals ++ t) (F_flat g own (block.locals ++ inner) block.body)

of_transitions : (g : Grades) (own inner : List Decl) (strong : Bool) (states : List State) (es : List Escape) → flat_map (unmet_seen g own) (seen_escapes inner strong states es) ≡ flat_map (λ e. unmet_expr g e.condition) es
of_transitions g own inner strong states [] = refl
of_transitions g own inner strong states (e ∷ es) = ap (λ t. unmet_expr g e.condition ++ t) (of_transitions g own inner strong states es)

pub demand-state : (g : Grades) (own inner : List Decl) (states : List State) (q : State)
    → unmet_in_state g own inner states q ≡ unmet_in_block g own inner q.block ++ flat_map (λ e. unmet_expr g e.condition) q.weak ++ flat_map (λ e. unmet_expr g e.condition) q.strong
demand-state g own inner states q =
    flat_map-append (unmet_seen g own) (seen_block inner q.block ++ seen_escapes (q.block.locals ++ inner) false states q.weak) (seen_escapes inner true states q.strong)
    ∙ (ap (λ t. t ++ flat_map (unmet_seen g own) (seen_escapes inner true states q.strong)) (flat_map-append (unmet_seen g own) (seen_block inner q.block) (seen_escapes (q.block.locals ++ inner) false states q.weak))
    ∙ (ap (λ t. unmet_in_block g own inner q.block ++ t ++ flat_map (unmet_seen g own) (seen_escapes inner true states q.strong)) (of_transitions g own (q.block.locals ++ inner) false states q.weak)
    ∙ ap (λ t. unmet_in_block g own inner q.block ++ flat_map (λ e. unmet_expr g e.condition) q.weak ++ t) (of_transitions g own inner true states q.strong)))

pub demand-Define : (g : Grades) (own inner : List Decl) (p : Place) (left : List Name) (right : Expr) → unmet_in_equation g own inner (eq.Define p left right) ≡ []
demand-Define g own inner p left right = ap (flat_map (unmet_seen g own)) (seen-Define inner p left right)

sets_flat : {X A : Type 0} (case : X → Case A) (sets : X → List Name) → ((x : X) → (case x).sets ≡ sets x) → (xs : List X) → flat_map (λ (c : Case A). c.sets) (map case xs) ≡ flat_map sets xs
sets_flat case sets e [] = refl
sets_flat case sets e (x ∷ xs) = ap (λ t. t ++ flat_map (λ (c : Case _). c.sets) (map case xs)) (e x) ∙ ap (λ t. sets x ++ t) (sets_flat case sets e xs)

pub demand-Switch : (g : Grades) (own inner : List Decl) (p : Place) (on : Expr) (bs : List Branch)
    → unmet_in_equation g own inner (eq.Switch p on bs) ≡ (unmet_expr g on ++ unmet_outside g (inner ++ own) (flat_map (λ b. block_sets b.block) bs)) ++ flat_map (λ b. unmet_in_block g own inner b.block) bs
demand-Switch g own inner p on bs =
    ap (flat_map (unmet_seen g own)) (seen-Switch inner p on bs)
    ∙ (ap (λ t. (unmet_expr g on ++ unmet_outside g (inner ++ own) t) ++ flat_map (unmet_seen g own) (flat_map (λ b. seen_block inner b.block) bs)) (sets_flat branch_case (λ b. block_sets b.block) (λ b. refl) bs)
    ∙ ap (λ t. (unmet_expr g on ++ unmet_outside g (inner ++ own) (flat_map (λ b. block_sets b.block) bs)) ++ t) (flat_flat (unmet_seen g own) (λ (b : Branch). seen_block inner b.block) bs))

pub demand-Reset : (g : Grades) (own inner : List Decl) (p : Place) (block : Block) (every : Expr)
    → unmet_in_equation g own inner (eq.Reset p block every) ≡ (unmet_expr g every ++ unmet_outside g (inner ++ own) (block_sets block)) ++ unmet_in_block g own inner block
demand-Reset g own inner p block every = ap (flat_map (unmet_seen g own)) (seen-Reset inner p block every)

pub demand-Automaton : (g : Grades) (own inner : List Decl) (p : Place) (qs : List State)
    → unmet_in_equation g own inner (eq.Automaton p qs) ≡ unmet_outside g (inner ++ own) (flat_map (λ q. block_sets q.block) qs) ++ flat_map (unmet_in_state g own inner qs) qs
demand-Automaton g own inner p qs =
    ap (flat_map (unmet_seen g own)) (seen-Automaton inner p qs)
    ∙ (ap (λ t. unmet_outside g (inner ++ own) t ++ flat_map (unmet_seen g own) (flat_map (seen_state inner qs) qs)) (sets_flat state_case (λ q. block_sets q.block) (λ q. refl) qs)
    ∙ ap (λ t. unmet_outside g (inner ++ own) (flat_map (λ q. block_sets q.block) qs) ++ t) (flat_flat (unmet_seen g own) (seen_state inner qs) qs))

pub ruleset outside_of = (outside-each, append_assoc, append-nil)
