-- The faults of an equation's parts, form by form, and those of a node.
use Rattle.std.proofs.Common.{◌≡◌, Bool, true, false, List, [], ◌∷◌, ◌++◌, refl, sym, ◌∙◌, ap, map, append-nil, append_assoc}
use Rattle.std.specs.List.{flat_map}
use Rattle.hept_ast.specs.Texts.{Name}
use Rattle.hept_ast.specs.Faults.{Fault, Judging, is_strong, judging, part_faults}
use Rattle.hept_ast.specs.InnerParts.{state_names}
use Rattle.hept_ast.specs.Parts.{Block, Plain, Switch, Reset, Automaton, Transition, Placed, block_sets, branch_case, equation_case, locals_around, parts, parts_of, state_case}
use Rattle.hept_ast.specs.SeenParts.{seen_block, seen_escapes, seen_parts, seen_state}
use Rattle.hept_ast.proofs.SeenParts.{seen-Define, seen-Switch, seen-Reset, seen-Automaton}
use Rattle.hept_ast.specs.declared.name.Place.{Place}
use Rattle.hept_ast.specs.declared.tree.Block as b
use Rattle.hept_ast.specs.declared.tree.Branch.{Branch}
use Rattle.hept_ast.specs.declared.tree.Decl.{Decl}
use Rattle.hept_ast.specs.declared.tree.Equation.{Equation}
use Rattle.hept_ast.specs.declared.tree.Equation as eq
use Rattle.hept_ast.specs.declared.tree.Escape.{Escape}
use Rattle.hept_ast.specs.declared.tree.Expr.{Expr}
use Rattle.hept_ast.specs.declared.tree.Node.{Node}
use Rattle.hept_ast.specs.declared.tree.Program.{Program}
use Rattle.hept_ast.specs.declared.tree.State.{State}
use Rattle.type_futures.specs.Walk.{branch_faults, equation_faults, escape_faults, faults_at, inner_faults, own_decls, seen_faults, state_faults}
use Rattle.hept_ast.specs.Limits.{earlier_of, earliest}
use Rattle.std.specs.Prelude.{Option}
use Rattle.earliest_fault.proofs.Noting.{flat_mapped, noted_both}
use Rattle.type_futures.proofs.OwnSeen.{own_in, own_parts}

flat_append : {Y Z : Type 0} (f : Y → List Z) (ys zs : List Y) → flat_map f (ys ++ zs) ≡ flat_map f ys ++ flat_map f zs
flat_append f [] zs = refl
flat_append f (y ∷ ys) zs = ap (λ t. f y ++ t) (flat_append f ys zs) ∙ sym (append_assoc (f y) (flat_map f ys) (flat_map f zs))

flat_flat : {X Y Z : Type 0} (f : Y → List Z) (g : X → List Y) (h : X → List Z) → ((x : X) → flat_map f (g x) ≡ h x) → (xs : List X) → flat_map f (flat_map g xs) ≡ flat_map h xs
flat_flat f g h e [] = refl
flat_flat f g h e (x ∷ xs) = flat_append f (g x) (flat_map g xs) ∙ (ap (λ t. t ++ flat_map f (flat_map g xs)) (e x) ∙ ap (λ t. h x ++ t) (flat_flat f g h e xs))

pub faults-Define : (w : Judging) (seen : List Decl) (p : Place) (left : List Name) (right : Expr) → equation_faults w seen (eq.Define p left right) ≡ faults_at w seen (Plain p.0 left right)
unfolding equation_faults
faults-Define w seen p left right = ap (flat_map (seen_faults w)) (seen-Define seen p left right) ∙ append-nil (faults_at w seen (Plain p.0 left right))

pub faults-Switch : (w : Judging) (seen : List Decl) (p : Place) (on : Expr) (bs : List Branch)
    → equation_faults w seen (eq.Switch p on bs) ≡ faults_at w seen (Switch p.0 on (map branch_case bs)) ++ flat_map (branch_faults w seen) bs
unfolding equation_faults inner_faults branch_faults
faults-Switch w seen p on bs =
    ap (flat_map (seen_faults w)) (seen-Switch seen p on bs)
    ∙ ap (λ t. faults_at w seen (Switch p.0 on (map branch_case bs)) ++ t) (flat_flat (seen_faults w) (λ c. seen_block seen c.block) (branch_faults w seen) (λ c. refl) bs)

pub faults-Reset : (w : Judging) (seen : List Decl) (p : Place) (block : b.Block) (every : Expr)
    → equation_faults w seen (eq.Reset p block every) ≡ faults_at w seen (Reset p.0 every (block_sets block)) ++ inner_faults w seen block
unfolding equation_faults inner_faults
faults-Reset w seen p block every = ap (flat_map (seen_faults w)) (seen-Reset seen p block every)

pub faults-Automaton : (w : Judging) (seen : List Decl) (p : Place) (qs : List State)
    → equation_faults w seen (eq.Automaton p qs) ≡ faults_at w seen (Automaton p.0 (map state_case qs)) ++ flat_map (state_faults w seen qs) qs
unfolding equation_faults state_faults
faults-Automaton w seen p qs =
    ap (flat_map (seen_faults w)) (seen-Automaton seen p qs)
    ∙ ap (λ t. faults_at w seen (Automaton p.0 (map state_case qs)) ++ t) (flat_flat (seen_faults w) (seen_state seen qs) (state_faults w seen qs) (λ q. refl) qs)

pub inner_faults-is : (w : Judging) (seen : List Decl) (block : b.Block)
    → inner_faults w seen block ≡ faults_at w (block.locals ++ seen) (Block block.locals (map equation_case block.body)) ++ flat_map (equation_faults w (block.locals ++ seen)) block.body
unfolding equation_faults inner_faults
inner_faults-is w seen block =
    ap (λ t. faults_at w (block.locals ++ seen) (Block block.locals (map equation_case block.body)) ++ t)
    (flat_flat (seen_faults w) (seen_parts (block.locals ++ seen)) (equation_faults w (block.locals ++ seen)) (λ e. refl) block.body)

-- a block's own faults, and then those of its equations
pub inner_noted : (w : Judging) (seen inside : List Decl) (block : b.Block) (locals : List Decl) (body items : List Equation) (first o q : Option Fault)
    → inside ≡ block.locals ++ seen → locals ≡ block.locals → body ≡ block.body → items ≡ block.body
    → o ≡ earlier_of first (earliest (faults_at w inside (Block locals (map equation_case body)))) → q ≡ earlier_of o (earliest (flat_map (equation_faults w inside) items))
    → q ≡ earlier_of first (earliest (inner_faults w seen block))
inner_noted w seen inside block locals body items first o q e l b i g h =
    noted_both (faults_at w inside (Block locals (map equation_case body))) (flat_map (equation_faults w inside) items) first o q g h
    ∙ ap (λ t. earlier_of first (earliest t))
    (ap (λ ds. faults_at w ds (Block locals (map equation_case body)) ++ flat_map (equation_faults w ds) items) e
    ∙ (ap (λ ls. faults_at w (block.locals ++ seen) (Block ls (map equation_case body)) ++ flat_map (equation_faults w (block.locals ++ seen)) items) l
    ∙ (ap (λ es. faults_at w (block.locals ++ seen) (Block block.locals (map equation_case es)) ++ flat_map (equation_faults w (block.locals ++ seen)) items) b
    ∙ (ap (λ es. faults_at w (block.locals ++ seen) (Block block.locals (map equation_case block.body)) ++ flat_map (equation_faults w (block.locals ++ seen)) es) i
    ∙ sym (inner_faults-is w seen block)))))

pub escape_faults-is : (w : Judging) (seen : List Decl) (strong : Bool) (states : List State) (es : List Escape)
    → escape_faults w seen strong states es ≡ flat_map (λ e. faults_at w seen (Transition strong (state_names states) e)) es
unfolding escape_faults
escape_faults-is w seen strong states es = flat_mapped (seen_faults w) (λ e. record { inner = seen; part = Transition strong (state_names states) e }) es

pub state_faults-is : (w : Judging) (seen : List Decl) (states : List State) (q : State)
    → state_faults w seen states q ≡ inner_faults w seen q.block ++ escape_faults w (q.block.locals ++ seen) false states q.weak ++ escape_faults w seen true states q.strong
unfolding state_faults inner_faults escape_faults
state_faults-is w seen states q =
    flat_append (seen_faults w) (seen_block seen q.block ++ seen_escapes (q.block.locals ++ seen) false states q.weak) (seen_escapes seen true states q.strong)
    ∙ ap (λ t. t ++ flat_map (seen_faults w) (seen_escapes seen true states q.strong)) (flat_append (seen_faults w) (seen_block seen q.block) (seen_escapes (q.block.locals ++ seen) false states q.weak))

-- ---- a node

abbrev pub node_judging : Program → Node → Judging
node_judging program node = record { types = program.types; nodes = program.nodes; node = node; seen = []; strong = false }

regrouped : (ds ls os is : List Decl) → ((ds ++ ls) ++ os) ++ is ≡ ds ++ ((ls ++ os) ++ is)
regrouped ds ls os is = ap (λ t. t ++ is) (append_assoc ds ls os) ∙ append_assoc ds (ls ++ os) is

one_part : (program : Program) (node : Node) (q : Placed) → part_faults (judging program node q) q.part ≡ seen_faults (node_judging program node) (own_in (own_decls node) q)
unfolding faults_at
one_part program node q =
    ap (λ t. part_faults (record { types = program.types; nodes = program.nodes; node = node; seen = t; strong = is_strong q.part }) q.part) (regrouped (locals_around q.site) node.block.locals node.outputs node.inputs)

each_part : (program : Program) (node : Node) (qs : List Placed) → flat_map (λ q. part_faults (judging program node q) q.part) qs ≡ flat_map (seen_faults (node_judging program node)) (map (own_in (own_decls node)) qs)
each_part program node [] = refl
each_part program node (q ∷ qs) =
    ap (λ t. t ++ flat_map (λ q. part_faults (judging program node q) q.part) qs) (one_part program node q)
    ∙ ap (λ t. seen_faults (node_judging program node) (own_in (own_decls node) q) ++ t) (each_part program node qs)

one_equation : (program : Program) (node : Node) (e : Equation) → flat_map (λ q. part_faults (judging program node q) q.part) (parts_of [] e) ≡ equation_faults (node_judging program node) (own_decls node) e
unfolding equation_faults
one_equation program node e = each_part program node (parts_of [] e) ∙ ap (flat_map (seen_faults (node_judging program node))) (own_parts (own_decls node) e)

-- the faults of all parts of a node
pub all_part_faults : (program : Program) (node : Node)
    → flat_map (λ q. part_faults (judging program node q) q.part) (parts node)
    ≡ faults_at (node_judging program node) (own_decls node) (Block (node.outputs ++ node.block.locals) (map equation_case node.block.body)) ++ flat_map (equation_faults (node_judging program node) (own_decls node)) node.block.body
unfolding faults_at
all_part_faults program node =
    ap (λ t. faults_at (node_judging program node) (own_decls node) (Block (node.outputs ++ node.block.locals) (map equation_case node.block.body)) ++ t)
    (flat_flat (λ q. part_faults (judging program node q) q.part) (parts_of []) (equation_faults (node_judging program node) (own_decls node)) (one_equation program node) node.block.body)

pub ruleset walks = (faults-Define, faults-Switch, faults-Reset, faults-Automaton, inner_faults-is, escape_faults-is, state_faults-is)
