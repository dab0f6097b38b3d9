-- What the tokens of a program come to.
use Rattle.std.specs.Prelude.{◌≡◌, ◌≢◌, ◌==◌, suc, true, false, List, [], ◌∷◌, ◌++◌, length, refl}
use Rattle.std.proofs.Common.{ap, sym, ◌∙◌, append-nil, arith, eqb-true}
use Rattle.hept_ast.specs.declared.tree.Program.{Program}
use Rattle.hept_ast.specs.declared.tree.TypeDec.{TypeDec}
use Rattle.hept_ast.specs.declared.tree.Node.{Node}
use Rattle.ept_tokens.specs.declared.token.Token.{Token}
use Rattle.ept_tokens.proofs.Bools.{true≢false}
use Rattle.ept_steps.proofs.Lists.{some_more}

pub more_program : (types more_types : List TypeDec) {new_types : List TypeDec} (nodes more_nodes : List Node) {new_nodes : List Node} (whole : Program) → new_types ≡ types ++ more_types → new_nodes ≡ nodes ++ more_nodes
    → ◌≡◌ {A = Program} (record { types = types ++ (more_types ++ whole.types); nodes = nodes ++ (more_nodes ++ whole.nodes) }) (record { types = new_types ++ whole.types; nodes = new_nodes ++ whole.nodes })
more_program types more_types {new_types = new_types} nodes more_nodes whole e f =
    ap (λ x. record { types = x; nodes = nodes ++ (more_nodes ++ whole.nodes) }) (some_more types more_types new_types whole.types e)
    ∙ ap (λ x. record { types = new_types ++ whole.types; nodes = x }) (some_more nodes more_nodes _ whole.nodes f)

pub whole_program : (types : List TypeDec) (nodes : List Node) → ◌≡◌ {A = Program} (record { types = types ++ []; nodes = nodes ++ [] }) (record { types = types; nodes = nodes })
whole_program types nodes = ap (λ x. record { types = x; nodes = nodes ++ [] }) (append-nil types) ∙ ap (λ x. record { types = types; nodes = x }) (append-nil nodes)

pub nothing_left : (ts : List Token) → true ≡ (length ts == 0) → ts ≡ []
nothing_left [] e = refl
nothing_left (t ∷ ts) e = let f : suc (length ts) ≡ 0 = eqb-true (suc (length ts)) 0 (sym e) in absurd (omega arith)

pub something_left : (ts : List Token) → false ≡ (length ts == 0) → ts ≢ []
something_left [] e f = true≢false (sym e)
something_left (t ∷ ts) e f = absurd cc
