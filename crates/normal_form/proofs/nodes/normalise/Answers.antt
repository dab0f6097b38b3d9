use Rattle.std.proofs.Common.{◌≡◌, List, sym, subst}
use Rattle.hept_ast.specs.declared.tree.CoreNode.{CoreNode}
use Rattle.hept_ast.specs.declared.tree.TypeDec.{TypeDec}
use Rattle.normal_form.specs.Settling.{CanBeNamed, Normalises, core_around}
use Rattle.normal_form.proofs.Settling.{normalising_begins, normalising_ends, normalising_more, normalising_names, normalising_requires, normalising_static, normalising_stays}
use Rattle.normal_form.proofs.nodes.normalise.Goals as goal

-- what is said of three lists is said of equal ones
of_equal : {A B C : Type 0} (P : A → B → C → Type 0) (a x : A) (b y : B) (c z : C) → a ≡ x → b ≡ y → c ≡ z → P a b c → P x y z
of_equal P a x b y c z p q r h = subst (λ i. P i y z) p (subst (λ j. P a j z) q (subst (λ k. P a b k) r h))

pub nodes-init : goal.nodes-init
nodes-init c = normalising_begins c.in_ok-names.names c.args.core c.new-done.result c.requires.well_formed c.in_ok-names.ensures c.new-done.ensures

pub normalise_node-requires : goal.normalise_node-requires
normalise_node-requires c =
    let node = c.remove-node.result in
    of_equal (λ (types : List TypeDec) (before after : List CoreNode). CanBeNamed c.nodes.names (core_around types before after node))
    c.args.core.types c.as_slice.result.now c.nodes.done c.as_slice-before.result.now c.remove-node.new.self c.as_slice-after.result.now
    (sym c.as_slice.ensures) (sym c.as_slice-before.ensures) (sym c.as_slice-after.ensures)
    (normalising_requires c.nodes.names c.args.core c.args.core.types c.nodes.done c.nodes.left c.remove-node.new.self node c.nodes.invariant c.remove-node.ensures.item c.remove-node.ensures.rest)

pub nodes-preserved : goal.nodes-preserved
nodes-preserved c =
    let node = c.remove-node.result in
    let other = c.in_ok-node.node in
    let names = c.normalise_node.new.names in
    normalising_more c.nodes.names names c.args.core c.args.core.types c.nodes.done c.nodes.left c.remove-node.new.self c.push.new.self node other
    c.nodes.invariant c.remove-node.ensures.item c.remove-node.ensures.rest
    (of_equal (λ (types : List TypeDec) (before after : List CoreNode). Normalises types before after names node other)
    c.as_slice.result.now c.args.core.types c.as_slice-before.result.now c.nodes.done c.as_slice-after.result.now c.remove-node.new.self
    c.as_slice.ensures c.as_slice-before.ensures c.as_slice-after.ensures c.in_ok-node.ensures)
    c.in_ok-push.ensures.ok

pub returns-clause-normalised : goal.returns-clause-normalised
returns-clause-normalised c =
    normalising_ends c.nodes.names c.args.core c.args.core.types c.nodes.done c.nodes.left c.requires.well_formed c.requires.acyclic c.nodes.invariant (c.is_empty.ensures.0 c.nodes-test.false)

pub returns-clause-namings : goal.returns-clause-namings
returns-clause-namings c = normalising_names c.nodes.names c.args.core c.args.core.types c.nodes.done c.nodes.left c.nodes.invariant (c.is_empty.ensures.0 c.nodes-test.false)

pub returns-clause-still : goal.returns-clause-still
returns-clause-still c = λ n. normalising_stays c.nodes.names c.args.core c.args.core.types c.nodes.done c.nodes.left c.nodes.invariant (c.is_empty.ensures.0 c.nodes-test.false) n

pub returns-clause-facts : goal.returns-clause-facts
returns-clause-facts c = λ s. normalising_static c.naming_facts_laws.ensures.steps c.nodes.names c.args.core c.args.core.types c.nodes.done c.nodes.left c.requires.well_formed c.nodes.invariant (c.is_empty.ensures.0 c.nodes-test.false) s
