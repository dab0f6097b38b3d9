use Rattle.std.proofs.Common.{string_bytes, subst}
use Rattle.std.specs.List.{All}
use Rattle.core_naming.specs.Names.{node_names}
use Rattle.hept_ast.specs.declared.tree.CoreNode.{CoreNode}
use Rattle.hept_ast.specs.declared.tree.TypeDec.{TypeDec}
use Rattle.normal_form.specs.NewNames.{AreWithin, type_names}
use Rattle.normal_form.proofs.NewNames.{new_of_core}
use Rattle.normal_form.proofs.new_names.NewNames.of.Goals as goal

pub returns : goal.returns
returns c =
    let m = c.longest_in_types-longest.result in
    let n = c.longest_in_nodes-longest.result in
    new_of_core c.args.core.now m n (string_bytes c.in_ok-mark.mark) c.longest_in_nodes-longest.ensures.kept
    (subst (All (λ (d : TypeDec). AreWithin m (type_names d))) c.as_slice.ensures c.longest_in_types-longest.ensures.within)
    (subst (All (λ (node : CoreNode). AreWithin n (node_names node))) c.as_slice-2.ensures c.longest_in_nodes-longest.ensures.within) c.in_ok-mark.ensures
