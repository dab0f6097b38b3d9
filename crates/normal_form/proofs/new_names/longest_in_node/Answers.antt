use Rattle.std.proofs.Common.{◌≤◌, ℕ, length, subst, arith}
use Rattle.std.specs.List.{All}
use Rattle.core_naming.specs.Names.{equation_names}
use Rattle.hept_ast.specs.Texts.{Name}
use Rattle.hept_ast.specs.declared.tree.CoreEquation.{CoreEquation}
use Rattle.hept_ast.specs.declared.tree.Decl.{Decl}
use Rattle.normal_form.specs.NewNames.{AreWithin}
use Rattle.normal_form.proofs.NewNames.{within_node}
use Rattle.normal_form.proofs.new_names.longest_in_node.Goals as goal

pub returns-clause-within : goal.returns-clause-within
returns-clause-within c =
    let a = c.max-name.result in
    let i = c.longest_declared-inputs.result in
    let o = c.longest_declared-outputs.result in
    let l = c.longest_declared-locals.result in
    let n = c.longest_in_equations.result in
    let own : length c.bytes.result.now ≤ a = omega arith in
    within_node c.args.node.now a i o l n (subst (λ (v : Name). length v ≤ a) c.bytes.ensures own)
    c.longest_declared-inputs.ensures.kept c.longest_declared-outputs.ensures.kept c.longest_declared-locals.ensures.kept c.longest_in_equations.ensures.kept
    (subst (All (λ (d : Decl). length d.name ≤ i)) c.as_slice.ensures c.longest_declared-inputs.ensures.within)
    (subst (All (λ (d : Decl). length d.name ≤ o)) c.as_slice-2.ensures c.longest_declared-outputs.ensures.within)
    (subst (All (λ (d : Decl). length d.name ≤ l)) c.as_slice-3.ensures c.longest_declared-locals.ensures.within)
    (subst (All (λ (e : CoreEquation). AreWithin n (equation_names e))) c.as_slice-4.ensures c.longest_in_equations.ensures.within)
