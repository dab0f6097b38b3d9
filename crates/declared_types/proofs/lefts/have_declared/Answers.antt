use Rattle.std.proofs.Common.{map, ◌∙◌}
use Rattle.std.proofs.lemmas.List.{length-map}
use Rattle.hept_ast.specs.Types.{types_of}
use Rattle.hept_ast.specs.declared.tree.Decl.{Decl}
use Rattle.declared_types.proofs.LeftTypes.{have_others}
use Rattle.declared_types.proofs.lefts.have_declared.Goals as goal

pub returns-then-names-decls : goal.returns-then-names-decls
returns-then-names-decls c =
    have_others (map (λ r. r.now) c.args.seen.now) c.args.names.now (types_of c.args.decls.now) (λ e. c.if-names-decls.true (e ∙ length-map c.args.decls.now (λ (d : Decl). d.ty)))
