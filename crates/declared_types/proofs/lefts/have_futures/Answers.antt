use Rattle.std.proofs.Common.{map, ◌∙◌}
use Rattle.std.proofs.lemmas.List.{length-map}
use Rattle.hept_ast.specs.Types.{future_of, types_of}
use Rattle.hept_ast.specs.declared.tree.Decl.{Decl}
use Rattle.declared_types.proofs.LeftTypes.{have_others}
use Rattle.declared_types.proofs.lefts.have_futures.Goals as goal

pub returns-then-names-decls : goal.returns-then-names-decls
returns-then-names-decls c =
    have_others (map (λ r. r.now) c.args.seen.now) c.args.names.now (map future_of (types_of c.args.decls.now))
    (λ e. c.if-names-decls.true (e ∙ (length-map (types_of c.args.decls.now) future_of ∙ length-map c.args.decls.now (λ (d : Decl). d.ty))))
