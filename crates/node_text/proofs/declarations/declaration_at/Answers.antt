use Rattle.std.proofs.Common.{sym, ◌∙◌, ap, map}
use Rattle.std.specs.Option.{option_or}
use Rattle.std.proofs.lemmas.List.Folds.{find-append}
use Rattle.hept_ast.specs.Texts.{same}
use Rattle.hept_ast.specs.Parts.{declaration}
use Rattle.hept_ast.specs.declared.tree.Decl.{Decl}
use Rattle.node_text.proofs.declarations.declaration_at.Goals as goal

pub returns-in-Some : goal.returns-in-Some
returns-in-Some c =
    sym (find-append (λ (d : Decl). same c.args.name.now d.name) (map (λ r. r.now) c.args.inner.now) (map (λ r. r.now) c.args.own.now)
    ∙ ap (λ o. option_or o (declaration (map (λ r. r.now) c.args.own.now) c.args.name.now)) (sym c.in-Some.ensures))

pub returns-in-None : goal.returns-in-None
returns-in-None c =
    c.declaration-in-None.ensures
    ∙ sym (find-append (λ (d : Decl). same c.args.name.now d.name) (map (λ r. r.now) c.args.inner.now) (map (λ r. r.now) c.args.own.now)
    ∙ ap (λ o. option_or o (declaration (map (λ r. r.now) c.args.own.now) c.args.name.now)) (sym c.in-None.ensures))
