-- What stands around a part, as code holds it.
use Rattle.std.specs.Prelude.{List, map}
use Rattle.hept_ast.specs.Texts.{Name}
use Rattle.hept_ast.specs.Clocks.{own_names}
use Rattle.hept_ast.specs.Parts.{Branch_of, Body_of, State_of, Surroundings, seen_at, strong_of_all}
use Rattle.hept_ast.specs.Parts as parts
use Rattle.hept_ast.specs.declared.tree.Decl.{Decl}
use Rattle.clock_calculus.specs.declared.scope.Around as around
use Rattle.clock_calculus.specs.declared.scope.Around.TheVariants as variant
use Rattle.clock_calculus.specs.declared.scope.Scope.{Scope}

abbrev pub around_of : around.Around → parts.Around
around_of (variant.Branch on locals) = Branch_of on.now locals.now
around_of (variant.Body every locals) = Body_of every.now locals.now
around_of (variant.State states locals) = State_of (strong_of_all states.now) locals.now

abbrev pub site_of : Scope → Surroundings
site_of s = map around_of s.site.items

-- what a scope declares itself, and what is seen in it
abbrev pub own_of : Scope → List Name
own_of s = own_names s.node.now (site_of s)

abbrev pub seen_of : Scope → List Decl
seen_of s = seen_at s.node.now (site_of s)
