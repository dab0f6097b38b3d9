-- The conditions that code holds, as the definition writes them.
use Rattle.std.specs.Prelude.{Option, Some, None}
use Rattle.hept_ast.specs.Clocks.{Term, Base, Of, Inner, On, Condition}
use Rattle.clock_calculus.specs.declared.conditions.Base as base
use Rattle.clock_calculus.specs.declared.conditions.Base.TheVariants as variant
use Rattle.clock_calculus.specs.declared.conditions.Step.{Step}
use Rattle.clock_calculus.specs.declared.conditions.Clock.{Clock}
use Rattle.clock_calculus.specs.declared.conditions.Condition as written

abbrev pub base_term : base.Base → Term
base_term variant.Empty = Base
base_term (variant.Variable x) = Of x.now
base_term (variant.Expression n) = Inner n

abbrev pub stepped : Term → Option Step → Term
stepped t None = t
stepped t (Some s) = On t s.tag.now s.name.now

abbrev pub clock_term : Clock → Term
clock_term c = stepped (base_term c.base) c.step

abbrev pub condition_of : written.Condition → Condition
condition_of c = record { place = c.place.0; left = base_term c.left; right = clock_term c.right }
