-- Types of expressions as code holds them.
use Rattle.std.specs.Prelude.{List, [], ◌∷◌, map, Option, None, Some}
use Rattle.hept_ast.specs.Types.{future_of, types_of}
use Rattle.hept_ast.specs.declared.tree.Ty.{Ty}
use Rattle.hept_ast.specs.declared.tree.Ty.TheVariants as ty
use Rattle.declared_types.specs.Typing.{plain_of}
use Rattle.declared_types.specs.declared.given.«Type».{«Type» as HeldType}
use Rattle.declared_types.specs.declared.given.«Type».TheVariants as held
use Rattle.declared_types.specs.declared.given.Types.{Types as HeldTypes}
use Rattle.declared_types.specs.declared.given.Types.TheVariants.{One, Outputs, Futures}

abbrev pub type_in : HeldType → Ty
type_in (held.Plain t) = ty.Plain (plain_of t)
type_in (held.Future t) = ty.Future (plain_of t)

abbrev pub types_in : HeldTypes → List Ty
types_in (One t) = type_in t ∷ []
types_in (Outputs ds) = types_of ds.now
types_in (Futures ds) = map future_of (types_of ds.now)

-- the one element of a list
abbrev pub only : {A : Type 0} → List A → Option A
only (x ∷ []) = Some x
only _ = None
