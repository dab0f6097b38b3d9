-- What operands give, and whether they fit, as code finds it.
use Rattle.std.specs.Prelude.{ℕ, Bool, true, false, if◌then◌else◌, ◌==◌, List, [], ◌∷◌, length, Option, None, Some}
use Rattle.hept_ast.specs.Types.{Fit, Fits, Misfit, Untyped, all_are, fits_if, same_types}
use Rattle.hept_ast.specs.Faults.{Fault, Mismatch, pair_types}
use Rattle.hept_ast.specs.declared.tree.Ty.{Ty}
use Rattle.declared_types.specs.Types.{types_in}
use Rattle.expression_types.specs.declared.fits.Fit.{Fit as HeldFit}
use Rattle.expression_types.specs.declared.fits.Fit.TheVariants as held

abbrev pub fit_of : HeldFit → Fit
fit_of (held.Fits ts) = Fits (types_in ts)
fit_of held.Misfit = Misfit
fit_of held.Untyped = Untyped

-- what operands give, where each has types
abbrev pub given : List (Option (List Ty)) → Option (List (List Ty))
given [] = Some []
given (a ∷ rest) = pair_types a (given rest)

-- whether an expression gives just this type
abbrev pub is_one : Ty → List Ty → Bool
is_one s ts = same_types (s ∷ []) ts

-- operands that are all to be of a known type
abbrev pub all_fit : (wanted gives : Ty) → List (List Ty) → Fit
all_fit wanted gives ts = fits_if (all_are (wanted ∷ []) ts) (gives ∷ [])

-- one more operand of those that are to be of one type
abbrev pub alike_with : Fit → List Ty → Fit
alike_with Untyped t = fits_if (length t == 1) t
alike_with (Fits (s ∷ [])) t = fits_if (is_one s t) (s ∷ [])
alike_with (Fits ss) t = Misfit
alike_with Misfit t = Misfit

abbrev pub also_alike : Option Fit → Option (List Ty) → Option Fit
also_alike (Some f) (Some t) = Some (alike_with f t)
also_alike _ _ = None

-- ---- a construct's own faults, and its mismatch

abbrev pub stands : List Fault → Bool
stands [] = false
stands (f ∷ fs) = true

abbrev pub mismatch : ℕ → Option Fit → List Fault
mismatch p (Some Misfit) = record { place = p; kind = Mismatch } ∷ []
mismatch p _ = []

-- the types that an expression gives, by how its operands fit and whether a fault of its own stands
abbrev pub settled : Option Fit → (own : Bool) → Option (List Ty)
settled (Some (Fits ts)) own = if own then None else Some ts
settled _ own = None
