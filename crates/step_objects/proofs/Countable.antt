-- The values of a type that a program declares are few.
use Rattle.std.proofs.Common.{◌≡◌, ℕ, ◌<◌, ◌^◌, true, false, cond, All, List, [], ◌∷◌, length, get_or, zero, suc, sym, subst, arith}
use Rattle.hept_ast.specs.Texts.{Name, same}
use Rattle.hept_ast.specs.Types.{constructors_of}
use Rattle.hept_ast.specs.declared.tree.TypeDec.{TypeDec}
use Rattle.hept_ast.specs.declared.tree.Decl.{Decl}
use Rattle.hept_ast.specs.declared.tree.Ty.{Ty}
use Rattle.hept_ast.specs.declared.tree.Ty.TheVariants as ty
use Rattle.hept_ast.specs.declared.tree.Plain.{Plain}
use Rattle.hept_ast.specs.declared.tree.Plain.TheVariants.{Int, Bool as Truth, Named}
use Rattle.step_objects.specs.declared.shape.Values.{Values}
use Rattle.step_objects.specs.Shapes.{HasFewConstructors, IsCountable, values_of_plain, values_of, shape_of}

few_constructors : (types : List TypeDec) (t : Name) → All HasFewConstructors types → length (constructors_of types t) < 2 ^ 32
few_constructors [] t h = omega arith
few_constructors (d ∷ ds) t h = elim (same t d.name) as (λ b. length (cond b d.constructors (constructors_of ds t)) < 2 ^ 32) [
  | true ↦ h 0 d (omega arith)
  | false ↦ few_constructors ds t (λ k e l. h (suc k) e (omega arith))
]

few_plain : (types : List TypeDec) (t : Plain) → All HasFewConstructors types → IsCountable (values_of_plain types t)
few_plain types Int h = omega arith
few_plain types Truth h = omega arith
few_plain types (Named t) h = omega (arith, few_constructors types t h)

few_values : (types : List TypeDec) (t : Ty) → All HasFewConstructors types → IsCountable (values_of types t)
few_values types (ty.Plain t) h = few_plain types t h
few_values types (ty.Future t) h = few_plain types t h

countable_at : (types : List TypeDec) (ds : List Decl) → All HasFewConstructors types → (k : ℕ) (values : Values) → k < length (shape_of types ds) → IsCountable (get_or (shape_of types ds) k values)
countable_at types [] h k values l = absurd (omega arith)
countable_at types (d ∷ ds) h zero values l = few_values types d.ty h
countable_at types (d ∷ ds) h (suc k) values l = countable_at types ds h k values (omega arith)

pub countable : (types : List TypeDec) (ds : List Decl) (cells : List Values) → cells ≡ shape_of types ds → All HasFewConstructors types → All IsCountable cells
countable types ds cells e h = subst (λ (cells : List Values). All IsCountable cells) (sym e) (countable_at types ds h)
