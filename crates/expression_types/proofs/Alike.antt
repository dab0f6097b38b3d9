-- Operands of one type, one after the other.
use Rattle.std.proofs.Common.{◌≡◌, Bool, true, false, List, [], ◌∷◌, ◌++◌, length, refl, sym, ◌∙◌, ap, arith}
use Rattle.std.specs.Prelude.{Option, None, Some, ◌==◌, ◌&&◌}
use Rattle.std.specs.Option.{option_map}
use Rattle.std.proofs.lemmas.Bool.Decides.{nat_tests}
use Rattle.std.proofs.lemmas.List.Folds.{list_all-append}
use Rattle.hept_ast.specs.Types.{Misfit, Untyped, alike, all_are, fits_if, same_types}
use Rattle.hept_ast.specs.Faults.{append_types, pair_types}
use Rattle.hept_ast.specs.declared.tree.Ty.{Ty}
use Rattle.expression_types.specs.Fits.{also_alike, alike_with, given, is_one}

and_true : (b : Bool) → b && true ≡ b
and_true true = refl
and_true false = refl

-- where one type is given
alike_step : (s : Ty) (u : List Ty) (b : Bool) → fits_if (b && (is_one s u && true)) (s ∷ []) ≡ alike_with (fits_if b (s ∷ [])) u
alike_step s u true = ap (λ b. fits_if b (s ∷ [])) (and_true (is_one s u))
alike_step s u false = refl

many : (t : List Ty) (b : Bool) → (length t == 1) ≡ false → fits_if (length t == 1 && b) t ≡ Misfit
many t b e = rw e refl

-- one more operand
pub alike-more : (ts : List (List Ty)) (u : List Ty) → alike (ts ++ u ∷ []) ≡ alike_with (alike ts) u
alike-more [] u = ap (λ b. fits_if b u) (and_true (length u == 1))
alike-more ([] ∷ rest) u = refl
alike-more ((s ∷ []) ∷ rest) u = ap (λ b. fits_if b (s ∷ [])) (list_all-append (same_types (s ∷ [])) rest (u ∷ [])) ∙ alike_step s u (all_are (s ∷ []) rest)
alike-more ((s ∷ t ∷ ts) ∷ rest) u =
    let e : (length (s ∷ t ∷ ts) == 1) ≡ false = grind (arith, nat_tests) in
    many (s ∷ t ∷ ts) _ e ∙ sym (ap (λ f. alike_with f u) (many (s ∷ t ∷ ts) (all_are (s ∷ t ∷ ts) rest) e))

pub given-more : (xs : List (Option (List Ty))) (a : Option (List Ty)) → given (xs ++ a ∷ []) ≡ append_types (given xs) (given (a ∷ []))
given-more [] None = refl
given-more [] (Some t) = refl
given-more (None ∷ xs) a = refl
given-more (Some s ∷ xs) None = ap (pair_types (Some s)) (given-more xs None) ∙ paired s (given xs)
  where
    paired : (s : List Ty) (q : Option (List (List Ty))) → pair_types (Some s) (append_types q None) ≡ append_types (pair_types (Some s) q) None
    paired s None = refl
    paired s (Some ts) = refl
given-more (Some s ∷ xs) (Some t) = ap (pair_types (Some s)) (given-more xs (Some t)) ∙ paired s t (given xs)
  where
    paired : (s t : List Ty) (q : Option (List (List Ty))) → pair_types (Some s) (append_types q (Some (t ∷ []))) ≡ append_types (pair_types (Some s) q) (Some (t ∷ []))
    paired s t None = refl
    paired s t (Some ts) = refl

alike_given : (q : Option (List (List Ty))) (a : Option (List Ty)) → option_map alike (append_types q (given (a ∷ []))) ≡ also_alike (option_map alike q) a
alike_given None None = refl
alike_given None (Some t) = refl
alike_given (Some ts) None = refl
alike_given (Some ts) (Some t) = ap Some (alike-more ts t)

-- one more operand, which may have no type
pub also_alike-given : (xs : List (Option (List Ty))) (a : Option (List Ty)) → option_map alike (given (xs ++ a ∷ [])) ≡ also_alike (option_map alike (given xs)) a
also_alike-given xs a = ap (option_map alike) (given-more xs a) ∙ alike_given (given xs) a

pub alike-one : (a : Option (List Ty)) → also_alike (Some Untyped) a ≡ option_map alike (given (a ∷ []))
alike-one a = sym (also_alike-given [] a)

pub alike-two : (a b : Option (List Ty)) → also_alike (also_alike (Some Untyped) a) b ≡ option_map alike (given (a ∷ b ∷ []))
alike-two a b = ap (λ q. also_alike q b) (alike-one a) ∙ sym (also_alike-given (a ∷ []) b)

pub ruleset alike_operands = (alike-one, alike-two)
