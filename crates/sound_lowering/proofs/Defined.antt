-- Names on left sides that are defined once, in lists.
use Rattle.std.proofs.Common.{◌≡◌, Bool, true, false, ◌||◌, List, [], ◌∷◌, ◌++◌, map, Contains, refl, ap}
use Rattle.std.specs.List.{flat_map, list_any}
use Rattle.std.proofs.lemmas.List.Elements.{All-contains}
use Rattle.hept_ast.specs.Texts.{Name, is_in}
use Rattle.hept_ast.specs.Parts.{equation_case, place_of, sets_of}
use Rattle.hept_ast.specs.Paths.{AllDiffer, IsAmong, at_head, in_tail}
use Rattle.hept_ast.specs.Faults.{Duplicate, fault, second_definitions}
use Rattle.hept_ast.specs.declared.tree.Equation.{Equation}
use Rattle.sound_expressions.specs.Demands.{NamesDiffer}
use Rattle.sound_expressions.proofs.Lists.{nil_left, nil_right, no_fault, any_false, same_self}
use Rattle.accepted_meaning.proofs.TextLists.{contains_here, contains_there, contains_is_in, is_in_left, is_in_right, not_both}
use Rattle.naming_rules.proofs.Names.{out_both}

head_in : (x : Name) (xs : List Name) → is_in x (x ∷ xs) ≡ true
head_in x xs = ap (λ (b : Bool). b || is_in x xs) (same_self x)

tail_in : (x y : Name) (xs : List Name) → is_in x xs ≡ true → is_in x (y ∷ xs) ≡ true
tail_in x y xs h = is_in_right x (y ∷ []) xs h

differ_both : (xs ys : List Name) → NamesDiffer xs → NamesDiffer ys → ((x : Name) → is_in x xs ≡ true → is_in x ys ≡ false) → NamesDiffer (xs ++ ys)
differ_both [] ys a b h = b
differ_both (x ∷ xs) ys a b h = (out_both x xs ys a.0 (h x (head_in x xs)), differ_both xs ys a.1 b (λ z i. h z (tail_in z x xs i)))

among_in : (x : Name) (xs : List Name) → IsAmong x xs → is_in x xs ≡ true
among_in x _ (at_head {rest = rest}) = head_in x rest
among_in x _ (in_tail {other = y} {rest = rest} i) = tail_in x y rest (among_in x rest i)

pub all_differ : (xs : List Name) → NamesDiffer xs → AllDiffer xs
all_differ [] h = tt
all_differ (x ∷ xs) h = (λ i. not_both (is_in x xs) (among_in x xs i) h.0, all_differ xs h.1)

-- ---- the equations of a block define no name twice

not_before : (x : Name) (earlier sets : List Name) → is_in x earlier ≡ true → list_any (λ y. is_in y earlier) sets ≡ false → is_in x sets ≡ false
not_before x earlier sets h none = go (is_in x sets) refl
  where
    go : (b : Bool) → is_in x sets ≡ b → b ≡ false
    go true e = not_both (is_in x earlier) h (All-contains (λ y. is_in y earlier ≡ false) sets x (any_false (λ y. is_in y earlier) sets none) (contains_is_in x sets e))
    go false e = refl

pub defined_once : (earlier : List Name) (es : List Equation) → second_definitions earlier (map equation_case es) ≡ [] → ((e : Equation) → Contains es e → NamesDiffer (sets_of e)) →
    NamesDiffer (flat_map sets_of es) × ((x : Name) → is_in x earlier ≡ true → is_in x (flat_map sets_of es) ≡ false)
defined_once earlier [] e h = (tt, λ x i. refl)
defined_once earlier (q ∷ qs) e h =
    let test = list_any (λ x. is_in x earlier) (sets_of q) in
    let here = fault (place_of q) Duplicate test in
    let later = second_definitions (sets_of q ++ earlier) (map equation_case qs) in
    let none = no_fault (place_of q) Duplicate test (nil_left here later e) in
    let rest = defined_once (sets_of q ++ earlier) qs (nil_right here later e) (λ f i. h f (contains_there q f qs i)) in (
      differ_both (sets_of q) (flat_map sets_of qs) (h q (contains_here q qs)) rest.0 (λ x i. rest.1 x (is_in_left x (sets_of q) earlier i)),
      λ x i. out_both x (sets_of q) (flat_map sets_of qs) (not_before x earlier (sets_of q) i none) (rest.1 x (is_in_right x (sets_of q) earlier i)),
    )
