-- Look-ups in what stands around a part.
use Rattle.std.proofs.Common.{◌≡◌, ℕ, ◌+◌, ◌<◌, List, [], ◌∷◌, ◌++◌, length, map, take, drop, get_or, refl, sym, ◌∙◌, ap, arith, Bool, true, false, ◌||◌, Some, None, append_assoc, append-nil}
use Rattle.std.specs.Option.{option_or}
use Rattle.std.proofs.lemmas.List.{at_drop_more, take_all, take_more}
use Rattle.std.proofs.lemmas.List.Folds.{find-append, list_any-append}
use Rattle.hept_ast.specs.Texts.{Name, is_in, same}
use Rattle.hept_ast.specs.Clocks.{own_names}
use Rattle.hept_ast.specs.Parts.{declaration, locals_around}
use Rattle.hept_ast.specs.declared.tree.Node.{Node}
use Rattle.clock_calculus.specs.Sites.{around_of}
use Rattle.clock_calculus.specs.declared.scope.Around as around
use Rattle.clock_calculus.specs.declared.scope.Around.TheVariants as variant

-- what is declared from a block outwards
pub own_from : (node : Node) (x : Name) (xs : List around.Around) (i : ℕ) (a : around.Around) → i < length xs → a ≡ get_or xs i a
    → is_in x (own_names node (map around_of (drop i xs))) ≡ is_in x (own_names node (around_of a ∷ map around_of (drop (i + 1) xs)))
own_from node x xs i a below e =
    at_drop_more (λ t. is_in x (own_names node (map around_of t))) xs i a below ∙ ap (λ b. is_in x (own_names node (around_of b ∷ map around_of (drop (i + 1) xs)))) (sym e)

-- what some blocks declare, and one more
locals_mapped : (a : around.Around) (xs : List around.Around) → locals_around (map around_of (a ∷ xs)) ≡ locals_around (around_of a ∷ []) ++ locals_around (map around_of xs)
locals_mapped (variant.Branch on locals) xs = ap (λ t. t ++ locals_around (map around_of xs)) (sym (append-nil locals.now))
locals_mapped (variant.Body every locals) xs = ap (λ t. t ++ locals_around (map around_of xs)) (sym (append-nil locals.now))
locals_mapped (variant.State states locals) xs = ap (λ t. t ++ locals_around (map around_of xs)) (sym (append-nil locals.now))

locals_append : (xs ys : List around.Around) → locals_around (map around_of (xs ++ ys)) ≡ locals_around (map around_of xs) ++ locals_around (map around_of ys)
locals_append [] ys = refl
locals_append (a ∷ xs) ys =
    locals_mapped a (xs ++ ys) ∙ ap (λ t. locals_around (around_of a ∷ []) ++ t) (locals_append xs ys) ∙ sym (append_assoc (locals_around (around_of a ∷ [])) (locals_around (map around_of xs)) (locals_around (map around_of ys)))
    ∙ ap (λ t. t ++ locals_around (map around_of ys)) (sym (locals_mapped a xs))

pub declared_more : (x : Name) (xs : List around.Around) (i : ℕ) (a : around.Around) → i < length xs → a ≡ get_or xs i a
    → declaration (locals_around (map around_of (take (i + 1) xs))) x ≡ option_or (declaration (locals_around (map around_of (take i xs))) x) (declaration (locals_around (around_of a ∷ [])) x)
declared_more x xs i a below e =
    ap (λ t. declaration (locals_around (map around_of t)) x) (take_more xs i a below)
    ∙ ap (λ t. declaration t x) (locals_append (take i xs) (get_or xs i a ∷ []))
    ∙ find-append (λ d. same x d.name) (locals_around (map around_of (take i xs))) (locals_around (map around_of (get_or xs i a ∷ [])))
    ∙ ap (λ b. option_or (declaration (locals_around (map around_of (take i xs))) x) (declaration (locals_around (around_of b ∷ [])) x)) (sym e)

pub ruleset scopes = (own_from, list_any-append)

pub ruleset declarations = (declared_more, find-append, take_all)
