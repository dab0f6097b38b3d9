-- Numbers of variables and steps.
use Rattle.std.proofs.Common.{◌≡◌, ℕ, ◌+◌, ◌<◌, List, [], ◌∷◌, ◌++◌, ◌&&◌, ◌||◌, take, subst, slice_index_or, length, map, refl, sym, ◌∙◌, ap, Bool, true, false, not, cond, Some, None, nat_lt}
use Rattle.std.specs.Prelude.{position, All}
use Rattle.std.specs.List.{list_any, prefix_len}
use Rattle.std.proofs.lemmas.Slice.Eq.{bytes_eq-Decides}
use Rattle.std.proofs.lemmas.List.Elements.{All-more, All-weaker, All-head, All-tail}
use Rattle.std.proofs.lemmas.List.Folds.{list_any-append}
use Rattle.hept_ast.specs.Clocks.{Term, Base, Of, Inner, On}
use Rattle.hept_ast.specs.Texts.{Name, same}
use Rattle.hept_ast.specs.Types.{same_tag}
use Rattle.hept_ast.specs.declared.tree.ClockStep.{ClockStep}
use Rattle.hept_ast.specs.declared.tree.Tag.{Tag}
use Rattle.hept_ast.specs.declared.tree.Tag.TheVariants as tag
use Rattle.clock_calculus.specs.Numbering.{IsKnownToo, KnowsStep, same_step, step_of}
use Rattle.clock_calculus.specs.Written.{base_term, clock_term, condition_of, stepped}
use Rattle.clock_calculus.specs.declared.conditions.Base as base
use Rattle.clock_calculus.specs.declared.conditions.Base.TheVariants as variant
use Rattle.clock_calculus.specs.declared.conditions.Clock.{Clock}
use Rattle.clock_calculus.specs.declared.conditions.Condition.{Condition}
use Rattle.clock_calculus.specs.declared.conditions.Step.{Step}
use Rattle.clock_calculus.proofs.Translated.{KnowsAll}
use Rattle.std.proofs.lemmas.List.{length-map}

prefix_mapped : {A B : Type 0} (p : B → Bool) (f : A → B) (xs : List A) → prefix_len p (map f xs) ≡ prefix_len (λ x. p (f x)) xs
prefix_mapped p f [] = refl
prefix_mapped p f (x ∷ xs) = ap (λ t. cond (p (f x)) (1 + t) 0) (prefix_mapped p f xs)

-- the position of what an element is mapped to
pub position_mapped : {A B : Type 0} (p : B → Bool) (f : A → B) (xs : List A) → position p (map f xs) ≡ position (λ x. p (f x)) xs
position_mapped p f xs =
    ap (λ n. cond (nat_lt n (length (map f xs))) (Some n) None) (prefix_mapped (λ y. not (p y)) f xs) ∙ ap (λ n. cond (nat_lt (prefix_len (λ x. not (p (f x))) xs) n) (Some (prefix_len (λ x. not (p (f x))) xs)) None) (length-map xs f)

-- a test of what an element is mapped to
pub any_mapped : {A B : Type 0} (p : B → Bool) (f : A → B) (xs : List A) → list_any p (map f xs) ≡ list_any (λ x. p (f x)) xs
any_mapped p f [] = refl
any_mapped p f (x ∷ xs) = ap (λ t. p (f x) || t) (any_mapped p f xs)

pub ruleset numbers = (position_mapped, any_mapped)

-- ---- steps

same_bool : (b : Bool) → same_tag (tag.Truth b) (tag.Truth b) ≡ true
same_bool true = refl
same_bool false = refl

tag_same : (t : Tag) → same_tag t t ≡ true
tag_same (tag.Truth b) = same_bool b
tag_same (tag.Constructor x) = (bytes_eq-Decides x x).1 refl

pub step_same : (s : ClockStep) → same_step s s ≡ true
step_same s = ap (λ t. t && same s.name s.name) (tag_same s.tag) ∙ (bytes_eq-Decides s.name s.name).1 refl

or_second : (a b : Bool) → b ≡ true → (a || b) ≡ true
or_second true b e = refl
or_second false b e = e

pub kept_after : (xs ys : List ClockStep) → IsKnownToo xs (xs ++ ys)
kept_after xs ys s e = list_any-append (same_step s) xs ys ∙ ap (λ t. t || list_any (same_step s) ys) e

pub known_last : (xs : List ClockStep) (s : ClockStep) → list_any (same_step s) (xs ++ s ∷ []) ≡ true
known_last xs s = list_any-append (same_step s) xs (s ∷ []) ∙ or_second (list_any (same_step s) xs) (same_step s s || false) (ap (λ t. t || false) (step_same s))

-- what is known stays known
pub still_known : (xs ys : List ClockStep) → IsKnownToo xs ys → (t : Term) → KnowsStep xs t → KnowsStep ys t
still_known xs ys h Base k = tt
still_known xs ys h (Of x) k = tt
still_known xs ys h (Inner n) k = tt
still_known xs ys h (On t tag x) k = (still_known xs ys h t k.0, h (record { tag = tag; name = x }) k.1)

base_known : (xs : List ClockStep) (b : base.Base) → KnowsStep xs (base_term b)
base_known xs variant.Empty = tt
base_known xs (variant.Variable x) = tt
base_known xs (variant.Expression n) = tt

pub bare_known : (xs : List ClockStep) (c : Clock) → c.step ≡ None → KnowsStep xs (clock_term c)
bare_known xs c e = subst (λ o. KnowsStep xs (stepped (base_term c.base) o)) (sym e) (base_known xs c.base)

pub stepped_known : (xs : List ClockStep) (c : Clock) (s : Step) → c.step ≡ Some s → list_any (same_step (step_of s)) xs ≡ true → KnowsStep xs (clock_term c)
stepped_known xs c s e k = subst (λ o. KnowsStep xs (stepped (base_term c.base) o)) (sym e) (base_known xs c.base, k)

pub known_more : (xs ys : List ClockStep) (cs : List Condition) (i : ℕ) (c : Condition) → i < length cs → c ≡ slice_index_or cs i c → IsKnownToo xs ys → KnowsStep ys (clock_term c.right)
    → All (λ c. KnowsStep xs (clock_term c.right)) (take i cs) → All (λ c. KnowsStep ys (clock_term c.right)) (take (i + 1) cs)
known_more xs ys cs i c below e h k all =
    let P : Condition → Type 0 = λ c. KnowsStep ys (clock_term c.right) in
    All-more P cs i c below (All-weaker (λ (c : Condition). KnowsStep xs (clock_term c.right)) P (λ c g. still_known xs ys h (clock_term c.right) g) (take i cs) all) (subst P e k)

pub known_all : (names : List Name) (xs : List ClockStep) (cs : List Condition) → All (λ c. KnowsStep xs (clock_term c.right)) cs → KnowsAll names xs (map condition_of cs)
known_all names xs [] h = tt
known_all names xs (c ∷ cs) h =
    let P : Condition → Type 0 = λ c. KnowsStep xs (clock_term c.right) in
    ((base_known xs c.left, All-head P c cs h), known_all names xs cs (All-tail P c cs h))
