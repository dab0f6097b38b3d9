-- Two least assignments of a node agree on its variables.
use Rattle.std.proofs.Common.{◌≡◌, ℕ, suc, ◌+◌, ◌≤◌, List, [], ◌∷◌, ◌++◌, length, refl, sym, ◌∙◌, ap, arith, subst, Bool, true, false, if◌then◌else◌, ◌||◌}
use Rattle.std.specs.Prelude.{Option, Some, None, is_some, slice_get, reverse, sum_by}
use Rattle.std.proofs.Math.Path.{fun_ext}
use Rattle.std.proofs.lemmas.List.{reverse-append, reverse-reverse, length-reverse}
use Rattle.std.proofs.lemmas.List.Sums.{sum_by-cons, sum_by-le-sum_by}
use Rattle.std.proofs.lemmas.Slice.Eq.{bytes_eq-Decides}
use Rattle.hept_ast.specs.Clocks as clocks
use Rattle.hept_ast.specs.Clocks.{Assignment, AreClocks, AreLeastClocks, Base, Of, Inner, On, Condition, clock, Meets, conditions, total_length}
use Rattle.hept_ast.specs.Parts.{variables}
use Rattle.hept_ast.specs.Scopes.{Clock}
use Rattle.hept_ast.specs.Texts.{Name, same, is_in, names}
use Rattle.hept_ast.specs.ClockMaps.{ClockMap, clock_in, path_in, steps_or_none}
use Rattle.hept_ast.specs.Stages.{HasLeastClocks, declares_at, declares_in}
use Rattle.hept_ast.specs.declared.tree.Program.{Program}
use Rattle.hept_ast.specs.declared.tree.ClockPath.{ClockPath}
use Rattle.hept_ast.specs.declared.tree.ClockStep.{ClockStep}
use Rattle.hept_ast.specs.declared.tree.Decl.{Decl}
use Rattle.hept_ast.specs.declared.tree.Node.{Node}
use Rattle.clock_calculus.specs.Numbering.{same_step}
use Rattle.clock_calculus.proofs.Numbered.{step_same}
use Rattle.clock_calculus.proofs.Translated.{step_true}

-- ---- what two clocks have in common at their ends

abbrev common_front : Clock → Clock → Clock
common_front [] ys = []
common_front (x ∷ xs) [] = []
common_front (x ∷ xs) (y ∷ ys) = if same_step x y then x ∷ common_front xs ys else []

abbrev common : Clock → Clock → Clock
common xs ys = reverse (common_front (reverse xs) (reverse ys))

front_more : (s : ClockStep) (xs ys : Clock) → common_front (s ∷ xs) (s ∷ ys) ≡ s ∷ common_front xs ys
front_more s xs ys = ap (λ t. if t then s ∷ common_front xs ys else []) (step_same s)

-- a step behind both is in common
common_step : (xs ys : Clock) (s : ClockStep) → common (xs ++ s ∷ []) (ys ++ s ∷ []) ≡ common xs ys ++ s ∷ []
common_step xs ys s =
    ap (λ t. reverse (common_front t (reverse (ys ++ s ∷ [])))) (reverse-append xs (s ∷ []))
    ∙ ap (λ t. reverse (common_front (s ∷ reverse xs) t)) (reverse-append ys (s ∷ []))
    ∙ ap reverse (front_more s (reverse xs) (reverse ys))
    ∙ reverse-append (s ∷ []) (common_front (reverse xs) (reverse ys))

if_shorter : (t : Bool) (x : ClockStep) (zs : Clock) (n : ℕ) → length zs ≤ n → length (if t then x ∷ zs else []) ≤ suc n
if_shorter true x zs n h = omega (arith, h)
if_shorter false x zs n h = omega arith

front_shorter : (xs ys : Clock) → length (common_front xs ys) ≤ length xs
front_shorter [] ys = omega arith
front_shorter (x ∷ xs) [] = omega arith
front_shorter (x ∷ xs) (y ∷ ys) = if_shorter (same_step x y) x (common_front xs ys) (length xs) (front_shorter xs ys)

front_shorter_too : (xs ys : Clock) → length (common_front xs ys) ≤ length ys
front_shorter_too [] ys = omega arith
front_shorter_too (x ∷ xs) [] = omega arith
front_shorter_too (x ∷ xs) (y ∷ ys) = if_shorter (same_step x y) x (common_front xs ys) (length ys) (front_shorter_too xs ys)

common_shorter : (xs ys : Clock) → length (common xs ys) ≤ length xs
common_shorter xs ys =
    let h = front_shorter (reverse xs) (reverse ys) in
    let e = length-reverse (common_front (reverse xs) (reverse ys)) in
    let k = length-reverse xs in
    omega (arith, h, e, k)

common_shorter_too : (xs ys : Clock) → length (common xs ys) ≤ length ys
common_shorter_too xs ys =
    let h = front_shorter_too (reverse xs) (reverse ys) in
    let e = length-reverse (common_front (reverse xs) (reverse ys)) in
    let k = length-reverse ys in
    omega (arith, h, e, k)

one_more : (t : Bool) (x y : ClockStep) (xs ys zs : Clock) → same_step x y ≡ t → (length xs ≤ length zs → xs ≡ ys) → length (x ∷ xs) ≤ length (if t then x ∷ zs else []) → (x ∷ xs) ≡ (y ∷ ys)
one_more true x y xs ys zs e f h = ap (λ z. z ∷ xs) (step_true x y e) ∙ ap (λ l. y ∷ l) (f (omega (arith, h)))
one_more false x y xs ys zs e f h = absurd (omega (arith, h))

-- what is as long as the whole front of one, and not shorter than the other, is both
front_whole : (xs ys : Clock) → length xs ≤ length (common_front xs ys) → length ys ≤ length xs → xs ≡ ys
front_whole [] [] h k = refl
front_whole [] (y ∷ ys) h k = absurd (omega (arith, k))
front_whole (x ∷ xs) [] h k = absurd (omega (arith, h))
front_whole (x ∷ xs) (y ∷ ys) h k = one_more (same_step x y) x y xs ys (common_front xs ys) refl (λ l. front_whole xs ys l (omega (arith, k))) h

common_whole : (xs ys : Clock) → length xs ≤ length (common xs ys) → length ys ≤ length xs → xs ≡ ys
common_whole xs ys h k =
    let e = length-reverse (common_front (reverse xs) (reverse ys)) in
    let f = length-reverse xs in
    let g = length-reverse ys in
    sym (reverse-reverse xs) ∙ ap reverse (front_whole (reverse xs) (reverse ys) (omega (arith, h, e, f)) (omega (arith, k, f, g))) ∙ reverse-reverse ys

-- ---- the common ends of two assignments

abbrev common_of : Assignment → Assignment → Assignment
common_of a b = record { variable = λ x. common (a.variable x) (b.variable x); expression = λ n. common (a.expression n) (b.expression n) }

common_clock : (a b : Assignment) (t : clocks.Term) → clock (common_of a b) t ≡ common (clock a t) (clock b t)
common_clock a b Base = refl
common_clock a b (Of x) = refl
common_clock a b (Inner n) = refl
common_clock a b (On t tag x) =
    ap (λ p. p ++ record { tag = tag; name = x } ∷ []) (common_clock a b t) ∙ sym (common_step (clock a t) (clock b t) (record { tag = tag; name = x }))

-- they meet what both meet
common_meets : (a b : Assignment) (cs : List Condition) → Meets a cs → Meets b cs → Meets (common_of a b) cs
common_meets a b [] h k = tt
common_meets a b (c ∷ cs) h k = (
  common_clock a b c.left ∙ ap (λ p. common p (clock b c.left)) h.0 ∙ ap (λ p. common (clock a c.right) p) k.0 ∙ sym (common_clock a b c.right),
  common_meets a b cs h.1 k.1,
)

-- ---- least ones

by_name : (c d : Name → Clock) (e : Decl) (ds : List Decl) (x : Name) (t : Bool) → same x e.name ≡ t → length (c e.name) ≤ length (d e.name) → (is_in x (names ds) ≡ true → length (c x) ≤ length (d x))
    → (t || is_in x (names ds)) ≡ true → length (c x) ≤ length (d x)
by_name c d e ds x true s first others i = subst (λ z. length (c z) ≤ length (d z)) (sym ((bytes_eq-Decides x e.name).0 s)) first
by_name c d e ds x false s first others i = others i

-- none of a list is shorter where the sum isn't
none_shorter : (c d : Name → Clock) → ((x : Name) → length (d x) ≤ length (c x)) → (ds : List Decl) → sum_by (λ e. length (c e.name)) ds ≤ sum_by (λ e. length (d e.name)) ds
    → (x : Name) → is_in x (names ds) ≡ true → length (c x) ≤ length (d x)
none_shorter c d le [] h x i = absurd cc
none_shorter c d le (e ∷ ds) h x i =
    let m : Decl → ℕ = λ e. length (c e.name) in
    let n : Decl → ℕ = λ e. length (d e.name) in
    let rest : sum_by n ds ≤ sum_by m ds = sum_by-le-sum_by n m ds (λ e. le e.name) in
    let split_m : sum_by m (e ∷ ds) ≡ m e + sum_by m ds = sum_by-cons m e ds in
    let split_n : sum_by n (e ∷ ds) ≡ n e + sum_by n ds = sum_by-cons n e ds in
    let q : n e ≤ m e = le e.name in
    by_name c d e ds x (same x e.name) refl (omega (arith, h, rest, split_m, split_n)) (λ j. none_shorter c d le ds (omega (arith, h, q, split_m, split_n)) x j) i

pub least_agree : (node : Node) (c d : Name → Clock) → AreLeastClocks node c → AreLeastClocks node d → (x : Name) → is_in x (names (variables node)) ≡ true → c x ≡ d x
least_agree node c d p q x i = common_whole (c x) (d x) whole shorter
  where
    both : Name → Clock
    both x = common (c x) (d x)

    meets : AreClocks node both
    meets =
        let a : Assignment = record { variable = c; expression = p.meets.0 } in
        let b : Assignment = record { variable = d; expression = q.meets.0 } in
        ((common_of a b).expression, common_meets a b (conditions node) p.meets.1 q.meets.1)

    whole : length (c x) ≤ length (both x)
    whole = none_shorter c both (λ y. common_shorter (c y) (d y)) (variables node) (p.least both meets) x i

    shorter : length (d x) ≤ length (c x)
    shorter =
        let h = none_shorter d both (λ y. common_shorter_too (c y) (d y)) (variables node) (q.least both meets) x i in
        let k = common_shorter_too (c x) (d x) in
        let l = common_shorter (c x) (d x) in
        omega (arith, h, k, l)

-- ---- maps of clocks

none_clock : (o : Option ClockPath) → is_some o ≡ false → steps_or_none o ≡ []
none_clock None e = refl
none_clock (Some path) e = absurd cc

same_clock : (program : Program) (m n : ClockMap) → HasLeastClocks program m → HasLeastClocks program n → (j : ℕ) (x : Name) → clock_in m j x ≡ clock_in n j x
same_clock program m n h k j x = by_node (slice_get program.nodes j) refl
  where
    not_declared : declares_at program.nodes j x ≡ false → clock_in m j x ≡ clock_in n j x
    not_declared f = none_clock (path_in m j x) (h.exact j x ∙ f) ∙ sym (none_clock (path_in n j x) (k.exact j x ∙ f))

    by_name : (node : Node) → slice_get program.nodes j ≡ Some node → (t : Bool) → is_in x (names (variables node)) ≡ t → clock_in m j x ≡ clock_in n j x
    by_name node e true i = least_agree node (clock_in m j) (clock_in n j) (h.least j node e) (k.least j node e) x i
    by_name node e false i = not_declared (ap (λ o. declares_in o x) e ∙ i)

    by_node : (o : Option Node) → slice_get program.nodes j ≡ o → clock_in m j x ≡ clock_in n j x
    by_node None e = not_declared (ap (λ o. declares_in o x) e)
    by_node (Some node) e = by_name node e (is_in x (names (variables node))) refl

pub maps_agree : (program : Program) (m n : ClockMap) → HasLeastClocks program m → HasLeastClocks program n → clock_in m ≡ clock_in n
maps_agree program m n h k = fun_ext (λ j. fun_ext (λ x. same_clock program m n h k j x))
