-- The values of constants and tags, which branch they choose, and inputs of rows.
use Rattle.std.proofs.Common.{◌≡◌, ℕ, zero, suc, ◌+◌, ◌-◌, ◌<◌, ◌^◌, Bool, true, false, ◌||◌, if◌then◌else◌, ◌==◌, IsTrue, List, [], ◌∷◌, ◌++◌, map, length, refl, sym, ap, subst, ◌∙◌, Contains, Option, Some, slice_get, slice_index, arith, pos, negsuc}
use Rattle.std.specs.List.{list_any, flat_map, find}
use Rattle.std.proofs.lemmas.Bool.{false≢true}
use Rattle.std.proofs.lemmas.Bool.Decides.{Decides-eqb}
use Rattle.std.proofs.lemmas.List.{length-map, get_or-map}
use Rattle.std.proofs.lemmas.List.Elements.{All-contains}
use Rattle.hept_ast.specs.Texts.{Name, same, is_in, place_in, constructor_value, tag_value}
use Rattle.hept_ast.specs.Values.{truth}
use Rattle.hept_ast.specs.Meaning.{Value, input_at}
use Rattle.hept_ast.specs.Types.{Plain_type, constructors_of, has_tags, same_tag, tags_of, type_of_constructor, type_of_tag}
use Rattle.hept_ast.specs.declared.tree.MergeBranch.{MergeBranch}
use Rattle.hept_ast.specs.declared.tree.TypeDec.{TypeDec}
use Rattle.hept_ast.specs.declared.tree.Decl.{Decl}
use Rattle.hept_ast.specs.declared.tree.Const.TheVariants.{Number, Truth, Constructor}
use Rattle.hept_ast.specs.declared.tree.Tag.{Tag}
use Rattle.hept_ast.specs.declared.tree.Tag.TheVariants as tag
use Rattle.hept_ast.specs.declared.tree.Ty.{Ty}
use Rattle.hept_ast.specs.declared.tree.Ty.TheVariants as ty
use Rattle.hept_ast.specs.declared.tree.Plain.TheVariants.{Int, Bool as Truth_value, Named}
use Rattle.hept_ast.specs.TypedValues.{IsValueOf, RowFits, RowsFit, plain_count, value_count}
use Rattle.sound_expressions.specs.Sound.{AreAllTags, IsTagOf, branch_tags}
use Rattle.sound_expressions.specs.Values.{ConstantsFit, MergesHaveBranches}
use Rattle.sound_expressions.specs.Demands.{NamesDiffer}
use Rattle.sound_expressions.proofs.Lists.{same_tag_is, is_in_left, is_in_right, or_left, or_right, same_is, same_self, same_type_is}

-- ---- places of names

place_of : (b : Bool) (r : Bool) (n m : ℕ) → (r ≡ true → n < m) → b || r ≡ true → (if b then 0 else n + 1) < suc m
place_of true r n m h e = omega arith
place_of false r n m h e = let k = h e in omega arith

pub place_small : (x : Name) (xs : List Name) → is_in x xs ≡ true → place_in x xs < length xs
place_small x [] e = absurd (false≢true e)
place_small x (y ∷ ys) e = place_of (same x y) (is_in x ys) (place_in x ys) (length ys) (place_small x ys) e

-- two names of a list at one place are equal
same_place_by : (x y z : Name) (zs : List Name) (b c : Bool) → same x z ≡ b → same y z ≡ c → (is_in x zs ≡ true → is_in y zs ≡ true → place_in x zs ≡ place_in y zs → x ≡ y) →
    b || is_in x zs ≡ true → c || is_in y zs ≡ true → (if b then 0 else place_in x zs + 1) ≡ (if c then 0 else place_in y zs + 1) → x ≡ y
same_place_by x y z zs true true s t later e f h = same_is x z s ∙ sym (same_is y z t)
same_place_by x y z zs true false s t later e f h = absurd (omega arith)
same_place_by x y z zs false true s t later e f h = absurd (omega arith)
same_place_by x y z zs false false s t later e f h = later e f (omega arith)

same_place : (x y : Name) (zs : List Name) → is_in x zs ≡ true → is_in y zs ≡ true → place_in x zs ≡ place_in y zs → x ≡ y
same_place x y [] e f h = absurd (false≢true e)
same_place x y (z ∷ zs) e f h = same_place_by x y z zs (same x z) (same y z) refl refl (same_place x y zs) e f h

-- ---- constructors of a type

-- a constructor by its type: where it stands there
record ConstructorOf (types : List TypeDec) (c : Name) (n : Name) : Type 0 where
  inside : is_in c (constructors_of types n) ≡ true
  value : constructor_value types c ≡ place_in c (constructors_of types n)
  declared : is_in n (map (λ d. d.name) types) ≡ true

constructor_by : (d : TypeDec) (ds : List TypeDec) (c n : Name) (b : Bool) → is_in c d.constructors ≡ b → is_in d.name (map (λ e. e.name) ds) ≡ false →
    (type_of_constructor ds c ≡ Some (Named n) → ConstructorOf ds c n) → (if b then Some (Named d.name) else type_of_constructor ds c) ≡ Some (Named n) → ConstructorOf (d ∷ ds) c n
constructor_by d ds c n true is other later e =
    let m : d.name ≡ n = cc in
    let s : same n d.name ≡ true = subst (λ (z : Name). same n z ≡ true) (sym m) (same_self n) in
    record {
      inside = ap (λ b. is_in c (if b then d.constructors else constructors_of ds n)) s ∙ is;
      value = ap (λ b. if b then place_in c d.constructors else constructor_value ds c) is ∙ sym (ap (λ b. place_in c (if b then d.constructors else constructors_of ds n)) s);
      declared = ap (λ b. b || is_in n (map (λ (e : TypeDec). e.name) ds)) s;
    }
constructor_by d ds c n false is other later e =
    let h = later e in
    let s : same n d.name ≡ false = unequal (same n d.name) refl h.declared in
    record {
      inside = ap (λ b. is_in c (if b then d.constructors else constructors_of ds n)) s ∙ h.inside;
      value = ap (λ b. if b then place_in c d.constructors else constructor_value ds c) is ∙ h.value ∙ sym (ap (λ b. place_in c (if b then d.constructors else constructors_of ds n)) s);
      declared = ap (λ b. b || is_in n (map (λ (e : TypeDec). e.name) ds)) s ∙ h.declared;
    }
  where
    unequal : (b : Bool) → same n d.name ≡ b → is_in n (map (λ (e : TypeDec). e.name) ds) ≡ true → b ≡ false
    unequal true s i = absurd (false≢true (sym other ∙ subst (λ (z : Name). is_in z (map (λ (e : TypeDec). e.name) ds) ≡ true) (same_is n d.name s) i))
    unequal false s i = refl

constructor_of : (types : List TypeDec) → NamesDiffer (map (λ d. d.name) types) → (c n : Name) → type_of_constructor types c ≡ Some (Named n) → ConstructorOf types c n
constructor_of [] differ c n e = cc
constructor_of (d ∷ ds) differ c n e = constructor_by d ds c n (is_in c d.constructors) refl differ.0 (constructor_of ds differ.1 c n) e

-- a constructor has a declared type
type_by : (b : Bool) (d : TypeDec) (rest : Option Plain_type) (t : Plain_type) → (rest ≡ Some t → (n : Name) × (t ≡ Named n)) → (if b then Some (Named d.name) else rest) ≡ Some t → (n : Name) × (t ≡ Named n)
type_by true d rest t later e = (d.name, sym some_is)
  where
    some_is : Named d.name ≡ t
    some_is = cc
type_by false d rest t later e = later e

constructor_type : (types : List TypeDec) (c : Name) (t : Plain_type) → type_of_constructor types c ≡ Some t → (n : Name) × (t ≡ Named n)
constructor_type [] c t e = cc
constructor_type (d ∷ ds) c t e = type_by (is_in c d.constructors) d (type_of_constructor ds c) t (constructor_type ds c t) e

-- ---- values fit

truth_small : (b : Bool) → truth b < 2
truth_small true = omega arith
truth_small false = omega arith

constructor_small : (types : List TypeDec) → NamesDiffer (map (λ d. d.name) types) → (c : Name) (t : Plain_type) → type_of_constructor types c ≡ Some t → constructor_value types c < plain_count types t
constructor_small types differ c t e =
    let (n, is) = constructor_type types c t e in
    let at = constructor_of types differ c n (e ∙ ap Some is) in
    subst (λ (s : Plain_type). constructor_value types c < plain_count types s) (sym is)
    (subst (λ (v : ℕ). v < length (constructors_of types n)) (sym at.value) (place_small c (constructors_of types n) at.inside))

-- the plain type of a truth value
same_some : {A : Type 0} {x y : A} → Some x ≡ Some y → x ≡ y
same_some e = cc

pub constant_fits : ConstantsFit
constant_fits types differ (Number (pos n)) t fits e = subst (λ (s : Plain_type). n < plain_count types s) (same_some e) (omega (arith, fits))
constant_fits types differ (Number (negsuc n)) t fits e = subst (λ (s : Plain_type). 2 ^ 32 - suc n < plain_count types s) (same_some e) (omega (arith, fits))
constant_fits types differ (Truth b) t fits e = subst (λ (s : Plain_type). truth b < plain_count types s) (same_some e) (truth_small b)
constant_fits types differ (Constructor x) t fits e = constructor_small types differ x t e

tag_small : (types : List TypeDec) → NamesDiffer (map (λ d. d.name) types) → (g : Tag) (t : Plain_type) → type_of_tag types g ≡ Some t → tag_value types g < plain_count types t
tag_small types differ (tag.Truth b) t e = subst (λ (s : Plain_type). truth b < plain_count types s) (same_some e) (truth_small b)
tag_small types differ (tag.Constructor x) t e = constructor_small types differ x t e

pub tag_fits : (types : List TypeDec) → NamesDiffer (map (λ d. d.name) types) → (g : Tag) (t : Ty) → IsTagOf types g t → IsValueOf types t (tag_value types g)
tag_fits types differ g t is =
    subst (λ (s : Ty). tag_value types g < value_count types s) (same_type_is (ty.Plain is.plain) t is.fits) (tag_small types differ g is.plain is.known)

-- ---- tags and their values

truth_is : (b c : Bool) → truth b ≡ truth c → b ≡ c
truth_is true true e = refl
truth_is true false e = absurd (omega arith)
truth_is false true e = absurd (omega arith)
truth_is false false e = refl

tags_by : (types : List TypeDec) → NamesDiffer (map (λ d. d.name) types) → (a b : Tag) (s t : Plain_type) → s ≡ t → type_of_tag types a ≡ Some s → type_of_tag types b ≡ Some t → tag_value types a ≡ tag_value types b → a ≡ b
tags_by types differ (tag.Truth a) (tag.Truth b) s t same_type_there e f v = ap tag.Truth (truth_is a b v)
tags_by types differ (tag.Truth a) (tag.Constructor y) s t same_type_there e f v =
    let (n, is) = constructor_type types y t f in
    absurd (other n (same_some e ∙ same_type_there ∙ is))
  where
    other : (n : Name) → Truth_value ≡ Named n → ⊥
    other n e = cc
tags_by types differ (tag.Constructor x) (tag.Truth b) s t same_type_there e f v =
    let (n, is) = constructor_type types x s e in
    absurd (other n (same_some f ∙ sym same_type_there ∙ is))
  where
    other : (n : Name) → Truth_value ≡ Named n → ⊥
    other n e = cc
tags_by types differ (tag.Constructor x) (tag.Constructor y) s t same_type_there e f v =
    let (n, is) = constructor_type types x s e in
    let left = constructor_of types differ x n (e ∙ ap Some is) in
    let right = constructor_of types differ y n (f ∙ ap Some (sym same_type_there ∙ is)) in
    ap tag.Constructor (same_place x y (constructors_of types n) left.inside right.inside (sym left.value ∙ v ∙ right.value))

-- two tags of a type are equal if their values are
pub tags_differ : (types : List TypeDec) → NamesDiffer (map (λ d. d.name) types) → (a b : Tag) (t : Ty) → IsTagOf types a t → IsTagOf types b t → tag_value types a ≡ tag_value types b → a ≡ b
tags_differ types differ a b t is_a is_b v = tags_by types differ a b is_a.plain is_b.plain same_plain_there is_a.known is_b.known v
  where
    plain_of : (s t : Plain_type) → ty.Plain s ≡ ty.Plain t → s ≡ t
    plain_of s t e = cc

    same_plain_there : is_a.plain ≡ is_b.plain
    same_plain_there = plain_of is_a.plain is_b.plain (same_type_is (ty.Plain is_a.plain) t is_a.fits ∙ sym (same_type_is (ty.Plain is_b.plain) t is_b.fits))

-- ---- the tag of a value

pub differ_left : (xs ys : List Name) → NamesDiffer (xs ++ ys) → NamesDiffer xs
differ_left [] ys h = tt
differ_left (x ∷ xs) ys h = (left_of xs h.0, differ_left xs ys h.1)
  where
    left_of : (zs : List Name) → is_in x (zs ++ ys) ≡ false → is_in x zs ≡ false
    left_of [] e = refl
    left_of (z ∷ zs) e = both (same x z) (is_in x zs) (or_left (same x z) _ e) (left_of zs (or_right (same x z) _ e))
      where
        both : (b c : Bool) → b ≡ false → c ≡ false → b || c ≡ false
        both b c e f = ap (λ d. d || c) e ∙ f

pub differ_right : (xs ys : List Name) → NamesDiffer (xs ++ ys) → NamesDiffer ys
differ_right [] ys h = h
differ_right (x ∷ xs) ys h = differ_right xs ys h.1

in_right_of : (x : Name) (xs ys : List Name) → is_in x (xs ++ ys) ≡ false → is_in x ys ≡ false
in_right_of x [] ys e = e
in_right_of x (z ∷ zs) ys e = in_right_of x zs ys (or_right (same x z) _ e)

-- what stands in the second of two lists stands not in the first
pub not_in_first : (y : Name) (xs ys : List Name) → NamesDiffer (xs ++ ys) → is_in y ys ≡ true → is_in y xs ≡ false
not_in_first y [] ys h at = refl
not_in_first y (x ∷ xs) ys h at = go (same y x) refl (not_in_first y xs ys h.1 at)
  where
    go : (b : Bool) → same y x ≡ b → is_in y xs ≡ false → same y x || is_in y xs ≡ false
    go true s r = absurd (false≢true (sym (in_right_of x xs ys h.0) ∙ subst (λ (z : Name). is_in z ys ≡ true) (same_is y x s) at))
    go false s r = ap (λ b. b || is_in y xs) s ∙ r

-- the constructors of one type are among all
among_all_by : (b : Bool) (d : TypeDec) (c : Name) (rest all : List Name) → (is_in c rest ≡ true → is_in c all ≡ true) → is_in c (if b then d.constructors else rest) ≡ true → is_in c (d.constructors ++ all) ≡ true
among_all_by true d c rest all later e = is_in_left c d.constructors all e
among_all_by false d c rest all later e = is_in_right c d.constructors all (later e)

among_all : (types : List TypeDec) (c n : Name) → is_in c (constructors_of types n) ≡ true → is_in c (flat_map (λ d. d.constructors) types) ≡ true
among_all [] c n e = e
among_all (d ∷ ds) c n e = among_all_by (same n d.name) d c (constructors_of ds n) (flat_map (λ d. d.constructors) ds) (among_all ds c n) e

one_differ_by : (b : Bool) (d : TypeDec) (rest : List Name) → NamesDiffer d.constructors → NamesDiffer rest → NamesDiffer (if b then d.constructors else rest)
one_differ_by true d rest h r = h
one_differ_by false d rest h r = r

one_differ : (types : List TypeDec) (n : Name) → NamesDiffer (flat_map (λ d. d.constructors) types) → NamesDiffer (constructors_of types n)
one_differ [] n h = tt
one_differ (d ∷ ds) n h =
    one_differ_by (same n d.name) d (constructors_of ds n) (differ_left d.constructors _ h) (one_differ ds n (differ_right d.constructors _ h))

value_by : (b : Bool) (d : TypeDec) (ds : List TypeDec) (c : Name) (rest : List Name) → NamesDiffer (d.constructors ++ flat_map (λ d. d.constructors) ds) →
    (is_in c rest ≡ true → is_in c (flat_map (λ d. d.constructors) ds) ≡ true) → (is_in c rest ≡ true → constructor_value ds c ≡ place_in c rest) →
    is_in c (if b then d.constructors else rest) ≡ true → constructor_value (d ∷ ds) c ≡ place_in c (if b then d.constructors else rest)
value_by true d ds c rest differ among later e = ap (λ b. if b then place_in c d.constructors else constructor_value ds c) e
value_by false d ds c rest differ among later e =
    ap (λ b. if b then place_in c d.constructors else constructor_value ds c) (not_in_first c d.constructors (flat_map (λ d. d.constructors) ds) differ (among e)) ∙ later e

-- a constructor's value is its position in its type
value_in : (types : List TypeDec) → NamesDiffer (flat_map (λ d. d.constructors) types) → (c n : Name) → is_in c (constructors_of types n) ≡ true → constructor_value types c ≡ place_in c (constructors_of types n)
value_in [] differ c n e = absurd (false≢true e)
value_in (d ∷ ds) differ c n e =
    value_by (same n d.name) d ds c (constructors_of ds n) differ (among_all ds c n) (value_in ds (differ_right d.constructors _ differ) c n) e

-- the name at a place
record NameAt (xs : List Name) (v : ℕ) : Type 0 where
  name : Name
  inside : is_in name xs ≡ true
  place : place_in name xs ≡ v
  contained : Contains xs name

name_later : (x : Name) (xs : List Name) (v : ℕ) → is_in x xs ≡ false → NameAt xs v → NameAt (x ∷ xs) (suc v)
name_later x xs v differ r = record {
  name = r.name;
  inside = later (same r.name x) r.inside;
  place = ap (λ b. if b then 0 else place_in r.name xs + 1) (other (same r.name x) refl) ∙ (ap (λ n. n + 1) r.place ∙ more);
  contained = (suc r.contained.0, long r.contained.1, r.contained.2);
}
  where
    later : (b : Bool) {c : Bool} → c ≡ true → b || c ≡ true
    later true e = refl
    later false e = e

    other : (b : Bool) → same r.name x ≡ b → b ≡ false
    other true e = absurd (false≢true (sym differ ∙ subst (λ (z : Name). is_in z xs ≡ true) (same_is r.name x e) r.inside))
    other false e = refl

    more : v + 1 ≡ suc v
    more = omega arith

    long : r.contained.0 < length xs → suc r.contained.0 < length (x ∷ xs)
    long h = omega arith

name_at : (xs : List Name) → NamesDiffer xs → (v : ℕ) → v < length xs → NameAt xs v
name_at [] h v lt = absurd (omega arith)
name_at (x ∷ xs) h zero lt = record {
  name = x;
  inside = ap (λ b. b || is_in x xs) (same_self x);
  place = ap (λ b. if b then 0 else place_in x xs + 1) (same_self x);
  contained = (0, omega arith, refl);
}
name_at (x ∷ xs) h (suc v) lt = name_later x xs v h.0 (name_at xs h.1 v (omega arith))

mapped : {X Y : Type 0} (f : X → Y) (xs : List X) (x : X) → Contains xs x → Contains (map f xs) (f x)
mapped f xs x at = (at.0, subst (λ n. at.0 < n) (sym (length-map xs f)) at.1, get_or-map f xs at.0 x (f x) at.1 ∙ ap f at.2)

-- the tag of a value
record TagOf (types : List TypeDec) (t : Ty) (v : ℕ) : Type 0 where
  tag : Tag
  contained : Contains (tags_of types t) tag
  value : tag_value types tag ≡ v

tag_of : (types : List TypeDec) → NamesDiffer (flat_map (λ d. d.constructors) types) → (t : Ty) (v : ℕ) → has_tags t ≡ true → v < value_count types t → TagOf types t v
tag_of types differ (ty.Plain Int) v tagged lt = absurd (false≢true tagged)
tag_of types differ (ty.Plain Truth_value) zero tagged lt = record { tag = tag.Truth false; contained = (1, omega arith, refl); value = refl }
tag_of types differ (ty.Plain Truth_value) (suc zero) tagged lt = record { tag = tag.Truth true; contained = (0, omega arith, refl); value = refl }
tag_of types differ (ty.Plain Truth_value) (suc (suc v)) tagged lt = absurd (omega arith)
tag_of types differ (ty.Plain (Named n)) v tagged lt =
    let at = name_at (constructors_of types n) (one_differ types n differ) v lt in
    record {
      tag = tag.Constructor at.name;
      contained = mapped tag.Constructor (constructors_of types n) at.name at.contained;
      value = value_in types differ at.name n at.inside ∙ at.place;
    }
tag_of types differ (ty.Future t) v tagged lt = absurd (false≢true tagged)

-- what has the tag of a value is found by the value
abbrev pub FoundBy : {B : Type 0} → List TypeDec → (B → Tag) → ℕ → List B → Type 0
FoundBy {B} types of v bs = (b : B) × (find (λ x. tag_value types (of x) == v) bs ≡ Some b) × Contains bs b × (tag_value types (of b) ≡ v)

found_later : {B : Type 0} (types : List TypeDec) (of : B → Tag) (v : ℕ) (b : B) (bs : List B) → (tag_value types (of b) == v) ≡ false → FoundBy types of v bs → FoundBy types of v (b ∷ bs)
found_later types of v b bs e r =
    let (c, is, at, value) = r in
    (c, ap (λ t. if t then Some b else find (λ x. tag_value types (of x) == v) bs) e ∙ is, (suc at.0, long at.0 at.1, at.2), value)
  where
    long : (k : ℕ) → k < length bs → suc k < length (b ∷ bs)
    long k h = omega arith

find_by_value : {B : Type 0} (types : List TypeDec) (of : B → Tag) (g : Tag) (v : ℕ) → tag_value types g ≡ v → (bs : List B) → list_any (same_tag g) (map of bs) ≡ true → FoundBy types of v bs
find_by_value types of g v value [] e = absurd (false≢true e)
find_by_value {B} types of g v value (b ∷ bs) e = go (tag_value types (of b) == v) refl (find_by_value types of g v value bs)
  where
    not_here : (c : Bool) → same_tag g (of b) ≡ c → (tag_value types (of b) == v) ≡ false → c || list_any (same_tag g) (map of bs) ≡ true → list_any (same_tag g) (map of bs) ≡ true
    not_here true s f h = absurd (false≢true (sym f ∙ (Decides-eqb (tag_value types (of b)) v).1 (sym (ap (tag_value types) (same_tag_is g (of b) s)) ∙ value)))
    not_here false s f h = h

    go : (c : Bool) → (tag_value types (of b) == v) ≡ c → (list_any (same_tag g) (map of bs) ≡ true → FoundBy types of v bs) → FoundBy types of v (b ∷ bs)
    go true f later = (b, ap (λ t. if t then Some b else find (λ (x : B). tag_value types (of x) == v) bs) f, (0, omega arith, refl), (Decides-eqb (tag_value types (of b)) v).0 f)
    go false f later = found_later types of v b bs f (later (not_here (same_tag g (of b)) refl f e))

pub value_found : {B : Type 0} (types : List TypeDec) → NamesDiffer (flat_map (λ d. d.constructors) types) → (of : B → Tag) (t : Ty) (v : ℕ) (bs : List B) →
    has_tags t ≡ true → AreAllTags types t (map of bs) → IsValueOf types t v → FoundBy types of v bs
value_found types differ of t v bs tagged all lt =
    let g = tag_of types differ t v tagged lt in
    find_by_value types of g.tag v g.value bs (All-contains (λ (x : Tag). IsTrue (list_any (same_tag x) (map of bs))) (tags_of types t) g.tag all g.contained)

merge_labels : (bs : List MergeBranch) → branch_tags bs ≡ map (λ b. b.tag) bs
merge_labels [] = refl
merge_labels (b ∷ bs) = ap (λ l. b.tag ∷ l) (merge_labels bs)

pub merge_of_value : MergesHaveBranches
merge_of_value types differ t v bs tagged all lt = value_found types differ (λ (b : MergeBranch). b.tag) t v bs tagged (subst (AreAllTags types t) (merge_labels bs) all) lt

-- ---- inputs

input_fits : (types : List TypeDec) (ds : List Decl) (row : List ℕ) (j : ℕ) (d : Decl) → RowFits types ds row → slice_get ds j ≡ Some d → IsValueOf types d.ty (slice_index row j)
input_fits types [] row j d h e = cc
input_fits types (c ∷ ds) [] j d h e = elim h [ ]
input_fits types (c ∷ ds) (v ∷ row) zero d h e = subst (λ (x : Decl). IsValueOf types x.ty v) (same_some e) h.0
input_fits types (c ∷ ds) (v ∷ row) (suc j) d h e = input_fits types ds row j d h.1 e

-- an input of a row
pub input_is_there : (types : List TypeDec) (ds : List Decl) (rows : List (List ℕ)) (t j : ℕ) (d : Decl) → RowsFit types ds rows → t < length rows → slice_get ds j ≡ Some d →
    (v : ℕ) × (input_at rows t j ≡ Value v) × IsValueOf types d.ty v
input_is_there types ds [] t j d h lt e = absurd (omega arith)
input_is_there types ds (row ∷ rows) zero j d h lt e = (slice_index row j, refl, input_fits types ds row j d h.0 e)
input_is_there types ds (row ∷ rows) (suc t) j d h lt e = input_is_there types ds rows t j d h.1 (omega arith) e
