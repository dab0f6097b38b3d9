-- Names and lists of names, elements of lists, and searches.
use Rattle.std.proofs.Common.{◌≡◌, ◌⊎◌, inl, inr, ⊎_elim, ℕ, zero, suc, ◌<◌, ◌||◌, Bool, true, false, List, [], ◌∷◌, ◌++◌, Some, None, length, map, refl, sym, ◌∙◌, ap, subst, arith}
use Rattle.std.specs.Prelude.{if◌then◌else◌, Contains, slice_get, slice_index_or}
use Rattle.std.specs.List.{find, flat_map}
use Rattle.std.proofs.lemmas.Slice.Eq.{bytes_eq-Decides}
use Rattle.std.proofs.lemmas.List.Elements.{Contains-append_left, Contains-append_right, Contains-append_cases}
use Rattle.std.proofs.lemmas.List.{map-append}
use Rattle.hept_ast.specs.Texts.{Name, same, is_in, names}
use Rattle.hept_ast.specs.Parts.{declaration}
use Rattle.hept_ast.specs.declared.tree.Decl.{Decl}

pub same_is : (x y : Name) → same x y ≡ true → x ≡ y
same_is x y e = (bytes_eq-Decides x y).0 e

pub same_self : (x : Name) → same x x ≡ true
same_self x = (bytes_eq-Decides x x).1 refl

pub not_both : {P : Type 0} (b : Bool) → b ≡ true → b ≡ false → P
not_both b e f = let no : true ≡ false = sym e ∙ f in cc

pub no_some : {A P : Type 0} {x : A} → None ≡ Some x → P
no_some e = cc

pub same_some : {A : Type 0} {x y : A} → Some x ≡ Some y → x ≡ y
same_some e = cc

-- ---- elements

module _ {A : Type 0} where
  pub contains_here : (x : A) (xs : List A) → Contains (x ∷ xs) x
  contains_here x xs = (0, omega arith, refl)

  pub contains_there : (x y : A) (xs : List A) → Contains xs y → Contains (x ∷ xs) y
  contains_there x y xs h = let lt = h.1 in (suc h.0, omega arith, h.2)

  pub contains_none : {P : Type 0} (x : A) → Contains [] x → P
  contains_none x h = let lt = h.1 in absurd (omega arith)

  contains_at : (x y : A) (xs : List A) (k : ℕ) → k < length (x ∷ xs) → slice_index_or (x ∷ xs) k y ≡ y → (x ≡ y) ⊎ Contains xs y
  contains_at x y xs zero lt e = inl e
  contains_at x y xs (suc k) lt e = inr (k, omega arith, e)

  pub contains_cases : (x y : A) (xs : List A) → Contains (x ∷ xs) y → (x ≡ y) ⊎ Contains xs y
  contains_cases x y xs h = contains_at x y xs h.0 h.1 h.2

  pub contains_got : (xs : List A) (k : ℕ) (x : A) → slice_get xs k ≡ Some x → Contains xs x
  contains_got [] k x e = no_some e
  contains_got (y ∷ ys) zero x e = subst (λ z. Contains (y ∷ ys) z) (same_some e) (contains_here y ys)
  contains_got (y ∷ ys) (suc k) x e = contains_there y x ys (contains_got ys k x e)

  pub got_from_contains : (xs : List A) (x : A) → Contains xs x → (k : ℕ) × (slice_get xs k ≡ Some x)
  got_from_contains [] x h = contains_none x h
  got_from_contains (y ∷ ys) x h = ⊎_elim (λ e. (0, ap Some e)) (λ c. let r = got_from_contains ys x c in (suc r.0, r.1)) (contains_cases y x ys h)

  pub found : (p : A → Bool) (xs : List A) (x : A) → find p xs ≡ Some x → Contains xs x × (p x ≡ true)
  found p [] x e = no_some e
  found p (y ∷ ys) x e = go (p y) refl e (found p ys x)
    where
      go : (b : Bool) → p y ≡ b → (if b then Some y else find p ys) ≡ Some x → (find p ys ≡ Some x → Contains ys x × (p x ≡ true)) → Contains (y ∷ ys) x × (p x ≡ true)
      go true h f rest = subst (λ z. Contains (y ∷ ys) z × (p z ≡ true)) (same_some f) (contains_here y ys, h)
      go false h f rest = let r = rest f in (contains_there y x ys r.0, r.1)

  pub finds : (p : A → Bool) (xs : List A) (x : A) → Contains xs x → p x ≡ true → (y : A) × (find p xs ≡ Some y) × Contains xs y × (p y ≡ true)
  finds p [] x h e = contains_none x h
  finds p (y ∷ ys) x h e = go (p y) refl (λ c. finds p ys x c e)
    where
      go : (b : Bool) → p y ≡ b → (Contains ys x → (z : A) × (find p ys ≡ Some z) × Contains ys z × (p z ≡ true)) → (z : A) × (find p (y ∷ ys) ≡ Some z) × Contains (y ∷ ys) z × (p z ≡ true)
      go true f rest = (y, ap (λ (t : Bool). if t then Some y else find p ys) f, contains_here y ys, f)
      go false f rest = ⊎_elim (λ same. not_both (p x) e (ap p (sym same) ∙ f))
          (λ c. let r = rest c in (r.0, ap (λ (t : Bool). if t then Some y else find p ys) f ∙ r.1, contains_there y r.0 ys r.2, r.3)) (contains_cases y x ys h)

module _ {A B : Type 0} where
  pub contains_map : (f : A → B) (xs : List A) (x : A) → Contains xs x → Contains (map f xs) (f x)
  contains_map f [] x h = contains_none x h
  contains_map f (y ∷ ys) x h =
      ⊎_elim (λ e. subst (λ z. Contains (map f (y ∷ ys)) (f z)) e (contains_here (f y) (map f ys))) (λ c. contains_there (f y) (f x) (map f ys) (contains_map f ys x c)) (contains_cases y x ys h)

  pub mapped : (f : A → B) (xs : List A) (z : B) → Contains (map f xs) z → (x : A) × Contains xs x × (f x ≡ z)
  mapped f [] z h = contains_none z h
  mapped f (y ∷ ys) z h =
      ⊎_elim (λ e. (y, contains_here y ys, e)) (λ c. let r = mapped f ys z c in (r.0, contains_there y r.0 ys r.1, r.2)) (contains_cases (f y) z (map f ys) h)

  pub contains_flat : (f : A → List B) (xs : List A) (x : A) (z : B) → Contains xs x → Contains (f x) z → Contains (flat_map f xs) z
  contains_flat f [] x z h k = contains_none x h
  contains_flat f (y ∷ ys) x z h k =
      ⊎_elim (λ e. Contains-append_left (f y) (flat_map f ys) z (subst (λ t. Contains (f t) z) (sym e) k))
      (λ c. Contains-append_right (f y) (flat_map f ys) z (contains_flat f ys x z c k)) (contains_cases y x ys h)

  pub flattened : (f : A → List B) (xs : List A) (z : B) → Contains (flat_map f xs) z → (x : A) × Contains xs x × Contains (f x) z
  flattened f [] z h = contains_none z h
  flattened f (y ∷ ys) z h =
      ⊎_elim (λ c. (y, contains_here y ys, c)) (λ c. let r = flattened f ys z c in (r.0, contains_there y r.0 ys r.1, r.2)) (Contains-append_cases (f y) (flat_map f ys) z h)

-- ---- names in lists

pub is_in_append : (x : Name) (xs ys : List Name) → is_in x (xs ++ ys) ≡ (is_in x xs || is_in x ys)
is_in_append x [] ys = refl
is_in_append x (y ∷ xs) ys = go (same x y) (is_in_append x xs ys)
  where
    go : (b : Bool) → is_in x (xs ++ ys) ≡ (is_in x xs || is_in x ys) → (b || is_in x (xs ++ ys)) ≡ ((b || is_in x xs) || is_in x ys)
    go true e = refl
    go false e = e

pub is_in_contains : (x : Name) (xs : List Name) → Contains xs x → is_in x xs ≡ true
is_in_contains x [] h = contains_none x h
is_in_contains x (y ∷ ys) h = ⊎_elim (λ e. ap (λ (b : Bool). b || is_in x ys) (ap (same x) e ∙ same_self x)) (λ c. go (same x y) (is_in_contains x ys c)) (contains_cases y x ys h)
  where
    go : (b : Bool) → is_in x ys ≡ true → (b || is_in x ys) ≡ true
    go true e = refl
    go false e = e

pub contains_is_in : (x : Name) (xs : List Name) → is_in x xs ≡ true → Contains xs x
contains_is_in x [] e = not_both false e refl
contains_is_in x (y ∷ ys) e = go (same x y) refl e (contains_is_in x ys)
  where
    go : (b : Bool) → same x y ≡ b → (b || is_in x ys) ≡ true → (is_in x ys ≡ true → Contains ys x) → Contains (y ∷ ys) x
    go true h f rest = subst (λ z. Contains (z ∷ ys) x) (same_is x y h) (contains_here x ys)
    go false h f rest = contains_there y x ys (rest f)

pub is_in_flat : {A : Type 0} (f : A → List Name) (xs : List A) (a : A) (x : Name) → Contains xs a → is_in x (f a) ≡ true → is_in x (flat_map f xs) ≡ true
is_in_flat f xs a x h e = is_in_contains x (flat_map f xs) (contains_flat f xs a x h (contains_is_in x (f a) e))

pub flat_is_in : {A : Type 0} (f : A → List Name) (xs : List A) (x : Name) → is_in x (flat_map f xs) ≡ true → (a : A) × Contains xs a × (is_in x (f a) ≡ true)
flat_is_in f xs x e = let r = flattened f xs x (contains_is_in x (flat_map f xs) e) in (r.0, r.1, is_in_contains x (f r.0) r.2)

pub is_in_left : (x : Name) (xs ys : List Name) → is_in x xs ≡ true → is_in x (xs ++ ys) ≡ true
is_in_left x xs ys e = is_in_append x xs ys ∙ ap (λ (b : Bool). b || is_in x ys) e

pub is_in_right : (x : Name) (xs ys : List Name) → is_in x ys ≡ true → is_in x (xs ++ ys) ≡ true
is_in_right x xs ys e = is_in_append x xs ys ∙ (ap (λ (b : Bool). is_in x xs || b) e ∙ or_true (is_in x xs))
  where
    or_true : (b : Bool) → (b || true) ≡ true
    or_true true = refl
    or_true false = refl

-- ---- declarations

pub names_append : (ds es : List Decl) → names (ds ++ es) ≡ names ds ++ names es
names_append ds es = map-append (λ d. d.name) ds es

pub declared_name : (ds : List Decl) (x : Name) (d : Decl) → declaration ds x ≡ Some d → Contains ds d × (x ≡ d.name)
declared_name ds x d e = let r = found (λ d. same x d.name) ds d e in (r.0, same_is x d.name r.1)

pub is_in_declared : (ds : List Decl) (x : Name) (d : Decl) → declaration ds x ≡ Some d → is_in x (names ds) ≡ true
is_in_declared ds x d e = let r = declared_name ds x d e in
    is_in_contains x (names ds) (subst (λ y. Contains (names ds) y) (sym r.1) (contains_map (λ d. d.name) ds d r.0))

pub declared_is_in : (ds : List Decl) (x : Name) → is_in x (names ds) ≡ true → (d : Decl) × (declaration ds x ≡ Some d)
declared_is_in [] x e = not_both false e refl
declared_is_in (d ∷ ds) x e = go (same x d.name) e (declared_is_in ds x)
  where
    go : (b : Bool) → (b || is_in x (names ds)) ≡ true → (is_in x (names ds) ≡ true → (o : Decl) × (declaration ds x ≡ Some o)) → (o : Decl) × ((if b then Some d else declaration ds x) ≡ Some o)
    go true f rest = (d, refl)
    go false f rest = rest f

pub declaration_left : (ds es : List Decl) (x : Name) → is_in x (names ds) ≡ true → declaration (ds ++ es) x ≡ declaration ds x
declaration_left [] es x e = not_both false e refl
declaration_left (d ∷ ds) es x e = go (same x d.name) e (declaration_left ds es x)
  where
    go : (b : Bool) → (b || is_in x (names ds)) ≡ true → (is_in x (names ds) ≡ true → declaration (ds ++ es) x ≡ declaration ds x) →
        (if b then Some d else declaration (ds ++ es) x) ≡ (if b then Some d else declaration ds x)
    go true f rest = refl
    go false f rest = rest f

pub declaration_right : (ds es : List Decl) (x : Name) → is_in x (names ds) ≡ false → declaration (ds ++ es) x ≡ declaration es x
declaration_right [] es x e = refl
declaration_right (d ∷ ds) es x e = go (same x d.name) e (declaration_right ds es x)
  where
    go : (b : Bool) → (b || is_in x (names ds)) ≡ false → (is_in x (names ds) ≡ false → declaration (ds ++ es) x ≡ declaration es x) →
        (if b then Some d else declaration (ds ++ es) x) ≡ declaration es x
    go true f rest = not_both true refl f
    go false f rest = rest f
