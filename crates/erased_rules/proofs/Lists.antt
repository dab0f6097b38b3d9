-- Lists that are empty, and lists that are mapped.
use Rattle.std.proofs.Common.{◌≡◌, List, [], ◌∷◌, ◌++◌, map, refl, sym, ap, ◌∙◌, append_assoc}
use Rattle.std.specs.List.{flat_map}
use Rattle.std.proofs.lemmas.List.{map-append}

pub nil_left : {A : Type 0} (xs ys : List A) → xs ++ ys ≡ [] → xs ≡ []
nil_left [] ys h = refl
nil_left (x ∷ xs) ys h = cc

pub nil_right : {A : Type 0} (xs ys : List A) → xs ++ ys ≡ [] → ys ≡ []
nil_right [] ys h = h
nil_right (x ∷ xs) ys h = cc

pub nil_both : {A : Type 0} (xs ys : List A) → xs ≡ [] → ys ≡ [] → xs ++ ys ≡ []
nil_both xs ys h k = ap (λ (l : List _). l ++ ys) h ∙ k

pub flat_append : {A B : Type 0} (f : A → List B) (xs ys : List A) → flat_map f (xs ++ ys) ≡ flat_map f xs ++ flat_map f ys
flat_append f [] ys = refl
flat_append f (x ∷ xs) ys = ap (λ (l : List _). f x ++ l) (flat_append f xs ys) ∙ sym (append_assoc (f x) (flat_map f xs) (flat_map f ys))

pub flat_flat : {A B C : Type 0} (f : B → List C) (g : A → List B) (xs : List A) → flat_map f (flat_map g xs) ≡ flat_map (λ x. flat_map f (g x)) xs
flat_flat f g [] = refl
flat_flat f g (x ∷ xs) = flat_append f (g x) (flat_map g xs) ∙ ap (λ (l : List _). flat_map f (g x) ++ l) (flat_flat f g xs)

-- a list of mapped things
pub flat_same : {A B C : Type 0} (f : B → List C) (g : A → B) (h : A → List C) → ((x : A) → f (g x) ≡ h x) → (xs : List A) → flat_map f (map g xs) ≡ flat_map h xs
flat_same f g h e [] = refl
flat_same f g h e (x ∷ xs) = ap (λ (l : List _). l ++ flat_map f (map g xs)) (e x) ∙ ap (λ (l : List _). h x ++ l) (flat_same f g h e xs)

pub flat_mapped : {A B C D : Type 0} (f : B → List D) (g : A → B) (h : A → List C) (k : C → D) → ((x : A) → f (g x) ≡ map k (h x)) → (xs : List A) →
    flat_map f (map g xs) ≡ map k (flat_map h xs)
flat_mapped f g h k e [] = refl
flat_mapped f g h k e (x ∷ xs) =
    ap (λ (l : List _). l ++ flat_map f (map g xs)) (e x)
    ∙ ap (λ (l : List _). map k (h x) ++ l) (flat_mapped f g h k e xs)
    ∙ sym (map-append k (h x) (flat_map h xs))

pub map_mapped : {A B C : Type 0} (f : B → C) (g : A → B) (h : A → C) → ((x : A) → f (g x) ≡ h x) → (xs : List A) → map f (map g xs) ≡ map h xs
map_mapped f g h e [] = refl
map_mapped f g h e (x ∷ xs) = let p = e x in let t = map_mapped f g h e xs in cc

-- a list of mapped things that is empty where that of the things is
pub flat_nil : {A B C D : Type 0} (f : B → List D) (g : A → B) (h : A → List C) → ((x : A) → h x ≡ [] → f (g x) ≡ []) → (xs : List A) → flat_map h xs ≡ [] → flat_map f (map g xs) ≡ []
flat_nil f g h e [] n = refl
flat_nil f g h e (x ∷ xs) n = nil_both (f (g x)) (flat_map f (map g xs)) (e x (nil_left (h x) (flat_map h xs) n)) (flat_nil f g h e xs (nil_right (h x) (flat_map h xs) n))
