-- Lists of tied sites, in another order.
use Rattle.std.proofs.Common.{◌≡◌, ℕ, Bool, true, false, if◌then◌else◌, List, [], ◌∷◌, ◌++◌, map, refl, sym, ap, subst, ◌∙◌, append_assoc, append-nil}
use Rattle.std.specs.List.Sorted.{IsPermutation}
use Rattle.std.proofs.lemmas.List.Sorted.{IsPermutation-refl, IsPermutation-sym, IsPermutation-trans, IsPermutation-append, IsPermutation-append_right, IsPermutation-append_comm}
use Rattle.hept_ast.specs.Scopes.{calls_around}
use Rattle.hept_ast.specs.Sites.{Site, path_of, is_before, insert, by_number}
use Rattle.hept_ast.specs.Paths.{AllDiffer}
use Rattle.hept_ast.specs.declared.tree.Core.{Core}
use Rattle.hept_ast.proofs.TextOrder.{by_number_permutes, by_number_permuted, differ_permuted}
use Rattle.core_naming.specs.Names.{IsNaming}
use Rattle.core_naming.specs.Ties.{TiedSite}
use Rattle.core_naming.proofs.TiedQuestions.{calls_same}
use Rattle.core_naming.proofs.TiedPieces.{TiedSites, no_sites, more_sites}

-- ---- permutations

pub with_nil : {A : Type 0} (xs : List A) → IsPermutation xs (xs ++ [])
with_nil xs = subst (IsPermutation xs) (sym (append-nil xs)) (IsPermutation-refl xs)

pub assoc_right : {A : Type 0} (xs ys zs : List A) → IsPermutation ((xs ++ ys) ++ zs) (xs ++ (ys ++ zs))
assoc_right xs ys zs = subst (IsPermutation ((xs ++ ys) ++ zs)) (append_assoc xs ys zs) (IsPermutation-refl ((xs ++ ys) ++ zs))

pub assoc_left : {A : Type 0} (xs ys zs : List A) → IsPermutation (xs ++ (ys ++ zs)) ((xs ++ ys) ++ zs)
assoc_left xs ys zs = IsPermutation-sym _ _ (assoc_right xs ys zs)

-- the second list behind the third
pub second_last : {A : Type 0} (xs ys zs : List A) → IsPermutation ((xs ++ ys) ++ zs) (xs ++ (zs ++ ys))
second_last xs ys zs = IsPermutation-trans _ _ _ (assoc_right xs ys zs) (IsPermutation-append_right xs _ _ (IsPermutation-append_comm ys zs))

module _ (core other : Core) (n : IsNaming core other) where
  -- ---- tied sites

  -- the sites are tied to others in another order
  pub record UpToOrder (sites others : List Site) : Type 0 where
    pub turned : List Site
    pub same : TiedSites core other n sites turned
    pub moved : IsPermutation turned others

  sites_append : (fs bs cs ds : List Site) → TiedSites core other n fs bs → TiedSites core other n cs ds → TiedSites core other n (fs ++ cs) (bs ++ ds)
  sites_append _ _ cs ds no_sites k = k
  sites_append _ _ cs ds (more_sites h hs) k = more_sites h (sites_append _ _ cs ds hs k)

  pub in_order : (sites others : List Site) → TiedSites core other n sites others → UpToOrder sites others
  in_order sites others h = record { turned = others; same = h; moved = IsPermutation-refl others }

  pub both_orders : (fs bs cs ds : List Site) → UpToOrder fs bs → UpToOrder cs ds → UpToOrder (fs ++ cs) (bs ++ ds)
  both_orders fs bs cs ds h k = record {
    turned = h.turned ++ k.turned;
    same = sites_append fs h.turned cs k.turned h.same k.same;
    moved = IsPermutation-append _ _ _ _ h.moved k.moved;
  }

  pub then_moved : (fs bs cs : List Site) → UpToOrder fs bs → IsPermutation bs cs → UpToOrder fs cs
  then_moved fs bs cs h k = record { turned = h.turned; same = h.same; moved = IsPermutation-trans h.turned bs cs h.moved k }

  -- ---- paths

  pub path_tied : (a b : Site) → TiedSite core other n a b → path_of b ≡ path_of a
  path_tied a b h = ap (λ (ps : List ℕ). ps ++ b.place ∷ []) (calls_same core other n a.scope b.scope h.scope) ∙ ap (λ (p : ℕ). calls_around a.scope ++ p ∷ []) h.place

  paths_tied : (fs bs : List Site) → TiedSites core other n fs bs → map path_of bs ≡ map path_of fs
  paths_tied _ _ no_sites = refl
  paths_tied _ _ (more_sites {site = a} {moved = b} {sites = fs} {others = bs} h hs) =
      let e : path_of b ≡ path_of a = path_tied a b h in
      let f : map path_of bs ≡ map path_of fs = paths_tied fs bs hs in
      cc

  insert_tied : (a b : Site) (fs bs : List Site) → TiedSite core other n a b → TiedSites core other n fs bs → TiedSites core other n (insert a fs) (insert b bs)
  insert_tied a b _ _ h no_sites = more_sites h no_sites
  insert_tied a b _ _ h (more_sites {site = c} {moved = d} {sites = cs} {others = ds} k ks) =
      go (is_before (path_of a) (path_of c)) (is_before (path_of b) (path_of d)) alike (insert_tied a b cs ds h ks)
    where
      alike : is_before (path_of a) (path_of c) ≡ is_before (path_of b) (path_of d)
      alike = let e : path_of b ≡ path_of a = path_tied a b h in let f : path_of d ≡ path_of c = path_tied c d k in cc

      go : (x y : Bool) → x ≡ y → TiedSites core other n (insert a cs) (insert b ds) → TiedSites core other n (if x then a ∷ c ∷ cs else c ∷ insert a cs) (if y then b ∷ d ∷ ds else d ∷ insert b ds)
      go true true e later = more_sites h (more_sites k ks)
      go false false e later = more_sites k later
      go true false e later = cc
      go false true e later = cc

  by_number_tied : (fs bs : List Site) → TiedSites core other n fs bs → TiedSites core other n (by_number fs) (by_number bs)
  by_number_tied _ _ no_sites = no_sites
  by_number_tied _ _ (more_sites {site = a} {moved = b} {sites = fs} {others = bs} h hs) = insert_tied a b (by_number fs) (by_number bs) h (by_number_tied fs bs hs)

  -- ---- the order of the text

  differ_up : (fs bs : List Site) → TiedSites core other n fs bs → AllDiffer (map path_of fs) → AllDiffer (map path_of bs)
  differ_up fs bs h d = subst (λ (l : List (List ℕ)). AllDiffer l) (sym (paths_tied fs bs h)) d

  ordered : (fs bs : List Site) (h : UpToOrder fs bs) → AllDiffer (map path_of h.turned) → TiedSites core other n (by_number fs) (by_number bs)
  ordered fs bs h d =
      subst (λ (l : List Site). TiedSites core other n (by_number fs) l) (by_number_permuted h.turned bs h.moved d) (by_number_tied fs h.turned h.same)

  -- where no two sites of either list have one path, they are tied in their text order
  pub ordered_there : (fs bs : List Site) → UpToOrder fs bs → AllDiffer (map path_of (by_number fs)) → TiedSites core other n (by_number fs) (by_number bs)
  ordered_there fs bs h d =
      ordered fs bs h (differ_up fs h.turned h.same (differ_permuted (by_number fs) fs (IsPermutation-sym _ _ (by_number_permutes fs)) d))

  pub ordered_back : (fs bs : List Site) → UpToOrder fs bs → AllDiffer (map path_of (by_number bs)) → TiedSites core other n (by_number fs) (by_number bs)
  ordered_back fs bs h d =
      ordered fs bs h (differ_permuted bs h.turned (IsPermutation-sym _ _ h.moved) (differ_permuted (by_number bs) bs (IsPermutation-sym _ _ (by_number_permutes bs)) d))
