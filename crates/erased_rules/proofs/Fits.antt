-- Types without futures fit wherever the types do.
use Rattle.std.proofs.Common.{◌≡◌, ℕ, Bool, true, false, ◌&&◌, List, [], ◌∷◌, ◌++◌, length, map, refl, sym, ap, ◌∙◌}
use Rattle.std.specs.Prelude.{if◌then◌else◌, ◌==◌}
use Rattle.std.specs.List.{flat_map, list_all}
use Rattle.std.proofs.lemmas.List.{length-map, map-append}
use Rattle.hept_ast.specs.Types.{Plain_type, same_type, same_types, int, bool, is_plain, future_of, types_of, has_tags, Fit, Fits, Misfit, Untyped, fits_if, all_are, alike, unary_fit, plain_pair, binary_fit, if_fit, call_fit, async_fit, get_fit}
use Rattle.hept_ast.specs.Erasure.{erased_type, erased_decl, erased_node}
use Rattle.hept_ast.specs.declared.tree.Decl.{Decl}
use Rattle.hept_ast.specs.declared.tree.Node.{Node}
use Rattle.hept_ast.specs.declared.tree.Ty.{Ty}
use Rattle.hept_ast.specs.declared.tree.Ty.TheVariants as ty
use Rattle.hept_ast.specs.declared.tree.UnaryOp.{UnaryOp}
use Rattle.hept_ast.specs.declared.tree.UnaryOp.TheVariants.{Minus, Not}
use Rattle.hept_ast.specs.declared.tree.BinaryOp.{BinaryOp}
use Rattle.hept_ast.specs.declared.tree.BinaryOp.TheVariants as op

-- ---- tests

pub and_left : (b c : Bool) → b && c ≡ true → b ≡ true
and_left true c h = refl
and_left false c h = h

pub and_right : (b c : Bool) → b && c ≡ true → c ≡ true
and_right true c h = h
and_right false c h = cc

pub and_both : (b c : Bool) → b ≡ true → c ≡ true → b && c ≡ true
and_both b c h k = ap (λ (x : Bool). x && c) h ∙ k

pub and_false : (b : Bool) → b && false ≡ false
and_false true = refl
and_false false = refl

-- ---- types

pub same_kept : (s t : Ty) → same_type s t ≡ true → same_type (erased_type s) (erased_type t) ≡ true
same_kept (ty.Plain s) (ty.Plain t) h = h
same_kept (ty.Plain s) (ty.Future t) h = cc
same_kept (ty.Future s) (ty.Plain t) h = cc
same_kept (ty.Future s) (ty.Future t) h = h

pub all_same_kept : (ss ts : List Ty) → same_types ss ts ≡ true → same_types (map erased_type ss) (map erased_type ts) ≡ true
all_same_kept [] [] h = refl
all_same_kept [] (t ∷ ts) h = h
all_same_kept (s ∷ ss) [] h = h
all_same_kept (s ∷ ss) (t ∷ ts) h =
    and_both (same_type (erased_type s) (erased_type t)) (same_types (map erased_type ss) (map erased_type ts)) (same_kept s t (and_left (same_type s t) (same_types ss ts) h))
    (all_same_kept ss ts (and_right (same_type s t) (same_types ss ts) h))

abbrev pub erased_types : List (List Ty) → List (List Ty)
erased_types tss = map (map erased_type) tss

pub all_are_kept : (t : List Ty) (tss : List (List Ty)) → all_are t tss ≡ true → all_are (map erased_type t) (erased_types tss) ≡ true
all_are_kept t [] h = refl
all_are_kept t (u ∷ us) h =
    and_both (same_types (map erased_type t) (map erased_type u)) (all_are (map erased_type t) (erased_types us)) (all_same_kept t u (and_left (same_types t u) (all_are t us) h))
    (all_are_kept t us (and_right (same_types t u) (all_are t us) h))

pub plain_after : (t : Ty) → is_plain (erased_type t) ≡ true
plain_after (ty.Plain t) = refl
plain_after (ty.Future t) = refl

pub all_plain_after : (ts : List Ty) → list_all is_plain (map erased_type ts) ≡ true
all_plain_after [] = refl
all_plain_after (t ∷ ts) = and_both (is_plain (erased_type t)) (list_all is_plain (map erased_type ts)) (plain_after t) (all_plain_after ts)

-- a type with tags is none of futures
pub tagged_same : (t : Ty) → has_tags t ≡ true → erased_type t ≡ t
tagged_same (ty.Plain t) h = refl
tagged_same (ty.Future t) h = cc

pub one_kept : (t : List Ty) → (length t == 1) ≡ true → (length (map erased_type t) == 1) ≡ true
one_kept t h = ap (λ (n : ℕ). n == 1) (length-map t erased_type) ∙ h

pub ones_kept : (tss : List (List Ty)) → list_all (λ t. length t == 1) tss ≡ true → list_all (λ t. length t == 1) (erased_types tss) ≡ true
ones_kept [] h = refl
ones_kept (t ∷ ts) h =
    and_both (length (map erased_type t) == 1) (list_all (λ t. length t == 1) (erased_types ts)) (one_kept t (and_left (length t == 1) (list_all (λ t. length t == 1) ts) h))
    (ones_kept ts (and_right (length t == 1) (list_all (λ t. length t == 1) ts) h))

pub joined_types : (tss : List (List Ty)) → flat_map (λ t. t) (erased_types tss) ≡ map erased_type (flat_map (λ t. t) tss)
joined_types [] = refl
joined_types (t ∷ ts) = ap (λ (l : List Ty). map erased_type t ++ l) (joined_types ts) ∙ sym (map-append erased_type t (flat_map (λ t. t) ts))

pub types_same : (ds : List Decl) → types_of (map erased_decl ds) ≡ map erased_type (types_of ds)
types_same [] = refl
types_same (d ∷ ds) = ap (λ (l : List Ty). erased_type d.ty ∷ l) (types_same ds)

pub futures_gone : (ts : List Ty) → map erased_type (map future_of ts) ≡ map erased_type ts
futures_gone [] = refl
futures_gone (t ∷ ts) = ap (λ (u : Ty). u ∷ map erased_type (map future_of ts)) (go t) ∙ ap (λ (l : List Ty). erased_type t ∷ l) (futures_gone ts)
  where
    go : (t : Ty) → erased_type (future_of t) ≡ erased_type t
    go (ty.Plain t) = refl
    go (ty.Future t) = refl

-- ---- what fits

-- where operands fit, what they give without futures is what the other operands give
abbrev pub Kept_fit : Fit → Fit → Type 0
Kept_fit f f' = (f ≡ Misfit → ⊥) → (ts : List Ty) × (f ≡ Fits ts) × (f' ≡ Fits (map erased_type ts))

pub fits_if_kept : (b b' : Bool) (ts : List Ty) → (b ≡ true → b' ≡ true) → Kept_fit (fits_if b ts) (fits_if b' (map erased_type ts))
fits_if_kept true b' ts h n = (ts, refl, ap (λ (b : Bool). fits_if b (map erased_type ts)) (h refl))
fits_if_kept false b' ts h n = absurd (n refl)

-- whatever a strong condition bars, the erased one bars
pub barred_kept : (b : Bool) (f f' : Fit) → Kept_fit f f' → Kept_fit (if b then Misfit else f) (if b then Misfit else f')
barred_kept true f f' k n = absurd (n refl)
barred_kept false f f' k n = k n

pub alike_kept : (t : List Ty) (ts : List (List Ty)) → Kept_fit (alike (t ∷ ts)) (alike (erased_types (t ∷ ts)))
alike_kept t ts =
    fits_if_kept (length t == 1 && all_are t ts) (length (map erased_type t) == 1 && all_are (map erased_type t) (erased_types ts)) t
    (λ h. and_both (length (map erased_type t) == 1) (all_are (map erased_type t) (erased_types ts)) (one_kept t (and_left (length t == 1) (all_are t ts) h)) (all_are_kept t ts (and_right (length t == 1) (all_are t ts) h)))

pub unary_kept : (o : UnaryOp) (tss : List (List Ty)) → Kept_fit (unary_fit o tss) (unary_fit o (erased_types tss))
unary_kept Minus tss = fits_if_kept (all_are int tss) (all_are int (erased_types tss)) int (all_are_kept int tss)
unary_kept Not tss = fits_if_kept (all_are bool tss) (all_are bool (erased_types tss)) bool (all_are_kept bool tss)

pair_kept : (t : List Ty) (ts : List (List Ty)) → Kept_fit (plain_pair (t ∷ ts)) (plain_pair (erased_types (t ∷ ts)))
pair_kept t ts =
    fits_if_kept (length t == 1 && list_all is_plain t && all_are t ts) (length (map erased_type t) == 1 && list_all is_plain (map erased_type t) && all_are (map erased_type t) (erased_types ts)) bool
    (λ h.
    let first : length t == 1 && list_all is_plain t ≡ true = and_left (length t == 1 && list_all is_plain t) (all_are t ts) h in
    and_both (length (map erased_type t) == 1 && list_all is_plain (map erased_type t)) (all_are (map erased_type t) (erased_types ts))
    (and_both (length (map erased_type t) == 1) (list_all is_plain (map erased_type t)) (one_kept t (and_left (length t == 1) (list_all is_plain t) first)) (all_plain_after t))
    (all_are_kept t ts (and_right (length t == 1 && list_all is_plain t) (all_are t ts) h)))

ints_kept : (tss : List (List Ty)) (ts : List Ty) → Kept_fit (fits_if (all_are int tss) ts) (fits_if (all_are int (erased_types tss)) (map erased_type ts))
ints_kept tss ts = fits_if_kept (all_are int tss) (all_are int (erased_types tss)) ts (all_are_kept int tss)

pub binary_kept : (o : BinaryOp) (t : List Ty) (ts : List (List Ty)) → Kept_fit (binary_fit o (t ∷ ts)) (binary_fit o (erased_types (t ∷ ts)))
binary_kept op.Add t ts = ints_kept (t ∷ ts) int
binary_kept op.Sub t ts = ints_kept (t ∷ ts) int
binary_kept op.Mul t ts = ints_kept (t ∷ ts) int
binary_kept op.Div t ts = ints_kept (t ∷ ts) int
binary_kept op.Rem t ts = ints_kept (t ∷ ts) int
binary_kept op.Or t ts = fits_if_kept (all_are bool (t ∷ ts)) (all_are bool (erased_types (t ∷ ts))) bool (all_are_kept bool (t ∷ ts))
binary_kept op.And t ts = fits_if_kept (all_are bool (t ∷ ts)) (all_are bool (erased_types (t ∷ ts))) bool (all_are_kept bool (t ∷ ts))
binary_kept op.Eq t ts = pair_kept t ts
binary_kept op.Ne t ts = pair_kept t ts
binary_kept op.Lt t ts = ints_kept (t ∷ ts) bool
binary_kept op.Le t ts = ints_kept (t ∷ ts) bool
binary_kept op.Gt t ts = ints_kept (t ∷ ts) bool
binary_kept op.Ge t ts = ints_kept (t ∷ ts) bool

pub chosen_kept : (b b' : Bool) (f f' : Fit) → (b ≡ true → b' ≡ true) → (b ≡ true → Kept_fit f f') → Kept_fit (if b then f else Misfit) (if b' then f' else Misfit)
chosen_kept true b' f f' h k n = let r = k refl n in (r.0, r.1, ap (λ (b : Bool). if b then f' else Misfit) (h refl) ∙ r.2)
chosen_kept false b' f f' h k n = absurd (n refl)

pub if_kept : (c t : List Ty) (ts : List (List Ty)) → Kept_fit (if_fit (c ∷ t ∷ ts)) (if_fit (erased_types (c ∷ t ∷ ts)))
if_kept c t ts = chosen_kept (same_types bool c) (same_types bool (map erased_type c)) (alike (t ∷ ts)) (alike (erased_types (t ∷ ts))) (all_same_kept bool c) (λ h. alike_kept t ts)

pub get_kept : (ts : List Ty) → (get_fit (ts ∷ []) ≡ Misfit → ⊥) → (t : Plain_type) × (ts ≡ ty.Future t ∷ [])
get_kept [] n = absurd (n refl)
get_kept (ty.Plain t ∷ us) n = absurd (n refl)
get_kept (ty.Future t ∷ []) n = (t, refl)
get_kept (ty.Future t ∷ u ∷ us) n = absurd (n refl)

pub call_kept : (g : Node) (tss : List (List Ty)) → Kept_fit (call_fit g tss) (call_fit (erased_node g) (erased_types tss))
call_kept g tss n =
    let a = same_types (types_of g.inputs) (flat_map (λ t. t) tss) in
    let b = list_all (λ (t : List Ty). length t == 1) tss in
    let a' = same_types (types_of (map erased_decl g.inputs)) (flat_map (λ t. t) (erased_types tss)) in
    let b' = list_all (λ (t : List Ty). length t == 1) (erased_types tss) in
    let r = fits_if_kept (a && b) (a' && b') (types_of g.outputs) (λ h. and_both a' b' (
    ap (λ (us : List Ty). same_types us (flat_map (λ t. t) (erased_types tss))) (types_same g.inputs)
    ∙ ap (λ (us : List Ty). same_types (map erased_type (types_of g.inputs)) us) (joined_types tss)
    ∙ all_same_kept (types_of g.inputs) (flat_map (λ t. t) tss) (and_left a b h)
    ) (ones_kept tss (and_right a b h))) n in
    (r.0, r.1, ap (λ (us : List Ty). fits_if (a' && b') us) (types_same g.outputs) ∙ r.2)

async_fits : (ts : List Ty) → list_all is_plain ts ≡ true → async_fit (Fits ts) ≡ Fits (map future_of ts)
async_fits ts h = ap (λ (b : Bool). if b then Fits (map future_of ts) else Untyped) h

outputs_if : (b : Bool) (ts us : List Ty) → fits_if b ts ≡ Fits us → us ≡ ts
outputs_if true ts us e = cc
outputs_if false ts us e = cc

-- an async call of a node whose outputs are no futures
pub async_kept : (g : Node) (tss : List (List Ty)) → list_all is_plain (types_of g.outputs) ≡ true → Kept_fit (async_fit (call_fit g tss)) (call_fit (erased_node g) (erased_types tss))
async_kept g tss h n =
    let (us, is, is') = call_kept g tss (λ e. n (ap async_fit e)) in
    let o : us ≡ types_of g.outputs = outputs_if (same_types (types_of g.inputs) (flat_map (λ t. t) tss) && list_all (λ (t : List Ty). length t == 1) tss) (types_of g.outputs) us is in
    (map future_of us, ap async_fit is ∙ async_fits us (ap (list_all is_plain) o ∙ h), is' ∙ ap Fits (sym (futures_gone us)))
