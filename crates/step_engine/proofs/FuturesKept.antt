-- Futures of inputs, and cells of future type.
use Rattle.std.proofs.Common.{◌≡◌, ◌≢◌, ℕ, ◌+◌, ◌<◌, ◌≤◌, Bool, true, false, List, Some, All, eqb, set, get_or, length, refl, sym, subst, ap, ◌∙◌, arith, get_or-set_same, get_or-set_other}
use Rattle.std.specs.Prelude.{if◌then◌else◌, ◌==◌, slice_get, slice_index}
use Rattle.std.proofs.lemmas.Bool.Decides.{Decides-eqb}
use Rattle.std.proofs.lemmas.Option.{get_or_from_slice_get}
use Rattle.step_cells.specs.declared.cell.Cell.{Cell}
use Rattle.step_cells.specs.declared.cell.Cell.TheVariants as cell
use Rattle.step_plans.specs.Books.{Book, IsCellOf, IsNoHandle}
use Rattle.step_plans.specs.Operations.{no_future}
use Rattle.step_plans.specs.declared.instruction.Store.{Store}
use Rattle.step_plans.specs.declared.instruction.Store.TheVariants as keeps
use Rattle.step_engine.specs.Running.{future_at}
use Rattle.step_engine.specs.Actions.{stored_future, IsFutureStoreWithin}
use Rattle.step_engine.proofs.ActionsDone.{same_get}

pub no_handle_of : (book : Book) (c : Cell) → IsNoHandle c → IsCellOf book c
no_handle_of book (cell.Value v) h = tt
no_handle_of book (cell.Ready v) h = tt
no_handle_of book (cell.Held k) h = absurd h

pub put_here : (inputs futures : List Cell) (first i k : ℕ) (d : Cell) → i < length inputs → first + i < length futures → ((j : ℕ) → j < i → get_or futures (first + j) no_future ≡ get_or inputs j no_future) → k < i + 1 →
    get_or (set futures (first + i) (get_or inputs i d)) (first + k) no_future ≡ get_or inputs k no_future
put_here inputs futures first i k d lt room have less = by_place (eqb k i) refl
  where
    by_place : (b : Bool) → eqb k i ≡ b → get_or (set futures (first + i) (get_or inputs i d)) (first + k) no_future ≡ get_or inputs k no_future
    by_place true e =
        let f : k ≡ i = (Decides-eqb k i).0 e in
        ap (λ (n : ℕ). get_or (set futures (first + i) (get_or inputs i d)) (first + n) no_future) f ∙ get_or-set_same futures (first + i) (get_or inputs i d) no_future room
        ∙ same_get inputs i d no_future lt ∙ ap (λ (n : ℕ). get_or inputs n no_future) (sym f)
    by_place false e =
        let ne : k ≢ i = λ f. let g : eqb k i ≡ true = (Decides-eqb k i).1 f in cc in
        let apart : first + k ≢ first + i = λ f. ne (omega arith) in
        get_or-set_other futures (first + i) (first + k) (get_or inputs i d) no_future apart ∙ have k (omega (arith, ne))

pub put_before : (futures : List Cell) (first i k : ℕ) (c : Cell) → k < first → get_or (set futures (first + i) c) k no_future ≡ get_or futures k no_future
put_before futures first i k c lt = let ne : k ≢ first + i = omega arith in get_or-set_other futures (first + i) k c no_future ne

-- a store reads no cell that was stored before
pub stored_same : (values : List ℕ) (old now : List Cell) (s : Store) (n m f i : ℕ) (c : Cell) → IsFutureStoreWithin n m f s → i < m → ((k : ℕ) → i ≤ k → future_at now k ≡ future_at old k) → stored_future values now s c ≡ stored_future values old s c
stored_same values old now (keeps.Always a) n m f i c w lt same = same a (omega (arith, w.0))
stored_same values old now (keeps.Where h a) n m f i c w lt same = ap (λ (x : Cell). if slice_index values h == 1 then x else c) (same a (omega (arith, w.1)))
stored_same values old now (keeps.Unless h a g k) n m f i c w lt same =
    ap (λ (x : Cell). if slice_index values h == 1 then x else (if slice_index values g == 1 then cell.Ready k else c)) (same a (omega (arith, w.1)))

if_cell : (b : Book) (y : Bool) (c d : Cell) → IsCellOf b c → IsCellOf b d → IsCellOf b (if y then c else d)
if_cell b true c d h k = h
if_cell b false c d h k = k

pub stored_named : (book : Book) (values : List ℕ) (futures : List Cell) (s : Store) (n m : ℕ) (c : Cell) → IsFutureStoreWithin n m (length futures) s → All (IsCellOf book) futures → IsCellOf book c → IsCellOf book (stored_future values futures s c)
stored_named book values futures (keeps.Always a) n m c w h of = h a no_future w.1
stored_named book values futures (keeps.Where p a) n m c w h of = if_cell book (slice_index values p == 1) _ c (h a no_future w.2) of
stored_named book values futures (keeps.Unless p a g k) n m c w h of = if_cell book (slice_index values p == 1) _ _ (h a no_future w.2) (if_cell book (slice_index values g == 1) (cell.Ready k) c tt of)

pub store_here : (stores : List Store) (values : List ℕ) (old now : List Cell) (i k n f : ℕ) (d : Store) (e r : Cell) (s : Store) → i < length stores → length stores ≤ length now → All (IsFutureStoreWithin n (length stores) f) stores →
    r ≡ stored_future values now (get_or stores i d) (get_or now i e) → ((j : ℕ) (q : Store) → j < i → slice_get stores j ≡ Some q → future_at now j ≡ stored_future values old q (future_at old j)) →
    ((j : ℕ) → i ≤ j → future_at now j ≡ future_at old j) → k < i + 1 → slice_get stores k ≡ Some s → future_at (set now i r) k ≡ stored_future values old s (future_at old k)
store_here stores values old now i k n f d e r s lt room within is have left less at = by_place (eqb k i) refl
  where
    by_place : (b : Bool) → eqb k i ≡ b → future_at (set now i r) k ≡ stored_future values old s (future_at old k)
    by_place true q =
        let same : k ≡ i = (Decides-eqb k i).0 q in
        let inside : i < length now = omega arith in
        let item : get_or stores i d ≡ s = subst (λ (m : ℕ). get_or stores m d ≡ s) same (get_or_from_slice_get stores k s d at) in
        let held : get_or now i e ≡ future_at old k = same_get now i e no_future inside ∙ left i (omega arith) ∙ ap (future_at old) (sym same) in
        ap (λ (m : ℕ). future_at (set now i r) m) same ∙ get_or-set_same now i r no_future inside ∙ is
        ∙ ap (λ (x : Cell). stored_future values now (get_or stores i d) x) held
        ∙ ap (λ (x : Store). stored_future values now x (future_at old k)) item
        ∙ stored_same values old now s n (length stores) f i (future_at old k) (subst (IsFutureStoreWithin n (length stores) f) item (within i d lt)) lt left
    by_place false q =
        let ne : k ≢ i = λ g. let h : eqb k i ≡ true = (Decides-eqb k i).1 g in cc in
        get_or-set_other now i k r no_future ne ∙ have k s (omega (arith, ne)) at

pub store_left : (now : List Cell) (i k : ℕ) (r : Cell) → i + 1 ≤ k → future_at (set now i r) k ≡ future_at now k
store_left now i k r le = let ne : k ≢ i = omega arith in get_or-set_other now i k r no_future ne

pub stored_owned : (book : Book) (stores : List Store) (values : List ℕ) (now : List Cell) (i n f : ℕ) (d : Store) (e r : Cell) → i < length stores → length stores ≤ length now → f ≡ length now → All (IsFutureStoreWithin n (length stores) f) stores →
    r ≡ stored_future values now (get_or stores i d) (get_or now i e) → All (IsCellOf book) now → IsCellOf book r
stored_owned book stores values now i n f d e r lt room same within is named =
    subst (IsCellOf book) (sym is) (stored_named book values now (get_or stores i d) n (length stores) (get_or now i e) (subst (λ (k : ℕ). IsFutureStoreWithin n (length stores) k (get_or stores i d)) same (within i d lt)) named (named i e (omega arith)))
