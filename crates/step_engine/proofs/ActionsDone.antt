-- Actions, one after another.
use Rattle.std.proofs.Common.{◌≡◌, ◌≢◌, ℕ, zero, suc, ◌+◌, ◌<◌, ◌≤◌, Bool, true, false, List, [], ◌∷◌, Option, Some, None, All, drop, eqb, set, get_or, length, refl, sym, subst, ap, ◌∙◌, arith, get_or-set_same, get_or-set_other, length-set}
use Rattle.std.proofs.Math.Seq.{drop-cons}
use Rattle.std.proofs.lemmas.List.{drop_all}
use Rattle.std.proofs.lemmas.Bool.Decides.{Decides-eqb}
use Rattle.std.proofs.lemmas.List.Elements.{Contains-push}
use Rattle.std.specs.Prelude.{if◌then◌else◌, ◌==◌, slice_get, slice_index, slice_index_or, slice_set}
use Rattle.std.specs.List.{Contains}
use Rattle.step_cells.specs.declared.cell.Cell.{Cell}
use Rattle.step_cells.specs.declared.cell.Cell.TheVariants as cell
use Rattle.step_cells.specs.declared.cell.Handle.{Handle}
use Rattle.step_plans.specs.Books.{Made, Book, Grows, IsOffered, IsSameBook, IsCellOf, worth}
use Rattle.step_plans.specs.Operations.{no_future}
use Rattle.step_plans.specs.declared.instruction.FutureInstruction.{FutureInstruction}
use Rattle.step_plans.specs.declared.instruction.FutureInstruction.TheVariants as moving
use Rattle.step_plans.specs.declared.action.Action.{Action}
use Rattle.step_plans.specs.declared.action.Action.TheVariants as act
use Rattle.step_plans.specs.declared.action.Offering.{Offering}
use Rattle.std.proofs.lemmas.Option.{slice_get-get_or}
use Rattle.step_plans.specs.declared.instruction.Instruction.{Instruction}
use Rattle.step_engine.specs.Running.{given, moved, IsFutureWithin}
use Rattle.step_engine.specs.Actions.{State, IsDone, IsOfferedAt, IsNotOffered, IsActionWithin, IsOfferingWithin, IsOwned, IsStep, AreDone, nothing, done, future_of, with_futures, input_of, reset_of}
use Rattle.step_engine.proofs.Passing.{is_of_later, offered_grows}

-- the actions from here on begin with the one here
pub done_from : (offerings : List Offering) (cells marks : List ℕ) (all : List Action) (i : ℕ) (a d : Action) (s u v : State) → i < length all → a ≡ get_or all i d → IsStep offerings cells marks a s u →
    AreDone offerings cells marks (drop (i + 1) all) u v → AreDone offerings cells marks (drop i all) s v
done_from offerings cells marks all i a d s u v lt is step rest =
    let e : drop i all ≡ get_or all i d ∷ drop (suc i) all = drop-cons all i d lt in
    let f : i + 1 ≡ suc i = omega arith in
    let later : AreDone offerings cells marks (drop (suc i) all) u v = subst (λ (k : ℕ). AreDone offerings cells marks (drop k all) u v) f rest in
    subst (λ (rest_all : List Action). AreDone offerings cells marks rest_all s v) (sym e) (subst (λ (b : Action). AreDone offerings cells marks (b ∷ drop (suc i) all) s v) is (done step later))

pub none_left : (offerings : List Offering) (cells marks : List ℕ) (all : List Action) (i : ℕ) (s : State) → length all ≤ i → AreDone offerings cells marks (drop i all) s s
none_left offerings cells marks all i s h = subst (λ (rest : List Action). AreDone offerings cells marks rest s s) (sym (drop_all i all h)) nothing

-- ---- one action, in any book

pub cell_of_later : (b later : Book) (c : Cell) → Grows b later → IsCellOf b c → IsCellOf later c
cell_of_later b later (cell.Value v) g h = tt
cell_of_later b later (cell.Ready v) g h = tt
cell_of_later b later (cell.Held k) g h = is_of_later b later k g h

pub cells_of_later : (b later : Book) (futures : List Cell) → Grows b later → All (IsCellOf b) futures → All (IsCellOf later) futures
cells_of_later b later futures g h = λ k d lt. cell_of_later b later (slice_index_or futures k d) g (h k d lt)

pub owned_later : (offerings : List Offering) (b later : Book) (futures : List Cell) → Grows b later → IsOwned offerings b futures → IsOwned offerings later futures
owned_later offerings b later futures g h = record {
  named = cells_of_later b later futures g h.named;
  outputs = λ k o at. h.outputs k o at ∙ sym (ap (λ (f : ℕ → ℕ). f k) g.outputs);
}

pub cells_set : (b : Book) (futures : List Cell) (at : ℕ) (c : Cell) → All (IsCellOf b) futures → IsCellOf b c → All (IsCellOf b) (set futures at c)
cells_set b futures at c h here = λ k d lt. by_place k d (omega (arith, length-set futures at c)) (eqb k at) refl
  where
    by_place : (k : ℕ) (d : Cell) → k < length futures → (y : Bool) → eqb k at ≡ y → IsCellOf b (get_or (set futures at c) k d)
    by_place k d lt true e =
        let f : k ≡ at = (Decides-eqb k at).0 e in
        let near : at < length futures = omega arith in
        subst (IsCellOf b) (sym (ap (λ (j : ℕ). get_or (set futures at c) j d) f ∙ get_or-set_same futures at c d near)) here
    by_place k d lt false e =
        let ne : k ≢ at = λ f. let g : eqb k at ≡ true = (Decides-eqb k at).1 f in cc in
        subst (IsCellOf b) (sym (get_or-set_other futures at k c d ne)) (h k d lt)

if_cell : (b : Book) (y : Bool) (c d : Cell) → IsCellOf b c → IsCellOf b d → IsCellOf b (if y then c else d)
if_cell b true c d h k = h
if_cell b false c d h k = k

pub moved_cell : (b : Book) (values : List ℕ) (futures : List Cell) (i : FutureInstruction) → All (IsCellOf b) futures → IsFutureWithin (length values) (length futures) i → IsCellOf b (moved values futures i)
moved_cell b values futures (moving.Ready n) h w = tt
moved_cell b values futures (moving.Select c k x y) h w = if_cell b (slice_index values c == k) _ _ (h x no_future w.1) (h y no_future w.2)
moved_cell b values futures (moving.Read m) h w = h m no_future w
moved_cell b values futures (moving.ReadUnless g m n) h w = if_cell b (slice_index values g == 1) (cell.Ready n) _ tt (h m no_future w.1)

held_cells : (b : Book) (futures : List Cell) (first n : ℕ) (h : Option Handle) → All (IsCellOf b) futures → ((j : ℕ) → j < n → IsCellOf b (future_of h j)) → All (IsCellOf b) (with_futures futures first n h)
held_cells b futures first zero h named are = named
held_cells b futures first (suc j) h named are = cells_set b (with_futures futures first j h) (first + j) (future_of h j) (held_cells b futures first j h named (λ i lt. are i (omega arith))) (are j (omega arith))

-- after a call that was made
pub offered_owned : (offerings : List Offering) (k : ℕ) (o : Offering) (reset : Bool) (input futures : List Cell) (handle : Handle) (book later : Book) → slice_get offerings k ≡ Some o → IsOffered book later k reset input handle → IsOwned offerings book futures →
    IsOwned offerings later (with_futures futures o.first o.outputs (Some handle))
offered_owned offerings k o reset input futures handle book later at off owned =
    let more = owned_later offerings book later futures (offered_grows book later k reset input handle off) owned in
    let made : Made = record { instance = k; reset = reset; input = input; handle = handle } in
    record {
      named = held_cells later futures o.first o.outputs (Some handle) more.named (λ j lt. record {
        call = made;
        there = subst (λ (cs : List Made). Contains cs made) (sym off.calls) (Contains-push book.calls made);
        output = j;
        within = omega (arith, more.outputs k o at);
        handle = refl;
      });
      outputs = more.outputs;
    }

-- and after none
pub cleared_owned : (offerings : List Offering) (book : Book) (futures : List Cell) (first n : ℕ) → IsOwned offerings book futures → IsOwned offerings book (with_futures futures first n None)
cleared_owned offerings book futures first n owned = record { named = held_cells book futures first n None owned.named (λ j lt. tt); outputs = owned.outputs }

-- ---- steps

pub same_get : (xs : List Cell) (k : ℕ) (d e : Cell) → k < length xs → get_or xs k d ≡ get_or xs k e
same_get [] k d e lt = absurd (omega arith)
same_get (x ∷ xs) zero d e lt = refl
same_get (x ∷ xs) (suc k) d e lt = same_get xs k d e (omega arith)

module _ (offerings : List Offering) (cells marks values : List ℕ) (futures : List Cell) (book : Book) (inputs : ℕ) where
  abbrev IsNow : Action → Type 0
  IsNow a = IsActionWithin (length values) (length cells) (length futures) (length offerings) a

  abbrev AreNow : Type 0
  AreNow = All (IsOfferingWithin (length values) (length futures) inputs) offerings

  abbrev now : State
  now = record { values = values; futures = futures; book = book }

  pub computed_step : (to v : ℕ) (i : Instruction) (a : Action) → a ≡ act.Compute to i → v ≡ given cells values i → IsOwned offerings book futures → IsNow a → AreNow →
      IsStep offerings cells marks a now (record { values = slice_set values to v; futures = futures; book = book })
  computed_step to v i a is e owned within offers = record {
    owned = owned;
    within = within;
    inputs = inputs;
    offers = offers;
    done = subst (λ (b : Action). IsDone offerings cells marks b now (record { values = slice_set values to v; futures = futures; book = book })) (sym is)
        (record { values = ap (λ (n : ℕ). slice_set values to n) e; futures = refl; book = refl });
  }

  pub moved_step : (to : ℕ) (c : Cell) (i : FutureInstruction) (a : Action) → a ≡ act.Move to i → c ≡ moved values futures i → IsOwned offerings book futures → IsNow a → AreNow →
      IsStep offerings cells marks a now (record { values = values; futures = slice_set futures to c; book = book })
  moved_step to c i a is e owned within offers = record {
    owned = owned;
    within = within;
    inputs = inputs;
    offers = offers;
    done = subst (λ (b : Action). IsDone offerings cells marks b now (record { values = values; futures = slice_set futures to c; book = book })) (sym is)
        (record { values = refl; futures = ap (λ (d : Cell). slice_set futures to d) e; book = refl });
  }

  pub moved_owned : (to : ℕ) (c : Cell) (i : FutureInstruction) (a : Action) → a ≡ act.Move to i → c ≡ moved values futures i → IsNow a → IsOwned offerings book futures → IsOwned offerings book (slice_set futures to c)
  moved_owned to c i a is e within owned = record {
    named = cells_set book futures to c owned.named (subst (IsCellOf book) (sym e) (moved_cell book values futures i owned.named (subst IsNow is within).1));
    outputs = owned.outputs;
  }

  pub got_step : (to h f v : ℕ) (d : Cell) (a : Action) (later : Book) → a ≡ act.Get to h f → (slice_index values h ≡ 1 → v ≡ worth book.reply (get_or futures f d)) → IsSameBook book later → IsOwned offerings book futures → IsNow a → AreNow →
      IsStep offerings cells marks a now (record { values = slice_set values to v; futures = futures; book = later })
  got_step to h f v d a later is here same owned within offers = record {
    owned = owned;
    within = within;
    inputs = inputs;
    offers = offers;
    done = subst (λ (b : Action). IsDone offerings cells marks b now (record { values = slice_set values to v; futures = futures; book = later })) (sym is)
        (record { value = v; values = refl; futures = refl; book = same; here = λ e. here e ∙ ap (worth book.reply) (same_get futures f d no_future (subst IsNow is within).2) });
  }

  pub get_within : (to h f : ℕ) (a : Action) → a ≡ act.Get to h f → IsNow a → f < length futures
  get_within to h f a is within = (subst IsNow is within).2

  pub offer_at : (k : ℕ) (o d : Offering) (a : Action) → a ≡ act.Offer k → o ≡ get_or offerings k d → IsNow a → slice_get offerings k ≡ Some o
  offer_at k o d a is e within = slice_get-get_or offerings k d (subst IsNow is within) ∙ ap Some (sym e)

  abbrev OfferDone : ℕ → State → Offering → Type 0
  OfferDone k u o = (slice_index values o.here ≡ 1 → IsOfferedAt marks k o now u) × (slice_index values o.here ≢ 1 → IsNotOffered o now u)

  offer_step : (k : ℕ) (o : Offering) (a : Action) (u : State) → a ≡ act.Offer k → slice_get offerings k ≡ Some o → OfferDone k u o → IsOwned offerings book futures → IsNow a → AreNow → IsStep offerings cells marks a now u
  offer_step k o a u is at d owned within offers = record {
    owned = owned;
    within = within;
    inputs = inputs;
    offers = offers;
    done = subst (λ (b : Action). IsDone offerings cells marks b now u) (sym is)
        (λ other get. let e : Some o ≡ Some other = sym at ∙ get in let f : o ≡ other = cc in subst (OfferDone k u) f d);
  }

  pub offered_step : (k : ℕ) (o : Offering) (a : Action) (new : List Cell) (handle : Handle) (later : Book) → a ≡ act.Offer k → slice_get offerings k ≡ Some o → slice_index values o.here ≡ 1 →
      new ≡ with_futures futures o.first o.outputs (Some handle) → IsOffered book later k (reset_of marks values k o) (input_of values futures o) handle → IsOwned offerings book futures → IsNow a → AreNow →
      IsStep offerings cells marks a now (record { values = values; futures = new; book = later })
  offered_step k o a new handle later is at here fs off owned within offers =
      offer_step k o a (record { values = values; futures = new; book = later }) is at ((λ e. record { handle = handle; values = refl; futures = fs; book = off }), (λ ne. absurd (ne here))) owned within offers

  pub cleared_step : (k : ℕ) (o : Offering) (a : Action) (new : List Cell) → a ≡ act.Offer k → slice_get offerings k ≡ Some o → slice_index values o.here ≢ 1 → new ≡ with_futures futures o.first o.outputs None → IsOwned offerings book futures → IsNow a → AreNow →
      IsStep offerings cells marks a now (record { values = values; futures = new; book = book })
  cleared_step k o a new is at away fs owned within offers =
      offer_step k o a (record { values = values; futures = new; book = book }) is at ((λ e. absurd (away e)), (λ ne. record { values = refl; futures = fs; book = refl })) owned within offers
