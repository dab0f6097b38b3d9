-- What becomes of the calls of a book in an instant.
use Rattle.std.proofs.Common.{◌≡◌, ℕ, ◌++◌, List, [], ◌∷◌, length, map, All, inl, inr, refl, sym, subst, ap, ◌∙◌, arith}
use Rattle.std.specs.Prelude.{slice_index}
use Rattle.std.proofs.lemmas.List.Elements.{All-cons, All-head, All-tail, All-nil}
use Rattle.std.proofs.lemmas.Option.{slice_get_within, get_or_from_slice_get}
use Rattle.step_cells.specs.declared.cell.Cell.{Cell}
use Rattle.step_plans.specs.Books.{Made, Book, Grows, IsCellOf}
use Rattle.step_plans.specs.Memories.{AllOwn}
use Rattle.step_plans.specs.Operations.{cell_of, no_future}
use Rattle.step_plans.specs.declared.action.Action.{Action}
use Rattle.step_plans.specs.declared.action.Action.TheVariants as act
use Rattle.step_plans.specs.declared.action.Offering.{Offering}
use Rattle.step_plans.specs.declared.action.Source.{Source}
use Rattle.step_plans.specs.declared.action.Source.TheVariants as source
use Rattle.step_engine.specs.Running.{IsSourceWithin}
use Rattle.step_engine.specs.Actions.{State, IsDone, IsActionWithin, IsOfferingWithin, AreDone, nothing, done, input_of}
use Rattle.step_engine.specs.Instant.{CallsGoOn}
use Rattle.step_engine.proofs.Passing.{IsOffering, all_grow, is_one, offered_grows, offering_there, same_book_grows}
use Rattle.step_engine.proofs.ActionsDone.{cells_of_later}

own_later : (book later : Book) (calls : List Made) → Grows book later → AllOwn book calls → AllOwn later calls
own_later book later [] g own = tt
own_later book later (c ∷ calls) g own = (cells_of_later book later c.input g own.0, own_later book later calls g own.1)

own_push : (book : Book) (calls : List Made) (c : Made) → AllOwn book calls → All (IsCellOf book) c.input → AllOwn book (calls ++ c ∷ [])
own_push book [] c own here = (here, tt)
own_push book (d ∷ calls) c own here = (own.0, own_push book calls c own.1 here)

source_own : (book : Book) (values : List ℕ) (futures : List Cell) (from : Source) → All (IsCellOf book) futures → IsSourceWithin (length values) (length futures) from → IsCellOf book (cell_of values futures from)
source_own book values futures (source.Value r) named within = tt
source_own book values futures (source.Future f) named within = named f no_future within

sources_own : (book : Book) (values : List ℕ) (futures : List Cell) (sources : List Source) → All (IsCellOf book) futures → All (IsSourceWithin (length values) (length futures)) sources →
    All (IsCellOf book) (map (cell_of values futures) sources)
sources_own book values futures [] named within = All-nil (IsCellOf book)
sources_own book values futures (from ∷ sources) named within =
    All-cons (IsCellOf book) (cell_of values futures from) (map (cell_of values futures) sources) (source_own book values futures from named (All-head (IsSourceWithin (length values) (length futures)) from sources within))
    (sources_own book values futures sources named (All-tail (IsSourceWithin (length values) (length futures)) from sources within))

offered_own : (b later : Book) (k : ℕ) (o : Offering) (values : List ℕ) (futures : List Cell) (c : Made) → c.input ≡ input_of values futures o → later.calls ≡ b.calls ++ c ∷ [] → Grows b later → All (IsCellOf b) futures →
    All (IsSourceWithin (length values) (length futures)) o.sources.items → AllOwn b b.calls → AllOwn later later.calls
offered_own b later k o values futures c is calls g named within own =
    subst (AllOwn later) (sym calls)
    (own_push later b.calls c (own_later b later b.calls g own) (subst (All (IsCellOf later)) (sym is) (sources_own later values futures o.sources.items (cells_of_later b later futures g named) within)))

own_same : (b later : Book) → later ≡ b → AllOwn b b.calls → AllOwn later later.calls
own_same b later e own = subst (λ (x : Book). AllOwn x x.calls) (sym e) own

one_own : (offerings : List Offering) (cells marks : List ℕ) (a : Action) (s u : State) (n : ℕ) → All (IsCellOf s.book) s.futures → IsActionWithin (length s.values) (length cells) (length s.futures) (length offerings) a →
    All (IsOfferingWithin (length s.values) (length s.futures) n) offerings → IsDone offerings cells marks a s u → AllOwn s.book s.book.calls → AllOwn u.book u.book.calls
one_own offerings cells marks (act.Compute to i) s u n named within offers d own = own_same s.book u.book d.book own
one_own offerings cells marks (act.Move to i) s u n named within offers d own = own_same s.book u.book d.book own
one_own offerings cells marks (act.Get to h x) s u n named within offers d own =
    subst (AllOwn u.book) (sym d.book.calls) (own_later s.book u.book s.book.calls (same_book_grows s.book u.book d.book) own)
one_own offerings cells marks (act.Offer k) s u n named within offers d own =
    let there : IsOffering offerings k = offering_there offerings k within in
    let o : Offering = there.0 in
    let here : IsOfferingWithin (length s.values) (length s.futures) n o =
    subst (IsOfferingWithin (length s.values) (length s.futures) n) (get_or_from_slice_get offerings k o o there.1) (offers k o (slice_get_within offerings k o there.1)) in
    elim (is_one (slice_index s.values o.here)) [
      | inl e ↦
          let off = (d o there.1).0 e in
          offered_own s.book u.book k o s.values s.futures (record { instance = k; reset = _; input = input_of s.values s.futures o; handle = off.handle }) refl off.book.calls (offered_grows s.book u.book _ _ _ _ off.book) named here.sources own
      | inr ne ↦ own_same s.book u.book ((d o there.1).1 ne).book own
    ]

all_own : (offerings : List Offering) (cells marks : List ℕ) (actions : List Action) (s v : State) → AreDone offerings cells marks actions s v → AllOwn s.book s.book.calls → AllOwn v.book v.book.calls
all_own offerings cells marks actions s v nothing own = own
all_own offerings cells marks (a ∷ rest) s v (done {u = u} step more) own =
    all_own offerings cells marks rest u v more (one_own offerings cells marks a s u step.inputs step.owned.named step.within step.offers step.done own)

-- ---- a node without async calls

one_stays : (offerings : List Offering) (cells marks : List ℕ) (a : Action) (s u : State) → offerings ≡ [] → IsActionWithin (length s.values) (length cells) (length s.futures) (length offerings) a → IsDone offerings cells marks a s u → u.book.calls ≡ s.book.calls
one_stays offerings cells marks (act.Compute to i) s u none within d = ap (λ (b : Book). b.calls) d.book
one_stays offerings cells marks (act.Move to i) s u none within d = ap (λ (b : Book). b.calls) d.book
one_stays offerings cells marks (act.Get to h x) s u none within d = d.book.calls
one_stays offerings cells marks (act.Offer k) s u none within d = absurd (omega (arith, within, ap (λ (os : List Offering). length os) none))

all_stay : (offerings : List Offering) (cells marks : List ℕ) (actions : List Action) (s v : State) → offerings ≡ [] → AreDone offerings cells marks actions s v → v.book.calls ≡ s.book.calls
all_stay offerings cells marks actions s v none nothing = refl
all_stay offerings cells marks (a ∷ rest) s v none (done {u = u} step more) =
    all_stay offerings cells marks rest u v none more ∙ one_stays offerings cells marks a s u none step.within step.done

pub calls_go_on : (offerings : List Offering) (cells marks : List ℕ) (actions : List Action) (s v : State) → AreDone offerings cells marks actions s v → CallsGoOn offerings s.book v.book
calls_go_on offerings cells marks actions s v all = record {
  grows = all_grow offerings cells marks actions s v all;
  own = all_own offerings cells marks actions s v all;
  none = λ e. all_stay offerings cells marks actions s v e all;
}
