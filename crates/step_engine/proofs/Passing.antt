-- A pass over actions, under any replies that agree with the book at its end.
use Rattle.std.proofs.Common.{◌≡◌, ◌≢◌, ◌⊎◌, inl, inr, ℕ, zero, suc, ◌+◌, ◌<◌, ◌≤◌, Bool, true, false, List, [], ◌∷◌, ◌++◌, length, map, Option, Some, None, All, refl, sym, subst, ap, ◌∙◌, arith, append_assoc, append-nil, get_or-set_same, get_or-set_other, length-set}
use Rattle.std.specs.Prelude.{if◌then◌else◌, ◌==◌, ◌||◌, slice_get, slice_index, slice_index_or, slice_set}
use Rattle.std.proofs.lemmas.Bool.Decides.{Decides-eqb}
use Rattle.std.proofs.lemmas.Option.{slice_get_within, get_or_from_slice_get}
use Rattle.std.specs.List.{Contains}
use Rattle.std.proofs.lemmas.List.Elements.{Contains-append_left}
use Rattle.hept_ast.specs.Values.{truth}
use Rattle.hept_ast.specs.Scopes.{Clock, Text, Scope, outputs_of, Called}
use Rattle.hept_ast.specs.Texts.{Name}
use Rattle.hept_ast.specs.Meaning.{Gives, Output, Variable, Present, Absent, Value, Is, Setting, outputs_rule, output_rule, reply_or, answer_to}
use Rattle.hept_ast.specs.Outputs.{said, asked}
use Rattle.hept_ast.specs.Sites.{Site, path_of}
use Rattle.hept_ast.specs.declared.tree.Expr.{Expr}
use Rattle.hept_ast.specs.declared.tree.MergeBranch.{MergeBranch}
use Rattle.hept_ast.specs.declared.tree.Form.{Form, out-Form}
use Rattle.hept_ast.specs.declared.tree.Form.TheOpen.{Form-F}
use Rattle.hept_ast.proofs.Depths.{to_rule}
use Rattle.step_cells.specs.declared.cell.Cell.{Cell}
use Rattle.step_cells.specs.declared.cell.Cell.TheVariants as cell
use Rattle.step_cells.specs.declared.cell.Handle.{Handle}
use Rattle.step_plans.specs.Kept.{Counted}
use Rattle.step_plans.specs.Things.{Thing, Memory, Here, Part, HasAnswer, IsAgain, IsBegun, Holds}
use Rattle.step_plans.specs.Books.{Made, Book, IsOf, Grows, IsOffered, IsSameBook, IsCellOf, worth, of_instance, of_output}
use Rattle.step_plans.specs.Operations.{Register, In_values, In_futures, look, outcome, operation_of, future_operation_of, no_future, cell_of, register_of}
use Rattle.step_plans.specs.Plans.{Ground, Entry, At, Has, newest, older, memory_at, AreSources, Offers_site, with_results, IsEarlier, is_among, Progress, Does, computes, moves, offers, gets, Knows_more, known, MakesAll, made, action, also}
use Rattle.step_plans.specs.Sending.{AgreesWith, IsMade, HaveAnswers, Did, did_call, did_nothing}
use Rattle.step_plans.specs.Instants.{Known, HoldsAll}
use Rattle.step_plans.specs.declared.instruction.Instruction.{Instruction}
use Rattle.step_plans.specs.declared.instruction.Instruction.TheVariants as does
use Rattle.step_plans.specs.declared.instruction.FutureInstruction.{FutureInstruction}
use Rattle.step_plans.specs.declared.instruction.FutureInstruction.TheVariants as moving
use Rattle.step_plans.specs.declared.action.Source.{Source}
use Rattle.step_plans.specs.declared.action.Source.TheVariants as source
use Rattle.step_plans.specs.declared.action.Action.{Action}
use Rattle.step_plans.specs.declared.action.Action.TheVariants as act
use Rattle.step_plans.specs.declared.action.Offering.{Offering}
use Rattle.step_plans.proofs.Frames.{K, Comes, by_form, comes_by, comes_counted, where_present}
use Rattle.step_plans.proofs.Making.{makes_thing, means_thing}
use Rattle.step_engine.specs.Running.{given, moved, future_at}
use Rattle.step_engine.specs.Actions.{State, IsDone, IsGot, IsOfferedAt, IsOfferingWithin, IsActionWithin, IsStep, AreDone, nothing, done, future_of, with_futures, input_of, reset_of}

-- ---- numbers

pub worth_if : (reply : Handle → ℕ) (b : Bool) (x y : Cell) → worth reply (if b then x else y) ≡ (if b then worth reply x else worth reply y)
worth_if reply true x y = refl
worth_if reply false x y = refl

given_is : (reply : Handle → ℕ) (cells values : List ℕ) (futures : List Cell) (i : Instruction) → outcome (look reply cells futures) (look reply values futures) (operation_of i) ≡ given cells values i
given_is reply cells values futures (does.Constant n) = refl
given_is reply cells values futures (does.Minus a) = refl
given_is reply cells values futures (does.Not a) = refl
given_is reply cells values futures (does.Add a b) = refl
given_is reply cells values futures (does.Subtract a b) = refl
given_is reply cells values futures (does.Multiply a b) = refl
given_is reply cells values futures (does.Or a b) = refl
given_is reply cells values futures (does.And a b) = refl
given_is reply cells values futures (does.Equal a b) = refl
given_is reply cells values futures (does.Different a b) = refl
given_is reply cells values futures (does.Less a b) = refl
given_is reply cells values futures (does.AtMost a b) = refl
given_is reply cells values futures (does.Greater a b) = refl
given_is reply cells values futures (does.AtLeast a b) = refl
given_is reply cells values futures (does.Quotient a n) = refl
given_is reply cells values futures (does.Remainder a n) = refl
given_is reply cells values futures (does.Select c k a b) = refl
given_is reply cells values futures (does.Flag h x k) = refl
given_is reply cells values futures (does.Again g h x) = refl
given_is reply cells values futures (does.Read m) = refl
given_is reply cells values futures (does.ReadUnless g m n) = refl

moved_is : (reply : Handle → ℕ) (cells values : List ℕ) (futures : List Cell) (i : FutureInstruction) → worth reply (moved values futures i) ≡ outcome (look reply cells futures) (look reply values futures) (future_operation_of i)
moved_is reply cells values futures (moving.Ready n) = refl
moved_is reply cells values futures (moving.Select c k a b) = worth_if reply (slice_index values c == k) (future_at futures a) (future_at futures b)
moved_is reply cells values futures (moving.Read m) = refl
moved_is reply cells values futures (moving.ReadUnless g m n) = worth_if reply (slice_index values g == 1) (cell.Ready n) (future_at futures m)

-- after an action the earlier registers are as they were
value_set : (reply : Handle → ℕ) (s u : State) (at later v : ℕ) (r : Register) → u.values ≡ slice_set s.values at v → u.futures ≡ s.futures → IsEarlier at later r → look reply u.values u.futures r ≡ look reply s.values s.futures r
value_set reply s u at later v (In_values q) vs fs lt =
    let ne : q ≢ at = omega arith in
    ap (λ (xs : List ℕ). slice_index xs q) vs ∙ get_or-set_other s.values at q v 0 ne
value_set reply s u at later v (In_futures f) vs fs lt = ap (λ (cs : List Cell). worth reply (slice_index_or cs f no_future)) fs

future_set : (reply : Handle → ℕ) (s u : State) (at later : ℕ) (c : Cell) (r : Register) → u.values ≡ s.values → u.futures ≡ slice_set s.futures later c → IsEarlier at later r → look reply u.values u.futures r ≡ look reply s.values s.futures r
future_set reply s u at later c (In_values q) vs fs lt = ap (λ (xs : List ℕ). slice_index xs q) vs
future_set reply s u at later c (In_futures f) vs fs lt =
    let ne : f ≢ later = omega arith in
    ap (λ (cs : List Cell). worth reply (slice_index_or cs f no_future)) fs ∙ ap (worth reply) (get_or-set_other s.futures later f c no_future ne)

pub with_futures_length : (futures : List Cell) (first n : ℕ) (h : Option Handle) → length (with_futures futures first n h) ≡ length futures
with_futures_length futures first zero h = refl
with_futures_length futures first (suc j) h = length-set (with_futures futures first j h) (first + j) (future_of h j) ∙ with_futures_length futures first j h

before_futures : (futures : List Cell) (first n f : ℕ) (h : Option Handle) → f < first → slice_index_or (with_futures futures first n h) f no_future ≡ slice_index_or futures f no_future
before_futures futures first zero f h lt = refl
before_futures futures first (suc j) f h lt =
    let ne : f ≢ first + j = omega arith in
    get_or-set_other (with_futures futures first j h) (first + j) f (future_of h j) no_future ne ∙ before_futures futures first j f h lt

there_futures : (futures : List Cell) (first n j : ℕ) (h : Option Handle) → j < n → first + n ≤ length futures → slice_index_or (with_futures futures first n h) (first + j) no_future ≡ future_of h j
there_futures futures first zero j h lt room = absurd (omega arith)
there_futures futures first (suc i) j h lt room = by_place (λ less. there_futures futures first i j h less (omega arith)) (j == i) refl
  where
    by_place : (j < i → slice_index_or (with_futures futures first i h) (first + j) no_future ≡ future_of h j) → (b : Bool) → (j == i) ≡ b → slice_index_or (slice_set (with_futures futures first i h) (first + i) (future_of h i)) (first + j) no_future ≡ future_of h j
    by_place rest true e =
        let f : j ≡ i = (Decides-eqb j i).0 e in
        let inside : first + i < length (with_futures futures first i h) = omega (arith, with_futures_length futures first i h) in
        ap (λ (k : ℕ). slice_index_or (slice_set (with_futures futures first i h) (first + i) (future_of h i)) (first + k) no_future) f
        ∙ get_or-set_same (with_futures futures first i h) (first + i) (future_of h i) no_future inside ∙ ap (future_of h) (sym f)
    by_place rest false e =
        let ne : j ≢ i = λ f. let g : (j == i) ≡ true = (Decides-eqb j i).1 f in cc in
        let apart : first + j ≢ first + i = λ f. ne (omega arith) in
        let less : j < i = omega (arith, ne) in
        get_or-set_other (with_futures futures first i h) (first + i) (first + j) (future_of h i) no_future apart ∙ rest less

futures_set : (reply : Handle → ℕ) (s u : State) (at later n : ℕ) (h : Option Handle) (r : Register) → u.values ≡ s.values → u.futures ≡ with_futures s.futures later n h → IsEarlier at later r →
    look reply u.values u.futures r ≡ look reply s.values s.futures r
futures_set reply s u at later n h (In_values q) vs fs lt = ap (λ (xs : List ℕ). slice_index xs q) vs
futures_set reply s u at later n h (In_futures f) vs fs lt =
    ap (λ (cs : List Cell). worth reply (slice_index_or cs f no_future)) fs ∙ ap (worth reply) (before_futures s.futures later n f h lt)

-- ---- books

of_instance_append : (k : ℕ) (xs ys : List Made) → of_instance k (xs ++ ys) ≡ of_instance k xs ++ of_instance k ys
of_instance_append k [] ys = refl
of_instance_append k (x ∷ xs) ys = by_test (x.instance == k) (of_instance_append k xs ys)
  where
    by_test : (b : Bool) → of_instance k (xs ++ ys) ≡ of_instance k xs ++ of_instance k ys →
        (if b then x ∷ of_instance k (xs ++ ys) else of_instance k (xs ++ ys)) ≡ (if b then x ∷ of_instance k xs else of_instance k xs) ++ of_instance k ys
    by_test true e = ap (λ (zs : List Made). x ∷ zs) e
    by_test false e = e

of_own : (k : ℕ) (c : Made) → c.instance ≡ k → of_instance k (c ∷ []) ≡ c ∷ []
of_own k c e = let t : (c.instance == k) ≡ true = (Decides-eqb c.instance k).1 e in ap (λ (b : Bool). if b then c ∷ [] else []) t

of_other : (k : ℕ) (c : Made) → (c.instance == k) ≡ false → of_instance k (c ∷ []) ≡ []
of_other k c t = ap (λ (b : Bool). if b then c ∷ [] else []) t

pub same_grows : (b : Book) → Grows b b
same_grows b = record { added = []; calls = nothing_added b.calls; outputs = refl; replies = λ h of. refl }
  where
    nothing_added : (xs : List Made) → xs ≡ xs ++ []
    nothing_added [] = refl
    nothing_added (x ∷ xs) = ap (λ (ys : List Made). x ∷ ys) (nothing_added xs)

pub is_of_later : (b later : Book) (h : Handle) → Grows b later → IsOf b h → IsOf later h
is_of_later b later h g of = record {
  call = of.call;
  there = subst (λ (cs : List Made). Contains cs of.call) (sym g.calls) (Contains-append_left b.calls g.added of.call of.there);
  output = of.output;
  within = subst (λ (f : ℕ → ℕ). of.output < f of.call.instance) (sym g.outputs) of.within;
  handle = of.handle;
}

grows_on : (b c d : Book) → Grows b c → Grows c d → Grows b d
grows_on b c d g h = record {
  added = g.added ++ h.added;
  calls = h.calls ∙ ap (λ (xs : List Made). xs ++ h.added) g.calls ∙ append_assoc b.calls g.added h.added;
  outputs = h.outputs ∙ g.outputs;
  replies = λ k of. h.replies k (is_of_later b c k g of) ∙ g.replies k of;
}

pub offered_grows : (b later : Book) (k : ℕ) (reset : Bool) (input : List Cell) (h : Handle) → IsOffered b later k reset input h → Grows b later
offered_grows b later k reset input h o = record { added = record { instance = k; reset = reset; input = input; handle = h } ∷ []; calls = o.calls; outputs = o.outputs; replies = o.replies }

pub same_book_grows : (b later : Book) → IsSameBook b later → Grows b later
unfolding same_grows
same_book_grows b later o =
    let s = same_grows b in
    record { added = []; calls = o.calls ∙ s.calls; outputs = o.outputs; replies = o.replies }

equal_grows : (b later : Book) → later ≡ b → Grows b later
equal_grows b later e = subst (λ (x : Book). Grows b x) (sym e) (same_grows b)

-- whether the first register is 1
pub is_one : (v : ℕ) → (v ≡ 1) ⊎ (v ≢ 1)
is_one v = by_test (v == 1) refl
  where
    by_test : (b : Bool) → (v == 1) ≡ b → (v ≡ 1) ⊎ (v ≢ 1)
    by_test true e = inl ((Decides-eqb v 1).0 e)
    by_test false e = inr (λ f. let g : (v == 1) ≡ true = (Decides-eqb v 1).1 f in cc)

abbrev pub IsOffering : List Offering → ℕ → Type 0
IsOffering offerings k = (o : Offering) × (slice_get offerings k ≡ Some o)

pub offering_there : (offerings : List Offering) (k : ℕ) → k < length offerings → IsOffering offerings k
offering_there [] k lt = absurd (omega arith)
offering_there (o ∷ os) zero lt = (o, refl)
offering_there (o ∷ os) (suc k) lt = offering_there os k (omega arith)

offer_grows : (offerings : List Offering) (cells marks : List ℕ) (k : ℕ) (s u : State) → IsOffering offerings k → IsDone offerings cells marks (act.Offer k) s u → Grows s.book u.book
offer_grows offerings cells marks k s u there d = elim (is_one (slice_index s.values there.0.here)) [
  | inl e ↦ offered_grows s.book u.book _ _ _ _ ((d there.0 there.1).0 e).book
  | inr e ↦ equal_grows s.book u.book ((d there.0 there.1).1 e).book
]

done_grows : (offerings : List Offering) (cells marks : List ℕ) (a : Action) (s u : State) (n m f : ℕ) → IsActionWithin n m f (length offerings) a → IsDone offerings cells marks a s u → Grows s.book u.book
done_grows offerings cells marks (act.Compute to i) s u n m f within d = equal_grows s.book u.book d.book
done_grows offerings cells marks (act.Move to i) s u n m f within d = equal_grows s.book u.book d.book
done_grows offerings cells marks (act.Offer k) s u n m f within d = offer_grows offerings cells marks k s u (offering_there offerings k within) d
done_grows offerings cells marks (act.Get to h x) s u n m f within d = same_book_grows s.book u.book d.book

pub all_grow : (offerings : List Offering) (cells marks : List ℕ) (actions : List Action) (s v : State) → AreDone offerings cells marks actions s v → Grows s.book v.book
all_grow offerings cells marks actions s v nothing = same_grows s.book
all_grow offerings cells marks (a ∷ rest) s v (done {u = u} step more) =
    grows_on s.book u.book v.book (done_grows offerings cells marks a s u (length s.values) (length cells) (length s.futures) step.within step.done) (all_grow offerings cells marks rest u v more)

-- ---- one site

at_seam : {A : Type 0} (xs : List A) (y : A) (zs : List A) → slice_get ((xs ++ y ∷ []) ++ zs) (length xs) ≡ Some y
at_seam [] y zs = refl
at_seam (x ∷ xs) y zs = at_seam xs y zs

abbrev IsReplied : Setting → Site → ℕ → Book → Made → ℕ → Type 0
IsReplied w site number last c outputs = (outs : List ℕ) × (w.replies (path_of site) number ≡ Some outs) × ((m : ℕ) → m < outputs → slice_index outs m ≡ last.reply (of_output c.handle m))

-- what a call of a site that is made now is replied
reply_is : (w : Setting) (sites : List Site) (k : ℕ) (site : Site) (now later last : Book) (c : Made) → AgreesWith w sites last → slice_get sites k ≡ Some site → c.instance ≡ k → later.calls ≡ now.calls ++ c ∷ [] → Grows later last →
    IsReplied w site (length (of_instance k now.calls)) last c (last.outputs k)
reply_is w sites k site now later last c agrees at own calls g =
    agrees k site (length (of_instance k now.calls)) c at
    (ap (λ (xs : List Made). slice_get (of_instance k xs) (length (of_instance k now.calls))) (g.calls ∙ ap (λ (xs : List Made). xs ++ g.added) calls)
    ∙ ap (λ (xs : List Made). slice_get xs (length (of_instance k now.calls)))
    (of_instance_append k (now.calls ++ c ∷ []) g.added
    ∙ ap (λ (xs : List Made). xs ++ of_instance k g.added) (of_instance_append k now.calls (c ∷ []) ∙ ap (λ (xs : List Made). of_instance k now.calls ++ xs) (of_own k c own)))
    ∙ at_seam (of_instance k now.calls) c (of_instance k g.added))

-- an output under the reply
output_replied : (w : Setting) (rows : List (List ℕ)) (t : ℕ) (e : Expr) (queue : ℕ) (f : Name) (site : Site) (n j v : ℕ) (outs : List ℕ) → out-Form e.form ≡ Form-F.AsyncCall queue f site.args → w.node f ≡ Some site.text →
    e.place.0 ≡ site.place → K w rows (Present site.clock site.scope t) (Is true) → Counted (K w rows) (λ p. Present site.clock site.scope p) t n → w.replies (path_of site) n ≡ Some outs → slice_index outs j ≡ v →
    HasAnswer (K w rows) (Output e j site.clock site.scope t) v
output_replied w rows t e queue f site n j v outs is called place here counted replied shows =
    where_present w rows (Output e j site.clock site.scope t) (Present site.clock site.scope t) _ 1 v (λ b g k. to_rule w rows _ _ g k) (record { answer = true; known = here; shown = refl })
    (subst (λ (x : Form-F Form Expr MergeBranch). Comes w rows (outputs_rule w x e j site.clock site.scope t) v) (sym is)
    (subst (λ (o : Option Text). Comes w rows (output_rule w (call_with o) e.place.0 j site.clock site.scope t) v) (sym called)
    (subst (λ (p : ℕ). Comes w rows (output_rule w (Some (site.args, site.text)) p j site.clock site.scope t) v) (sym place)
    (comes_counted w rows (λ p. Present site.clock site.scope p) _ t n v counted
    (subst (λ (o : Option (List ℕ)). Comes w rows (reply_or w o j (answer_to (Variable (slice_index_or (outputs_of site.text) j []) (Called site.scope site.clock site.place site.args site.text) t))) v) (sym replied)
    (record { answer = Value (slice_index outs j); follows = said; shown = sym shows }))))))
  where
    call_with : Option Text → Option (List Expr × Text)
    call_with None = None
    call_with (Some u) = Some (site.args, u)

absent_part : (w : Setting) (rows : List (List ℕ)) (t v : ℕ) (e : Expr) (c : Clock) (s : Scope) → K w rows (Present c s t) (Is false) → HasAnswer (K w rows) (Gives e c s t) v
absent_part w rows t v e c s h = record { answer = Absent; known = to_rule w rows _ _ (asked h said) (λ i. cc); shown = tt }

absent_output : (w : Setting) (rows : List (List ℕ)) (t v : ℕ) (e : Expr) (j : ℕ) (c : Clock) (s : Scope) → K w rows (Present c s t) (Is false) → HasAnswer (K w rows) (Output e j c s t) v
absent_output w rows t v e j c s h = record { answer = Absent; known = to_rule w rows _ _ (asked h said) (λ i. cc); shown = tt }

worth_grows : (b last : Book) (c : Cell) → Grows b last → IsCellOf b c → worth last.reply c ≡ worth b.reply c
worth_grows b last (cell.Value v) g of = refl
worth_grows b last (cell.Ready v) g of = refl
worth_grows b last (cell.Held h) g of = g.replies h of

one_truth : (b : Bool) → (truth b == 1) ≡ b
one_truth true = refl
one_truth false = refl

-- the arguments of a call
source_worth : (reply : Handle → ℕ) (values : List ℕ) (futures : List Cell) (from : Source) → worth reply (cell_of values futures from) ≡ look reply values futures (register_of from)
source_worth reply values futures (source.Value r) = refl
source_worth reply values futures (source.Future f) = refl

have_answers : (w : Setting) (rows : List (List ℕ)) (t : ℕ) (g : Ground) (entries : List Entry) (c : Clock) (q : Scope) (reply : Handle → ℕ) (values : List ℕ) (futures : List Cell) (args : List Expr) (sources : List Source) →
    HoldsAll w rows t entries (look reply values futures) → AreSources g entries c q args sources → HaveAnswers w rows (map (λ e. Gives e c q t) args) (map (worth reply) (map (cell_of values futures) sources))
have_answers w rows t g entries c q reply values futures [] [] hold are = tt
have_answers w rows t g entries c q reply values futures [] (from ∷ sources) hold are = absurd are
have_answers w rows t g entries c q reply values futures (a ∷ args) [] hold are = absurd are
have_answers w rows t g entries c q reply values futures (a ∷ args) (from ∷ sources) hold are = (
  subst (λ (v : ℕ). HasAnswer (K w rows) (Gives a c q t) v) (sym (source_worth reply values futures from)) (hold (Part a c q) (register_of from) are.0),
  have_answers w rows t g entries c q reply values futures args sources hold are.1,
)

-- ---- the pass

-- what holds before the rest of the actions
record Passing (w : Setting) (rows : List (List ℕ)) (t : ℕ) (g : Ground) (sites : List Site) (offerings : List Offering) (cells marks : List ℕ) (begin last : Book) (p : Progress) (s : State) : Type 0 where
  below : length g.future_memories ≤ p.later
  earlier : (thing : Thing) (r : Register) → Has p.entries thing r → IsEarlier p.at p.later r
  hold : HoldsAll w rows t p.entries (look last.reply s.values s.futures)
  ground : Known w rows t g (look last.reply cells s.futures)
  left : (k : ℕ) (site : Site) → slice_get sites k ≡ Some site → is_among k p.offered ≡ false → of_instance k s.book.calls ≡ of_instance k begin.calls
  over : (k : ℕ) (site : Site) → slice_get sites k ≡ Some site → is_among k p.offered ≡ true → Did w rows t last.reply marks site k begin s.book

earlier_more : (at later at_now later_now : ℕ) (r : Register) → at ≤ at_now → later ≤ later_now → IsEarlier at later r → IsEarlier at_now later_now r
earlier_more at later at_now later_now (In_values q) le more lt = omega arith
earlier_more at later at_now later_now (In_futures q) le more lt = omega arith

abbrev AreEarlier : List Entry → (at later : ℕ) → Type 0
AreEarlier entries at later = (thing : Thing) (r : Register) → Has entries thing r → IsEarlier at later r

entries_more : (at later at_now later_now : ℕ) (thing : Thing) (r : Register) (entries : List Entry) → at ≤ at_now → later ≤ later_now → AreEarlier entries at later → IsEarlier at_now later_now r → AreEarlier (At thing r ∷ entries) at_now later_now
entries_more at later at_now later_now thing r entries le more earlier here other q newest = here
entries_more at later at_now later_now thing r entries le more earlier here other q (older h) = earlier_more at later at_now later_now q le more (earlier other q h)

results_earlier : (e : Expr) (c : Clock) (q : Scope) (at later n : ℕ) (entries : List Entry) → AreEarlier entries at later → AreEarlier (with_results e c q later n entries) at (later + n)
results_earlier e c q at later zero entries earlier other r h = earlier_more at later at (later + 0) r (omega arith) (omega arith) (earlier other r h)
results_earlier e c q at later (suc j) entries earlier other r newest = omega arith
results_earlier e c q at later (suc j) entries earlier other r (older h) =
    earlier_more at (later + j) at (later + suc j) r (omega arith) (omega arith) (results_earlier e c q at later j entries earlier other r h)

hold_same : (w : Setting) (rows : List (List ℕ)) (t at later : ℕ) (entries : List Entry) (old new : Register → ℕ) → AreEarlier entries at later → ((q : Register) → IsEarlier at later q → new q ≡ old q) →
    HoldsAll w rows t entries old → HoldsAll w rows t entries new
hold_same w rows t at later entries old new earlier same hold other q h = subst (λ (v : ℕ). Holds w rows t other v) (sym (same q (earlier other q h))) (hold other q h)

hold_more : (w : Setting) (rows : List (List ℕ)) (t : ℕ) (thing : Thing) (r : Register) (entries : List Entry) (now : Register → ℕ) → HoldsAll w rows t entries now → Holds w rows t thing (now r) → HoldsAll w rows t (At thing r ∷ entries) now
hold_more w rows t thing r entries now hold here other q newest = here
hold_more w rows t thing r entries now hold here other q (older h) = hold other q h

results_hold : (w : Setting) (rows : List (List ℕ)) (t : ℕ) (e : Expr) (c : Clock) (q : Scope) (first n : ℕ) (entries : List Entry) (now : Register → ℕ) → HoldsAll w rows t entries now →
    ((j : ℕ) → j < n → HasAnswer (K w rows) (Output e j c q t) (now (In_futures (first + j)))) → HoldsAll w rows t (with_results e c q first n entries) now
results_hold w rows t e c q first zero entries now hold outs = hold
results_hold w rows t e c q first (suc j) entries now hold outs =
    hold_more w rows t _ _ _ now (results_hold w rows t e c q first j entries now hold (λ i lt. outs i (omega arith))) (outs j (omega arith))

known_same : (w : Setting) (rows : List (List ℕ)) (t : ℕ) (g : Ground) (old new : Register → ℕ) → Known w rows t g old → ((r : Register) (m : Memory) → memory_at g r ≡ Some m → new r ≡ old r) → Known w rows t g new
known_same w rows t g old new k same = record {
  ground = k.ground;
  begun = λ r m at. subst (λ (v : ℕ). IsBegun w rows t m v) (sym (same r m at)) (k.begun r m at);
  firm = k.firm;
  covered = k.covered;
  counted = k.counted;
  no_reply = k.no_reply;
}

did_later : (w : Setting) (rows : List (List ℕ)) (t : ℕ) (reply : Handle → ℕ) (marks : List ℕ) (site : Site) (k : ℕ) (begin b later : Book) → of_instance k later.calls ≡ of_instance k b.calls → Did w rows t reply marks site k begin b → Did w rows t reply marks site k begin later
did_later w rows t reply marks site k begin b later e (did_call c again here calls restarted reset has) = did_call c again here (e ∙ calls) restarted reset has
did_later w rows t reply marks site k begin b later e (did_nothing here calls) = did_nothing here (e ∙ calls)

-- a call more, for the instances
calls_own : (k : ℕ) (b later : Book) (c : Made) → later.calls ≡ b.calls ++ c ∷ [] → c.instance ≡ k → of_instance k later.calls ≡ of_instance k b.calls ++ c ∷ []
calls_own k b later c e own = ap (of_instance k) e ∙ of_instance_append k b.calls (c ∷ []) ∙ ap (λ (xs : List Made). of_instance k b.calls ++ xs) (of_own k c own)

calls_other : (k : ℕ) (b later : Book) (c : Made) → later.calls ≡ b.calls ++ c ∷ [] → (c.instance == k) ≡ false → of_instance k later.calls ≡ of_instance k b.calls
calls_other k b later c e other = ap (of_instance k) e ∙ of_instance_append k b.calls (c ∷ []) ∙ ap (λ (xs : List Made). of_instance k b.calls ++ xs) (of_other k c other) ∙ append-nil (of_instance k b.calls)

-- the sites but for one, and that one
not_this : (j k : ℕ) (offered : List ℕ) → is_among j (k ∷ offered) ≡ false → (k == j) ≡ false
not_this j k offered e = by_test (k == j) (is_among j offered) e
  where
    by_test : (x y : Bool) → (x || y) ≡ false → x ≡ false
    by_test true y f = absurd (cc)
    by_test false y f = refl

not_those : (j k : ℕ) (offered : List ℕ) → is_among j (k ∷ offered) ≡ false → is_among j offered ≡ false
not_those j k offered e = by_test (k == j) (is_among j offered) e
  where
    by_test : (x y : Bool) → (x || y) ≡ false → y ≡ false
    by_test true y f = absurd (cc)
    by_test false y f = f

same_site : (sites : List Site) (j k : ℕ) (one other : Site) → k ≡ j → slice_get sites k ≡ Some one → slice_get sites j ≡ Some other → one ≡ other
same_site sites j k one other e h f =
    let x : Some one ≡ Some other = sym h ∙ ap (slice_get sites) e ∙ f in
    cc

-- ---- one action

module _ (w : Setting) (rows : List (List ℕ)) (t : ℕ) (g : Ground) (sites : List Site) (offerings : List Offering) (cells marks : List ℕ) (begin last : Book) where
  abbrev Passes : Progress → State → Type 0
  Passes p s = Passing w rows t g sites offerings cells marks begin last p s

  memory_same : (later : ℕ) (s u : State) → length g.future_memories ≤ later → ((f : ℕ) → f < later → look last.reply u.values u.futures (In_futures f) ≡ look last.reply s.values s.futures (In_futures f)) →
      (r : Register) (m : Memory) → memory_at g r ≡ Some m → look last.reply cells u.futures r ≡ look last.reply cells s.futures r
  memory_same later s u le same (In_values r) m at = refl
  memory_same later s u le same (In_futures f) m at = same f (let lt = slice_get_within g.future_memories f m at in omega arith)

  -- a further value
  one_value : (p : Progress) (v : ℕ) (thing : Thing) (s u : State) → u.values ≡ slice_set s.values p.at v → u.futures ≡ s.futures → u.book.calls ≡ s.book.calls → p.at < length s.values → Holds w rows t thing v → Passes p s →
      Passes (record { entries = At thing (In_values p.at) ∷ p.entries; at = suc p.at; later = p.later; offered = p.offered }) u
  one_value p v thing s u vs fs calls room found k =
      let same : (q : Register) → IsEarlier p.at p.later q → look last.reply u.values u.futures q ≡ look last.reply s.values s.futures q = λ q lt. value_set last.reply s u p.at p.later v q vs fs lt in
      let here : look last.reply u.values u.futures (In_values p.at) ≡ v = ap (λ (xs : List ℕ). slice_index xs p.at) vs ∙ get_or-set_same s.values p.at v 0 room in
      record {
        below = k.below;
        earlier = entries_more p.at p.later (suc p.at) p.later thing (In_values p.at) p.entries (omega arith) (omega arith) k.earlier (omega arith);
        hold = hold_more w rows t thing (In_values p.at) p.entries _ (hold_same w rows t p.at p.later p.entries _ _ k.earlier same k.hold) (subst (λ (n : ℕ). Holds w rows t thing n) (sym here) found);
        ground = known_same w rows t g _ _ k.ground (memory_same p.later s u k.below (λ f lt. same (In_futures f) lt));
        left = λ j site get among. ap (of_instance j) calls ∙ k.left j site get among;
        over = λ j site get among. did_later w rows t last.reply marks site j begin s.book u.book (ap (of_instance j) calls) (k.over j site get among);
      }

  -- a further future
  one_future : (p : Progress) (c : Cell) (thing : Thing) (s u : State) → u.values ≡ s.values → u.futures ≡ slice_set s.futures p.later c → u.book.calls ≡ s.book.calls → p.later < length s.futures → Holds w rows t thing (worth last.reply c) → Passes p s →
      Passes (record { entries = At thing (In_futures p.later) ∷ p.entries; at = p.at; later = suc p.later; offered = p.offered }) u
  one_future p c thing s u vs fs calls room found k =
      let same : (q : Register) → IsEarlier p.at p.later q → look last.reply u.values u.futures q ≡ look last.reply s.values s.futures q = λ q lt. future_set last.reply s u p.at p.later c q vs fs lt in
      let here : look last.reply u.values u.futures (In_futures p.later) ≡ worth last.reply c =
      ap (λ (cs : List Cell). worth last.reply (slice_index_or cs p.later no_future)) fs ∙ ap (worth last.reply) (get_or-set_same s.futures p.later c no_future room) in
      record {
        below = omega (arith, k.below);
        earlier = entries_more p.at p.later p.at (suc p.later) thing (In_futures p.later) p.entries (omega arith) (omega arith) k.earlier (omega arith);
        hold = hold_more w rows t thing (In_futures p.later) p.entries _ (hold_same w rows t p.at p.later p.entries _ _ k.earlier same k.hold) (subst (λ (n : ℕ). Holds w rows t thing n) (sym here) found);
        ground = known_same w rows t g _ _ k.ground (memory_same p.later s u k.below (λ f lt. same (In_futures f) lt));
        left = λ j site get among. ap (of_instance j) calls ∙ k.left j site get among;
        over = λ j site get among. did_later w rows t last.reply marks site j begin s.book u.book (ap (of_instance j) calls) (k.over j site get among);
      }

  one_known : (p q : Progress) (s : State) → Knows_more g sites offerings p q → Passes p s → Passes q s
  one_known p q s (known thing r e means) k = record {
    below = k.below;
    earlier = entries_more p.at p.later p.at p.later thing r p.entries (omega arith) (omega arith) k.earlier e;
    hold = hold_more w rows t thing r p.entries _ k.hold (means_thing w rows t g (look last.reply cells s.futures) (look last.reply s.values s.futures) k.ground p.entries thing r k.hold means);
    ground = k.ground;
    left = k.left;
    over = k.over;
  }

  -- the value of a future
  got_value : (p : Progress) (to h f : ℕ) (e a : Expr) (c : Clock) (q : Scope) (s u : State) → out-Form e.form ≡ Form-F.Get a → Has p.entries (Here c q) (In_values h) → Has p.entries (Part a c q) (In_futures f) → All (IsCellOf s.book) s.futures → f < length s.futures →
      Grows s.book last → (d : IsGot to h f s u) → Passes p s → HasAnswer (K w rows) (Gives e c q t) d.value
  got_value p to h f e a c q s u is here of_a named inside grows d k = by_presence (k.hold _ (In_values h) here).answer (k.hold _ (In_values h) here).known (k.hold _ (In_values h) here).shown
    where
      by_presence : (b : Bool) → K w rows (Present c q t) (Is b) → slice_index s.values h ≡ truth b → HasAnswer (K w rows) (Gives e c q t) d.value
      by_presence false x y = absent_part w rows t d.value e c q x
      by_presence true x y =
          let v : d.value ≡ look last.reply s.values s.futures (In_futures f) = d.here y ∙ sym (worth_grows s.book last (future_at s.futures f) grows (named f no_future inside)) in
          subst (λ (m : ℕ). HasAnswer (K w rows) (Gives e c q t) m) (sym v)
          (by_form w rows q t 1 _ e c (Form-F.Get a) (record { answer = true; known = x; shown = refl }) is (comes_by w rows _ _ (k.hold _ (In_futures f) of_a)))

  -- a call, or none
  one_offered : (p : Progress) (k : ℕ) (o : Offering) (e : Expr) (site : Site) (s u : State) → slice_get sites k ≡ Some site → slice_get offerings k ≡ Some o → o.first ≡ p.later → Offers_site g p.entries o e site → is_among k p.offered ≡ false →
      IsDone offerings cells marks (act.Offer k) s u → Grows u.book last → o.outputs ≤ last.outputs k → o.first + o.outputs ≤ length s.futures → AgreesWith w sites last →
      ((j : ℕ) (other : Site) → slice_get sites j ≡ Some other → IsMade w rows t other j begin) → Passes p s →
      Passes (record { entries = with_results e site.clock site.scope p.later o.outputs p.entries; at = p.at; later = p.later + o.outputs; offered = k ∷ p.offered }) u
  one_offered p k o e site s u at there first O free d grows fits room agrees earlier_calls x =
      by_presence (x.hold _ (In_values o.here) O.here).answer (x.hold _ (In_values o.here) O.here).known (x.hold _ (In_values o.here) O.here).shown
    where
      next : (h : Option Handle) → u.values ≡ s.values → u.futures ≡ with_futures s.futures o.first o.outputs h → ((j : ℕ) → j < o.outputs → HasAnswer (K w rows) (Output e j site.clock site.scope t) (worth last.reply (future_of h j))) →
          ((j : ℕ) (other : Site) → slice_get sites j ≡ Some other → is_among j (k ∷ p.offered) ≡ false → of_instance j u.book.calls ≡ of_instance j begin.calls) →
          ((j : ℕ) (other : Site) → slice_get sites j ≡ Some other → is_among j (k ∷ p.offered) ≡ true → Did w rows t last.reply marks other j begin u.book) →
          Passes (record { entries = with_results e site.clock site.scope p.later o.outputs p.entries; at = p.at; later = p.later + o.outputs; offered = k ∷ p.offered }) u
      next h vs fs outs left_ones over_ones =
          let fs_later : u.futures ≡ with_futures s.futures p.later o.outputs h = fs ∙ ap (λ (n : ℕ). with_futures s.futures n o.outputs h) first in
          let room_later : p.later + o.outputs ≤ length s.futures = omega (arith, first, room) in
          let same : (q : Register) → IsEarlier p.at p.later q → look last.reply u.values u.futures q ≡ look last.reply s.values s.futures q = λ q lt. futures_set last.reply s u p.at p.later o.outputs h q vs fs_later lt in
          record {
            below = omega (arith, x.below);
            earlier = results_earlier e site.clock site.scope p.at p.later o.outputs p.entries x.earlier;
            hold = results_hold w rows t e site.clock site.scope p.later o.outputs p.entries _ (hold_same w rows t p.at p.later p.entries _ _ x.earlier same x.hold)
                (λ j lt. subst (λ (n : ℕ). HasAnswer (K w rows) (Output e j site.clock site.scope t) n)
                (sym (ap (λ (cs : List Cell). worth last.reply (slice_index_or cs (p.later + j) no_future)) fs_later ∙ ap (worth last.reply) (there_futures s.futures p.later o.outputs j h lt room_later))) (outs j lt));
            ground = known_same w rows t g _ _ x.ground (memory_same p.later s u x.below (λ f lt. same (In_futures f) lt));
            left = left_ones;
            over = over_ones;
          }

      call_of : IsOfferedAt marks k o s u → Made
      call_of off = record { instance = k; reset = reset_of marks s.values k o; input = input_of s.values s.futures o; handle = off.handle }

      over_one : IsOfferedAt marks k o s u → K w rows (Present site.clock site.scope t) (Is true) → (j : ℕ) (other : Site) → slice_get sites j ≡ Some other → (z : Bool) → (k == j) ≡ z → (z || is_among j p.offered) ≡ true → Did w rows t last.reply marks other j begin u.book
      over_one off here j other get true z among =
          let same : k ≡ j = (Decides-eqb k j).0 z in
          let own : site ≡ other = same_site sites j k site other same at get in
          let again : IsAgain w rows site.scope t (slice_index s.values o.again) = x.hold _ (In_values o.again) O.again in
          let reset : reset_of marks s.values k o ≡ (slice_index marks k == 1 || again.answer) =
          ap (λ (m : ℕ). slice_index marks k == 1 || m == 1) again.shown ∙ ap (λ (b : Bool). slice_index marks k == 1 || b) (one_truth again.answer) in
          let m : Did w rows t last.reply marks site k begin u.book =
          did_call (call_of off) again.answer here (calls_own k s.book u.book (call_of off) off.book.calls refl ∙ ap (λ (xs : List Made). xs ++ call_of off ∷ []) (x.left k site at free)) again.known reset
          (have_answers w rows t g p.entries site.clock site.scope last.reply s.values s.futures site.args o.sources.items x.hold O.sources) in
          subst (λ (i : ℕ). Did w rows t last.reply marks other i begin u.book) same (subst (λ (q : Site). Did w rows t last.reply marks q k begin u.book) own m)
      over_one off here j other get false z among = did_later w rows t last.reply marks other j begin s.book u.book (calls_other j s.book u.book (call_of off) off.book.calls z) (x.over j other get among)

      over_none : u.book.calls ≡ s.book.calls → K w rows (Present site.clock site.scope t) (Is false) → (j : ℕ) (other : Site) → slice_get sites j ≡ Some other → (z : Bool) → (k == j) ≡ z → (z || is_among j p.offered) ≡ true → Did w rows t last.reply marks other j begin u.book
      over_none calls away j other get true z among =
          let same : k ≡ j = (Decides-eqb k j).0 z in
          let own : site ≡ other = same_site sites j k site other same at get in
          let m : Did w rows t last.reply marks site k begin u.book = did_nothing away (ap (of_instance k) calls ∙ x.left k site at free) in
          subst (λ (i : ℕ). Did w rows t last.reply marks other i begin u.book) same (subst (λ (q : Site). Did w rows t last.reply marks q k begin u.book) own m)
      over_none calls away j other get false z among = did_later w rows t last.reply marks other j begin s.book u.book (ap (of_instance j) calls) (x.over j other get among)

      by_presence : (b : Bool) → K w rows (Present site.clock site.scope t) (Is b) → slice_index s.values o.here ≡ truth b →
          Passes (record { entries = with_results e site.clock site.scope p.later o.outputs p.entries; at = p.at; later = p.later + o.outputs; offered = k ∷ p.offered }) u
      by_presence true here y =
          let off : IsOfferedAt marks k o s u = (d o there).0 y in
          let m : IsMade w rows t site k s.book = subst (λ (cs : List Made). Counted (K w rows) (λ q. Present site.clock site.scope q) t (length cs)) (sym (x.left k site at free)) (earlier_calls k site at) in
          let r = reply_is w sites k site s.book u.book last (call_of off) agrees at refl off.book.calls grows in
          next (Some off.handle) off.values off.futures
          (λ j lt. output_replied w rows t e O.queue O.f site _ j (last.reply (of_output off.handle j)) r.0 O.form (x.ground.ground.nodes O.f site.text O.node) O.place here m r.1 (r.2 j (omega arith)))
          (λ j other get among. calls_other j s.book u.book (call_of off) off.book.calls (not_this j k p.offered among) ∙ x.left j other get (not_those j k p.offered among))
          (λ j other get among. over_one off here j other get (k == j) refl among)
      by_presence false away y =
          let ne : slice_index s.values o.here ≢ 1 = λ f. absurd (omega arith) in
          let off = (d o there).1 ne in
          let calls : u.book.calls ≡ s.book.calls = ap (λ (b : Book). b.calls) off.book in
          next None off.values off.futures (λ j lt. absent_output w rows t _ e j site.clock site.scope away)
          (λ j other get among. ap (of_instance j) calls ∙ x.left j other get (not_those j k p.offered among))
          (λ j other get among. over_none calls away j other get (k == j) refl among)

  -- ---- all actions

  one_done : (p q : Progress) (a : Action) (s u : State) → Does g sites offerings p a q → IsStep offerings cells marks a s u → Grows u.book last → AgreesWith w sites last →
      ((j : ℕ) (other : Site) → slice_get sites j ≡ Some other → IsMade w rows t other j begin) → Passes p s → Passes q u
  one_done p q a s u (computes {i = i} thing makes) step grows agrees calls x =
      one_value p (given cells s.values i) thing s u step.done.values step.done.futures (ap (λ (b : Book). b.calls) step.done.book) step.within.0
      (subst (λ (v : ℕ). Holds w rows t thing v) (given_is last.reply cells s.values s.futures i)
      (makes_thing w rows t g (look last.reply cells s.futures) (look last.reply s.values s.futures) x.ground p.entries (operation_of i) thing x.hold makes)) x
  one_done p q a s u (moves {i = i} thing makes) step grows agrees calls x =
      one_future p (moved s.values s.futures i) thing s u step.done.values step.done.futures (ap (λ (b : Book). b.calls) step.done.book) step.within.0
      (subst (λ (v : ℕ). Holds w rows t thing v) (sym (moved_is last.reply cells s.values s.futures i))
      (makes_thing w rows t g (look last.reply cells s.futures) (look last.reply s.values s.futures) x.ground p.entries (future_operation_of i) thing x.hold makes)) x
  one_done p q a s u (offers {k = k} o e site at there first O free) step grows agrees calls x =
      let here : IsOfferingWithin (length s.values) (length s.futures) step.inputs o =
      subst (IsOfferingWithin (length s.values) (length s.futures) step.inputs) (get_or_from_slice_get offerings k o o there) (step.offers k o (slice_get_within offerings k o there)) in
      let same : u.book.outputs ≡ s.book.outputs = (offer_grows offerings cells marks k s u (o, there) step.done).outputs in
      let outs : o.outputs ≡ last.outputs k = step.owned.outputs k o there ∙ sym (ap (λ (f : ℕ → ℕ). f k) (grows.outputs ∙ same)) in
      one_offered p k o e site s u at there first O free step.done grows (omega arith) here.room agrees calls x
  one_done p q a s u (gets {h = h} {f = f} e b c r is here of_a) step grows agrees calls x =
      one_value p step.done.value (Part e c r) s u step.done.values step.done.futures step.done.book.calls step.within.0
      (got_value p p.at h f e b c r s u is here of_a step.owned.named step.within.2 (grows_on s.book u.book last (same_book_grows s.book u.book step.done.book) grows) step.done x) x

  pass : (p q : Progress) (actions : List Action) (s v : State) → MakesAll g sites offerings p actions q → AreDone offerings cells marks actions s v → Grows v.book last → AgreesWith w sites last →
      ((j : ℕ) (other : Site) → slice_get sites j ≡ Some other → IsMade w rows t other j begin) → Passes p s → Passes q v
  pass p q actions s v made nothing grows agrees calls x = x
  pass p q (a ∷ rest) s v (action {q = next} does more) (done {u = u} step later) grows agrees calls x =
      pass next q rest u v more later grows agrees calls (one_done p next a s u does step (grows_on u.book v.book last (all_grow offerings cells marks rest u v later) grows) agrees calls x)
  pass p q actions s v (also {q = next} adds more) all grows agrees calls x = pass next q actions s v more all grows agrees calls (one_known p next s adds x)

-- what there is after a pass
pub record Passed (w : Setting) (rows : List (List ℕ)) (t : ℕ) (g : Ground) (sites : List Site) (cells marks : List ℕ) (begin : Book) (p : Progress) (v : State) : Type 0 where
  pub hold : HoldsAll w rows t p.entries (look v.book.reply v.values v.futures)
  pub ground : Known w rows t g (look v.book.reply cells v.futures)
  pub over : (k : ℕ) (site : Site) → slice_get sites k ≡ Some site → is_among k p.offered ≡ true → Did w rows t v.book.reply marks site k begin v.book

pub all_passed : (w : Setting) (rows : List (List ℕ)) (t : ℕ) (g : Ground) (sites : List Site) (offerings : List Offering) (cells marks : List ℕ) (p q : Progress) (actions : List Action) (s v : State) →
    MakesAll g sites offerings p actions q → AreDone offerings cells marks actions s v → AgreesWith w sites v.book → ((j : ℕ) (other : Site) → slice_get sites j ≡ Some other → IsMade w rows t other j s.book) → p.offered ≡ [] →
    length g.future_memories ≤ p.later → ((thing : Thing) (r : Register) → Has p.entries thing r → IsEarlier p.at p.later r) → HoldsAll w rows t p.entries (look v.book.reply s.values s.futures) →
    Known w rows t g (look v.book.reply cells s.futures) → Passed w rows t g sites cells marks s.book q v
all_passed w rows t g sites offerings cells marks p q actions s v makes all agrees calls none below earlier hold ground =
    let x = pass w rows t g sites offerings cells marks s.book v.book p q actions s v makes all (same_grows v.book) agrees calls
    (record { below = below; earlier = earlier; hold = hold; ground = ground; left = λ k site get among. refl; over = λ k site get among. absurd (nothing_offered p.offered k none among) }) in
    record { hold = x.hold; ground = x.ground; over = x.over }
  where
    nothing_offered : (offered : List ℕ) (k : ℕ) → offered ≡ [] → is_among k offered ≡ true → ⊥
    nothing_offered [] k e f = cc
    nothing_offered (j ∷ js) k e f = cc
