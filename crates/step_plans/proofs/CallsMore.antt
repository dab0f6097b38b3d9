-- A memory from call to call.
use Rattle.std.proofs.Common.{◌≡◌, ℕ, zero, suc, ◌<◌, Bool, true, false, List, [], ◌∷◌, ◌++◌, length, map, Option, Some, None, All, refl, sym, subst, ap, ◌∙◌, arith, length-append}
use Rattle.std.specs.Prelude.{if◌then◌else◌, ◌==◌, slice_get, slice_index}
use Rattle.std.specs.List.{Contains}
use Rattle.std.proofs.lemmas.List.{length-map, map-append}
use Rattle.std.proofs.lemmas.Bool.Decides.{Decides-eqb}
use Rattle.hept_ast.specs.Texts.{Name, names, place_in}
use Rattle.hept_ast.specs.Scopes.{Lowered}
use Rattle.hept_ast.specs.Meaning.{Question, Variable, Present, Defined, Reads, Value, Is, Setting, input_at, answer_to, clock_of_equation}
use Rattle.hept_ast.specs.Settings.{Marks, Replies, of_core}
use Rattle.hept_ast.specs.Calls.{marks_of}
use Rattle.hept_ast.specs.Sites.{Site}
use Rattle.hept_ast.specs.Outputs.{Follows, HaveValues, read, asked}
use Rattle.hept_ast.specs.declared.tree.CoreNode.{CoreNode}
use Rattle.hept_ast.specs.declared.tree.CoreEquation.{CoreEquation}
use Rattle.hept_ast.proofs.Depths.{kept_by_rows, to_rule}
use Rattle.step_cells.specs.Cells.{value_in}
use Rattle.step_cells.specs.declared.cell.Cell.{Cell}
use Rattle.step_cells.specs.declared.cell.Cell.TheVariants as cell
use Rattle.step_plans.specs.Kept.{Kept, at_first, was_here, was_away, again, not_again, Counted, none_before, one_more, no_more}
use Rattle.step_plans.specs.Things.{Memory, Value_of, Presence_of, IsKept, Content, initial_of}
use Rattle.step_plans.specs.Books.{Made, Book, Grows, IsCellOf, of_instance, of_output, worth}
use Rattle.step_plans.specs.Plans.{IsInputAt, Calling, Calls, top_of}
use Rattle.step_plans.specs.Sending.{AgreesWith, IsMade, IsSent, none_sent, sent_now, not_sent, as_sent}
use Rattle.step_plans.specs.Instants.{IsCounted, Kept_state, Stands, Begins, Ends}
use Rattle.step_plans.specs.Memories.{rows_of, HasMarks, Suits, AllOwn, NewStandsForNone, OneCallMore}
use Rattle.step_plans.proofs.Frames.{K}
use Rattle.step_plans.proofs.Keeping.{top_present}

-- ---- further rows

kept_longer : (w : Setting) (rows rest : List (List ℕ)) (present restarted : ℕ → Question) (t : ℕ) (o : Option ℕ) → Kept (K w rows) present restarted t o → Kept (K w (rows ++ rest)) present restarted t o
kept_longer w rows rest present restarted zero o at_first = at_first
kept_longer w rows rest present restarted (suc p) o (was_here h) = was_here (kept_by_rows w rows rest _ _ h)
kept_longer w rows rest present restarted (suc p) o (was_away h (again r)) = was_away (kept_by_rows w rows rest _ _ h) (again (kept_by_rows w rows rest _ _ r))
kept_longer w rows rest present restarted (suc p) o (was_away h (not_again r k)) =
    was_away (kept_by_rows w rows rest _ _ h) (not_again (kept_by_rows w rows rest _ _ r) (kept_longer w rows rest present restarted p o k))

counted_longer : (w : Setting) (rows rest : List (List ℕ)) (present : ℕ → Question) (t n : ℕ) → Counted (K w rows) present t n → Counted (K w (rows ++ rest)) present t n
counted_longer w rows rest present zero n none_before = none_before
counted_longer w rows rest present (suc p) (suc n) (one_more h k) = one_more (kept_by_rows w rows rest _ _ h) (counted_longer w rows rest present p n k)
counted_longer w rows rest present (suc p) n (no_more h k) = no_more (kept_by_rows w rows rest _ _ h) (counted_longer w rows rest present p n k)

content_longer : (w : Setting) (rows rest : List (List ℕ)) (m : Memory) (o : Option ℕ) (v : ℕ) → Content w rows m o v → Content w (rows ++ rest) m o v
content_longer w rows rest (Value_of e c s n) None v h = h
content_longer w rows rest (Value_of e c s n) (Some p) v h = record { answer = h.answer; known = kept_by_rows w rows rest _ _ h.known; shown = h.shown }
content_longer w rows rest (Presence_of c s) o v h = h

is_kept_longer : (w : Setting) (rows rest : List (List ℕ)) (t : ℕ) (m : Memory) (v : ℕ) → IsKept w rows t m v → IsKept w (rows ++ rest) t m v
is_kept_longer w rows rest t (Value_of e c s n) v k = record { at = k.at; kept = kept_longer w rows rest _ _ t k.at k.kept; content = content_longer w rows rest (Value_of e c s n) k.at v k.content }
is_kept_longer w rows rest t (Presence_of c s) v k = record { at = k.at; kept = kept_longer w rows rest _ _ t k.at k.kept; content = k.content }

is_counted_longer : (w : Setting) (rows rest : List (List ℕ)) (t : ℕ) (call : Calling) → IsCounted w rows t call → IsCounted w (rows ++ rest) t call
is_counted_longer w rows rest t (Calls c s place) k = (k.0, counted_longer w rows rest _ t k.0 k.1)

values_longer : (w : Setting) (rows rest : List (List ℕ)) (qs : List Question) (vs : List ℕ) → HaveValues w rows qs vs → HaveValues w (rows ++ rest) qs vs
values_longer w rows rest [] [] h = h
values_longer w rows rest [] (v ∷ vs) h = absurd h
values_longer w rows rest (q ∷ qs) [] h = absurd h
values_longer w rows rest (q ∷ qs) (v ∷ vs) h = (kept_by_rows w rows rest _ _ h.0, values_longer w rows rest qs vs h.1)

sent_longer : (w : Setting) (rows rest : List (List ℕ)) (site : Site) (t : ℕ) (mark : Bool) (calls : List (Bool × List ℕ)) → IsSent w rows site t mark calls → IsSent w (rows ++ rest) site t mark calls
sent_longer w rows rest site zero mark calls none_sent = none_sent
sent_longer w rows rest site (suc p) mark calls (sent_now args r h vs more) =
    sent_now args (kept_by_rows w rows rest _ _ r) (kept_by_rows w rows rest _ _ h) (values_longer w rows rest _ args vs) (sent_longer w rows rest site p _ _ more)
sent_longer w rows rest site (suc p) mark calls (not_sent r h more) = not_sent (kept_by_rows w rows rest _ _ r) (kept_by_rows w rows rest _ _ h) (sent_longer w rows rest site p _ _ more)

-- ---- a new memory

initial_there : (ms : List Memory) (k : ℕ) (m : Memory) → slice_get ms k ≡ Some m → slice_index (map initial_of ms) k ≡ initial_of m
initial_there [] k m h = absurd (cc)
initial_there (x ∷ ms) zero m h = let e : x ≡ m = cc in ap initial_of e
initial_there (x ∷ ms) (suc k) m h = initial_there ms k m h

kept_at_first : (w : Setting) (m : Memory) (v : ℕ) → v ≡ initial_of m → IsKept w [] 0 m v
kept_at_first w (Value_of e c s n) v h = record { at = None; kept = at_first; content = h }
kept_at_first w (Presence_of c s) v h = record { at = None; kept = at_first; content = h }

none_counted : (w : Setting) (call : Calling) → IsCounted w [] 0 call
none_counted w (Calls c s place) = (0, none_before)

pub new_stands_for_none : NewStandsForNone
new_stands_for_none core g sites book state empty new marked replies suits = record {
  kept = λ k m at. kept_at_first (of_core core marked replies) m _ (ap (λ (cs : List ℕ). slice_index cs k) new.cells ∙ initial_there g.memories k m at);
  futures_kept = λ k m at. kept_at_first (of_core core marked replies) m _ (new.futures book.reply k m at);
  counted = λ k call at. none_counted (of_core core marked replies) call;
  served = λ k site at. (
    record {
      again = false;
      made = subst (λ (cs : List Made). Counted (K (of_core core marked replies) []) (λ p. Present site.clock site.scope p) 0 (length (of_instance k cs))) (sym empty.calls) none_before;
      sent = subst (λ (cs : List Made). IsSent (of_core core marked replies) [] site 0 false (as_sent book.reply (of_instance k cs))) (sym empty.calls) none_sent;
    },
    new.marks k site at,
  );
}

-- ---- a later book

worth_same : (book later : Book) (c : Cell) → Grows book later → IsCellOf book c → worth later.reply c ≡ worth book.reply c
worth_same book later (cell.Value v) g h = refl
worth_same book later (cell.Ready v) g h = refl
worth_same book later (cell.Held k) g h = g.replies k h

pub worths_same : (book later : Book) (cs : List Cell) → Grows book later → All (IsCellOf book) cs → map (worth later.reply) cs ≡ map (worth book.reply) cs
worths_same book later [] g h = refl
worths_same book later (c ∷ cs) g h =
    let e : worth later.reply c ≡ worth book.reply c = worth_same book later c g (h 0 c (omega arith)) in
    let f : map (worth later.reply) cs ≡ map (worth book.reply) cs = worths_same book later cs g (λ k d lt. h (suc k) d (omega arith)) in
    cc

sent_same : (book later : Book) (k : ℕ) (calls : List Made) → Grows book later → AllOwn book calls → as_sent later.reply (of_instance k calls) ≡ as_sent book.reply (of_instance k calls)
sent_same book later k [] g own = refl
sent_same book later k (c ∷ calls) g own = by_test (c.instance == k) (sent_same book later k calls g own.1)
  where
    by_test : (b : Bool) → as_sent later.reply (of_instance k calls) ≡ as_sent book.reply (of_instance k calls) →
        as_sent later.reply (if b then c ∷ of_instance k calls else of_instance k calls) ≡ as_sent book.reply (if b then c ∷ of_instance k calls else of_instance k calls)
    by_test true f =
        let e : map (worth later.reply) c.input ≡ map (worth book.reply) c.input = worths_same book later c.input g own.0 in
        ap (λ (cs : List (Bool × List ℕ)). (c.reset, map (worth later.reply) c.input) ∷ cs) f
        ∙ ap (λ (vs : List ℕ). (c.reset, vs) ∷ as_sent book.reply (of_instance k calls)) e
    by_test false f = f

-- a call of an instance
abbrev IsCallOf : List Made → ℕ → Made → Type 0
IsCallOf calls k c = Contains calls c × (c.instance ≡ k)

contains_later : (x : Made) (xs : List Made) (c : Made) → Contains xs c → Contains (x ∷ xs) c
contains_later x xs c h = let lt = h.1 in (suc h.0, omega arith, h.2)

instance_call : (k : ℕ) (calls : List Made) (j : ℕ) (c : Made) → slice_get (of_instance k calls) j ≡ Some c → IsCallOf calls k c
instance_call k [] j c h = absurd (cc)
instance_call k (x ∷ xs) j c h = by_test (λ i f. instance_call k xs i c f) (x.instance == k) refl h
  where
    in_rest : IsCallOf xs k c → IsCallOf (x ∷ xs) k c
    in_rest r = (contains_later x xs c r.0, r.1)

    at_place : ((i : ℕ) → slice_get (of_instance k xs) i ≡ Some c → IsCallOf xs k c) → (i : ℕ) → (x.instance == k) ≡ true → slice_get (x ∷ of_instance k xs) i ≡ Some c → IsCallOf (x ∷ xs) k c
    at_place rest zero e f =
        let same : x ≡ c = cc in
        let own : x.instance ≡ k = (Decides-eqb x.instance k).0 e in
        ((0, omega arith, same), ap (λ (m : Made). m.instance) (sym same) ∙ own)
    at_place rest (suc i) e f = in_rest (rest i f)

    by_test : ((i : ℕ) → slice_get (of_instance k xs) i ≡ Some c → IsCallOf xs k c) → (b : Bool) → (x.instance == k) ≡ b → slice_get (if b then x ∷ of_instance k xs else of_instance k xs) j ≡ Some c → IsCallOf (x ∷ xs) k c
    by_test rest true e f = at_place rest j e f
    by_test rest false e f = in_rest (rest j f)

get_before : (xs ys : List Made) (j : ℕ) (c : Made) → slice_get xs j ≡ Some c → slice_get (xs ++ ys) j ≡ Some c
get_before [] ys j c h = absurd (cc)
get_before (x ∷ xs) ys zero c h = h
get_before (x ∷ xs) ys (suc j) c h = get_before xs ys j c h

of_instance_append : (k : ℕ) (xs ys : List Made) → of_instance k (xs ++ ys) ≡ of_instance k xs ++ of_instance k ys
of_instance_append k [] ys = refl
of_instance_append k (x ∷ xs) ys = by_test (x.instance == k) (of_instance_append k xs ys)
  where
    by_test : (b : Bool) → of_instance k (xs ++ ys) ≡ of_instance k xs ++ of_instance k ys →
        (if b then x ∷ of_instance k (xs ++ ys) else of_instance k (xs ++ ys)) ≡ (if b then x ∷ of_instance k xs else of_instance k xs) ++ of_instance k ys
    by_test true e = ap (λ (zs : List Made). x ∷ zs) e
    by_test false e = e

-- what agrees with a later book agrees with the earlier one
agrees_before : (w : Setting) (sites : List Site) (book later : Book) → Grows book later → AgreesWith w sites later → AgreesWith w sites book
agrees_before w sites book later g agrees = λ k site j c at there.
    let e : of_instance k later.calls ≡ of_instance k book.calls ++ of_instance k g.added = ap (of_instance k) g.calls ∙ of_instance_append k book.calls g.added in
    let r = agrees k site j c at (ap (λ (xs : List Made). slice_get xs j) e ∙ get_before (of_instance k book.calls) (of_instance k g.added) j c there) in
    let own = instance_call k book.calls j c there in (
      r.0,
      r.1,
      λ m lt.
          let few : m < book.outputs c.instance = subst (λ (n : ℕ). m < book.outputs n) (sym own.1) lt in
          r.2 m (subst (λ (f : ℕ → ℕ). m < f k) (sym g.outputs) lt) ∙ g.replies (of_output c.handle m) (record { call = c; there = own.0; output = m; within = few; handle = refl }),
    )

-- ---- one call more

marks_before : (marked : Marks) (calls : List (Bool × List ℕ)) (c : Bool × List ℕ) → HasMarks marked (calls ++ c ∷ []) → HasMarks marked calls
marks_before marked calls c h = λ t lt. h t (omega (arith, length-append calls (c ∷ []))) ∙ same_mark calls c t lt
  where
    same_mark : (calls : List (Bool × List ℕ)) (c : Bool × List ℕ) (t : ℕ) → t < length calls → marks_of (calls ++ c ∷ []) t ≡ marks_of calls t
    same_mark [] c t lt = absurd (omega arith)
    same_mark (d ∷ ds) c zero lt = refl
    same_mark (d ∷ ds) c (suc t) lt = same_mark ds c t (omega arith)

last_mark : (calls : List (Bool × List ℕ)) (c : Bool × List ℕ) → marks_of (calls ++ c ∷ []) (length calls) ≡ c.0
last_mark [] c = refl
last_mark (d ∷ ds) c = last_mark ds c

input_last : (rows : List (List ℕ)) (row : List ℕ) (j : ℕ) → input_at (rows ++ row ∷ []) (length rows) j ≡ Value (slice_index row j)
input_last [] row j = refl
input_last (r ∷ rows) row j = input_last rows row j

input_known : (w : Setting) (rows : List (List ℕ)) (t : ℕ) (node : CoreNode) (k v : ℕ) (x : Name) → IsInputAt node k x → input_at rows t k ≡ Value v → K w rows (Variable x (top_of node) t) (Value v)
input_known w rows t node k v x i e = to_rule w rows _ _
    (asked (subst (λ (o : Option CoreEquation). K w rows (Present (clock_of_equation o) (top_of node) t) (Is true)) (sym i.free) (top_present w rows t (Lowered node)))
    (subst (λ (b : Bool). Follows (K w rows) rows (if b then Reads t (place_in x (names node.inputs)) else answer_to (Defined x (top_of node) t)) (Value v)) (sym i.among)
    (read (ap (input_at rows t) i.place ∙ e)))) (λ f. cc)

pub one_call_more : OneCallMore
one_call_more core g sites node plan book later calls mark inputs out old begun new planned ground stands ready own owned grows before served = record {
  stands = λ marked replies suits.
      subst (λ (t : ℕ). Stands (of_core core marked replies) (rows_of (calls ++ (mark, map value_in inputs) ∷ [])) t g sites new later) one_longer (ends marked replies suits).after;
  outputs = λ marked replies suits. (ends marked replies suits).has_outputs;
}
  where
    one_longer : suc (length calls) ≡ length (calls ++ (mark, map value_in inputs) ∷ [])
    one_longer = omega (arith, length-append calls ((mark, map value_in inputs) ∷ []))

    rows_are : rows_of (calls ++ (mark, map value_in inputs) ∷ []) ≡ rows_of calls ++ map value_in inputs ∷ []
    rows_are = map-append (λ (c : Bool × List ℕ). c.1) calls ((mark, map value_in inputs) ∷ [])

    earlier : (marked : Marks) (replies : Replies) → Suits core g sites later (calls ++ (mark, map value_in inputs) ∷ []) marked replies → Suits core g sites book calls marked replies
    earlier marked replies suits = record {
      marks = marks_before marked calls (mark, map value_in inputs) suits.marks;
      agrees = agrees_before (of_core core marked replies) sites book later grows suits.agrees;
      no_reply = suits.no_reply;
    }

    begins : (marked : Marks) (replies : Replies) → Suits core g sites later (calls ++ (mark, map value_in inputs) ∷ []) marked replies →
        Begins (of_core core marked replies) (rows_of (calls ++ (mark, map value_in inputs) ∷ [])) (length calls) g sites node inputs begun book later
    begins marked replies suits =
        let w : Setting = of_core core marked replies in
        let row : List ℕ = map value_in inputs in
        let st = stands marked replies (earlier marked replies suits) in
        let lt : length calls < length (calls ++ (mark, row) ∷ []) = omega (arith, length-append calls ((mark, row) ∷ [])) in
        let here : marked (length calls) ≡ mark = suits.marks (length calls) lt ∙ last_mark calls (mark, row) in
        let r = ready marked replies (length calls) suits lt in
        record {
          ground = record { types = ground.types; nodes = ground.nodes };
          has_inputs = λ k x at.
              let i = planned.places k x at in
              record {
                answer = Value (slice_index row k);
                known = input_known w (rows_of (calls ++ (mark, row) ∷ [])) (length calls) node k (slice_index row k) x i
                    (subst (λ (rs : List (List ℕ)). input_at rs (length calls) k ≡ Value (slice_index row k)) (sym rows_are)
                    (subst (λ (t : ℕ). input_at (rows_of calls ++ row ∷ []) t k ≡ Value (slice_index row k)) (length-map calls (λ (c : Bool × List ℕ). c.1)) (input_last (rows_of calls) row k)));
                shown = refl;
              };
          begun = λ k m at. record {
            fresh = λ e. ap (λ (cs : List ℕ). slice_index cs k) (before.fresh (sym here ∙ e)).cells ∙ initial_there g.memories k m at;
            kept = λ e.
                subst (λ (q : Kept_state). IsKept w (rows_of (calls ++ (mark, row) ∷ [])) (length calls) m (slice_index q.cells k)) (sym (before.same (sym here ∙ e)))
                (subst (λ (rs : List (List ℕ)). IsKept w rs (length calls) m (slice_index old.cells k)) (sym rows_are)
                (is_kept_longer w (rows_of calls) (row ∷ []) (length calls) m _ (st.kept k m at)));
          };
          futures_begun = λ k m at. record {
            fresh = λ e. (before.fresh (sym here ∙ e)).futures later.reply k m at;
            kept = λ e.
                subst (λ (q : Kept_state). IsKept w (rows_of (calls ++ (mark, row) ∷ [])) (length calls) m (slice_index (map (worth later.reply) q.futures) k)) (sym (before.same (sym here ∙ e)))
                (subst (λ (rs : List (List ℕ)). IsKept w rs (length calls) m (slice_index (map (worth later.reply) old.futures) k)) (sym rows_are)
                (subst (λ (vs : List ℕ). IsKept w (rows_of calls ++ row ∷ []) (length calls) m (slice_index vs k)) (sym (worths_same book later old.futures grows owned))
                (is_kept_longer w (rows_of calls) (row ∷ []) (length calls) m _ (st.futures_kept k m at))));
          };
          firm = r.firm;
          covered = r.covered;
          counted = λ k call at. subst (λ (rs : List (List ℕ)). IsCounted w rs (length calls) call) (sym rows_are)
              (is_counted_longer w (rows_of calls) (row ∷ []) (length calls) call (st.counted k call at));
          no_reply = suits.no_reply;
          arguments = r.arguments;
          served = λ k site at.
              let x = (st.served k site at).0 in
              record {
                again = x.again;
                made = subst (λ (rs : List (List ℕ)). IsMade w rs (length calls) site k book) (sym rows_are) (counted_longer w (rows_of calls) (row ∷ []) _ (length calls) _ x.made);
                sent = subst (λ (rs : List (List ℕ)). IsSent w rs site (length calls) x.again (as_sent later.reply (of_instance k book.calls))) (sym rows_are)
                    (subst (λ (cs : List (Bool × List ℕ)). IsSent w (rows_of calls ++ row ∷ []) site (length calls) x.again cs) (sym (sent_same book later k book.calls grows own))
                    (sent_longer w (rows_of calls) (row ∷ []) site (length calls) x.again _ x.sent));
              };
          marked = λ k site at. record {
            marked = λ e. (before.fresh (sym here ∙ e)).marks k site at;
            unmarked = λ e. ap (λ (q : Kept_state). slice_index q.marks k) (before.same (sym here ∙ e)) ∙ (st.served k site at).1;
          };
          agrees = suits.agrees;
        }

    ends : (marked : Marks) (replies : Replies) → Suits core g sites later (calls ++ (mark, map value_in inputs) ∷ []) marked replies →
        Ends (of_core core marked replies) (rows_of (calls ++ (mark, map value_in inputs) ∷ [])) (length calls) g sites node out new later
    ends marked replies suits = served (of_core core marked replies) (rows_of (calls ++ (mark, map value_in inputs) ∷ [])) (length calls) g sites node planned (begins marked replies suits)
