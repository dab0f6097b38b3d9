-- The sites of nodes whose equations stand in another order, and what they are sent.
use Rattle.std.proofs.Common.{◌≡◌, ℕ, suc, ◌-◌, Bool, true, false, List, [], ◌∷◌, ◌++◌, Option, map, take, length, refl, sym, ap, subst, append_assoc}
use Rattle.std.specs.Prelude.{if◌then◌else◌}
use Rattle.std.specs.List.{find}
use Rattle.std.specs.List.Sorted.{IsPermutation}
use Rattle.std.specs.Option.{option_map}
use Rattle.std.proofs.lemmas.List.Sorted.{IsPermutation-refl, IsPermutation-sym, IsPermutation-trans, IsPermutation-append, IsPermutation-append_left, IsPermutation-append_right, IsPermutation-append_comm, IsPermutation-map}
use Rattle.hept_ast.specs.Texts.{Name, same}
use Rattle.hept_ast.specs.Scopes.{Clock, Text, Lowered, Scope, Top, In_state, Under, block_of, text_of}
use Rattle.hept_ast.specs.Meaning.{Gives, Setting}
use Rattle.hept_ast.specs.Outputs.{HaveValues}
use Rattle.hept_ast.specs.Settings.{of_core}
use Rattle.hept_ast.specs.Sites.{Piece, Expression, Statement, Core_statement, Body, Site, path_of, expressions, conditions, state_pieces, callee_pieces, form_pieces, clock_of_left, equation_pieces, body_pieces, pieces, async_site, form_site, own_site, SitesOf, whole, SitesOfAll, none, first, insert, is_before, by_number, Sites, SentFrom, end, no_call, call}
use Rattle.hept_ast.specs.Paths.{AllDiffer}
use Rattle.hept_ast.specs.Reordering.{Reordered, SameText, written, lowered, SameScope, top, called, branch, body, state, under, SameSite, same_site, SameSites, no_sites, more_sites, HasSameSites, OrderKeepsSites, OrderKeepsSent}
use Rattle.hept_ast.specs.declared.tree.TypeDec.{TypeDec}
use Rattle.hept_ast.specs.declared.tree.Expr.{Expr}
use Rattle.hept_ast.specs.declared.tree.Form.{Form, out-Form}
use Rattle.hept_ast.specs.declared.tree.Form.TheOpen.{Form-F}
use Rattle.hept_ast.specs.declared.tree.MergeBranch.{MergeBranch}
use Rattle.hept_ast.specs.declared.tree.Escape.{Escape}
use Rattle.hept_ast.specs.declared.tree.Block.{Block}
use Rattle.hept_ast.specs.declared.tree.Branch.{Branch}
use Rattle.hept_ast.specs.declared.tree.State.{State}
use Rattle.hept_ast.specs.declared.tree.Equation.{Equation, out-Equation}
use Rattle.hept_ast.specs.declared.tree.Equation.TheOpen.{Equation-F}
use Rattle.hept_ast.specs.declared.tree.CoreEquation.{CoreEquation}
use Rattle.hept_ast.specs.declared.tree.CoreNode.{CoreNode}
use Rattle.hept_ast.proofs.Exchanges.{Exchanged, nothing, one_more, first_two, in_turn, exchanged}
use Rattle.hept_ast.proofs.TextOrder.{by_number_permutes, by_number_permuted, differ_permuted}
use Rattle.hept_ast.proofs.Reordering.{text_same, block_same, calls_same, seen_same, SameOption, neither, both, SameCall, no_call as no_node, a_call, call_text, gives, present, restarted, same_knows, lowered_same}

-- ---- lists of sites

same_append : (fs bs cs ds : List Site) → SameSites fs bs → SameSites cs ds → SameSites (fs ++ cs) (bs ++ ds)
same_append _ _ cs ds no_sites k = k
same_append _ _ cs ds (more_sites h hs) k = more_sites h (same_append _ _ cs ds hs k)

same_path : (a b : Site) → SameSite a b → path_of b ≡ path_of a
same_path _ _ (same_site {s = s} {r = r} {place = place} h k) = ap (λ (ps : List ℕ). ps ++ place ∷ []) (calls_same s r h)

same_paths : (fs bs : List Site) → SameSites fs bs → map path_of bs ≡ map path_of fs
same_paths _ _ no_sites = refl
same_paths _ _ (more_sites {site = a} {other = b} {sites = fs} {others = bs} h hs) =
    let e : path_of b ≡ path_of a = same_path a b h in
    let f : map path_of bs ≡ map path_of fs = same_paths fs bs hs in
    cc

same_insert : (a b : Site) (fs bs : List Site) → SameSite a b → SameSites fs bs → SameSites (insert a fs) (insert b bs)
same_insert a b _ _ h no_sites = more_sites h no_sites
same_insert a b _ _ h (more_sites {site = c} {other = d} {sites = cs} {others = ds} k ks) =
    go (is_before (path_of a) (path_of c)) (is_before (path_of b) (path_of d)) alike (same_insert a b cs ds h ks)
  where
    alike : is_before (path_of a) (path_of c) ≡ is_before (path_of b) (path_of d)
    alike = let e : path_of b ≡ path_of a = same_path a b h in let f : path_of d ≡ path_of c = same_path c d k in cc

    go : (x y : Bool) → x ≡ y → SameSites (insert a cs) (insert b ds) → SameSites (if x then a ∷ c ∷ cs else c ∷ insert a cs) (if y then b ∷ d ∷ ds else d ∷ insert b ds)
    go true true e later = more_sites h (more_sites k ks)
    go false false e later = more_sites k later
    go true false e later = cc
    go false true e later = cc

same_by_number : (fs bs : List Site) → SameSites fs bs → SameSites (by_number fs) (by_number bs)
same_by_number _ _ no_sites = no_sites
same_by_number _ _ (more_sites h hs) = same_insert _ _ _ _ h (same_by_number _ _ hs)

-- ---- pieces

data SamePiece : Piece → Piece → Type 0 where
  expression : {e : Expr} {clock : Clock} {s r : Scope} → SameScope s r → SamePiece (Expression e clock s) (Expression e clock r)
  statement : {e : Equation} {s r : Scope} → SameScope s r → SamePiece (Statement e s) (Statement e r)
  core_statement : {e : CoreEquation} {s r : Scope} → SameScope s r → SamePiece (Core_statement e s) (Core_statement e r)
  whole_body : {s r : Scope} → SameScope s r → SamePiece (Body s) (Body r)

data SamePieces : List Piece → List Piece → Type 0 where
  no_pieces : SamePieces [] []
  more_pieces : {p q : Piece} {ps qs : List Piece} → SamePiece p q → SamePieces ps qs → SamePieces (p ∷ ps) (q ∷ qs)

pieces_append : (fs bs cs ds : List Piece) → SamePieces fs bs → SamePieces cs ds → SamePieces (fs ++ cs) (bs ++ ds)
pieces_append _ _ cs ds no_pieces k = k
pieces_append _ _ cs ds (more_pieces h hs) k = more_pieces h (pieces_append _ _ cs ds hs k)

same_map : {A : Type 0} (f g : A → Piece) → ((x : A) → SamePiece (f x) (g x)) → (xs : List A) → SamePieces (map f xs) (map g xs)
same_map f g h [] = no_pieces
same_map f g h (x ∷ xs) = more_pieces (h x) (same_map f g h xs)

conditions_same : (es : List Escape) (s r : Scope) → SameScope s r → SamePieces (conditions es s) (conditions es r)
conditions_same es s r h = same_map (λ e. Expression e.condition [] s) (λ e. Expression e.condition [] r) (λ e. expression h) es

state_same : (qs states : List State) (k : ℕ) (s r : Scope) → SameScope s r → SamePieces (state_pieces qs states k s) (state_pieces qs states k r)
state_same [] states k s r h = no_pieces
state_same (q ∷ qs) states k s r h =
    more_pieces (whole_body (state h)) (pieces_append _ _ _ _ (pieces_append _ _ _ _ (conditions_same q.weak (In_state s states k) (In_state r states k) (state h))
    (conditions_same q.strong s r h)) (state_same qs states (suc k) s r h))

-- what sites of some pieces come to in the other setting
record Found (v : Setting) (qs : List Piece) (sites : List Site) : Type 0 where
  others : List Site
  all : SitesOfAll v qs others
  turned : List Site
  same : SameSites sites turned
  moved : IsPermutation turned others

record FoundOf (v : Setting) (q : Piece) (sites : List Site) : Type 0 where
  others : List Site
  all : SitesOf v q others
  turned : List Site
  same : SameSites sites turned
  moved : IsPermutation turned others

-- pieces in another order have their sites in another order
record Permuted (v : Setting) (qs : List Piece) (sites : List Site) : Type 0 where
  others : List Site
  all : SitesOfAll v qs others
  moved : IsPermutation sites others

three_moved : (fs bs cs : List Site) → IsPermutation (fs ++ (bs ++ cs)) (bs ++ (fs ++ cs))
three_moved fs bs cs =
    subst (λ (l : List Site). IsPermutation l (bs ++ (fs ++ cs))) (append_assoc fs bs cs)
    (subst (λ (l : List Site). IsPermutation ((fs ++ bs) ++ cs) l) (append_assoc bs fs cs) (IsPermutation-append_left cs _ _ (IsPermutation-append_comm fs bs)))

permuted : (v : Setting) (ps qs : List Piece) (sites : List Site) → Exchanged ps qs → SitesOfAll v ps sites → Permuted v qs sites
permuted v _ _ sites nothing h = record { others = sites; all = h; moved = IsPermutation-refl sites }
permuted v _ _ sites (one_more {xs = xs} {ys = ys} h) (first {sites = fs} {others = bs} k ks) =
    let r = permuted v xs ys bs h ks in
    record { others = fs ++ r.others; all = first k r.all; moved = IsPermutation-append_right fs _ _ r.moved }
permuted v _ _ sites first_two (first {sites = fs} k (first {sites = bs} {others = cs} l ls)) =
    record { others = bs ++ (fs ++ cs); all = first l (first k ls); moved = three_moved fs bs cs }
permuted v _ _ sites (in_turn {xs = xs} {ys = ys} {zs = zs} h k) l =
    let a = permuted v xs ys sites h l in
    let b = permuted v ys zs a.others k a.all in
    record { others = b.others; all = b.all; moved = IsPermutation-trans _ _ _ a.moved b.moved }

-- ---- settings whose nodes are tied

module _ (w : Setting) (node : Name → Option Text) (same_node : (x : Name) → SameOption (w.node x) (node x)) where
  abbrev v : Setting
  v = record w { node = node }

  callee_same : (o p : Option (List Expr × Text)) (place : ℕ) (clock : Clock) (s r : Scope) → SameCall w node same_node o p → SameScope s r →
      SamePieces (callee_pieces w o place clock s) (callee_pieces v p place clock r)
  callee_same _ _ place clock s r no_node h = no_pieces
  callee_same _ _ place clock s r (a_call k) h = more_pieces (whole_body (called h k)) no_pieces

  exprs_same : (es : List Expr) (clock : Clock) (s r : Scope) → SameScope s r → SamePieces (expressions es clock s) (expressions es clock r)
  exprs_same es clock s r h = same_map (λ e. Expression e clock s) (λ e. Expression e clock r) (λ e. expression h) es

  form_same : (f : Form-F Form Expr MergeBranch) (e : Expr) (clock : Clock) (s r : Scope) → SameScope s r → SamePieces (form_pieces w f e clock s) (form_pieces v f e clock r)
  form_same (Form-F.Const k) e clock s r h = no_pieces
  form_same (Form-F.Var x) e clock s r h = no_pieces
  form_same (Form-F.Last x) e clock s r h = no_pieces
  form_same (Form-F.Unary op a) e clock s r h = exprs_same (a ∷ []) clock s r h
  form_same (Form-F.Binary op a b) e clock s r h = exprs_same (a ∷ b ∷ []) clock s r h
  form_same (Form-F.If c a b) e clock s r h = exprs_same (c ∷ a ∷ b ∷ []) clock s r h
  form_same (Form-F.Fby a b) e clock s r h = exprs_same (a ∷ b ∷ []) clock s r h
  form_same (Form-F.Pre a) e clock s r h = exprs_same (a ∷ []) clock s r h
  form_same (Form-F.Arrow a b) e clock s r h = exprs_same (a ∷ b ∷ []) clock s r h
  form_same (Form-F.When a tag x) e clock s r h = exprs_same (a ∷ []) (take (length clock - 1) clock) s r h
  form_same (Form-F.Merge x branches) e clock s r h = same_map _ _ (λ b. expression h) branches
  form_same (Form-F.Call f args) e clock s r h =
      pieces_append _ _ _ _ (callee_same _ _ e.place.0 clock s r (call_text w node same_node args _ _ (same_node f)) h) (exprs_same args clock s r h)
  form_same (Form-F.AsyncCall q f args) e clock s r h = exprs_same args clock s r h
  form_same (Form-F.AsyncConst k) e clock s r h = no_pieces
  form_same (Form-F.Get a) e clock s r h = exprs_same (a ∷ []) clock s r h

  left_clock : (left : List Name) (s r : Scope) → SameScope s r → clock_of_left v left r ≡ clock_of_left w left s
  left_clock [] s r h = refl
  left_clock (x ∷ xs) s r h = seen_same w node same_node x s r h

  statement_same : (f : Equation-F Equation Block Branch State) (s r : Scope) → SameScope s r → SamePieces (equation_pieces w f s) (equation_pieces v f r)
  statement_same (Equation-F.Define p left right) s r h =
      subst (λ (c : Clock). SamePieces (Expression right (clock_of_left w left s) s ∷ []) (Expression right c r ∷ [])) (sym (left_clock left s r h)) (more_pieces (expression h) no_pieces)
  statement_same (Equation-F.Switch p on branches) s r h = more_pieces (expression h) (same_map _ _ (λ b. whole_body (branch h)) branches)
  statement_same (Equation-F.Reset p block every) s r h = more_pieces (whole_body (body h)) (more_pieces (expression h) no_pieces)
  statement_same (Equation-F.Automaton p states) s r h = state_same states states 0 s r h

  -- the pieces of a piece, which are those of the other in another order
  record Turned (p q : Piece) : Type 0 where
    turned : List Piece
    same : SamePieces (pieces w p) turned
    moved : IsPermutation turned (pieces v q)

  record TurnedBody (text other : Text) (s r : Scope) : Type 0 where
    turned : List Piece
    same : SamePieces (body_pieces w text s) turned
    moved : IsPermutation turned (body_pieces v other r)

  body_turned : (text other : Text) (s r : Scope) → SameText text other → SameScope s r → TurnedBody text other s r
  body_turned _ _ s r written h = record {
    turned = map (λ e. Statement e r) (block_of s).body;
    same = same_map _ _ (λ e. statement h) (block_of s).body;
    moved = subst (λ (b : Block). IsPermutation (map (λ e. Statement e r) (block_of s).body) (map (λ e. Statement e r) b.body)) (sym (block_same s r h)) (IsPermutation-refl _);
  }
  body_turned _ _ s r (lowered {node = n} {other = m} k) h = record {
    turned = map (λ e. Core_statement e r) n.equations;
    same = same_map _ _ (λ e. core_statement h) n.equations;
    moved = IsPermutation-map (λ e. Core_statement e r) n.equations m.equations k.equations;
  }

  piece_turned : (p q : Piece) → SamePiece p q → Turned p q
  piece_turned _ _ (expression {e = e} {clock = clock} {s = s} {r = r} h) =
      record { turned = form_pieces v (out-Form e.form) e clock r; same = form_same (out-Form e.form) e clock s r h; moved = IsPermutation-refl _ }
  piece_turned _ _ (statement {e = e} {s = s} {r = r} h) =
      record { turned = equation_pieces v (out-Equation e) r; same = statement_same (out-Equation e) s r h; moved = IsPermutation-refl _ }
  piece_turned _ _ (core_statement {e = e} {s = s} {r = r} h) =
      record { turned = Expression e.right e.clock.steps (Under r e.resets) ∷ []; same = more_pieces (expression (under h)) no_pieces; moved = IsPermutation-refl _ }
  piece_turned _ _ (whole_body {s = s} {r = r} h) =
      let b = body_turned (text_of s) (text_of r) s r (text_same s r h) h in record { turned = b.turned; same = b.same; moved = b.moved }

  async_same : (o p : Option Text) (queue : ℕ) (args : List Expr) (place : ℕ) (clock : Clock) (s r : Scope) → SameOption o p → SameScope s r →
      SameSites (async_site w o queue args place clock s) (async_site v p queue args place clock r)
  async_same _ _ queue args place clock s r neither h = no_sites
  async_same _ _ queue args place clock s r (both k) h = more_sites (same_site h k) no_sites

  form_site_same : (f : Form-F Form Expr MergeBranch) (e : Expr) (clock : Clock) (s r : Scope) → SameScope s r → SameSites (form_site w f e clock s) (form_site v f e clock r)
  form_site_same (Form-F.AsyncCall q f args) e clock s r h = async_same _ _ q args e.place.0 clock s r (same_node f) h
  form_site_same _ e clock s r h = no_sites

  own_same : (p q : Piece) → SamePiece p q → SameSites (own_site w p) (own_site v q)
  own_same _ _ (expression {e = e} {clock = clock} {s = s} {r = r} h) = form_site_same (out-Form e.form) e clock s r h
  own_same _ _ (statement h) = no_sites
  own_same _ _ (core_statement h) = no_sites
  own_same _ _ (whole_body h) = no_sites

  mutual
    found_of : (p q : Piece) (sites : List Site) → SamePiece p q → SitesOf w p sites → FoundOf v q sites
    found_of p q sites h (whole {sites = ss} k) =
        let t = piece_turned p q h in
        let a = found_all (pieces w p) t.turned ss t.same k in
        let b = permuted v t.turned (pieces v q) a.others (exchanged _ _ t.moved) a.all in
        record {
          others = own_site v q ++ b.others;
          all = whole b.all;
          turned = own_site v q ++ a.turned;
          same = same_append _ _ _ _ (own_same p q h) a.same;
          moved = IsPermutation-append_right (own_site v q) _ _ (IsPermutation-trans _ _ _ a.moved b.moved);
        }

    found_all : (ps qs : List Piece) (sites : List Site) → SamePieces ps qs → SitesOfAll w ps sites → Found v qs sites
    found_all _ _ sites no_pieces none = record { others = []; all = none; turned = []; same = no_sites; moved = IsPermutation-refl [] }
    found_all _ _ sites (more_pieces {p = p} {q = q} {ps = ps} {qs = qs} h hs) (first {sites = fs} {others = bs} k ks) =
        let a = found_of p q fs h k in
        let b = found_all ps qs bs hs ks in
        record {
          others = a.others ++ b.others;
          all = first a.all b.all;
          turned = a.turned ++ b.turned;
          same = same_append _ _ _ _ a.same b.same;
          moved = IsPermutation-append _ _ _ _ a.moved b.moved;
        }

  sites_same : (n m : CoreNode) (sites : List Site) → Reordered n m → Sites w (Lowered n) sites → HasSameSites v (Lowered m) sites
  sites_same n m sites h all =
      let a = found_of (Body (Top (Lowered n))) (Body (Top (Lowered m))) all.found (whole_body (top (lowered h))) all.all in
      record {
        others = by_number a.others;
        all = record { found = a.others; all = a.all; order = refl };
        turned = by_number a.turned;
        same = subst (λ (l : List Site). SameSites l (by_number a.turned)) all.order (same_by_number all.found a.turned a.same);
        moved = IsPermutation-trans _ _ _ (IsPermutation-sym _ _ (by_number_permutes a.turned)) (IsPermutation-trans _ _ _ a.moved (by_number_permutes a.others));
        order = λ d. by_number_permuted a.turned a.others a.moved
            (subst (λ (l : List (List ℕ)). AllDiffer l) (sym (same_paths all.found a.turned a.same))
            (differ_permuted (by_number all.found) all.found (IsPermutation-sym _ _ (by_number_permutes all.found))
            (subst (λ (l : List Site). AllDiffer (map path_of l)) (sym all.order) d)));
      }

  -- ---- what is sent

  values_same : (rows : List (List ℕ)) (clock : Clock) (s r : Scope) (t : ℕ) → SameScope s r → (es : List Expr) (vs : List ℕ) →
      HaveValues w rows (map (λ e. Gives e clock s t) es) vs → HaveValues v rows (map (λ e. Gives e clock r t) es) vs
  values_same rows clock s r t h [] [] k = tt
  values_same rows clock s r t h [] (u ∷ vs) k = elim k [ ]
  values_same rows clock s r t h (e ∷ es) [] k = elim k [ ]
  values_same rows clock s r t h (e ∷ es) (u ∷ vs) k = (same_knows w node same_node rows _ _ _ (gives h) k.0, values_same rows clock s r t h es vs k.1)

  sent_same : (rows : List (List ℕ)) (site moved : Site) → SameSite site moved → (again : Bool) (t left : ℕ) (calls : List (Bool × List ℕ)) →
      SentFrom w rows site again t left calls → SentFrom v rows moved again t left calls
  sent_same rows site moved h again t left calls end = end
  sent_same rows _ _ (same_site h k) again t left calls (no_call {restarted = x} r p l) =
      no_call (same_knows w node same_node rows _ _ _ (restarted h) r) (same_knows w node same_node rows _ _ _ (present h) p)
      (sent_same rows _ _ (same_site h k) _ (suc t) _ calls l)
  sent_same rows _ _ (same_site {s = s} {r = r} {clock = clock} {args = args} h k) again t left calls (call {args = vs} {calls = cs} a p values l) =
      call (same_knows w node same_node rows _ _ _ (restarted h) a) (same_knows w node same_node rows _ _ _ (present h) p)
      (values_same rows clock s r t h args vs values) (sent_same rows _ _ (same_site h k) false (suc t) _ cs l)

-- ---- cores

pub order_keeps_sites : OrderKeepsSites
order_keeps_sites core other marked replies node moved sites h k all =
    subst (λ (types : List TypeDec). HasSameSites (record (of_core core marked replies) { types = types; node = λ x. option_map Lowered (find (λ n. same x n.name) other.nodes) }) (Lowered moved) sites)
    (sym h.types)
    (sites_same (of_core core marked replies) (λ x. option_map Lowered (find (λ n. same x n.name) other.nodes)) (lowered_same core.nodes other.nodes h.nodes) node moved sites k all)

pub order_keeps_sent : OrderKeepsSent
order_keeps_sent core other marked replies site moved rows calls h k sent =
    subst (λ (types : List TypeDec). SentFrom (record (of_core core marked replies) { types = types; node = λ x. option_map Lowered (find (λ n. same x n.name) other.nodes) }) rows moved false 0 (length rows) calls)
    (sym h.types)
    (sent_same (of_core core marked replies) (λ x. option_map Lowered (find (λ n. same x n.name) other.nodes)) (lowered_same core.nodes other.nodes h.nodes) rows site moved k false 0 (length rows) calls sent)
