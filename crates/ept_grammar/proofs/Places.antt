-- Where the reader stops, and why.
use Rattle.std.specs.Prelude.{◌≡◌, ◌≢◌, ℕ, suc, Bool, true, false, ◌&&◌, List, [], ◌∷◌, ◌++◌, length, Some, refl}
use Rattle.std.proofs.Common.{sym, ap, subst, ◌∙◌, append_assoc, append-nil, arith}
use Rattle.std.proofs.lemmas.List.{length_push}
use Rattle.ept_tokens.specs.declared.token.Kind.{Kind}
use Rattle.ept_tokens.specs.declared.token.Token.{Token}
use Rattle.ept_grammar.specs.declared.parts.Role.{Role}
use Rattle.ept_grammar.specs.declared.parts.Counts.{Counts}
use Rattle.ept_grammar.specs.declared.parts.Fault.{Fault}
use Rattle.ept_grammar.specs.declared.parts.Fault.TheVariants.{Unexpected, TooDeep, Memory}
use Rattle.ept_grammar.specs.Grammar.{Among, Part, Symbol, word, part, Value, Values, Rule, rules, joined, Spells, allows, within}
use Rattle.ept_grammar.specs.Reading.{look, chosen, Stops, Reads, Fails}
use Rattle.ept_grammar.specs.Text.{none_yet, IsText, Begins, IsWrong, IsUnexpected, IsTooDeep, IsRefused}
use Rattle.ept_tokens.proofs.Bools.{and_of, true≢false}
use Rattle.ept_grammar.proofs.Theory.{only, Good, good_by, chosen_by, chosen_among, by_of, token_of, starts_with}
use Rattle.ept_grammar.proofs.Samples.{text_of, under}

-- the next token alone of what is left, and others after it. The end of the text stays the end.
abbrev pub through : List Token → List Token → List Token
through [] more = []
through (t ∷ ts) more = t ∷ more

-- a text of the symbols that begins with these tokens in these roles
record Front (ss : List Symbol) (tokens : List Token) (roles : List Role) : Type 0 where
  more : List Token
  later : List Role
  values : Values ss
  spells : Spells ss values (tokens ++ more) (roles ++ later)

record Halted (ss : List Symbol) (c : Counts) (text : List Token) (left : ℕ) : Type 0 where
  before : List Token
  rest : List Token
  whole : text ≡ before ++ rest
  place : left ≡ length rest
  roles : List Role
  one_each : length roles ≡ length before
  fits_so : within c roles ≡ true
  begins : Front ss before roles
  ends : (more : List Token) (vs : Values ss) (rs : List Role) → Spells ss vs (before ++ through rest more) rs → ⊥

record Overrun (ss : List Symbol) (c : Counts) (text : List Token) (left : ℕ) : Type 0 where
  before : List Token
  next : Token
  rest : List Token
  whole : text ≡ before ++ next ∷ rest
  place : left ≡ length (next ∷ rest)
  roles : List Role
  role : Role
  one_each : length roles ≡ length before
  fits_so : within c roles ≡ true
  passes : within c (roles ++ role ∷ []) ≡ false
  begins : Front ss (before ++ next ∷ []) (roles ++ role ∷ [])

look_through : (before rest more : List Token) → look (before ++ through rest more) ≡ look (before ++ rest)
look_through [] [] more = refl
look_through [] (t ∷ ts) more = refl
look_through (t ∷ ts) rest more = refl

any_front : (ss : List Symbol) → Front ss [] []
any_front ss = let t = text_of ss in record { more = t.tokens; later = t.roles; values = t.values; spells = t.spells }

front_by : {n : Part} {ss : List Symbol} {ts : List Token} {rs : List Role} (r : Rule n) → Among r (rules n) → Front (r.right ++ ss) ts rs → Front (part n ∷ ss) ts rs
front_by r i f = let u = under r i f.values f.spells in record { more = f.more; later = f.later; values = u.0; spells = u.1 }

front_token : {r : Role} {k : Kind} {ss : List Symbol} {t : Token} {ts : List Token} {rs : List Role} → t.kind ≡ k → Front ss ts rs → Front (word r k ∷ ss) (t ∷ ts) (r ∷ rs)
front_token {t = t} e f = record { more = f.more; later = f.later; values = (t, f.values); spells = Spells.token e f.spells }

no_more : (ts more : List Token) (vs : Values []) (rs : List Role) → ts ≢ [] → Spells [] vs (through ts more) rs → ⊥
no_more [] more vs rs ne d = ne refl
no_more (t ∷ ts) more vs rs ne d = elim d [ ]

word_looks : {r : Role} {k : Kind} {ss : List Symbol} {vs : Values (word r k ∷ ss)} {ts : List Token} {rs : List Role} → Spells (word r k ∷ ss) vs ts rs → look ts ≡ Some k
word_looks (Spells.token e d) = ap (λ k. Some k) e

halted : {ss : List Symbol} {c : Counts} {ts : List Token} {f : Fault} → Stops ss c ts f → (left : ℕ) → f ≡ Unexpected left → Good ss → Halted ss c ts left
halted (Stops.more {ts = ts} ne e) left is g =
    record { before = []; rest = ts; whole = refl; place = let p : Unexpected left ≡ Unexpected (length ts) = sym is ∙ e in cc; roles = []; one_each = refl; fits_so = refl; begins = any_front []; ends = λ m vs rs d. no_more ts m vs rs ne d }
halted (Stops.token {r = r} {k = k} {ss = ss} {t = t} {ts = ts} e fit s) left is g =
    let i = halted s left is g in
    record {
      before = t ∷ i.before;
      rest = i.rest;
      whole = ap (λ x. t ∷ x) i.whole;
      place = i.place;
      roles = r ∷ i.roles;
      one_each = ap suc i.one_each;
      fits_so = and_of _ _ fit i.fits_so;
      begins = front_token e i.begins;
      ends = λ m vs rs d. let o = token_of d in i.ends m vs.1 o.roles o.spells;
    }
halted (Stops.over e fit is_too) left is g = absurd cc
halted (Stops.other {r = r} {k = k} {ss = ss} {ts = ts} ne e) left is g =
    record { before = []; rest = ts; whole = refl; place = let p : Unexpected left ≡ Unexpected (length ts) = sym is ∙ e in cc; roles = []; one_each = refl; fits_so = refl; begins = any_front (word r k ∷ ss); ends = λ m vs rs d. ne (sym (look_through [] ts m) ∙ word_looks d) }
halted (Stops.by {n = n} {ss = ss} {c = c} {ts = ts} r o s) left is g =
    let among = chosen_among n (look ts) o in
    let i = halted s left is (good_by n ss among g) in
    record {
      before = i.before;
      rest = i.rest;
      whole = i.whole;
      place = i.place;
      roles = i.roles;
      one_each = i.one_each;
      fits_so = i.fits_so;
      begins = front_by r among i.begins;
      ends = λ m vs rs d. go i m vs rs d;
    }
  where
    go : (i : Halted (r.right ++ ss) c ts left) (m : List Token) (vs : Values (part n ∷ ss)) (rs : List Role) → Spells (part n ∷ ss) vs (i.before ++ through i.rest m) rs → ⊥
    go i m vs rs d =
        let b = by_of d in
        let other : chosen n (look (i.before ++ through i.rest m)) ≡ Some b.rule = chosen_by n ss (i.before ++ through i.rest m) b.among g (starts_with b.spells) in
        let looks : look (i.before ++ through i.rest m) ≡ look ts = look_through i.before i.rest m ∙ ap look (sym i.whole) in
        let same : b.rule ≡ r = cc in
        let P : Rule n → Type 0 = λ q. (xs : Values q.right) → Spells (q.right ++ ss) (joined q.right ss xs vs.1) (i.before ++ through i.rest m) rs → ⊥ in
        let here_too : P r = λ xs h. i.ends m _ _ h in
        subst P (sym same) here_too b.values b.spells
halted (Stops.no_rule {n = n} {ss = ss} {ts = ts} o e) left is g =
    record { before = []; rest = ts; whole = refl; place = let p : Unexpected left ≡ Unexpected (length ts) = sym is ∙ e in cc; roles = []; one_each = refl; fits_so = refl; begins = any_front (part n ∷ ss); ends = λ m vs rs d. go m vs rs d }
  where
    go : (m : List Token) (vs : Values (part n ∷ ss)) (rs : List Role) → Spells (part n ∷ ss) vs (through ts m) rs → ⊥
    go m vs rs d =
        let b = by_of d in
        let other : chosen n (look (through ts m)) ≡ Some b.rule = chosen_by n ss (through ts m) b.among g (starts_with b.spells) in
        let looks : look (through ts m) ≡ look ts = look_through [] ts m in
        cc

-- a test that fails after one that holds
still_false : (a b : Bool) → a ≡ true → b ≡ false → a && b ≡ false
still_false true b e f = f
still_false false b e f = refl

overrun : {ss : List Symbol} {c : Counts} {ts : List Token} {f : Fault} → Stops ss c ts f → (left : ℕ) → f ≡ TooDeep left → Good ss → Overrun ss c ts left
overrun (Stops.more ne e) left is g = absurd cc
overrun (Stops.token {r = r} {t = t} e fit s) left is g =
    let i = overrun s left is g in
    record {
      before = t ∷ i.before;
      next = i.next;
      rest = i.rest;
      whole = ap (λ x. t ∷ x) i.whole;
      place = i.place;
      roles = r ∷ i.roles;
      role = i.role;
      one_each = ap suc i.one_each;
      fits_so = and_of _ _ fit i.fits_so;
      passes = still_false _ _ fit i.passes;
      begins = front_token e i.begins;
    }
overrun (Stops.over {r = r} {k = k} {ss = ss} {c = c} {t = t} {ts = ts} e fit is_too) left is g =
    record {
      before = [];
      next = t;
      rest = ts;
      whole = refl;
      place = let p : TooDeep left ≡ TooDeep (length (t ∷ ts)) = sym is ∙ is_too in cc;
      roles = [];
      role = r;
      one_each = refl;
      fits_so = refl;
      passes = over fit;
      begins = front_token e (any_front ss);
    }
  where
    over : allows r c ≡ false → allows r c && true ≡ false
    over e = rw e refl
overrun (Stops.other ne e) left is g = absurd cc
overrun (Stops.by {n = n} {ss = ss} {ts = ts} r o s) left is g =
    let among = chosen_among n (look ts) o in
    let i = overrun s left is (good_by n ss among g) in
    record {
      before = i.before;
      next = i.next;
      rest = i.rest;
      whole = i.whole;
      place = i.place;
      roles = i.roles;
      role = i.role;
      one_each = i.one_each;
      fits_so = i.fits_so;
      passes = i.passes;
      begins = front_by r among i.begins;
    }
overrun (Stops.no_rule o e) left is g = absurd cc

-- ---- at a whole text

pub good_alone : (n : Part) → Good (part n ∷ [])
good_alone n = (λ k e. true≢false (sym e), tt)

begins_of : {n : Part} {tokens : List Token} {roles : List Role} → Front (part n ∷ []) tokens roles → length roles ≡ length tokens → Begins n tokens roles
begins_of f e = record { more = f.more; later = f.later; value = f.values.0; spells = f.spells; one_each = e }

unexpected : {n : Part} {ts : List Token} {left : ℕ} → Stops (part n ∷ []) none_yet ts (Unexpected left) → IsUnexpected n ts left
unexpected {n = n} {ts = ts} {left = left} s =
    let h = halted s left refl (good_alone n) in
    record {
      before = h.before;
      rest = h.rest;
      whole = h.whole;
      place = h.place;
      roles = h.roles;
      begins = begins_of h.begins h.one_each;
      fits = h.fits_so;
      wrong = wrong h.before h.rest h.ends;
    }
  where
    wrong : (before rest : List Token) → ((more : List Token) (vs : Values (part n ∷ [])) (rs : List Role) → Spells (part n ∷ []) vs (before ++ through rest more) rs → ⊥) → IsWrong n before rest
    wrong before [] ends = λ v rs d. ends [] (v, tt) rs (subst (λ x. Spells (part n ∷ []) (v, tt) x rs) (sym (append-nil before)) d)
    wrong before (t ∷ rest) ends = λ rs b. ends b.more (b.value, tt) (rs ++ b.later) (subst (λ x. Spells (part n ∷ []) (b.value, tt) x (rs ++ b.later)) (append_assoc before (t ∷ []) b.more) b.spells)

too_deep : {n : Part} {ts : List Token} {left : ℕ} → Stops (part n ∷ []) none_yet ts (TooDeep left) → IsTooDeep n ts left
too_deep {n = n} {left = left} s =
    let o = overrun s left refl (good_alone n) in
    record {
      before = o.before;
      next = o.next;
      rest = o.rest;
      whole = o.whole;
      place = o.place;
      roles = o.roles;
      role = o.role;
      begins = begins_of o.begins (one_more o.roles o.before o.role o.next o.one_each);
      as_long = o.one_each;
      fits = o.fits_so;
      passes = o.passes;
    }
  where
    one_more : (rs : List Role) (ts : List Token) (r : Role) (t : Token) → length rs ≡ length ts → length (rs ++ r ∷ []) ≡ length (ts ++ t ∷ [])
    one_more rs ts r t e = omega (arith, length_push rs r, length_push ts t)

-- what the reader answers at a whole text
pub refused : (n : Part) (ts : List Token) (f : Fault) → Fails n ts none_yet f → IsRefused n ts f
refused n ts (Unexpected left) h = unexpected (h [])
refused n ts (TooDeep left) h = too_deep (h [])
refused n ts Memory h = tt

pub refused_more : {n : Part} {ts rest : List Token} {v : Value n} {now : Counts} → Reads n ts none_yet v rest now → rest ≢ [] → IsUnexpected n ts (length rest)
refused_more q ne = unexpected (q.stops [] _ (Stops.more ne refl))

pub read_whole : {n : Part} {ts rest : List Token} {v : Value n} {now : Counts} → Reads n ts none_yet v rest now → rest ≡ [] → IsText n ts v
read_whole {n = n} {ts = ts} {v = v} {now = now} q e =
    let P : List Token → Type 0 = λ x. Reads n ts none_yet v x now in
    let q' = subst P e q in
    q'.spells tt [] tt ([], Spells.none, refl)

pub only_text : {n : Part} {ts : List Token} (v w : Value n) → IsText n ts v → IsText n ts w → v ≡ w
only_text {n = n} v w a b = ap (λ x. x.0) (only a.1 (w, tt) b.0 b.1 (good_alone n))
