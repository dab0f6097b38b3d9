-- How the reading of a part goes on.
use Rattle.std.specs.Prelude.{◌≡◌, ◌≢◌, ℕ, List, [], ◌∷◌, ◌++◌, length, Option, Some, None, refl, Bool, true, false, if◌then◌else◌, Result, Ok, Err, MatchBool, MatchResult}
use Rattle.std.specs.Result.{IsErrAnd}
use Rattle.std.proofs.lemmas.Result.{err_from_is_err_and}
use Rattle.std.proofs.Common.{subst, ap, ◌∙◌, sym}
use Rattle.hept_ast.specs.declared.name.Place.{Place}
use Rattle.ept_tokens.specs.declared.token.Kind.{Kind}
use Rattle.ept_grammar.specs.declared.parts.Level.{Level}
use Rattle.ept_grammar.specs.declared.parts.Level.TheVariants as level
use Rattle.ept_tokens.specs.declared.token.Token.{Token}
use Rattle.ept_grammar.specs.declared.parts.Role.{Role}
use Rattle.ept_grammar.specs.declared.parts.Role.TheVariants.{Plain as Other}
use Rattle.ept_grammar.specs.declared.parts.Counts.{Counts}
use Rattle.ept_grammar.specs.declared.parts.Fault.{Fault}
use Rattle.ept_grammar.specs.declared.parts.Fault.TheVariants.{Unexpected, TooDeep, Memory}
use Rattle.ept_grammar.specs.Grammar.{Among, rules, Part, Symbol, word, part, Value, Values, Rule, joined, place_of, Spells, after, allows, Fits}
use Rattle.ept_grammar.specs.Reading.{look, first, begins, begin, skip, chosen, or_else, empties, is_empty, may_begin, Stops, To, Reads, Fails}
use Rattle.ept_tokens.proofs.Bools.{and_of}
use Rattle.ept_grammar.proofs.Theory.{chosen_among, chosen_begins, chosen_skips}

-- a token of a kind is next, and those after it are left
abbrev pub Takes : Kind → List Token → Token → List Token → Type 0
Takes k ts t rest = (ts ≡ t ∷ rest) × (t.kind ≡ k)

-- ---- to begin

pub begun : {n : Part} {text : List Token} {c : Counts} (r : Rule n) → chosen n (look text) ≡ Some r → To n text c r.right (r.gives (place_of text)) text c
begun {n = n} {text = text} r o = record {
  spells = λ us ss vs d. (d.0, Spells.by r (chosen_among n (look text) o) us d.1, d.2);
  stops = λ ss f s. Stops.by r o s;
}

pub begun_word : {n : Part} {text rest : List Token} {c : Counts} {k : Kind} {t : Token} {r : Rule n} → Among r (rules n) → begins first r.right k ≡ true → Takes k text t rest → To n text c r.right (r.gives (place_of text)) text c
begun_word {n = n} {text = text} {k = k} {r = r} i e took =
    let looks : look text ≡ Some k = ap look took.0 ∙ ap (λ x. Some x) took.1 in
    begun r (ap (chosen n) looks ∙ chosen_begins n k i e)

-- the rule among some that the next token begins
abbrev pub begin_at : {n : Part} → Option Kind → List (Rule n) → Option (Rule n)
begin_at None rs = None
begin_at (Some k) rs = begin k rs

-- all rules but the first
abbrev pub others : {n : Part} → List (Rule n) → List (Rule n)
others [] = []
others (r ∷ rs) = rs

chosen_first : (n : Part) (r : Rule n) (rs : List (Rule n)) → rules n ≡ r ∷ rs → skip rs ≡ None → (o : Option Kind) → begin_at o rs ≡ None → chosen n o ≡ Some r
unfolding chosen
chosen_first n r rs e s None b = rw (e, s) (go (empties is_empty r.right))
  where
    go : (b : Bool) → or_else (if b then Some r else None) (Some r) ≡ Some r
    go true = refl
    go false = refl
chosen_first n r rs e s (Some k) b = rw (e, s, b) (go (begins first r.right k) (empties is_empty r.right))
  where
    go : (a b : Bool) → or_else (if a then Some r else None) (or_else (if b then Some r else None) (Some r)) ≡ Some r
    go true b = refl
    go false true = refl
    go false false = refl

-- the first rule of a part, where the next token begins no other
pub begun_first : {n : Part} {text : List Token} {c : Counts} {r : Rule n} {rs : List (Rule n)} → rules n ≡ r ∷ rs → skip rs ≡ None → begin_at (look text) rs ≡ None → To n text c r.right (r.gives (place_of text)) text c
begun_first {n = n} {text = text} {r = r} {rs = rs} e s b = begun r (chosen_first n r rs e s (look text) b)

-- the only rule of a part
pub begun_sole : {n : Part} {text : List Token} {c : Counts} (r : Rule n) → rules n ≡ r ∷ [] → To n text c r.right (r.gives (place_of text)) text c
begun_sole {n = n} {text = text} r e = begun r (chosen_first n r [] e refl (look text) (none (look text)))
  where
    none : (o : Option Kind) → begin_at {n = n} o [] ≡ None
    none None = refl
    none (Some k) = refl

-- a part that nothing spells
pub begun_empty : {n : Part} {text : List Token} {c : Counts} {r : Rule n} → Among r (rules n) → empties is_empty r.right ≡ true → may_begin n (look text) ≡ false → To n text c r.right (r.gives (place_of text)) text c
begun_empty {n = n} {text = text} {r = r} i e f = begun r (chosen_skips n (look text) i e f)

-- ---- to go on

-- past a token, whatever its role
pub past_role : {n : Part} {text : List Token} {from : Counts} {r : Role} {k : Kind} {togo : List Symbol} {gives : Values (word r k ∷ togo) → Value n} {ts : List Token} {c : Counts} {t : Token} {rest : List Token}
    → To n text from (word r k ∷ togo) gives ts c → Takes k ts t rest → allows r c ≡ true → To n text from togo (λ us. gives (t, us)) rest (after r c)
past_role {r = r} {t = t} {rest = rest} w took fit = record {
  spells = λ us ss vs d. w.spells (t, us) ss vs (r ∷ d.0, rw took.0 (Spells.token took.1 d.1), and_of _ _ fit d.2);
  stops = λ ss f s. w.stops ss f (rw took.0 (Stops.token took.1 fit s));
}

-- past a token that leaves the counts as they are
pub past_word : {n : Part} {text : List Token} {from : Counts} {k : Kind} {togo : List Symbol} {gives : Values (word Other k ∷ togo) → Value n} {ts : List Token} {c : Counts} {t : Token} {rest : List Token}
    → To n text from (word Other k ∷ togo) gives ts c → Takes k ts t rest → To n text from togo (λ us. gives (t, us)) rest c
past_word w took = past_role w took refl

-- past a token, with what the counts are then
pub past : {n : Part} {text : List Token} {from : Counts} {r : Role} {k : Kind} {togo : List Symbol} {gives : Values (word r k ∷ togo) → Value n} {ts : List Token} {c : Counts} {t : Token} {rest : List Token} {now : Counts}
    → To n text from (word r k ∷ togo) gives ts c → Takes k ts t rest → (allows r c ≡ true) × (now ≡ after r c) → To n text from togo (λ us. gives (t, us)) rest now
past {n = n} {text = text} {from = from} {togo = togo} {gives = gives} {t = t} {rest = rest} w took fit =
    subst (λ x. To n text from togo (λ us. gives (t, us)) rest x) (sym fit.1) (past_role w took fit.0)

pub past_part : {n m : Part} {text : List Token} {from : Counts} {togo : List Symbol} {gives : Values (part m ∷ togo) → Value n} {ts rest : List Token} {c now : Counts} {v : Value m}
    → To n text from (part m ∷ togo) gives ts c → Reads m ts c v rest now → To n text from togo (λ us. gives (v, us)) rest now
past_part {togo = togo} {v = v} w q = record {
  spells = λ us ss vs d. w.spells (v, us) ss vs (q.spells tt (togo ++ ss) (joined togo ss us vs) d);
  stops = λ ss f s. w.stops ss f (q.stops (togo ++ ss) f s);
}

-- the last part to go is itself read up to some symbols
pub nest : {n m : Part} {text : List Token} {from : Counts} {gives : Values (part m ∷ []) → Value n} {ts : List Token} {c : Counts} {inner : List Symbol} {g : Values inner → Value m} {rest : List Token} {now : Counts}
    → To n text from (part m ∷ []) gives ts c → To m ts c inner g rest now → To n text from inner (λ us. gives (g us, tt)) rest now
nest {g = g} w q = record {
  spells = λ us ss vs d. w.spells (g us, tt) ss vs (q.spells us ss vs d);
  stops = λ ss f s. w.stops ss f (q.stops ss f s);
}

pub same_gives : {n : Part} {text : List Token} {from : Counts} {togo : List Symbol} (g h : Values togo → Value n) {ts : List Token} {c : Counts}
    → ((us : Values togo) → g us ≡ h us) → To n text from togo g ts c → To n text from togo h ts c
same_gives {n = n} {text = text} {from = from} g h e w = record {
  spells = λ us ss vs d. subst (λ x. Fits from (part n ∷ ss) (x, vs) text) (e us) (w.spells us ss vs d);
  stops = w.stops;
}

-- ---- to fail

fails_by : {n m : Part} {text ts : List Token} {from c : Counts} (togo : List Symbol) → ((ss : List Symbol) (f : Fault) → Stops (part m ∷ togo ++ ss) c ts f → Stops (part n ∷ ss) from text f)
    → (f : Fault) → Fails m ts c f → Fails n text from f
fails_by togo h Memory f = tt
fails_by togo h (Unexpected left) f = λ ss. h ss _ (f (togo ++ ss))
fails_by togo h (TooDeep left) f = λ ss. h ss _ (f (togo ++ ss))

pub fails_part : {n m : Part} {text : List Token} {from : Counts} {togo : List Symbol} {gives : Values (part m ∷ togo) → Value n} {ts : List Token} {c : Counts}
    → To n text from (part m ∷ togo) gives ts c → (f : Fault) → Fails m ts c f → Fails n text from f
fails_part {togo = togo} w f e = fails_by togo w.stops f e

-- a token of a kind is wanted, and another one is next
pub fails_word : {n : Part} {text : List Token} {from : Counts} {r : Role} {k : Kind} {togo : List Symbol} {gives : Values (word r k ∷ togo) → Value n} {ts : List Token} {c : Counts} {f : Fault}
    → To n text from (word r k ∷ togo) gives ts c → (look ts ≢ Some k) × (f ≡ Unexpected (length ts)) → Fails n text from f
fails_word {n = n} {text = text} {from = from} w e = subst (Fails n text from) (sym e.1) (λ ss. w.stops ss _ (Stops.other e.0 refl))

-- the next token passes a bound
pub fails_over : {n : Part} {text : List Token} {from : Counts} {r : Role} {k : Kind} {togo : List Symbol} {gives : Values (word r k ∷ togo) → Value n} {ts : List Token} {c : Counts} {t : Token} {rest : List Token} {f : Fault}
    → To n text from (word r k ∷ togo) gives ts c → Takes k ts t rest → (allows r c ≡ false) × (f ≡ TooDeep (length ts)) → Fails n text from f
fails_over {n = n} {text = text} {from = from} {ts = ts} w took e =
    subst (Fails n text from) (sym e.1) (λ ss. w.stops ss _ (rw took.0 (Stops.over took.1 e.0 refl)))

pub fails_none : {n : Part} {text : List Token} {c : Counts} → chosen n (look text) ≡ None → Fails n text c (Unexpected (length text))
fails_none o = λ ss. Stops.no_rule o refl

-- the exit of a `?` that passes a fault on
pub at_exit : {X : Type 0} (P : X → Type 0) (Q : Fault → Type 0) (r : Result X Fault) (e : Fault) → IsErrAnd r (λ y. y ≡ e) → Q e → MatchResult r P Q
at_exit P Q r e i q = let p = err_from_is_err_and r i in rw p.1 (subst Q (sym p.2) q)

-- the value of a part whose first token is known
pub placed : {n : Part} {text rest : List Token} {c now : Counts} {k : Kind} {t : Token} {ts : List Token} (g : Place → Value n) (v : Value n) → Takes k text t ts → v ≡ g t.place → Reads n text c (g (place_of text)) rest now → Reads n text c v rest now
placed {n = n} {text = text} {rest = rest} {c = c} {now = now} g v took same r =
    subst (λ x. Reads n text c x rest now) (ap (λ ts. g (place_of ts)) took.0 ∙ sym same) r

-- what is so of an answer that is passed on
pub passed_on : {X F : Type 0} {P Q : X → Type 0} {R S : F → Type 0} (r : Result X F) → MatchResult r P R → ((x : X) → P x → Q x) → ((f : F) → R f → S f) → MatchResult r Q S
passed_on (Ok x) p g h = g x p
passed_on (Err f) p g h = h f p

pub when_true : {A : Type 0} (B : Type 0) (b : Bool) → b ≡ true → MatchBool b A B → A
when_true B true e h = h
when_true B false e h = absurd cc

pub when_false : (A : Type 0) {B : Type 0} (b : Bool) → b ≡ false → MatchBool b A B → B
when_false A true e h = absurd cc
when_false A false e h = h

-- how many levels of infix signs bind closer
abbrev pub rank : Level → ℕ
rank level.Or = 4
rank level.And = 3
rank level.Comparison = 2
rank level.Sum = 1
rank level.Product = 0
