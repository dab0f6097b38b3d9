-- How the reading of operands with infix signs goes on.
use Rattle.std.specs.Prelude.{◌≡◌, true, false, List, [], ◌∷◌, ◌++◌, map, length, Option, Some, None, refl, ◌⊎◌}
use Rattle.std.proofs.Common.{subst, ap, sym, ◌∙◌, inl, inr}
use Rattle.hept_ast.specs.declared.tree.Expr.{Expr}
use Rattle.hept_ast.specs.declared.tree.BinaryOp.{BinaryOp}
use Rattle.hept_ast.specs.declared.tree.Form.TheVariants as form
use Rattle.ept_tokens.specs.declared.token.Kind.{Kind}
use Rattle.ept_tokens.specs.declared.token.Token.{Token}
use Rattle.ept_tokens.specs.Kinds.{is}
use Rattle.ept_tokens.proofs.Bools.{or_cases, true≢false}
use Rattle.ept_grammar.specs.declared.parts.Level.{Level}
use Rattle.ept_grammar.specs.declared.parts.Level.TheVariants as level
use Rattle.ept_grammar.specs.declared.parts.Role.TheVariants.{Operator}
use Rattle.ept_grammar.specs.declared.parts.Counts.{Counts}
use Rattle.ept_grammar.specs.declared.parts.Fault.{Fault}
use Rattle.ept_grammar.specs.declared.parts.Fault.TheVariants.{TooDeep}
use Rattle.ept_grammar.specs.Grammar.{Among, here, there, Part, Symbol, part, Value, Values, joined, Infix, Operand, Operands, Prefix, infix_rule, one_of, signs, sign, sign_at, again, at, grouped, after, allows}
use Rattle.ept_grammar.specs.Reading.{look, may_begin, To, Reads, Fails}
use Rattle.ept_grammar.proofs.EachKind.{same_is, is_same}
use Rattle.ept_grammar.proofs.Steps.{begun_word, begun_sole, begun_empty, fails_over, fails_part, past, past_part}
use Rattle.ept_grammar.proofs.Words.{no_sign, some_sign}
use Rattle.ept_steps.specs.Signs.{levels_to, levels_after, level_of, next_sign, or_looser}

-- ---- a sign of a level

among_signs : (l : Level) (js : List Kind) (k : Kind) → one_of js k ≡ true → Among (infix_rule l k) (map (infix_rule l) js)
among_signs l [] k e = absurd (true≢false (sym e))
among_signs l (j ∷ js) k e = go (or_cases (is j k) (one_of js k) e) (λ f. among_signs l js k f)
  where
    go : (is j k ≡ true) ⊎ (one_of js k ≡ true) → (one_of js k ≡ true → Among (infix_rule l k) (map (infix_rule l) js)) → Among (infix_rule l k) (infix_rule l j ∷ map (infix_rule l) js)
    go (inl f) ih = subst (λ x. Among (infix_rule l k) (infix_rule l x ∷ map (infix_rule l) js)) (sym (same_is j k f)) here
    go (inr f) ih = there (ih f)

signs_begun : {ts rest : List Token} {c now : Counts} (l : Level) (t : Token) (o : BinaryOp) → ts ≡ t ∷ rest → sign_at l t.kind ≡ Some o → (allows Operator c ≡ true) × (now ≡ after Operator c)
    → To (Operands (Some l)) ts c (part (Operand l) ∷ part (Operands (again l)) ∷ []) (λ us. (t, us.0) ∷ us.1.0) rest now
signs_begun l t o e s fit =
    let one = some_sign l t.kind o s in
    past (begun_word (there (among_signs l (signs l) t.kind one.0)) (is_same t.kind t.kind refl) (e, refl)) (e, refl) fit

signs_over : {ts rest : List Token} (c : Counts) {f : Fault} (l : Level) (t : Token) (o : BinaryOp) → ts ≡ t ∷ rest → sign_at l t.kind ≡ Some o → (allows Operator c ≡ false) × (f ≡ TooDeep (length ts)) → Fails (Operands (Some l)) ts c f
signs_over c l t o e s over =
    let one = some_sign l t.kind o s in
    fails_over (begun_word (there (among_signs l (signs l) t.kind one.0)) (is_same t.kind t.kind refl) (e, refl)) (e, refl) over

-- ---- signs of several levels

-- signs with operands of levels, from the closest one on
abbrev pub symbols : List Level → List Symbol
symbols [] = []
symbols (l ∷ ls) = part (Operands (Some l)) ∷ symbols ls

-- what these make of the operand before them
abbrev pub folded : (ls : List Level) → Expr → Values (symbols ls) → Expr
folded [] e us = e
folded (l ∷ ls) e us = folded ls (grouped e us.0) us.1

-- An operand has been read, and signs of these levels may come next.
abbrev pub Climbs : Level → (text : List Token) → (from : Counts) → List Level → Expr → (tokens : List Token) → (now : Counts) → Type 0
Climbs k text from ls e ts c = To (Infix k) text from (symbols ls) (λ us. folded ls e us) ts c

-- A part comes next, and then signs of these levels may.
abbrev pub Before : Level → (text : List Token) → (from : Counts) → (n : Part) → (Value n → Expr) → List Level → (tokens : List Token) → (now : Counts) → Type 0
Before k text from n g ls ts c = To (Infix k) text from (part n ∷ symbols ls) (λ us. folded ls (g us.0) us.1) ts c

-- the first part is read up to another part
nest_first : {k : Level} {n m : Part} {text ts rest : List Token} {from c now : Counts} {togo : List Symbol} {gives : Values (part n ∷ togo) → Expr} {g : Values (part m ∷ []) → Value n}
    → To (Infix k) text from (part n ∷ togo) gives ts c → To n ts c (part m ∷ []) g rest now → To (Infix k) text from (part m ∷ togo) (λ us. gives (g (us.0, tt), us.1)) rest now
nest_first {togo = togo} {g = g} w q = record {
  spells = λ us ss vs d. w.spells (g (us.0, tt), us.1) ss vs (q.spells (us.0, tt) (togo ++ ss) (joined togo ss us.1 vs) d);
  stops = λ ss f s. w.stops ss f (q.stops (togo ++ ss) f s);
}

into_operand : {k : Level} {text ts : List Token} {from c : Counts} (ls : List Level) (l : Level) → Before k text from (Infix l) (λ e. e) ls ts c → Before k text from (Operand l) (λ e. e) (l ∷ ls) ts c
into_operand {ts = ts} {c = c} ls l w =
    let q : To (Infix l) ts c (part (Operand l) ∷ part (Operands (Some l)) ∷ []) (λ us. grouped us.0 us.1.0) ts c = begun_sole _ refl in
    record {
      spells = λ us ss vs d. w.spells (grouped us.0 us.1.0, us.1.1) ss vs (q.spells (us.0, (us.1.0, tt)) (symbols ls ++ ss) (joined (symbols ls) ss us.1.1 vs) d);
      stops = λ ss f s. w.stops ss f (q.stops (symbols ls ++ ss) f s);
    }

into_product : {k : Level} {text ts : List Token} {from c : Counts} (ls : List Level) → Before k text from (Infix level.Product) (λ e. e) ls ts c → Before k text from Prefix (λ e. e) (level.Product ∷ ls) ts c
into_product ls w = nest_first (into_operand ls level.Product w) (begun_sole _ refl)

into_sum : {k : Level} {text ts : List Token} {from c : Counts} (ls : List Level) → Before k text from (Infix level.Sum) (λ e. e) ls ts c → Before k text from (Infix level.Product) (λ e. e) (level.Sum ∷ ls) ts c
into_sum ls w = nest_first (into_operand ls level.Sum w) (begun_sole _ refl)

into_comparison : {k : Level} {text ts : List Token} {from c : Counts} (ls : List Level) → Before k text from (Infix level.Comparison) (λ e. e) ls ts c → Before k text from (Infix level.Sum) (λ e. e) (level.Comparison ∷ ls) ts c
into_comparison ls w = nest_first (into_operand ls level.Comparison w) (begun_sole _ refl)

into_and : {k : Level} {text ts : List Token} {from c : Counts} (ls : List Level) → Before k text from (Infix level.And) (λ e. e) ls ts c → Before k text from (Infix level.Comparison) (λ e. e) (level.And ∷ ls) ts c
into_and ls w = nest_first (into_operand ls level.And w) (begun_sole _ refl)

into_or : {k : Level} {text ts : List Token} {from c : Counts} (ls : List Level) → Before k text from (Infix level.Or) (λ e. e) ls ts c → Before k text from (Infix level.And) (λ e. e) (level.Or ∷ ls) ts c
into_or ls w = nest_first (into_operand ls level.Or w) (begun_sole _ refl)

all_of_it : (k : Level) (text : List Token) (from : Counts) → Before k text from (Infix k) (λ e. e) [] text from
all_of_it k text from = record { spells = λ us ss vs d. d; stops = λ ss f s. s }

-- the first operand of all comes next
pub level_begun : {text : List Token} {from : Counts} (k : Level) → Before k text from Prefix (λ e. e) (levels_to k) text from
level_begun level.Product = into_product [] (all_of_it level.Product _ _)
level_begun level.Sum = into_product (level.Sum ∷ []) (into_sum [] (all_of_it level.Sum _ _))
level_begun level.Comparison = into_product (level.Sum ∷ level.Comparison ∷ []) (into_sum (level.Comparison ∷ []) (into_comparison [] (all_of_it level.Comparison _ _)))
level_begun level.And = into_product (level.Sum ∷ level.Comparison ∷ level.And ∷ []) (into_sum (level.Comparison ∷ level.And ∷ []) (into_comparison (level.And ∷ []) (into_and [] (all_of_it level.And _ _))))
level_begun level.Or = into_product (level.Sum ∷ level.Comparison ∷ level.And ∷ level.Or ∷ []) (into_sum (level.Comparison ∷ level.And ∷ level.Or ∷ []) (into_comparison (level.And ∷ level.Or ∷ []) (into_and (level.Or ∷ []) (into_or [] (all_of_it level.Or _ _)))))

-- a level whose signs don't come next
skip : {k : Level} {text ts : List Token} {from c : Counts} (l : Level) (ls : List Level) (e : Expr) → Climbs k text from (l ∷ ls) e ts c → may_begin (Operands (Some l)) (look ts) ≡ false → Climbs k text from ls e ts c
skip l ls e w f = past_part w (begun_empty here refl f)

not_found : {x : Option (Level × BinaryOp × List Level)} (l : Level) (ls : List Level) (o : Option BinaryOp) → or_looser o l ls x ≡ None → (o ≡ None) × (x ≡ None)
not_found l ls (Some p) e = absurd cc
not_found l ls None e = (refl, e)

-- none of the levels' signs comes next
pub level_ends : {k : Level} {text : List Token} {from c : Counts} (ls : List Level) (e : Expr) (ts : List Token) → next_sign ls ts ≡ None → Climbs k text from ls e ts c → Reads (Infix k) text from e ts c
level_ends [] e ts h w = w
level_ends (l ∷ ls) e [] h w = level_ends ls e [] refl (skip l ls e w refl)
level_ends (l ∷ ls) e (t ∷ ts) h w =
    let both = not_found l (levels_after (l ∷ ls)) (sign_at l t.kind) h in
    level_ends ls e (t ∷ ts) both.1 (skip l ls e w (no_sign l (t ∷ ts) t ts refl (sym both.0)))

-- A sign of a level comes next, and then signs of some levels may.
pub record Meets (k : Level) (text : List Token) (from : Counts) (e : Expr) (tokens : List Token) (now : Counts) (kind : Kind) (x : Level × BinaryOp × List Level) : Type 0 where
  pub looser : List Level
  pub climbs : Climbs k text from (x.0 ∷ looser) e tokens now
  pub sign : sign_at x.0 kind ≡ Some x.1
  pub later : x.2 ≡ levels_after (x.0 ∷ looser)

found : {k : Level} {text : List Token} {from c : Counts} (e : Expr) (t : Token) (rest : List Token) (ls : List Level) (x : Level × BinaryOp × List Level)
    → level_of t.kind ls ≡ Some x → Climbs k text from ls e (t ∷ rest) c → Meets k text from e (t ∷ rest) c t.kind x
found e t rest [] x h w = absurd cc
found {k = k} {text = text} {from = from} {c = c} e t rest (l ∷ ls) x h w = go (sign_at l t.kind) refl h (λ g v. found e t rest ls x g v)
  where
    go : (o : Option BinaryOp) → sign_at l t.kind ≡ o → or_looser o l (levels_after (l ∷ ls)) (level_of t.kind ls) ≡ Some x
        → (level_of t.kind ls ≡ Some x → Climbs k text from ls e (t ∷ rest) c → Meets k text from e (t ∷ rest) c t.kind x) → Meets k text from e (t ∷ rest) c t.kind x
    go None s g ih = ih g (skip l ls e w (no_sign l (t ∷ rest) t rest refl (sym s)))
    go (Some o) s g ih =
        let same : ◌≡◌ {A = Level × BinaryOp × List Level} (l, o, levels_after (l ∷ ls)) x = cc in
        subst (λ y. Meets k text from e (t ∷ rest) c t.kind y) same (record { looser = ls; climbs = w; sign = s; later = refl })

meets : {k : Level} {text ts rest : List Token} {from c : Counts} {t : Token} {x : Level × BinaryOp × List Level} (ls : List Level) (e : Expr)
    → Climbs k text from ls e ts c → (ts ≡ t ∷ rest) × (next_sign ls ts ≡ Some x) → Meets k text from e ts c t.kind x
meets {k = k} {text = text} {rest = rest} {from = from} {c = c} {t = t} {x = x} ls e w h =
    subst (λ us. Meets k text from e us c t.kind x) (sym h.0)
    (found e t rest ls x (subst (λ us. next_sign ls us ≡ Some x) h.0 h.1) (subst (λ us. Climbs k text from ls e us c) h.0 w))

-- ---- one sign more

pub level_over : {k : Level} {text ts rest : List Token} {from c : Counts} {t : Token} {x : Level × BinaryOp × List Level} {f : Fault} (ls : List Level) (e : Expr)
    → Climbs k text from ls e ts c → (ts ≡ t ∷ rest) × (next_sign ls ts ≡ Some x) → (allows Operator c ≡ false) × (f ≡ TooDeep (length ts)) → Fails (Infix k) text from f
level_over {c = c} {t = t} {x = x} ls e w h over =
    let m = meets ls e w h in
    fails_part m.climbs _ (signs_over c x.0 t x.1 h.0 m.sign over)

pub level_fails : {k : Level} {text ts rest : List Token} {from c now : Counts} {t : Token} {x : Level × BinaryOp × List Level} (ls : List Level) (e : Expr) (f : Fault)
    → Climbs k text from ls e ts c → (ts ≡ t ∷ rest) × (next_sign ls ts ≡ Some x) → (allows Operator c ≡ true) × (now ≡ after Operator c) → Fails (Operand x.0) rest now f → Fails (Infix k) text from f
level_fails {t = t} {x = x} ls e f w h fit fails =
    let m = meets ls e w h in
    fails_part m.climbs f (fails_part (signs_begun x.0 t x.1 h.0 m.sign fit) f fails)

-- a comparison has one sign at most
kept : {k : Level} {text ts : List Token} {from c : Counts} (ls : List Level) (e : Expr) (l : Level) → Before k text from (Operands (again l)) (grouped e) ls ts c → Climbs k text from (levels_after (l ∷ ls)) e ts c
kept ls e level.Comparison w = past_part w (begun_sole _ refl)
kept ls e level.Or w = w
kept ls e level.And w = w
kept ls e level.Sum w = w
kept ls e level.Product w = w

pub level_more : {k : Level} {text ts rest end : List Token} {from c over now : Counts} {t : Token} {x : Level × BinaryOp × List Level} (ls : List Level) (e right new : Expr)
    → Climbs k text from ls e ts c → (ts ≡ t ∷ rest) × (next_sign ls ts ≡ Some x) → (allows Operator c ≡ true) × (over ≡ after Operator c)
    → Reads (Operand x.0) rest over right end now → new ≡ at t.place (form.Binary x.1 e right) → Climbs k text from x.2 new end now
level_more {k = k} {text = text} {end = end} {from = from} {now = now} {t = t} {x = x} ls e right new w h fit r same =
    let m = meets ls e w h in
    let is_new : at t.place (form.Binary (sign t.kind) e right) ≡ new = ap (λ o. at t.place (form.Binary o e right)) (sym (some_sign x.0 t.kind x.1 m.sign).1) ∙ sym same in
    let so_far : Climbs k text from (levels_after (x.0 ∷ m.looser)) (at t.place (form.Binary (sign t.kind) e right)) end now =
    kept m.looser (at t.place (form.Binary (sign t.kind) e right)) x.0 (nest_first m.climbs (past_part (signs_begun x.0 t x.1 h.0 m.sign fit) r)) in
    subst (λ js. Climbs k text from js new end now) (sym m.later) (subst (λ y. Climbs k text from (levels_after (x.0 ∷ m.looser)) y end now) is_new so_far)
