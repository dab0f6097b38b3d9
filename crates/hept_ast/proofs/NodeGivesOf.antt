-- What a node gives after a list of marked calls.
use Rattle.std.proofs.Common.{◌≡◌, ℕ, zero, suc, ◌+◌, Bool, true, false, ◌||◌, List, [], ◌∷◌, ◌++◌, Option, map, take, drop, refl, sym, ap, subst, ◌∙◌, arith}
use Rattle.std.specs.Prelude.{if◌then◌else◌}
use mathlib.Core.Path.{fun_ext}
use Rattle.hept_ast.specs.Scopes.{Text}
use Rattle.hept_ast.specs.Meaning.{Setting}
use Rattle.hept_ast.specs.Outputs.{Outputs}
use Rattle.hept_ast.specs.Sites.{path_of}
use Rattle.hept_ast.specs.Calls.{marks_of, alone}
use Rattle.hept_ast.specs.Marks.{from_instant, HasNoReplies}
use Rattle.hept_ast.specs.NodeGives.{NodeGives, has_mark, since_mark, GivesSinceMark, GivenIsNodes, AloneIsCall}
use Rattle.hept_ast.proofs.Lists.{one_outputs}
use Rattle.hept_ast.proofs.CallAlone.{call_is_alone}
use Rattle.hept_ast.proofs.Marks.{outputs_from_mark}

-- ---- the latest mark

record Latest (calls : List (Bool × List ℕ)) : Type 0 where
  at : ℕ
  mark : marks_of calls at ≡ true
  since : since_mark calls ≡ drop at calls

latest_if : (c : Bool × List ℕ) (cs : List (Bool × List ℕ)) (b : Bool) → has_mark cs ≡ b → (c.0 || b) ≡ true → (b ≡ true → Latest cs) → Latest (c ∷ cs)
latest_if c cs true e f h =
    let l : Latest cs = h refl in
    record { at = suc l.at; mark = l.mark; since = ap (λ (x : Bool). if x then since_mark cs else c ∷ cs) e ∙ l.since }
latest_if c cs false e f h = record { at = 0; mark = first_true c.0 f; since = ap (λ (x : Bool). if x then since_mark cs else c ∷ cs) e }
  where
    first_true : (x : Bool) → (x || false) ≡ true → x ≡ true
    first_true true g = refl
    first_true false g = g

latest : (calls : List (Bool × List ℕ)) → has_mark calls ≡ true → Latest calls
latest [] h = absurd (impossible h)
  where
    impossible : false ≡ true → ⊥
    impossible e = cc
latest (c ∷ cs) h = latest_if c cs (has_mark cs) refl h (λ e. latest cs e)

no_mark : (calls : List (Bool × List ℕ)) → has_mark calls ≡ false → since_mark calls ≡ calls
no_mark [] h = refl
no_mark (c ∷ cs) h = ap (λ (x : Bool). if x then since_mark cs else c ∷ cs) (rest c.0 (has_mark cs) h)
  where
    rest : (x y : Bool) → (x || y) ≡ false → y ≡ false
    rest true true e = e
    rest true false e = refl
    rest false true e = e
    rest false false e = refl

-- ---- from there on

marks_later : (n : ℕ) (calls : List (Bool × List ℕ)) (t : ℕ) → marks_of calls (n + t) ≡ marks_of (drop n calls) t
marks_later zero calls t = ap (marks_of calls) (let e : 0 + t ≡ t = omega arith in e)
marks_later (suc n) [] t = refl
marks_later (suc n) (c ∷ cs) t = ap (marks_of (c ∷ cs)) (let e : suc n + t ≡ suc (n + t) = omega arith in e) ∙ marks_later n cs t

rows_later : (n : ℕ) (calls : List (Bool × List ℕ)) → drop n (map (λ (c : Bool × List ℕ). c.1) calls) ≡ map (λ (c : Bool × List ℕ). c.1) (drop n calls)
rows_later zero calls = refl
rows_later (suc n) [] = refl
rows_later (suc n) (c ∷ cs) = rows_later n cs

split_at : {A : Type 0} (n : ℕ) (xs : List A) → xs ≡ take n xs ++ drop n xs
split_at zero xs = refl
split_at (suc n) [] = refl
split_at (suc n) (x ∷ xs) = ap (λ (l : List _). x ∷ l) (split_at n xs)

gives_from : (w : Setting) (text : Text) (calls : List (Bool × List ℕ)) (outs : List (List ℕ)) → HasNoReplies w → (n : ℕ) → marks_of calls n ≡ true → NodeGives w text calls outs →
    NodeGives w text (drop n calls) (drop n outs)
gives_from w text calls outs none n mark h =
    let there : Outputs (from_instant n (record w { marked = marks_of calls })) text (drop n (map (λ c. c.1) calls)) (drop n outs) =
    outputs_from_mark (record w { marked = marks_of calls }) n text (map (λ c. c.1) calls) outs none mark h in
    subst (λ (f : ℕ → Bool). Outputs (record w { marked = f }) text (map (λ c. c.1) (drop n calls)) (drop n outs)) (fun_ext (λ t. marks_later n calls t))
    (subst (λ (rows : List (List ℕ)). Outputs (record w { marked = λ t. marks_of calls (n + t) }) text rows (drop n outs)) (rows_later n calls) there)

gives_since : (w : Setting) (text : Text) (calls : List (Bool × List ℕ)) (outs : List (List ℕ)) → HasNoReplies w → NodeGives w text calls outs → (b : Bool) → has_mark calls ≡ b →
    (earlier later : List (List ℕ)) × (outs ≡ earlier ++ later) × NodeGives w text (since_mark calls) later
gives_since w text calls outs none h true e =
    let l : Latest calls = latest calls e in (
      take l.at outs,
      drop l.at outs,
      split_at l.at outs,
      subst (λ (cs : List (Bool × List ℕ)). NodeGives w text cs (drop l.at outs)) (sym l.since) (gives_from w text calls outs none l.at l.mark h),
    )
gives_since w text calls outs none h false e = ([], outs, refl, subst (λ (cs : List (Bool × List ℕ)). NodeGives w text cs outs) (sym (no_mark calls e)) h)

pub gives_since_mark : GivesSinceMark
gives_since_mark w text calls outs none h = gives_since w text calls outs none h (has_mark calls) refl

-- ---- calls

pub given_is_nodes : GivenIsNodes
given_is_nodes w site calls outs none h =
    subst (λ (r : List ℕ → ℕ → Option (List ℕ)). Outputs (record w { marked = marks_of calls; replies = r }) site.text (map (λ c. c.1) calls) outs)
    (fun_ext (λ p. fun_ext (λ n. none (path_of site ++ p) n ∙ sym (none p n)))) h

pub alone_is_call : AloneIsCall
alone_is_call w rows site calls outs others sent given body =
    one_outputs (alone w (path_of site) calls) site.text (map (λ c. c.1) calls) others outs (call_is_alone w rows site calls others sent body) given
