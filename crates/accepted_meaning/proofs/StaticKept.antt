-- Clocks with only those steps that pass a test of the steps before them.
use Rattle.std.proofs.Common.{◌≡◌, ◌≤◌, Bool, true, false, ◌&&◌, cond, [], ◌∷◌, ◌++◌, length, refl, sym, ap, ◌∙◌, arith, append_assoc, append-nil}
use Rattle.std.specs.Prelude.{⊤}
use Rattle.std.proofs.lemmas.Bool.{false≢true, and_parts, and_from}
use Rattle.hept_ast.specs.Texts.{Name, same}
use Rattle.hept_ast.specs.Scopes.{Clock}
use Rattle.hept_ast.specs.Types.{same_tag}
use Rattle.hept_ast.specs.declared.tree.ClockStep.{ClockStep}
use Rattle.sound_expressions.proofs.Lists.{same_is, same_self, same_tag_is, same_tag_self}

-- ---- equal clocks

abbrev pub same_clock : Clock → Clock → Bool
same_clock [] [] = true
same_clock [] (t ∷ d) = false
same_clock (s ∷ c) [] = false
same_clock (s ∷ c) (t ∷ d) = (same_tag s.tag t.tag && same s.name t.name) && same_clock c d

step_is : (s t : ClockStep) → s.tag ≡ t.tag → s.name ≡ t.name → s ≡ t
step_is s t e f = ap (λ x. record { tag = x; name = s.name }) e ∙ ap (λ y. record { tag = t.tag; name = y }) f

pub same_clock_is : (c d : Clock) → same_clock c d ≡ true → c ≡ d
same_clock_is [] [] e = refl
same_clock_is [] (t ∷ d) e = absurd (false≢true e)
same_clock_is (s ∷ c) [] e = absurd (false≢true e)
same_clock_is (s ∷ c) (t ∷ d) e =
    let (first, rest) = and_parts (same_tag s.tag t.tag && same s.name t.name) (same_clock c d) e in
    let (tags, names) = and_parts (same_tag s.tag t.tag) (same s.name t.name) first in
    ap (λ x. x ∷ c) (step_is s t (same_tag_is s.tag t.tag tags) (same_is s.name t.name names)) ∙ ap (λ l. t ∷ l) (same_clock_is c d rest)

pub same_clock_self : (c : Clock) → same_clock c c ≡ true
same_clock_self [] = refl
same_clock_self (s ∷ c) =
    and_from (same_tag s.tag s.tag && same s.name s.name) (same_clock c c)
    (and_from (same_tag s.tag s.tag) (same s.name s.name) (same_tag_self s.tag) (same_self s.name)) (same_clock_self c)

-- ---- the steps that pass

-- whether the step of this variable passes behind these steps
module _ (used : Clock → Name → Bool) where
  abbrev pub kept : (before : Clock) → Clock → Clock
  kept before [] = []
  kept before (s ∷ c) = cond (used before s.name) (s ∷ kept (before ++ s ∷ []) c) (kept (before ++ s ∷ []) c)

  pub kept_step : (before c : Clock) (s : ClockStep) → kept before (c ++ s ∷ []) ≡ kept before c ++ cond (used (before ++ c) s.name) (s ∷ []) []
  kept_step before [] s = ap (λ (b : Clock). cond (used b s.name) (s ∷ []) []) (sym (append-nil before))
  kept_step before (t ∷ c) s =
      go (used before t.name) (kept_step (before ++ t ∷ []) c s) ∙ ap (λ (b : Clock). kept before (t ∷ c) ++ cond (used b s.name) (s ∷ []) []) (append_assoc before (t ∷ []) c)
    where
      more : Clock
      more = before ++ t ∷ []

      last : Clock
      last = cond (used (more ++ c) s.name) (s ∷ []) []

      go : (b : Bool) → kept more (c ++ s ∷ []) ≡ kept more c ++ last → cond b (t ∷ kept more (c ++ s ∷ [])) (kept more (c ++ s ∷ [])) ≡ cond b (t ∷ kept more c) (kept more c) ++ last
      go true e = ap (λ l. t ∷ l) e
      go false e = e

  pub kept_short : (before c : Clock) → length (kept before c) ≤ length c
  kept_short before [] = omega arith
  kept_short before (s ∷ c) = go (used before s.name) (kept_short (before ++ s ∷ []) c)
    where
      go : (b : Bool) → length (kept (before ++ s ∷ []) c) ≤ length c → length (cond b (s ∷ kept (before ++ s ∷ []) c) (kept (before ++ s ∷ []) c)) ≤ length (s ∷ c)
      go true h = omega arith
      go false h = omega arith

  abbrev pub AllUsed : (before : Clock) → Clock → Type 0
  AllUsed before [] = ⊤
  AllUsed before (s ∷ c) = (used before s.name ≡ true) × AllUsed (before ++ s ∷ []) c

  -- of a clock that is not shortened each step passes
  pub none_dropped : (before c : Clock) → length c ≤ length (kept before c) → AllUsed before c
  none_dropped before [] h = tt
  none_dropped before (s ∷ c) h = go (used before s.name) refl h (none_dropped (before ++ s ∷ []) c)
    where
      short : length (kept (before ++ s ∷ []) c) ≤ length c
      short = kept_short (before ++ s ∷ []) c

      go : (b : Bool) → used before s.name ≡ b → length (s ∷ c) ≤ length (cond b (s ∷ kept (before ++ s ∷ []) c) (kept (before ++ s ∷ []) c)) →
          (length c ≤ length (kept (before ++ s ∷ []) c) → AllUsed (before ++ s ∷ []) c) → (used before s.name ≡ true) × AllUsed (before ++ s ∷ []) c
      go true i h later = (i, later (omega arith))
      go false i h later = let l = short in absurd (omega arith)
