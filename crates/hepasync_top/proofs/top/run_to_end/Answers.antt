use Rattle.std.proofs.Common.{inl, inr, map, subst, sym, List, ℕ}
use Rattle.std.specs.Prelude.{string_bytes}
use Rattle.hepasync_top.specs.Run.{IsFileText}
use Rattle.hepasync_top.proofs.FileTexts.{has_words}
use Rattle.hepasync_top.proofs.top.run_to_end.Goals as goal

pub returns-in-Ok-clause-ends : goal.returns-in-Ok-clause-ends
returns-in-Ok-clause-ends g c = inr (
  c.as_slice.result.now,
  subst (λ (text : List ℕ). IsFileText (g.F.Store.files c.args.files.now) (map string_bytes c.args.words.now) text) (sym c.as_slice.ensures.value) c.in-Ok.ensures.text,
  record { ends = c.run_text.ensures.ends; refuses_text = c.run_text.ensures.refuses_text; refuses = c.run_text.ensures.refuses; serves = c.run_text.ensures.serves },
)

pub returns-in-Ok-clause-usage : goal.returns-in-Ok-clause-usage
returns-in-Ok-clause-usage g c = (λ u. absurd (c.run_text.ensures.usage u), λ none. absurd (has_words _ _ c.in-Ok.text.items c.in-Ok.ensures.text none))

pub returns-in-Err-clause-ends : goal.returns-in-Err-clause-ends
returns-in-Err-clause-ends g c = inl c.in-Err.ensures.stops
