use Rattle.std.proofs.Common.{sym, inl, refl}
use Rattle.std.proofs.lemmas.List.{length-take-le}
use Rattle.ept_tokens.specs.Tokens.{NumberTooLarge}
use Rattle.ept_tokens.proofs.Longest.{longest_within, longest_number}
use Rattle.ept_tokens.proofs.Fronts.{front_token, front_large}
use Rattle.ept_tokens.proofs.cutter.next_token.Goals as goal

pub slice_bounds-spelling-end : goal.slice_bounds-spelling-end
slice_bounds-spelling-end c = sym (length-take-le c.in-Some.length c.args.bytes.now (longest_within _ _ _ _ (sym c.in-Some.ensures)).1)

pub written-requires : goal.written-requires
written-requires c = longest_number _ _ _ _ (sym c.in-Some.ensures)

pub returns-in_default-written-clause-next : goal.returns-in_default-written-clause-next
returns-in_default-written-clause-next c =
    inl (NumberTooLarge, front_large c.args.bytes.now c.in-Some.length c.in-Some.kind (front_token _ c.requires.within c.requires.blank c.requires.comment _ (sym c.in-Some.ensures)) c.in_default-written.ensures, refl)

pub returns-clause-within : goal.returns-clause-within
returns-clause-within c = longest_within _ _ _ _ (sym c.in-Some.ensures)
