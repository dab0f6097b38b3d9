use Rattle.std.specs.Prelude.{[], ◌∷◌}
use Rattle.std.proofs.Common.{ap}
use Rattle.ept_grammar.specs.Grammar.{part}
use Rattle.ept_tokens.proofs.OneCut.{one_cut}
use Rattle.ept_grammar.proofs.Theory.{only, chosen_begins, chosen_skips}
use Rattle.ept_grammar.proofs.Samples.{text_of}
use Rattle.ept_grammar.proofs.Places.{good_alone, refused}
use Rattle.ept_grammar.proofs.Refusals.{alike, text_refused, one_refusal}
use Rattle.ept_grammar.proofs.laws.grammar_laws.Goals as goal

pub returns-clause-one_cut : goal.returns-clause-one_cut
returns-clause-one_cut c bs p ts others f g d e = one_cut d others g e

pub returns-clause-one_tree : goal.returns-clause-one_tree
returns-clause-one_tree c n ts v w rs qs d e = ap (λ x. x.0) (only d (w, tt) qs e (good_alone n))

pub returns-clause-one_roles : goal.returns-clause-one_roles
returns-clause-one_roles c n ts rs qs a b = alike a b

pub returns-clause-each_has_text : goal.returns-clause-each_has_text
returns-clause-each_has_text c n = let t = text_of (part n ∷ []) in (t.values.0, t.tokens, t.roles, t.spells)

pub returns-clause-begun_is_chosen : goal.returns-clause-begun_is_chosen
returns-clause-begun_is_chosen c n k r i e = chosen_begins n k i e

pub returns-clause-empty_is_chosen : goal.returns-clause-empty_is_chosen
returns-clause-empty_is_chosen c n o r i e f = chosen_skips n o i e f

pub returns-clause-stop_is_refusal : goal.returns-clause-stop_is_refusal
returns-clause-stop_is_refusal c = refused

pub returns-clause-text_is_not_refused : goal.returns-clause-text_is_not_refused
returns-clause-text_is_not_refused c = text_refused

pub returns-clause-one_refusal : goal.returns-clause-one_refusal
returns-clause-one_refusal c = one_refusal
