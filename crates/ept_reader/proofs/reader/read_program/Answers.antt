use Rattle.std.proofs.Common.{sym, subst, ◌∙◌, ◌≡◌, ◌⊎◌, None}
use Rattle.ept_reader.specs.declared.reader.ReadFault.TheVariants as fault
use Rattle.ept_grammar.specs.Grammar.{Whole}
use Rattle.ept_reader.specs.Spelling.{IsRefusalOf}
use Rattle.ept_grammar.specs.Text.{IsRefused}
use Rattle.ept_tokens.specs.Tokens.{Cut}
use Rattle.ept_reader.proofs.Wholes.{cut_only, cut_refused, cut_exactly, text_only, tokens_only, tokens_refused, tokens_exactly}
use Rattle.ept_reader.proofs.reader.read_program.Goals as goal

pub returns-in-Err-clause-only : goal.returns-in-Err-clause-only
returns-in-Err-clause-only c = λ p t. c.of_cut.ensures ∙ cut_only c.in-Err.ensures.refused p t

pub returns-in-Err-clause-refused : goal.returns-in-Err-clause-refused
returns-in-Err-clause-refused c = subst (λ x. (x ≡ fault.Memory) ⊎ IsRefusalOf c.args.bytes.now x) (sym c.of_cut.ensures) (cut_refused c.in-Err.ensures.refused)

pub returns-in-Err-clause-exactly : goal.returns-in-Err-clause-exactly
returns-in-Err-clause-exactly c = λ g r. subst (λ x. (x ≡ g) ⊎ (x ≡ fault.Memory)) (sym c.of_cut.ensures) (cut_exactly c.in-Err.ensures.refused g r)

pub returns-in-Ok-read_tokens-clause-only : goal.returns-in-Ok-read_tokens-clause-only
returns-in-Ok-read_tokens-clause-only c =
    let all = subst (λ ts. Cut c.args.bytes.now 0 ts None) (sym c.as_slice.ensures) c.in-Ok.ensures.tokens in
    λ p t. text_only all c.in-Ok-read_tokens.ensures.text p t

pub returns-clause-only : goal.returns-clause-only
returns-clause-only c =
    let all = subst (λ ts. Cut c.args.bytes.now 0 ts None) (sym c.as_slice-in-Err-read_tokens.ensures) c.in-Ok.ensures.tokens in
    let wrong = subst (λ ts. IsRefused Whole ts c.in-Err-read_tokens.fault) (c.as_slice.ensures ∙ sym c.as_slice-in-Err-read_tokens.ensures) c.in-Err-read_tokens.ensures.refused in
    λ p t. c.of_tokens.ensures ∙ tokens_only c.in-Err-read_tokens.fault all wrong p t

pub returns-clause-refused : goal.returns-clause-refused
returns-clause-refused c =
    let all = subst (λ ts. Cut c.args.bytes.now 0 ts None) (sym c.as_slice-in-Err-read_tokens.ensures) c.in-Ok.ensures.tokens in
    let wrong = subst (λ ts. IsRefused Whole ts c.in-Err-read_tokens.fault) (c.as_slice.ensures ∙ sym c.as_slice-in-Err-read_tokens.ensures) c.in-Err-read_tokens.ensures.refused in
    subst (λ x. (x ≡ fault.Memory) ⊎ IsRefusalOf c.args.bytes.now x) (sym c.of_tokens.ensures) (tokens_refused c.in-Err-read_tokens.fault all wrong)

pub returns-clause-exactly : goal.returns-clause-exactly
returns-clause-exactly c =
    let all = subst (λ ts. Cut c.args.bytes.now 0 ts None) (sym c.as_slice-in-Err-read_tokens.ensures) c.in-Ok.ensures.tokens in
    let wrong = subst (λ ts. IsRefused Whole ts c.in-Err-read_tokens.fault) (c.as_slice.ensures ∙ sym c.as_slice-in-Err-read_tokens.ensures) c.in-Err-read_tokens.ensures.refused in
    λ g r. subst (λ x. (x ≡ g) ⊎ (x ≡ fault.Memory)) (sym c.of_tokens.ensures) (tokens_exactly c.in-Err-read_tokens.fault all wrong g r)
