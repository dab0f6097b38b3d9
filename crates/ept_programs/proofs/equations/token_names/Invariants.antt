use Rattle.std.proofs.Common.{◌≡◌, take}
use Rattle.ept_grammar.specs.Grammar.{names_of}
use Rattle.ept_programs.proofs.equations.token_names.Given as goal

abbrev pub invariant-tokens : goal.invariant-tokens
invariant-tokens l = l.all ≡ names_of (take l.token-index l.tokens)
