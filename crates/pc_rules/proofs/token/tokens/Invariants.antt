use Rattle.std.proofs.Common.{◌≡◌, ◌++◌, length, Ok}
use Rattle.pc_rules.specs.Parsed.{◌>>=◌}
use Rattle.pc_rules.specs.Token.{tokens_after}
use Rattle.pc_rules.proofs.token.tokens.Given as goal

abbrev pub invariant-loop-first : goal.invariant-loop-first
invariant-loop-first l = tokens_after 0 l.text ≡ (tokens_after 0 l.rest >>= λ more. Ok (l.tokens ++ more))

abbrev pub decreases-loop-first : goal.decreases-loop-first
decreases-loop-first l = length l.rest
