use Rattle.std.proofs.Common.{◌≡◌, ◌≤◌, drop}
use Rattle.pc_rules.specs.Token.{is_deep_after}
use Rattle.pc_rules.proofs.token.is_too_deep.Given as goal

abbrev pub invariant-loop-token : goal.invariant-loop-token
invariant-loop-token l = record {
  same : is_deep_after 64 l.opened l.closed (drop l.token-index l.tokens) ≡ is_deep_after 64 0 0 l.tokens;
  opened : l.opened ≤ l.token-index;
  closed : l.closed ≤ l.token-index;
}
