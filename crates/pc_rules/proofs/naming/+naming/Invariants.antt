use Rattle.std.proofs.Common.{◌≡◌, map}
use Rattle.pc_rules.specs.Naming.{all_ok, rule_named}
use Rattle.pc_rules.proofs.ParsedLemmas.{with_front}
use Rattle.pc_rules.proofs.naming.+naming.Given as goal

abbrev pub invariant-all_named-loop-phrase : goal.invariant-all_named-loop-phrase
invariant-all_named-loop-phrase l = all_ok (map (rule_named l.names) l.phrases) ≡ with_front (rule_named l.names) l.phrases l.phrase-index l.rules
