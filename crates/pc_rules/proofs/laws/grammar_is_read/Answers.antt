use Rattle.pc_rules.proofs.GrammarComplete.{phrase_of-complete}
use Rattle.pc_rules.proofs.GrammarSound.{phrase_of-sound}
use Rattle.pc_rules.proofs.RuleRead.{rule_of-read, rule_of-only}
use Rattle.pc_rules.proofs.laws.grammar_is_read.Goals as goal

pub returns-clause-phrases : goal.returns-clause-phrases
returns-clause-phrases c = λ tokens phrase shallow. (phrase_of-sound tokens phrase, phrase_of-complete tokens phrase shallow)

pub returns-clause-spelled : goal.returns-clause-spelled
returns-clause-spelled c = phrase_of-sound

pub returns-clause-rules : goal.returns-clause-rules
returns-clause-rules c = λ names text rule. (rule_of-read names text rule, rule_of-only names text rule)
