use Rattle.pc_calls.proofs.NumberLaws.{callers_numbered, sessions_numbered, versions_numbered}
use Rattle.pc_calls.proofs.laws.numbers_are_given_once.Goals as goal

pub returns-clause-callers : goal.returns-clause-callers
returns-clause-callers c = callers_numbered

pub returns-clause-versions : goal.returns-clause-versions
returns-clause-versions c = versions_numbered

pub returns-clause-sessions : goal.returns-clause-sessions
returns-clause-sessions c = sessions_numbered
