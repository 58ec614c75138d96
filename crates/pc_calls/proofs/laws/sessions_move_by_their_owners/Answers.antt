use Rattle.pc_calls.proofs.MovesLaws.{stays_at_version}
use Rattle.pc_calls.proofs.StepLaws.{keeps_sessions}
use Rattle.pc_calls.proofs.laws.sessions_move_by_their_owners.Goals as goal

pub returns-clause-call : goal.returns-clause-call
returns-clause-call c = keeps_sessions

pub returns-clause-calls : goal.returns-clause-calls
returns-clause-calls c = stays_at_version
