use Rattle.pc_calls.proofs.OthersLaws.{others_leave_caller, others_leave_replies, others_leave_sessions}
use Rattle.pc_calls.proofs.laws.others_leave_a_caller_alone.Goals as goal

pub returns-clause-sessions : goal.returns-clause-sessions
returns-clause-sessions c = others_leave_sessions

pub returns-clause-caller : goal.returns-clause-caller
returns-clause-caller c = others_leave_caller

pub returns-clause-replies : goal.returns-clause-replies
returns-clause-replies c = others_leave_replies
