-- The choices so far are carried over.
use Rattle.std.proofs.Common.{drop}
use Rattle.pc_session.proofs.CarryLemmas.{AreCarried}
use Rattle.pc_session.proofs.carrying.carry_choices.Given as goal

abbrev pub invariant-loop-choice : goal.invariant-loop-choice
invariant-loop-choice l = AreCarried l.file l.target l.choices (drop l.choice-index l.choices) l.carried
