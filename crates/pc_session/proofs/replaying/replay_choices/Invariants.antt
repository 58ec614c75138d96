-- The choices so far are replayed.
use Rattle.std.proofs.Common.{drop}
use Rattle.pc_session.specs.Moving.{carried_by}
use Rattle.pc_session.proofs.ReplayLemmas.{AreReplayed}
use Rattle.pc_session.proofs.replaying.replay_choices.Given as goal

abbrev pub invariant-loop-choice : goal.invariant-loop-choice
invariant-loop-choice g l = AreReplayed l.target l.file l.choices (drop l.choice-index l.choices) (carried_by l.initial.replay) l.replay
