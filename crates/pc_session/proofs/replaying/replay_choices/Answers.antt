-- One choice more is replayed.
use Rattle.std.proofs.Common.{◌+◌, get_or, drop, All, subst}
use Rattle.std.proofs.lemmas.List.Elements.{All-head}
use Rattle.pc_diagram.specs.declared.choice.Choice.{Choice}
use Rattle.pc_session.specs.Moving.{IsNew, carried_by}
use Rattle.pc_session.proofs.CarryLemmas.{left_from}
use Rattle.pc_session.proofs.ReplayLemmas.{AreReplayed, one_replayed}
use Rattle.pc_session.proofs.replaying.replay_choices.Goals as goal

pub replay_choice-requires-clause-new : goal.replay_choice-requires-clause-new
replay_choice-requires-clause-new g c =
    let items = c.as_slice-choice-items.result.now in
    let choice : Choice = get_or items c.loop-choice.choice-index (record { variable = 0; value = 0 }) in
    let rest = drop (c.loop-choice.choice-index + 1) c.args.choices.now in
    let left = left_from c.args.choices.now items c.loop-choice.choice-index (record { variable = 0; value = 0 }) c.as_slice-choice-items.ensures.items c.loop-choice-test.true in
    let new = subst (λ l. All (IsNew c.args.file.now c.args.target.now.file c.loop-choice.replay.board.choices) l) left c.loop-choice.invariant.are_new in
    All-head (IsNew c.args.file.now c.args.target.now.file c.loop-choice.replay.board.choices) choice rest new

pub loop-choice-preserved : goal.loop-choice-preserved
loop-choice-preserved g c =
    let items = c.as_slice-choice-items.result.now in
    let choice : Choice = get_or items c.loop-choice.choice-index (record { variable = 0; value = 0 }) in
    let rest = drop (c.loop-choice.choice-index + 1) c.args.choices.now in
    let left = left_from c.args.choices.now items c.loop-choice.choice-index (record { variable = 0; value = 0 }) c.as_slice-choice-items.ensures.items c.loop-choice-test.true in
    let are = subst (λ l. AreReplayed c.args.target.now c.args.file.now c.args.choices.now l (carried_by c.args.replay.now) c.loop-choice.replay) left c.loop-choice.invariant in
    one_replayed c.args.target.now c.args.file.now c.args.choices.now rest choice (carried_by c.args.replay.now) c.loop-choice.replay c.replay_choice.new.replay c.in_ok-replay_choice.ensures.limits are
    c.in_ok-replay_choice.ensures.board c.in_ok-replay_choice.ensures.replayed
