-- The choice is carried over or not, and kept where its board could be made.
use Rattle.std.proofs.Common.{◌≡◌, ◌∙◌, ◌<◌, ◌++◌, ◌∷◌, [], ℕ, List, length, get_or, Ok, sym, ap, subst}
use Rattle.pc_file.specs.Contents.{Contents}
use Rattle.pc_calls.specs.declared.dropped.Dropped.TheVariants as item
use Rattle.pc_calls.specs.Carry.{carry_choice, is_possible, keep_if, replay_choice}
use Rattle.pc_session.specs.Moving.{carried_by}
use Rattle.pc_session.proofs.CarryLemmas.{carried_inside}
use Rattle.pc_session.proofs.MovingLemmas.{selection_of}
use Rattle.pc_session.proofs.ReplayLemmas.{choice_carried, kept_at_end}
use Rattle.pc_session.proofs.replaying.replay_choice.Goals as goal

pub with_choice-made-requires-clause-variable : goal.with_choice-made-requires-clause-variable
with_choice-made-requires-clause-variable g c =
    let target = c.args.target.now in
    let carried = subst (λ (f : Contents). Ok c.in-Ok.carried ≡ carry_choice c.args.file.now f c.args.choice) c.file.ensures c.in-Ok.ensures.carried in
    subst (λ (ds : List ℕ). c.in-Ok.carried.variable < length ds) (sym target.domains) (carried_inside c.args.file.now target.file c.args.choice c.in-Ok.carried (sym carried)).0

pub with_choice-made-requires-clause-value : goal.with_choice-made-requires-clause-value
with_choice-made-requires-clause-value g c =
    let target = c.args.target.now in
    let carried = subst (λ (f : Contents). Ok c.in-Ok.carried ≡ carry_choice c.args.file.now f c.args.choice) c.file.ensures c.in-Ok.ensures.carried in
    subst (λ (ds : List ℕ). c.in-Ok.carried.value < get_or ds c.in-Ok.carried.variable 0) (sym target.domains) (carried_inside c.args.file.now target.file c.args.choice c.in-Ok.carried (sym carried)).1

pub returns-clause-replayed : goal.returns-clause-replayed
returns-clause-replayed g c =
    let target = c.args.target.now in
    let replay = c.args.replay.now in
    let asked = selection_of (replay.board.choices ++ c.in-Ok.carried ∷ []) replay.board.bounds in
    let carried = subst (λ (f : Contents). Ok c.in-Ok.carried ≡ carry_choice c.args.file.now f c.args.choice) c.file.ensures c.in-Ok.ensures.carried in
    let keeps = choice_carried target c.args.file.now c.args.choice (carried_by replay) c.in-Ok.carried (sym carried)
    ∙ ap (λ name. keep_if (is_possible target.file asked) asked (item.Choice name) (carried_by replay)) (sym c.variable_name.ensures.name) in
    kept_at_end target c.keep.result replay c.keep.new.replay asked (item.Choice c.variable_name.result) c.with_choice-made.result (replay_choice c.args.file.now target.file c.args.choice (carried_by replay)) c.requires.board.canonical
    (record { board = c.with_choice-made.ensures.board; choices = c.with_choice-made.ensures.choices; bounds = c.with_choice-made.ensures.bounds; fault = c.with_choice-made.ensures.fault })
    c.keep.ensures.replay c.keep.ensures.memory keeps
