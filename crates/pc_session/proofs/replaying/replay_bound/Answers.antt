-- The bound is carried over or not, and kept where its board could be made.
use Rattle.std.proofs.Common.{◌≡◌, ◌∙◌, Some, sym, ap, rules, of_z, to_z, w64}
use Rattle.pc_diagram.specs.Bounds.{with_bound_on}
use Rattle.pc_diagram.specs.declared.bounds.Bounds.{Bounds}
use Rattle.pc_file.specs.Contents.{Contents}
use Rattle.pc_file.specs.Positions.{cost_named}
use Rattle.pc_calls.specs.declared.dropped.Dropped.TheVariants as item
use Rattle.pc_calls.specs.Carry.{carried_cost, cost_name, is_possible, keep_if, replay_bound}
use Rattle.pc_session.specs.Moving.{carried_by}
use Rattle.pc_session.proofs.MovingLemmas.{selection_of}
use Rattle.pc_session.proofs.ReplayLemmas.{bound_carried, kept_at_end}
use Rattle.pc_session.proofs.replaying.replay_bound.Goals as goal

pub returns-clause-replayed : goal.returns-clause-replayed
returns-clause-replayed g c =
    let target = c.args.target.now in
    let replay = c.args.replay.now in
    let asked = selection_of replay.board.choices c.with-bounds.result in
    let most : to_z w64 (of_z w64 c.in-Some.most) ≡ c.in-Some.most = search rules in
    let bounds = c.with-bounds.ensures ∙ ap (λ z. with_bound_on c.in-Some-cost.carried (Some z) replay.board.bounds) most in
    let carried : carried_cost c.args.file.now target.file c.args.which ≡ Some c.in-Some-cost.carried =
    ap (cost_named target.file) (sym c.cost_name-name.ensures) ∙ ap (λ (f : Contents). cost_named f c.cost_name-name.result) (sym c.file.ensures) ∙ sym c.in-Some-cost.ensures in
    let keeps = ap (λ bound. replay_bound c.args.file.now target.file c.args.which bound (carried_by replay)) c.in-Some.is
    ∙ bound_carried target c.args.file.now c.args.which c.in-Some.most (carried_by replay) c.in-Some-cost.carried carried
    ∙ ap (λ (b : Bounds). keep_if (is_possible target.file (selection_of replay.board.choices b)) (selection_of replay.board.choices b) (item.Bound (cost_name c.args.file.now c.args.which)) (carried_by replay)) (sym bounds)
    ∙ ap (λ name. keep_if (is_possible target.file asked) asked (item.Bound name) (carried_by replay)) (sym c.cost_name-name.ensures) in
    kept_at_end target c.keep.result replay c.keep.new.replay asked (item.Bound c.cost_name-name.result) c.new-made.result (replay_bound c.args.file.now target.file c.args.which c.args.bound (carried_by replay)) c.requires.board.canonical
    (record { board = c.new-made.ensures.board; choices = c.new-made.ensures.choices; bounds = c.new-made.ensures.bounds; fault = c.new-made.ensures.fault })
    c.keep.ensures.replay c.keep.ensures.memory keeps
