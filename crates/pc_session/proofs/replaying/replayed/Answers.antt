-- The bounds come first, then the choices.
use Rattle.std.proofs.Common.{◌≡◌, ◌∙◌, [], ap}
use Rattle.pc_diagram.specs.declared.which.Which.TheVariants.{First, Second}
use Rattle.pc_calls.specs.Carry.{Carried, replay, replay_bound, replay_choices}
use Rattle.pc_calls.specs.Selection.{free}
use Rattle.pc_session.specs.Next.{asked_by}
use Rattle.pc_session.proofs.replaying.replayed.Goals as goal

pub returns-clause-replayed : goal.returns-clause-replayed
unfolding replay
returns-clause-replayed g c =
    let file = c.args.file.now in
    let target = c.args.target.now.file in
    let start : ◌≡◌ {A = Carried} (record { selection = asked_by c.in_ok-free_board.field-0; dropped = c.new.result }) (record { selection = free; dropped = [] }) =
    λ i. record { selection = c.in_ok-free_board.ensures.free i; dropped = c.new.ensures i } in
    let first = c.in_ok-replay_bound.ensures.replayed in
    let second = c.in_ok-replay_bound-2.ensures.replayed in
    c.in_ok-replay_choices.ensures.replayed
    ∙ ap (replay_choices file target c.args.choices.now) (second ∙ ap (replay_bound file target Second c.args.bounds.now.second) (first ∙ ap (replay_bound file target First c.args.bounds.now.first) start))
