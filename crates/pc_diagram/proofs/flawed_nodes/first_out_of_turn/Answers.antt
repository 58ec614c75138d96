-- The next turn is missed, or none is.
use Rattle.std.proofs.Common.{◌≡◌, drop, Some, None, sym, ◌∙◌, arith}
use Rattle.std.proofs.lemmas.Grind.{common_steps}
use Rattle.pc_diagram.proofs.TurnLemmas.{missed_turn, out_of_turn-met}
use Rattle.pc_diagram.proofs.flawed_nodes.first_out_of_turn.Goals as goal

pub returns-then-turn-target : goal.returns-then-turn-target
returns-then-turn-target c =
    let table = c.args.table.now in
    let here : missed_turn c.loop-edge.turn (drop c.loop-edge.edge-index table) ≡ Some c.loop-edge.turn = grind (arith, common_steps) in
    sym (out_of_turn-met table ∙ c.loop-edge.invariant.left ∙ here)

pub returns : goal.returns
returns c =
    let table = c.args.table.now in
    let here : missed_turn c.loop-edge.turn (drop c.loop-edge.edge-index table) ≡ None = grind (arith, common_steps) in
    sym (out_of_turn-met table ∙ c.loop-edge.invariant.left ∙ here)
