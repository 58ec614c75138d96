use Rattle.std.proofs.Common.{All, [], subst, arith}
use Rattle.std.specs.Prelude.{slice_index, slice_index_or}
use Rattle.pc_diagram.specs.Choices.{value_of}
use Rattle.pc_diagram.specs.Levels.{level}
use Rattle.pc_labels.specs.Marks.{IsBelow}
use Rattle.pc_labels.proofs.SlotLemmas.{have_weights, may_go_on, heads-made, counted, steps_within}
use Rattle.pc_labels.proofs.from_root.spread.Goals as goal

pub offer_slots-requires-clause-place : goal.offer_slots-requires-clause-place
offer_slots-requires-clause-place g c =
    may_go_on (slice_index c.args.diagram.now.domains c.args.variable) (value_of c.args.choices.now c.args.variable) (slice_index_or c.args.costs.now c.args.variable []) c.in_ok-slots.slots c.args.before.now
    c.requires.room (subst (λ n. All (IsBelow n) c.args.before.now.weights) c.limit.ensures.result c.limit.ensures.above) c.requires.ranks c.in_ok-slots.ensures

pub offer_slots-requires-clause-some : goal.offer_slots-requires-clause-some
offer_slots-requires-clause-some g c = have_weights (slice_index c.args.diagram.now.domains c.args.variable) 1 (value_of c.args.choices.now c.args.variable) (slice_index_or c.args.costs.now c.args.variable []) c.in_ok-slots.slots c.in_ok-slots.ensures

pub returns-clause-next : goal.returns-clause-next
returns-clause-next g c =
    heads-made (level c.args.diagram.now c.args.variable) (value_of c.args.choices.now c.args.variable) (slice_index_or c.args.costs.now c.args.variable []) c.in_ok-slots.slots c.args.before.now c.loop-node.next c.loop-node.node
    (omega (arith, c.loop-node-test.false, c.nodes-node-end.ensures)) (subst (λ n. All (IsBelow n) c.args.before.now.weights) c.limit.ensures.result c.limit.ensures.above) c.in_ok-slots.ensures c.loop-node.invariant.so_far

pub returns-clause-steps : goal.returns-clause-steps
returns-clause-steps g c =
    steps_within _ _ _ _ _ _ c.loop-node.invariant.steps (omega (arith, c.loop-node-test.false, c.loop-node.auto.node-end, c.nodes-node-end.ensures))
    (counted (slice_index c.args.diagram.now.domains c.args.variable) c.args.choices.now c.args.variable _ c.in_ok-slots.ensures.values.count)
