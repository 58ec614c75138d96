use Rattle.std.proofs.Common.{◌+◌, All, [], sym, subst, arith}
use Rattle.std.specs.Prelude.{slice_index, slice_index_or}
use Rattle.pc_diagram.specs.Choices.{value_of}
use Rattle.pc_diagram.specs.Levels.{level}
use Rattle.pc_labels.specs.AllowedSlots.{AreSlots}
use Rattle.pc_labels.specs.Marks.{IsBelow}
use Rattle.pc_labels.specs.SoFar.{AreTailsSoFar}
use Rattle.pc_labels.proofs.SlotLemmas.{have_weights, may_come_from, tails-made, counted, steps_within, steps_more}
use Rattle.pc_labels.proofs.TailsSoFar.{tails-next}
use Rattle.pc_labels.proofs.from_end.gather.Goals as goal

pub least_slot-least-requires-clause-place : goal.least_slot-least-requires-clause-place
least_slot-least-requires-clause-place g c =
    may_come_from (slice_index c.args.diagram.now.domains c.args.variable) (value_of c.args.choices.now c.args.variable) (slice_index_or c.args.costs.now c.args.variable []) c.in_ok-slots.slots c.args.after.now
    c.requires.room (subst (λ n. All (IsBelow n) c.args.after.now.weights) c.limit.ensures.result c.limit.ensures.above) c.requires.ranks (subst (λ n. AreSlots (slice_index c.args.diagram.now.domains c.args.variable) (value_of c.args.choices.now c.args.variable) (slice_index_or c.args.costs.now c.args.variable []) n c.in_ok-slots.slots) c.limit.ensures.result c.in_ok-slots.ensures)

pub least_slot-least-requires-clause-some : goal.least_slot-least-requires-clause-some
least_slot-least-requires-clause-some g c = have_weights (slice_index c.args.diagram.now.domains c.args.variable) c.limit.result (value_of c.args.choices.now c.args.variable) (slice_index_or c.args.costs.now c.args.variable []) c.in_ok-slots.slots c.in_ok-slots.ensures

pub loop-node-preserved : goal.loop-node-preserved
loop-node-preserved g c = record {
  so_far = subst (AreTailsSoFar (level c.args.diagram.now c.args.variable) c.in_ok-slots.slots c.args.after.now (c.loop-node.node + 1)) (sym c.offer.ensures.offered)
      (tails-next (level c.args.diagram.now c.args.variable) c.in_ok-slots.slots c.args.after.now c.loop-node.node c.loop-node.before c.least_slot-least.result c.least_slot-least.ensures.least c.loop-node.invariant.so_far (omega (arith, c.loop-node-test.true, c.nodes-node-end.ensures)));
  marks = c.offer.ensures.marks;
  steps = steps_more _ _ _ _ _ c.loop-node.invariant.steps c.least_slot-least.ensures.steps;
}

pub returns-clause-next : goal.returns-clause-next
returns-clause-next g c =
    tails-made (level c.args.diagram.now c.args.variable) (value_of c.args.choices.now c.args.variable) (slice_index_or c.args.costs.now c.args.variable []) c.in_ok-slots.slots c.args.after.now c.loop-node.before c.loop-node.node
    (omega (arith, c.loop-node-test.false, c.nodes-node-end.ensures)) (subst (λ n. All (IsBelow n) c.args.after.now.weights) c.limit.ensures.result c.limit.ensures.above) (subst (λ n. AreSlots (slice_index c.args.diagram.now.domains c.args.variable) (value_of c.args.choices.now c.args.variable) (slice_index_or c.args.costs.now c.args.variable []) n c.in_ok-slots.slots) c.limit.ensures.result c.in_ok-slots.ensures) c.loop-node.invariant.so_far

pub returns-clause-steps : goal.returns-clause-steps
returns-clause-steps g c =
    steps_within _ _ _ _ _ _ c.loop-node.invariant.steps (omega (arith, c.loop-node-test.false, c.loop-node.auto.node-end, c.nodes-node-end.ensures))
    (counted (slice_index c.args.diagram.now.domains c.args.variable) c.args.choices.now c.args.variable _ c.in_ok-slots.ensures.values.count)
