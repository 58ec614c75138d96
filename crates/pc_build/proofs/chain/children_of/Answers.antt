use Rattle.std.proofs.Common.{◌≡◌, ◌+◌, get_or, subst, sym}
use Rattle.std.proofs.lemmas.List.{get_or_default}
use Rattle.pc_build.specs.Chains.{Children}
use Rattle.pc_build.proofs.ChainLemmas.{among_first, chosen_none, chosen_one, chosen_past, chosen_all}
use Rattle.pc_build.proofs.chain.children_of.Goals as goal
use Rattle.pc_build.proofs.chain.children_of.Goals.{then-place-lt-MOST_CHILDREN, else-place-lt-MOST_CHILDREN}

pub loop-value-init : goal.loop-value-init
loop-value-init c = chosen_none c.args.chosen.now c.args.below c.args.other 64

pub loop-value-preserved : goal.loop-value-preserved
loop-value-preserved c =
    let chosen = c.args.chosen.now in
    let i = c.loop-value.value-index in
    let value = get_or chosen i 0 in
    let read : value ≡ get_or chosen i value = get_or_default chosen i 0 value c.loop-value-test.true in
    let next = Children (among_first chosen (i + 1)) c.args.below c.args.other 64 in
    elim c.if-place-lt-MOST_CHILDREN.branch [
      | then-place-lt-MOST_CHILDREN w ↦ subst next (sym w.children-is) (chosen_one chosen i value c.args.below c.args.other 64 c.loop-value.children c.loop-value-test.true read c.loop-value.invariant w.if-place-lt-MOST_CHILDREN.true)
      | else-place-lt-MOST_CHILDREN w ↦ subst next (sym w.children-is) (chosen_past chosen i value c.args.below c.args.other 64 c.loop-value.children c.loop-value-test.true read c.loop-value.invariant w.if-place-lt-MOST_CHILDREN.false)
    ]

pub returns : goal.returns
returns c = chosen_all c.args.chosen.now c.loop-value.value-index c.args.below c.args.other 64 c.loop-value.children c.loop-value-test.false c.loop-value.invariant
