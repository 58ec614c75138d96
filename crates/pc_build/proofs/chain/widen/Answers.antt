use Rattle.std.proofs.Common.{◌≡◌, ◌+◌, ◌-◌, ◌<◌, length, arith, subst}
use Rattle.pc_store.specs.Sets.{domains_of}
use Rattle.pc_store.proofs.SetLemmas.{keeps_same, words_are_over}
use Rattle.pc_build.proofs.ChainLemmas.{Widened, widened_none, widened_more}
use Rattle.pc_build.proofs.chain.widen.Goals as goal

pub loop-step-preserved : goal.loop-step-preserved
loop-step-preserved c =
    let inside = c.requires.inner in
    let test = c.loop-step-test.true in
    let layer = c.args.from - 1 - c.loop-step.step in
    let at : c.args.from - c.loop-step.step ≡ layer + 1 = omega arith in
    let after : layer ≡ c.args.from - (c.loop-step.step + 1) = omega arith in
    let lt : layer < length (domains_of c.args.store.now) = omega arith in
    let before : Widened c.args.store.now c.loop-step.store (layer + 1) c.loop-step.step c.args.below c.loop-step.wide = subst (λ n. Widened c.args.store.now c.loop-step.store n c.loop-step.step c.args.below c.loop-step.wide) at c.loop-step.invariant in
    subst (λ n. Widened c.args.store.now c.lengthen.new.store n (c.loop-step.step + 1) c.args.below c.in_ok-wide.wide) after
    (widened_more c.args.store.now c.loop-step.store c.lengthen.new.store layer c.loop-step.step c.args.below c.loop-step.wide c.in_ok-wide.wide lt before c.in_ok-wide.ensures.is_id c.in_ok-wide.ensures.set c.in_ok-wide.ensures.keeps)

pub loop-step-init : goal.loop-step-init
loop-step-init c =
    let store = c.args.store.now in
    let first : c.args.from ≡ c.args.from - 0 = omega arith in
    subst (λ layer. Widened store store layer 0 c.args.below c.args.below) first
    (widened_none store c.args.from c.args.below c.requires.below (words_are_over store c.args.from c.args.below c.requires.below) (keeps_same store))
