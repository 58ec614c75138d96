use Rattle.std.proofs.Common.{refl, drop, arith}
use Rattle.pc_diagram.specs.declared.limits.TheConstants.{MOST_NODES}
use Rattle.pc_diagram.specs.Rests.{size}
use Rattle.pc_store.specs.Sets.{domains_of, has, layer_of}
use Rattle.pc_build.proofs.MakingLemmas.{size_above, stops_here, made_here}
use Rattle.pc_build.proofs.parts.count_part.Goals as goal

pub returns-then-not-small : goal.returns-then-not-small
returns-then-not-small c = λ test denotes.
    let n = size (drop (layer_of c.args.set) (domains_of c.args.store.now)) (has c.args.store.now c.args.set) in
    stops_here c.args.store.now c.args.set test n c.args.made.now c.in-Some.part denotes refl (size_above c.in_ok-small.small n MOST_NODES c.in_ok-small.ensures c.if-not-small.true) (let e = c.in-Some.ensures in omega arith)

pub returns : goal.returns
returns c = λ test denotes.
    let n = size (drop (layer_of c.args.set) (domains_of c.args.store.now)) (has c.args.store.now c.args.set) in
    made_here c.args.store.now c.args.set test n c.args.made.now c.in-Some.part denotes refl (c.in_ok-small.ensures.0 c.if-not-small.false) (let e = c.in-Some.ensures in omega arith)
