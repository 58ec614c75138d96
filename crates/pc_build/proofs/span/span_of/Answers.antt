use Rattle.std.proofs.Common.{refl, arith}
use Rattle.pc_build.proofs.SpanLemmas.{from_more, to_more, spans}
use Rattle.pc_build.proofs.span.span_of.Goals as goal

pub loop-variable-preserved : goal.loop-variable-preserved
loop-variable-preserved c =
    let h = c.loop-variable.invariant in
    let test = c.loop-variable-test.true in
    let less = c.min-first.ensures in
    let more = c.max-last.ensures in
    let within = c.requires c.loop-variable.variable-index 0 test in
    record {
      first = from_more c.args.variables.now c.loop-variable.variable-index c.loop-variable.first c.min-first.result test less h.first;
      last = to_more c.args.variables.now c.loop-variable.variable-index c.loop-variable.last c.max-last.result test more h.last;
      order = (let order = h.order in omega (arith, less, more));
      inside = (let inside = h.inside in omega (arith, less, more, within));
    }

pub returns-clause-spans : goal.returns-clause-spans
returns-clause-spans c =
    let h = c.loop-variable.invariant in
    spans c.args.variables.now c.loop-variable.variable-index (record { first = c.loop-variable.first; count = _ }) c.loop-variable.last c.loop-variable-test.false h.order refl h.first h.last
