-- Each line is taken, and at the end all are.
use Rattle.std.proofs.Common.{[], refl, rules}
use Rattle.std.proofs.lemmas.Result.{err_from_is_err_and}
use Rattle.std.proofs.lemmas.Grind.{common_steps}
use Rattle.pc_dump.proofs.ReadLemmas.{lines_on, nothing_read, reads_all, told_fault, told_lines}
use Rattle.pc_dump.proofs.reading.read_dump.Goals as goal
use Rattle.pc_io.proofs.WholeRead.{ReadSoFar, exact_at_fault}

pub loop-reader-init : goal.loop-reader-init
loop-reader-init g c =
    let rest = g.S.Source.rest c.args.source.now in
    let so_far : ReadSoFar c.args.line_limit c.args.total_limit [] c.in_ok-lines.lines rest rest (g.S.Source.read_faults c.args.source.now) (g.S.Source.read_faults c.args.source.now) (g.S.Source.read_aside c.args.source.now) (g.S.Source.read_aside c.args.source.now) =
    search (rules, common_steps) in
    nothing_read _ _ _ _ _ _ _ _ _ _ so_far c.new-reader.ensures

pub returns-in_err-line-clause-exact : goal.returns-in_err-line-clause-exact
returns-in_err-line-clause-exact g c =
    let p = err_from_is_err_and c.from_residual-in_err-line.result c.from_residual-in_err-line.ensures.1 in
    let so = c.loop-reader.invariant in
    let exact = c.in_err-line.ensures.exact so.so_far.no_fault in
    rw (p.1, p.2) (λ outside. told_fault _ _ _ _ (exact_at_fault _ _ _ _ _ _ _ _ _ _ _ so.so_far (exact outside)))

pub loop-reader-preserved : goal.loop-reader-preserved
loop-reader-preserved g c =
    let so = c.loop-reader.invariant in
    let call = rw c.in-Some.is at c.in_ok-line.ensures in
    let takes = rw c.as_slice.ensures at c.in_ok-take.ensures in
    lines_on _ _ c.in-Some.line c.loop-reader.reader c.take.new.self c.loop-reader.lines c.next.new.self _ _ _ _ _ _ _ _ _ _ so call.stream call.given call.line call.rises call.within call.limits call.last call.at_end call.told call.unread (call.faultless (λ e. cc)) call.aside takes

pub returns-clause-read : goal.returns-clause-read
returns-clause-read g c =
    let so = c.loop-reader.invariant in
    let call = rw c.in_default.is at c.in_ok-line.ensures in
    let ended = call.none refl in
    reads_all _ _ c.loop-reader.reader c.finish.result c.loop-reader.lines c.next.new.self _ _ _ _ _ _ _ so c.finish.ensures call.stream (call.last ended) (call.at_end ended)

pub returns-clause-exact : goal.returns-clause-exact
returns-clause-exact g c _ =
    let so = c.loop-reader.invariant in
    let call = rw c.in_default.is at c.in_ok-line.ensures in
    let ended = call.none refl in
    told_lines _ _ c.finish.result _ (g.S.Source.rest c.next.new.source) (reads_all _ _ c.loop-reader.reader c.finish.result c.loop-reader.lines c.next.new.self _ _ _ _ _ _ _ so c.finish.ensures call.stream (call.last ended) (call.at_end ended))
