use Rattle.std.proofs.Common.{refl}
use Rattle.std.proofs.lemmas.Result.{err_from_is_err_and}
use Rattle.pc_io.proofs.WholeRead.{all_read, exact_at_end, exact_at_fault, kept_limits, read_on}
use Rattle.pc_io.proofs.whole.whole_text.Goals as goal

pub returns-in_err-line-clause-exact : goal.returns-in_err-line-clause-exact
returns-in_err-line-clause-exact g c =
    let p = err_from_is_err_and c.from_residual-in_err-line.result c.from_residual-in_err-line.ensures.1 in
    let so_far = c.loop-text.invariant in
    let exact = c.in_err-line.ensures.exact so_far.no_fault in
    rw (p.1, p.2) (λ outside. exact_at_fault _ _ _ _ _ _ _ _ _ _ _ so_far (exact outside))

pub loop-text-preserved : goal.loop-text-preserved
loop-text-preserved g c =
    let so_far = c.loop-text.invariant in
    let call = rw c.in-Some.is at c.in_ok-line.ensures in
    rw (c.in_ok-append_line.ensures, c.has_ended.ensures)
    (read_on _ _ c.loop-text.text c.in-Some.line c.loop-text.lines c.next.new.self _ _ _ _ _ _ _ _ _ _ so_far call.stream call.given call.line call.rises call.within call.limits call.last call.at_end call.told call.unread (call.faultless (λ e. cc)) call.aside)

pub returns-clause-within : goal.returns-clause-within
returns-clause-within g c = kept_limits _ _ _ _ _ _ _ _ _ _ c.loop-text.invariant

pub returns-clause-exact : goal.returns-clause-exact
returns-clause-exact g c _ =
    let so_far = c.loop-text.invariant in
    let call = rw c.in_default.is at c.in_ok-line.ensures in
    let ended = call.none refl in
    exact_at_end _ _ c.loop-text.text _ _ (kept_limits _ _ _ _ _ _ _ _ _ _ so_far) (all_read _ _ _ _ c.loop-text.lines c.next.new.self so_far.read call.stream (call.last ended)) (call.at_end ended)
