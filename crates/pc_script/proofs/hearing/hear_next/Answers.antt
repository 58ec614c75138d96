use Rattle.std.proofs.Common.{ap, sym, Err}
use Rattle.std.proofs.lemmas.Result.{err_from_is_err_and}
use Rattle.pc_io.proofs.TookLemmas.{took_line}
use Rattle.pc_script.proofs.RequestNext.{hears_body, hears_body_fault, hears_fault, hears_said}
use Rattle.pc_script.proofs.hearing.hear_next.Goals as goal

pub returns-in_err-line-clause-hears : goal.returns-in_err-line-clause-hears
returns-in_err-line-clause-hears g c =
    let p = err_from_is_err_and c.from_residual.result c.from_residual.ensures.1 in
    let call = c.in_err-line.ensures in
    rw (p.1, p.2) (hears_fault _ _ c.args.lines.now c.next.new.self _ _ c.requires.going (call.exact c.requires.sound) call.stream (λ is. call.none_kept (ap (λ f. Err f) is)))

pub returns-in-Said-clause-hears : goal.returns-in-Said-clause-hears
returns-in-Said-clause-hears g c =
    let call = rw c.in-Some.is at c.in_ok-line.ensures in
    hears_said _ _ c.in-Some.line _ _ _ (took_line c.in-Some.line c.args.lines.now c.next.new.self _ _ call.stream call.given call.line call.rises call.within call.limits) (sym c.in-Said.ensures.requested)

pub returns-in_err-body-in-Publish-clause-hears : goal.returns-in_err-body-in-Publish-clause-hears
returns-in_err-body-in-Publish-clause-hears g c =
    let p = err_from_is_err_and c.from_residual-in_err-body-in-Publish.result c.from_residual-in_err-body-in-Publish.ensures.1 in
    let call = rw c.in-Some.is at c.in_ok-line.ensures in
    rw (p.1, p.2)
    (hears_body_fault _ c.in-Publish.awaited _ c.in-Some.line _ _ _ _ (sym c.in-Publish.ensures.requested)
    (took_line c.in-Some.line c.args.lines.now c.next.new.self _ _ call.stream call.given call.line call.rises call.within call.limits)
    call.told c.in_err-body-in-Publish.ensures.read)

pub returns-clause-hears : goal.returns-clause-hears
returns-clause-hears g c =
    let call = rw c.in-Some.is at c.in_ok-line.ensures in
    rw (c.with.ensures, c.turn_after-turn.ensures)
    (hears_body _ c.in-Publish.awaited c.in_ok-body-in-Publish.body c.in-Some.line _ _ _ _ (sym c.in-Publish.ensures.requested)
    (took_line c.in-Some.line c.args.lines.now c.next.new.self _ _ call.stream call.given call.line call.rises call.within call.limits)
    c.in_ok-body-in-Publish.ensures.stays_ended c.in_ok-body-in-Publish.ensures.calm c.in_ok-body-in-Publish.ensures.read)
