use Rattle.std.proofs.Common.{◌≡◌, false, ap, ◌∙◌, arith, Err}
use Rattle.std.proofs.lemmas.Bool.Decides.{nat_tests}
use Rattle.std.proofs.lemmas.Result.{err_from_is_err_and}
use Rattle.pc_conn.proofs.BodyRead.{body_begins, body_goes_on, body_halted, body_read, body_stopped, unmoved_begins, unmoved_goes_on}
use Rattle.pc_conn.proofs.reading.read_body.Goals as goal
use Rattle.pc_conn.specs.BodyText.{body_of}

pub loop-taken-init : goal.loop-taken-init
loop-taken-init g c = (rw (c.new-text.ensures) (body_begins _ _ _ _ _ c.requires.at_end), unmoved_begins _ _)

pub returns-in_err-line-clause-read : goal.returns-in_err-line-clause-read
returns-in_err-line-clause-read g c =
    let p = err_from_is_err_and c.from_residual.result c.from_residual.ensures.1 in
    let so_far = c.loop-taken.invariant.0 in
    let call = c.in_err-line.ensures in
    let going : c.loop-taken.lines.ended ≡ false = grind (arith, nat_tests, c.has_ended.ensures, c.if-has_ended.false) in
    rw (p.1, p.2) (body_stopped _ _ _ _ _ c.loop-taken.lines _ c.next.new.self _ _ _ _ _ _ so_far (grind (arith, nat_tests, c.loop-taken-test.true)) going call.exact call.stream (λ is. call.none_kept (ap (λ f. Err f) is)))

pub loop-taken-preserved : goal.loop-taken-preserved
loop-taken-preserved g c =
    let so_far = c.loop-taken.invariant.0 in
    let call = rw c.in-Some.is at c.in_ok-line.ensures in
    let going : c.loop-taken.lines.ended ≡ false = grind (arith, nat_tests, c.has_ended.ensures, c.if-has_ended.false) in (
      rw (c.in_ok-push.ensures.ok, c.in_ok-extend_from_slice.ensures.ok, c.as_slice.ensures)
          (body_goes_on _ _ _ c.in-Some.line _ _ c.loop-taken.lines _ c.next.new.self _ _ _ _ _ _ _ so_far (grind (arith, nat_tests, c.loop-taken-test.true)) going call.stream call.given call.line call.rises call.within call.limits call.last call.at_end call.told (call.faultless (λ e. cc)) call.aside),
      unmoved_goes_on _ c.in-Some.line _ _ _ _ _ _ c.loop-taken.invariant.1 call.again,
    )

pub returns-clause-read : goal.returns-clause-read
returns-clause-read g c =
    body_read _ _ _ _ _ _ _ _ _ _ _ _ c.loop-taken.invariant.0 (grind (arith, nat_tests, c.loop-taken-test.false)) (c.in_ok-body_of.ensures.exact ∙ ap body_of c.as_slice-2.ensures)

pub returns-in_err-extend_from_slice-clause-read : goal.returns-in_err-extend_from_slice-clause-read
returns-in_err-extend_from_slice-clause-read g c =
    let p = err_from_is_err_and c.from_residual-in_err-extend_from_slice.result c.from_residual-in_err-extend_from_slice.ensures.1 in
    let so_far = c.loop-taken.invariant.0 in
    let call = rw c.in-Some.is at c.in_ok-line.ensures in
    let going : c.loop-taken.lines.ended ≡ false = grind (arith, nat_tests, c.has_ended.ensures, c.if-has_ended.false) in
    let one_more = body_goes_on _ _ _ c.in-Some.line _ _ c.loop-taken.lines _ c.next.new.self _ _ _ _ _ _ _ so_far (grind (arith, nat_tests, c.loop-taken-test.true)) going call.stream call.given call.line call.rises call.within call.limits call.last call.at_end call.told (call.faultless (λ e. cc)) call.aside in
    rw (p.1, p.2) (body_halted _ _ _ _ _ _ _ _ _ _ _ one_more)

pub returns-in_err-push-clause-read : goal.returns-in_err-push-clause-read
returns-in_err-push-clause-read g c =
    let p = err_from_is_err_and c.from_residual-in_err-push.result c.from_residual-in_err-push.ensures.1 in
    let so_far = c.loop-taken.invariant.0 in
    let call = rw c.in-Some.is at c.in_ok-line.ensures in
    let going : c.loop-taken.lines.ended ≡ false = grind (arith, nat_tests, c.has_ended.ensures, c.if-has_ended.false) in
    let one_more = body_goes_on _ _ _ c.in-Some.line _ _ c.loop-taken.lines _ c.next.new.self _ _ _ _ _ _ _ so_far (grind (arith, nat_tests, c.loop-taken-test.true)) going call.stream call.given call.line call.rises call.within call.limits call.last call.at_end call.told (call.faultless (λ e. cc)) call.aside in
    rw (p.1, p.2) (body_halted _ _ _ _ _ _ _ _ _ _ _ one_more)
