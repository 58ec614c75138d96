use Rattle.std.proofs.Common.{◌≡◌, false, true, ap, arith, Err}
use Rattle.std.proofs.lemmas.Bool.Decides.{nat_tests}
use Rattle.std.proofs.lemmas.Result.{err_from_is_err_and}
use Rattle.pc_script.proofs.PresentLemmas.{nobody-present}
use Rattle.pc_script.proofs.ScriptRun.{nothing_answered, script_begins, script_ends, script_finds_none, script_goes_on, script_says_last, script_unanswered, script_unheard}
use Rattle.pc_script.proofs.running.answer_lines.Goals as goal

pub returns-in_err-lines-clause-left : goal.returns-in_err-lines-clause-left
returns-in_err-lines-clause-left g c =
    let p = err_from_is_err_and c.from_residual.result c.from_residual.ensures.1 in
    rw (p.1, p.2) (nothing_answered _ _ _ _ _ _ _)

pub loop-callers-init : goal.loop-callers-init
loop-callers-init g c = rw c.in_ok-lines.ensures (script_begins _ _ _ _ _ _ _ c.requires.book c.requires.nobody)

pub returns-in_err-next-clause-left : goal.returns-in_err-next-clause-left
returns-in_err-next-clause-left g c =
    let p = err_from_is_err_and c.from_residual-in_err-next.result c.from_residual-in_err-next.ensures.1 in
    let going : c.loop-callers.lines.ended ≡ false = grind (arith, nat_tests, c.has_ended.ensures, c.loop-callers-test.true) in
    let heard = c.in_err-next.ensures in
    rw (p.1, p.2) (script_unheard _ _ _ _ _ _ _ _ _ _ _ _ _ _ c.loop-callers.invariant _ c.hear_next.new.lines _ _ _ going heard.hears (λ is. heard.failed (ap (λ e. Err e) is)))

pub returns-in_default-clause-left : goal.returns-in_default-clause-left
returns-in_default-clause-left g c =
    let going : c.loop-callers.lines.ended ≡ false = grind (arith, nat_tests, c.has_ended.ensures, c.loop-callers-test.true) in
    let heard = rw c.in_default.is at c.in_ok-next.ensures in
    script_finds_none _ _ _ _ _ _ _ _ _ _ _ _ _ _ c.loop-callers.invariant c.hear_next.new.lines _ _ _ going heard.hears heard.none_kept heard.at_end

pub returns-in_err-write_answer-clause-left : goal.returns-in_err-write_answer-clause-left
returns-in_err-write_answer-clause-left g c =
    let p = err_from_is_err_and c.from_residual-in_err-write_answer.result c.from_residual-in_err-write_answer.ensures.1 in
    let going : c.loop-callers.lines.ended ≡ false = grind (arith, nat_tests, c.has_ended.ensures, c.loop-callers-test.true) in
    let heard = rw c.in-Some.is at c.in_ok-next.ensures in
    rw (p.1, p.2) (script_unanswered _ _ _ _ _ _ _ _ _ _ _ _ _ _ c.loop-callers.invariant _ _ _ c.hear_next.new.lines _ _ _ _ going heard.hears heard.none_kept heard.at_end c.in_err-write_answer.ensures.writes)

pub loop-callers-preserved : goal.loop-callers-preserved
loop-callers-preserved g c =
    let going : c.loop-callers.lines.ended ≡ false = grind (arith, nat_tests, c.has_ended.ensures, c.loop-callers-test.true) in
    let heard = rw (c.in-Some.is, c.in-Going.is) at c.in_ok-next.ensures in
    let said = c.in_ok-write_answer.ensures in
    script_goes_on _ _ _ _ _ _ _ _ _ _ _ _ _ _ c.loop-callers.invariant c.hear_next.new.lines _ _ _ _ _ _ _ _ going heard.hears said.recorded said.present said.writes heard.sound heard.at_end heard.none_kept heard.within heard.counted said.counted heard.aside said.aside

pub returns-in-Last-clause-left : goal.returns-in-Last-clause-left
returns-in-Last-clause-left g c =
    let going : c.loop-callers.lines.ended ≡ false = grind (arith, nat_tests, c.has_ended.ensures, c.loop-callers-test.true) in
    let heard = rw (c.in-Some.is, c.in-Last.is) at c.in_ok-next.ensures in
    script_says_last _ _ _ _ _ _ _ _ _ _ _ _ _ _ c.loop-callers.invariant c.hear_next.new.lines c.write_answer.new.callers _ _ _ _ _ going heard.hears c.in_ok-write_answer.ensures.recorded c.in_ok-write_answer.ensures.writes heard.none_kept heard.at_end

pub returns-clause-left : goal.returns-clause-left
returns-clause-left g c =
    let ended : c.loop-callers.lines.ended ≡ true = grind (arith, nat_tests, c.has_ended.ensures, c.loop-callers-test.false) in
    script_ends _ _ _ _ _ _ _ _ _ _ _ _ _ _ c.loop-callers.invariant _ _ ended

pub returns-in_err-lines-clause-present : goal.returns-in_err-lines-clause-present
returns-in_err-lines-clause-present g c = nobody-present c.args.callers.now.book c.args.callers.now.present.items c.requires.book c.requires.nobody
