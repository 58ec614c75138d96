use Rattle.std.proofs.Common.{sym, arith}
use Rattle.pc_base.proofs.LineCuts.{length-first_line-nowhere, length-first_line-first}
use Rattle.pc_base.proofs.lines.first_line_width.Goals as goal

pub returns-in-Some-clause-width : goal.returns-in-Some-clause-width
returns-in-Some-clause-width c =
    let found = c.in-Some.ensures in
    sym (length-first_line-first _ _ (λ k h. found.0.before k (omega arith) h) found.0.high found.1)

pub returns-in-None-clause-width : goal.returns-in-None-clause-width
returns-in-None-clause-width c =
    let found = c.in-None.ensures in
    sym (length-first_line-nowhere _ (λ k h. found k (omega arith) h))
