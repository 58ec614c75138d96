use Rattle.std.proofs.Common.{[], ◌++◌, Some, Ok, refl, sym, ap, ◌∙◌}
use Rattle.std.specs.Io.KnownBytes.{prepend_known}
use Rattle.pc_io.specs.Cutter.{Cutter}
use Rattle.pc_io.specs.Held.{held}
use Rattle.pc_io.specs.NextLine.{taken}
use Rattle.pc_io.proofs.CalledFor.{called_now}
use Rattle.pc_io.proofs.LinesTaken.{at_end_of, lines_taken}
use Rattle.pc_io.proofs.Pieces.{prepend_known-append}
use Rattle.pc_io.proofs.lines.Lines.next.Goals as goal

pub returns-in-Ok-Some-clause-in_order : goal.returns-in-Ok-Some-clause-in_order
returns-in-Ok-Some-clause-in_order g c =
    let call = c.in-Ok-Some.ensures in
    let rest = g.S.Source.rest c.args.source.now in
    let line = rw c.in-Ok-Some.field-0-is at call.line in
    let some = rw c.in-Ok-Some.field-0-is at call.rises in
    let is = rw c.in-Ok-Some.field-0-is at call.stream in
    lines_taken _ _ c.in-Ok-Some.line c.cut_line.new.pending.ended line.0 some
    (ap (λ (l : Cutter). prepend_known l.kept rest) (sym c.self.view_is) ∙ is ∙ sym (prepend_known-append _ _ _))
    (λ ended. at_end_of _ _ (call.last ended) (call.at_end ended))

pub returns-in-Ok-Some-clause-shown : goal.returns-in-Ok-Some-clause-shown
returns-in-Ok-Some-clause-shown g c _ outside =
    let exact = rw c.in-Ok-Some.field-0-is at c.in-Ok-Some.ensures.exact in
    rw (← c.self.view_is) (called_now _ _ (taken (Ok (Some c.in-Ok-Some.line)) c.cut_line.new.pending.ended ++ held c.cut_line.new.pending) (Ok (Some c.in-Ok-Some.line)) (exact refl [] (λ _. refl)))

pub returns-in-Err-clause-shown : goal.returns-in-Err-clause-shown
returns-in-Err-clause-shown g c _ outside =
    rw (← c.self.view_is) (called_now _ _ _ _ (c.in-Err.ensures.exact outside [] (λ _. refl)))
