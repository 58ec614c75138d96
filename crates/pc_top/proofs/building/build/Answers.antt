-- What a text is refused for.
use Rattle.std.proofs.Common.{◌∙◌}
use Rattle.pc_top.specs.Refusals.{refused_text}
use Rattle.pc_top.proofs.BuiltLemmas.{built_of_text}
use Rattle.pc_top.proofs.RefusalLemmas.{faulty}
use Rattle.pc_top.proofs.building.build.Goals as goal

pub returns-in_ok-new-in-Ok : goal.returns-in_ok-new-in-Ok
returns-in_ok-new-in-Ok c =
    let read = c.in-Ok.ensures.exact in
    built_of_text c.args.text.now c.in_ok-new-in-Ok.field-0 c.build_file.result read.0 (c.in_ok-new-in-Ok.ensures ∙ read.1) c.build_file.ensures

pub returns-in_ok-refused_text-in-Err-At : goal.returns-in_ok-refused_text-in-Err-At
returns-in_ok-refused_text-in-Err-At c =
    let found = c.in-Err-At in
    let fault = rw found.field-0-is at found.ensures.exact in
    (refused_text found.line found.kind, faulty c.args.text.now found.line found.kind fault, c.in_ok-refused_text-in-Err-At.ensures)
