use Rattle.std.proofs.Common.{◌≡◌, ap, ◌∙◌}
use Rattle.pc_calls.specs.CommandLine.{line_call}
use Rattle.pc_calls.proofs.TableLemmas.{line_agrees}
use Rattle.pc_calls.proofs.WordsSaid.{read_is_said, said_is_read}
use Rattle.pc_calls.proofs.reading.read_call.Goals as goal

abbrev exact : (c : goal.After-line_call) → c.line_call.result ≡ line_call c.args.line.now c.args.from
exact c = c.line_call.ensures ∙ ap (λ line. line_call line c.args.from) c.as_slice.ensures

pub returns-clause-wrong : goal.returns-clause-wrong
returns-clause-wrong c = line_agrees c.args.line.now c.args.from c.line_call.result (exact c)

pub returns-clause-said : goal.returns-clause-said
returns-clause-said c = read_is_said c.args.line.now c.args.from c.line_call.result (exact c)

pub returns-clause-only : goal.returns-clause-only
returns-clause-only c call sayable same = exact c ∙ said_is_read c.args.line.now c.args.from call sayable same
