use Rattle.std.proofs.Common.{arith}
use Rattle.pc_io.proofs.CalledFor.{called_at_end, called_at_feed, called_over_feed, called_past}
use Rattle.pc_io.proofs.cutting.cut_line.Goals as goal

pub returns-then-part_len-left-clause-exact : goal.returns-then-part_len-left-clause-exact
returns-then-part_len-left-clause-exact g c _ more none =
    let reached = rw (c.min.ensures, c.in-LineFeed.is) at c.in_ok-read_line.ensures.reached in
    let call = c.read_line.ensures in
    called_at_feed c.args.line_limit c.args.left c.read_line.new.pending c.give_line.new.self more c.give_line.result c.give_line.ensures.line c.give_line.ensures.left
    call.no_feed reached.0 reached.1 call.ended (omega arith)

pub returns-else-part_len-left-clause-exact : goal.returns-else-part_len-left-clause-exact
returns-else-part_len-left-clause-exact g c _ more none =
    let reached = rw (c.min.ensures, c.in-LineFeed.is) at c.in_ok-read_line.ensures.reached in
    called_over_feed c.args.line_limit c.args.left c.read_line.new.pending c.read_line.new.pending more c.read_line.ensures.no_feed reached.0 reached.1 (omega arith)

pub returns-in-End-clause-exact : goal.returns-in-End-clause-exact
returns-in-End-clause-exact g c _ more none =
    let reached = rw (c.min.ensures, c.in-End.is) at c.in_ok-read_line.ensures.reached in
    called_at_end c.args.line_limit c.args.left c.read_line.new.pending c.give_last.new.self more c.give_last.result c.give_last.ensures.none c.give_last.ensures.line c.give_last.ensures.left
    c.read_line.ensures.no_feed reached.0 reached.1 reached.2 none

pub returns-in-Limit-clause-exact : goal.returns-in-Limit-clause-exact
returns-in-Limit-clause-exact g c _ more none =
    let reached = rw (c.min.ensures, c.in-Limit.is) at c.in_ok-read_line.ensures.reached in
    called_past c.args.line_limit c.args.left c.read_line.new.pending c.read_line.new.pending more c.limit_fault.result reached c.limit_fault.ensures.long c.limit_fault.ensures.over
