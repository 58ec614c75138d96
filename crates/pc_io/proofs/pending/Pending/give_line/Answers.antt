use Rattle.std.proofs.Common.{refl, arith}
use Rattle.pc_io.proofs.Pieces.{length_of_piece, rest_of_piece}
use Rattle.pc_io.proofs.pending.Pending.give_line.Goals as goal

pub returns-clause-left : goal.returns-clause-left
returns-clause-left c =
    let p = c.self.inside in
    let some = rw (← c.self.view_is) at c.requires in
    let size = length_of_piece p.block.items p.start p.end c.self.invariant.0 c.self.invariant.1 in
    let rest = rest_of_piece p.block.items p.start 1 p.end (omega (arith, some, size)) in
    rw (← c.self.view_is, rest, c.replace.ensures.after, c.new.ensures) refl
