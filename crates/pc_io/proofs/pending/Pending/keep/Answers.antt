use Rattle.std.proofs.Common.{refl, arith}
use Rattle.pc_io.proofs.Pieces.{front_of_piece, length_of_piece, rest_of_piece}
use Rattle.pc_io.proofs.pending.Pending.keep.Goals as goal

pub returns-clause-ok : goal.returns-clause-ok
returns-clause-ok c =
    let p = c.self.inside in
    let some = rw (← c.self.view_is) at c.requires in
    let size = length_of_piece p.block.items p.start p.end c.self.invariant.0 c.self.invariant.1 in
    let front = front_of_piece p.block.items p.start c.args.count p.end (omega (arith, some, size)) in
    let rest = rest_of_piece p.block.items p.start c.args.count p.end (omega (arith, some, size)) in
    rw (← c.self.view_is, rest, c.in_ok-extend_from_slice.ensures.ok, c.deref.ensures.value, front) refl
