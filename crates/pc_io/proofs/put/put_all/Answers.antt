use Rattle.std.proofs.Common.{◌≡◌, ◌+◌, ◌-◌, length, ap, ◌∙◌, arith, length-drop}
use Rattle.pc_io.proofs.Pieces.{rest_of_rest, written_on}
use Rattle.pc_io.proofs.put.put_all.Goals as goal

pub loop-left-preserved : goal.loop-left-preserved
loop-left-preserved g c =
    let before = c.loop-left.invariant in
    let call = c.in_ok-taken.ensures in
    let size : length c.loop-left.left.now ≡ length c.args.bytes.now - before.0 = ap length before.2 ∙ length-drop before.0 c.args.bytes.now in (
      before.0 + c.in_ok-taken.taken,
      omega (arith, call.bound, size),
      rest_of_rest c.args.bytes.now _ before.0 c.in_ok-taken.taken before.2,
      written_on _ _ _ c.args.bytes.now _ before.0 c.in_ok-taken.taken before.3 before.2 call.bytes,
      call.faultless ∙ before.4,
      call.aside ∙ before.5,
    )
