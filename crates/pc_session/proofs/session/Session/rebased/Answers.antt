-- What is asked of the session's file may be carried over, and what comes of it is asked of the target's.
use Rattle.std.proofs.Common.{◌≡◌, Ok, subst}
use Rattle.pc_build.specs.declared.version.Version.{Version}
use Rattle.pc_calls.specs.Carry.{moved_to}
use Rattle.pc_session.specs.Moving.{carried_by}
use Rattle.pc_session.proofs.BoundLemmas.{after_move}
use Rattle.pc_session.proofs.MovingLemmas.{selection_of}
use Rattle.pc_session.proofs.session.Session.rebased.Goals as goal

pub ready-requires-clause-costs : goal.ready-requires-clause-costs
ready-requires-clause-costs c =
    let asked = selection_of c.self.inside.board.choices c.self.inside.board.bounds in
    let moved = subst (λ (v : Version). moved_to c.args.dropping c.file-file.result.now v.file asked ≡ Ok (carried_by c.in-Ok.moved)) c.version-version.ensures c.in-Ok.ensures.moved in
    after_move c.file-file.result.now c.args.target.now.file c.args.dropping asked (carried_by c.in-Ok.moved) moved
