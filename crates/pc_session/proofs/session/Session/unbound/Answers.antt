-- The board that follows is the version's, and its bounds are on costs of its file.
use Rattle.pc_calls.specs.Selection.{unbound}
use Rattle.pc_session.specs.Next.{asked_by}
use Rattle.pc_session.proofs.BoundLemmas.{after_unbound, kept_next}
use Rattle.pc_session.proofs.session.Session.unbound.Goals as goal

pub invariant_of-self : goal.invariant_of-self
invariant_of-self c =
    let version = c.self.inside.version in
    let board = c.self.inside.board in
    kept_next version c.version-version.result.now board c.answered.new.board (λ file. unbound c.args.cost.now file (asked_by board)) c.in_ok-next.next c.version-version.ensures c.self.invariant
    (λ asked h. after_unbound version.file c.args.cost.now (asked_by board) asked c.self.invariant.1 h) c.in_ok-next.ensures c.answered.ensures.board
