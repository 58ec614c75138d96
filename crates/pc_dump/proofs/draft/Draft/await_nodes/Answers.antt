-- With no node left the layer is closed.
use Rattle.std.proofs.Common.{◌≡◌, subst, arith}
use Rattle.pc_dump.specs.Draft.{IsOpen}
use Rattle.pc_dump.proofs.StepLemmas.{closed_back, closed_begun, closed_on}
use Rattle.pc_dump.proofs.draft.Draft.await_nodes.Goals as goal

pub returns : goal.returns
returns c =
    let b = c.args.self.now in
    let size = c.args.size in
    let none : c.args.left ≡ 0 = omega arith in
    let open_ = subst (λ l. IsOpen size l b) none c.requires in
    rw (none, c.in_ok-push.ensures.ok, c.in_ok-push-2.ensures.ok, c.replace.ensures.value)
    (record { draft = closed_begun size b open_ _; on = closed_on size b open_ _; back = closed_back size b open_ _ })
