use Rattle.std.proofs.Common.{None, ap, ◌∙◌, arith}
use Rattle.pc_book.proofs.PublishLemmas.{publish-done, publish-full}
use Rattle.pc_book.proofs.publishing.shelve.Goals as goal

pub returns-then-len-ge-MOST_LIVE-clause-brings : goal.returns-then-len-ge-MOST_LIVE-clause-brings
returns-then-len-ge-MOST_LIVE-clause-brings c file built state own entered present seen =
    publish-full state own c.args.shelves.now.items entered present c.args.current.now c.args.base file seen built.1 built.2 (omega (arith, c.if-base-current.false)) c.refused-then-len-ge-MOST_LIVE.result
    (omega (arith, c.len.ensures, c.if-len-ge-MOST_LIVE.true)) c.refused-then-len-ge-MOST_LIVE.ensures

pub returns-clause-brings : goal.returns-clause-brings
returns-clause-brings c file built state own entered present seen =
    publish-done state own c.args.shelves.now.items entered present c.args.current.now c.args.base file seen built.1 built.2 (omega (arith, c.if-base-current.false)) (omega (arith, c.len.ensures, c.if-len-ge-MOST_LIVE.false))
    (record { head = c.plain_head.result; shown = None }) c.push.new.self.items c.in_ok-version.version (ap (λ h. record { head = h; shown = None }) c.plain_head.ensures) (ap (λ v. v.file) c.in_ok-version.ensures ∙ built.0) c.in_ok-push.ensures.items
