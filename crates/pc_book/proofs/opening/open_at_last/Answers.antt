use Rattle.std.proofs.Common.{rules, sym, ap, ◌∙◌, arith}
use Rattle.std.specs.Option.{option_copied}
use Rattle.pc_book.proofs.OpenLemmas.{open-done, open-early, open-full}
use Rattle.pc_book.proofs.opening.open_at_last.Goals as goal

pub returns-in_default-clause-brings : goal.returns-in_default-clause-brings
returns-in_default-clause-brings c state entered present now seen =
    open-early state c.args.own.now c.args.shelves.now entered present now seen c.refused.result (sym c.last.ensures.value ∙ ap option_copied c.in_default.is) c.refused.ensures

pub returns-then-count-ge-MOST_SESSIONS-clause-brings : goal.returns-then-count-ge-MOST_SESSIONS-clause-brings
returns-then-count-ge-MOST_SESSIONS-clause-brings c state entered present now seen =
    open-full state c.args.own.now c.args.shelves.now entered present now seen c.refused-then-count-ge-MOST_SESSIONS.result c.in-Some.shelf.now (sym c.in-Some.ensures.value)
    (omega (arith, c.count.ensures, c.if-count-ge-MOST_SESSIONS.true)) c.refused-then-count-ge-MOST_SESSIONS.ensures

pub returns-clause-brings : goal.returns-clause-brings
returns-clause-brings c state entered present now seen =
    open-done state c.args.own.now c.args.shelves.now entered present now seen c.in-Some.shelf.now (sym c.in-Some.ensures.value) (omega (arith, c.count.ensures, c.if-count-ge-MOST_SESSIONS.false))
    c.in_ok-reply.reply c.open.new.self c.pin.new.shelves (search rules) (search rules) (search rules)
