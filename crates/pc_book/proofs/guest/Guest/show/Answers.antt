use Rattle.std.proofs.Common.{refl, sym, ap, ◌∙◌, Some}
use Rattle.pc_calls.specs.Selection.{show}
use Rattle.pc_book.specs.Visits.{reply_at}
use Rattle.pc_book.proofs.Places.{no_place, at_place, session_reply}
use Rattle.pc_book.proofs.guest.Guest.show.Goals as goal

pub returns-in_default : goal.returns-in_default
returns-in_default c =
    let none = no_place c.args.number c.args.self.now.sessions.items (sym (rw c.as_slice.ensures.value at c.in_default.ensures)) in
    c.refused.ensures ∙ ap (reply_at c.args.number show) (sym none.0)

pub returns : goal.returns
returns c =
    let there = at_place c.args.number c.args.self.now.sessions.items c.in-Some.place c.index-session.result.now (sym (rw c.as_slice.ensures.value at c.in-Some.ensures)) (sym c.index-session.ensures) in
    c.replied.ensures ∙ session_reply c.args.number show c.args.self.now.sessions.items c.index-session.result.now c.index-session.result.now _ there.0 refl (ap (λ l. record { outcome = _; listing = Some l }) c.in_ok-show.ensures)
