use Rattle.std.proofs.Common.{sym, ap, ◌∙◌, slice_set}
use Rattle.pc_book.specs.Change.{changed}
use Rattle.pc_book.specs.Visits.{reply_at}
use Rattle.pc_book.proofs.Places.{no_place, at_place, session_reply}
use Rattle.pc_book.proofs.guest.Guest.change.Goals as goal

pub returns-in_default-clause-reply : goal.returns-in_default-clause-reply
returns-in_default-clause-reply c =
    let none = no_place c.args.number c.args.self.now.sessions.items (sym (rw c.as_slice.ensures.value at c.in_default.ensures)) in
    c.refused.ensures ∙ ap (reply_at c.args.number (changed c.args.change)) (sym none.0)

pub returns-in_default-clause-sessions : goal.returns-in_default-clause-sessions
returns-in_default-clause-sessions c =
    let none = no_place c.args.number c.args.self.now.sessions.items (sym (rw c.as_slice.ensures.value at c.in_default.ensures)) in
    sym (none.1 (changed c.args.change))

pub returns-clause-reply : goal.returns-clause-reply
returns-clause-reply c =
    let there = at_place c.args.number c.args.self.now.sessions.items c.in-Some.place c.index_mut-session.result.now (sym (rw c.as_slice.ensures.value at c.in-Some.ensures)) (sym c.index_mut-session.ensures.value) in
    c.replied.ensures ∙ session_reply c.args.number (changed c.args.change) c.args.self.now.sessions.items c.index_mut-session.result.now c.changed.new.session c.in_ok-answer.answer there.0 c.in_ok-answer.ensures.session c.in_ok-answer.ensures.answer

pub returns-clause-sessions : goal.returns-clause-sessions
returns-clause-sessions c =
    let there = at_place c.args.number c.args.self.now.sessions.items c.in-Some.place c.index_mut-session.result.now (sym (rw c.as_slice.ensures.value at c.in-Some.ensures)) (sym c.index_mut-session.ensures.value) in
    ap (slice_set c.args.self.now.sessions.items c.in-Some.place) c.in_ok-answer.ensures.session ∙ sym (there.1 (changed c.args.change))
