use Rattle.std.proofs.Common.{sym, ap, ◌∙◌, None}
use Rattle.pc_calls.specs.declared.outcome.Outcome.TheVariants.{Done}
use Rattle.pc_book.specs.Visits.{close_reply, plain_head}
use Rattle.pc_book.proofs.Places.{no_place, at_place}
use Rattle.pc_book.proofs.guest.Guest.close.Goals as goal

pub returns-in_default-clause-reply : goal.returns-in_default-clause-reply
returns-in_default-clause-reply c =
    let none = no_place c.args.number c.args.self.now.sessions.items (sym (rw c.as_slice.ensures.value at c.in_default.ensures)) in
    c.refused.ensures ∙ ap (close_reply c.args.number) (sym none.0)

pub returns-in_default-clause-sessions : goal.returns-in_default-clause-sessions
returns-in_default-clause-sessions c =
    let none = no_place c.args.number c.args.self.now.sessions.items (sym (rw c.as_slice.ensures.value at c.in_default.ensures)) in
    sym none.2

pub returns-clause-reply : goal.returns-clause-reply
returns-clause-reply c =
    let there = at_place c.args.number c.args.self.now.sessions.items c.in-Some.place c.remove-session.result (sym (rw c.as_slice.ensures.value at c.in-Some.ensures)) (sym c.remove-session.ensures.value) in
    ap (λ h. record { head = h; shown = None }) (c.plain_head.ensures ∙ ap (λ v. plain_head c.args.number v Done) c.version.ensures) ∙ ap (close_reply c.args.number) (sym there.0)

pub returns-clause-sessions : goal.returns-clause-sessions
returns-clause-sessions c =
    let there = at_place c.args.number c.args.self.now.sessions.items c.in-Some.place c.remove-session.result (sym (rw c.as_slice.ensures.value at c.in-Some.ensures)) (sym c.remove-session.ensures.value) in
    c.remove-session.ensures.items ∙ sym there.2
