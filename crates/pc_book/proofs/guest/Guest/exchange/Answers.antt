use Rattle.std.proofs.Common.{◌≡◌, Some, None, sym, ap, ◌∙◌}
use Rattle.std.specs.List.{position}
use Rattle.pc_book.specs.Visits.{has_number}
use Rattle.pc_book.proofs.Places.{no_place, at_place}
use Rattle.pc_book.proofs.RebaseLemmas.{exchange-at, exchange-nowhere, version-at, version-nowhere}
use Rattle.pc_book.proofs.guest.Guest.exchange.Goals as goal

nowhere : (c : goal.Joined-session-2) → position (has_number c.args.session.number) c.args.self.now.sessions.items ≡ None
nowhere c = ap (λ n. position (has_number n) c.args.self.now.sessions.items) (sym c.number.ensures) ∙ sym (rw c.as_slice.ensures.value at c.in_default.ensures)

there : (c : goal.Joined-index_mut-session-2) → position (has_number c.args.session.number) c.args.self.now.sessions.items ≡ Some c.in-Some.place
there c = ap (λ n. position (has_number n) c.args.self.now.sessions.items) (sym c.number.ensures) ∙ sym (rw c.as_slice.ensures.value at c.in-Some.ensures)

pub returns-in_default-clause-version : goal.returns-in_default-clause-version
returns-in_default-clause-version c = version-nowhere c.args.session.number c.args.self.now.sessions.items (no_place c.args.session.number c.args.self.now.sessions.items (nowhere c)).0

pub returns-in_default-clause-sessions : goal.returns-in_default-clause-sessions
returns-in_default-clause-sessions c = exchange-nowhere c.args.session c.args.self.now.sessions.items (nowhere c)

pub returns-clause-version : goal.returns-clause-version
returns-clause-version c =
    c.version-left.ensures ∙ version-at c.args.session.number c.args.self.now.sessions.items c.index.result.now (at_place c.args.session.number c.args.self.now.sessions.items c.in-Some.place c.index.result.now (there c) (sym c.index.ensures)).0

pub returns-clause-sessions : goal.returns-clause-sessions
returns-clause-sessions c = exchange-at c.args.session c.args.self.now.sessions.items c.in-Some.place (there c)
