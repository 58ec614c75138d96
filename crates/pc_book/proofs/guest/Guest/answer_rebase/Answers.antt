use Rattle.std.proofs.Common.{◌≡◌, ◌==◌, true, false, Option, None, IfOk, sym, subst, ap, ◌∙◌, arith}
use Rattle.std.proofs.lemmas.Bool.Decides.{nat_tests}
use Rattle.pc_calls.specs.declared.outcome.Outcome.TheVariants.{NoSession, NotLive, SameVersion}
use Rattle.pc_calls.specs.declared.reply.Reply.{Reply}
use Rattle.pc_session.specs.Visit.{Visit}
use Rattle.pc_book.specs.Rebases.{given_by, given_made, stays_at}
use Rattle.pc_book.proofs.Places.{no_place, at_place}
use Rattle.pc_book.proofs.RebaseLemmas.{rebase-at, rebase-dead, rebase-live, rebase-nowhere}
use Rattle.pc_book.proofs.guest.Guest.answer_rebase.Goals as goal

-- a reply, and no session
abbrev alone : Reply → Reply × Option Visit
alone reply = (reply, None)

pub returns-in_default : goal.returns-in_default
returns-in_default c =
    let none = no_place c.args.number c.args.self.now.sessions.items (sym (rw c.as_slice.ensures.value at c.in_default.ensures)) in
    ap alone c.refused.ensures ∙ rebase-nowhere c.args.self.now.sessions.items c.args.number c.args.version c.args.live c.args.made none.0

pub returns-then-version-at : goal.returns-then-version-at
returns-then-version-at c =
    let visit = c.index.result.now in
    let there = at_place c.args.number c.args.self.now.sessions.items c.in-Some.place visit (sym (rw c.as_slice.ensures.value at c.in-Some.ensures)) (sym c.index.ensures) in
    let same : (c.args.version == visit.version) ≡ true = grind (arith, nat_tests, c.if-version-at.true, c.version-at.ensures) in
    ap alone c.refused-then-version-at.ensures ∙ ap (λ n. stays_at c.args.number n SameVersion) c.version-at.ensures
    ∙ rebase-at c.args.self.now.sessions.items c.args.number c.args.version c.args.live c.args.made visit there.0 true same

pub returns-then-not-live : goal.returns-then-not-live
returns-then-not-live c =
    let visit = c.index.result.now in
    let there = at_place c.args.number c.args.self.now.sessions.items c.in-Some.place visit (sym (rw c.as_slice.ensures.value at c.in-Some.ensures)) (sym c.index.ensures) in
    let other : (c.args.version == visit.version) ≡ false = grind (arith, nat_tests, c.if-version-at.false, c.version-at.ensures) in
    ap alone c.refused-then-not-live.ensures ∙ ap (λ n. stays_at c.args.number n (NotLive c.args.version)) c.version-at.ensures
    ∙ rebase-dead c.args.self.now.sessions.items c.args.number c.args.version c.args.live c.args.made visit there.0 other c.if-not-live.true

pub returns-in-None : goal.returns-in-None
returns-in-None c =
    let visit = c.index.result.now in
    let there = at_place c.args.number c.args.self.now.sessions.items c.in-Some.place visit (sym (rw c.as_slice.ensures.value at c.in-Some.ensures)) (sym c.index.ensures) in
    let other : (c.args.version == visit.version) ≡ false = grind (arith, nat_tests, c.if-version-at.false, c.version-at.ensures) in
    ap alone c.refused-in-None.ensures ∙ ap (λ n. stays_at c.args.number n NoSession) c.version-at.ensures ∙ ap (given_made c.args.number visit.version) (sym c.in-None.is)
    ∙ rebase-live c.args.self.now.sessions.items c.args.number c.args.version c.args.live c.args.made visit there.0 other c.if-not-live.false

pub returns-in-Some-made : goal.returns-in-Some-made
returns-in-Some-made c =
    let visit = c.index.result.now in
    let there = at_place c.args.number c.args.self.now.sessions.items c.in-Some.place visit (sym (rw c.as_slice.ensures.value at c.in-Some.ensures)) (sym c.index.ensures) in
    let other : (c.args.version == visit.version) ≡ false = grind (arith, nat_tests, c.if-version-at.false, c.version-at.ensures) in
    subst (λ (q : Reply × Option Visit). IfOk c.answer_made.result (λ p. p ≡ q))
    (ap (λ n. given_by c.args.number n c.in-Some-made.made) c.version-at.ensures ∙ ap (given_made c.args.number visit.version) (sym c.in-Some-made.is)
    ∙ rebase-live c.args.self.now.sessions.items c.args.number c.args.version c.args.live c.args.made visit there.0 other c.if-not-live.false) c.answer_made.ensures
