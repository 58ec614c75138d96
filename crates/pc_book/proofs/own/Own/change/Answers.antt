use Rattle.std.proofs.Common.{◌≡◌, ap, subst, ◌∙◌}
use Rattle.pc_base.specs.Reserved.{Places}
use Rattle.pc_calls.specs.declared.call.Call.{Call}
use Rattle.pc_calls.specs.declared.entry.Entry.{Entry}
use Rattle.pc_book.specs.Change.{change_call, changed}
use Rattle.pc_book.specs.Own.{OwnPart, own_after}
use Rattle.pc_book.specs.Visits.{plain_head, reply_among}
use Rattle.pc_book.proofs.OwnLemmas.{is_change, own_of, part_after, serves_by}
use Rattle.pc_book.proofs.own.Own.change.Goals as goal

pub returns-clause-part : goal.returns-clause-part
returns-clause-part c =
    let s = c.self.inside in
    let call = change_call c.args.session c.args.change in
    let reply = c.in_ok-reply.reply in
    let noted : c.noted-entry.result ≡ record { caller = s.number; call = call; head = plain_head reply.head.session reply.head.version reply.head.outcome } =
    c.noted-entry.ensures ∙ ap (λ (said : Call). record { caller = s.number; call = said; head = plain_head reply.head.session reply.head.version reply.head.outcome }) c.call-call.ensures in
    subst (λ (own : OwnPart). own_of s.number c.change.new.self.opened c.change.new.self.sessions.items c.push.new.self.items ≡ own_after call c.args.session (changed c.args.change) own) c.self.view_is
    (part_after (own_of s.number s.guest.opened s.guest.sessions.items s.pending.items) call c.args.session (changed c.args.change) reply c.change.new.self.opened c.change.new.self.sessions.items c.push.new.self.items c.reserve.new.self.items c.noted-entry.result
    c.in_ok-reply.ensures.reply c.in_ok-reply.ensures.opened c.in_ok-reply.ensures.sessions c.reserve.ensures.items noted (ap (λ (p : Places Entry). p.items) c.push.ensures))

pub returns-clause-serves : goal.returns-clause-serves
returns-clause-serves c =
    serves_by c.args.self.now _ (change_call c.args.session c.args.change) c.args.session (changed c.args.change) c.in_ok-reply.reply (is_change c.args.session c.args.change)
    (c.in_ok-reply.ensures.reply ∙ ap (λ (own : OwnPart). reply_among c.args.session (changed c.args.change) own.sessions) c.self.view_is) (returns-clause-part c)
