use Rattle.std.proofs.Common.{◌≡◌, refl, sym, ap, subst, ◌∙◌}
use Rattle.pc_base.specs.Reserved.{Places}
use Rattle.pc_calls.specs.declared.call.Call.TheVariants.{Show}
use Rattle.pc_calls.specs.declared.entry.Entry.{Entry}
use Rattle.pc_calls.specs.Selection.{show}
use Rattle.pc_book.specs.Own.{OwnPart, own_after}
use Rattle.pc_book.specs.Visits.{reply_among}
use Rattle.pc_book.proofs.OwnLemmas.{own_of, part_after, serves_by}
use Rattle.pc_book.proofs.VisitLemmas.{shown_leaves}
use Rattle.pc_book.proofs.own.Own.show.Goals as goal

pub returns-clause-part : goal.returns-clause-part
returns-clause-part c =
    let s = c.self.inside in
    subst (λ (own : OwnPart). own_of s.number s.guest.opened s.guest.sessions.items c.push.new.self.items ≡ own_after (Show c.args.session) c.args.session show own) c.self.view_is
    (part_after (own_of s.number s.guest.opened s.guest.sessions.items s.pending.items) (Show c.args.session) c.args.session show c.in_ok-reply.reply s.guest.opened s.guest.sessions.items c.push.new.self.items c.reserve.new.self.items c.noted-entry.result
    c.in_ok-reply.ensures refl (sym (shown_leaves c.args.session s.guest.sessions.items)) c.reserve.ensures.items c.noted-entry.ensures (ap (λ (p : Places Entry). p.items) c.push.ensures))

pub returns-clause-serves : goal.returns-clause-serves
returns-clause-serves c =
    serves_by c.args.self.now _ (Show c.args.session) c.args.session show c.in_ok-reply.reply refl
    (c.in_ok-reply.ensures ∙ ap (λ (own : OwnPart). reply_among c.args.session show own.sessions) c.self.view_is) (returns-clause-part c)
