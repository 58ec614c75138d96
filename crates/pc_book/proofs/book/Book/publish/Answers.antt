use Rattle.std.proofs.Common.{rules, ◌≡◌, List, [], ◌∷◌, ◌++◌, map, refl, sym, subst, ap, arith}
use Rattle.pc_base.specs.Reserved.{Places}
use Rattle.pc_calls.specs.declared.call.Call.TheVariants.{Publish}
use Rattle.pc_calls.specs.declared.entry.Entry.{Entry}
use Rattle.pc_book.specs.Book.{Shares, history_of, with_entry}
use Rattle.pc_book.specs.Own.{StandsAfter, state_with}
use Rattle.pc_book.specs.Sharing.{Brings}
use Rattle.pc_book.specs.Shelves.{shelved}
use Rattle.pc_book.specs.Visits.{plain_head}
use Rattle.pc_book.proofs.SharingLemmas.{brought-book, brought-journal, brought-shares, seen-by}
use Rattle.pc_book.proofs.book.Book.publish.Goals as goal

stands : (c : goal.After-push) → StandsAfter (history_of c.self.inside.journal.items) c.args.own.now
stands c = subst (λ (bs : List (List Entry)). StandsAfter (history_of bs) c.args.own.now) (sym c.self.view_is) c.requires.stands

brought : (c : goal.After-push) → Brings (Publish c.args.base c.args.file) (state_with (history_of c.self.inside.journal.items) c.args.own.now) c.args.own.now c.args.own.now c.in_ok-reply.reply (map shelved c.shelve_built.new.shelves.items) c.self.inside.entered c.self.inside.present c.shelve_built.new.current
brought c =
    let s = c.self.inside in
    c.in_ok-reply.ensures.brings c.args.file c.requires.built (state_with (history_of s.journal.items) c.args.own.now) c.args.own.now s.entered s.present
    (seen-by s.journal.items c.args.own.now (map shelved s.shelves.items) s.entered s.present s.current (stands c) c.self.invariant.0)

written : (c : goal.After-push) → c.push.new.self.items ≡ c.self.inside.journal.items
    ++ (c.args.own.now.pending ++ record { caller = c.args.own.now.number; call = Publish c.args.base c.args.file; head = plain_head c.in_ok-reply.reply.head.session c.in_ok-reply.reply.head.version c.in_ok-reply.reply.head.outcome } ∷ []) ∷ []
written c = search rules

appended : (c : goal.After-push) → c.push.new.self.items ≡ with_entry c.self.inside.journal.items c.args.own.now (Publish c.args.base c.args.file)
appended c =
    let s = c.self.inside in
    brought-journal s.journal.items c.args.own.now (Publish c.args.base c.args.file) (stands c) (stands c).entered c.args.own.now c.in_ok-reply.reply (map shelved c.shelve_built.new.shelves.items) s.entered s.present c.shelve_built.new.current (brought c) c.push.new.self.items refl (written c)

pub invariant_of-self-2 : goal.invariant_of-self-2
invariant_of-self-2 c =
    let s = c.self.inside in (
      brought-book s.journal.items c.args.own.now (Publish c.args.base c.args.file) (stands c) (stands c).entered c.args.own.now c.in_ok-reply.reply (map shelved c.shelve_built.new.shelves.items) s.entered s.present c.shelve_built.new.current (brought c)
          (map shelved s.shelves.items) s.entered s.present s.current c.self.invariant.0 c.push.new.self.items (appended c),
      omega (arith, c.in_ok-make_room.ensures.room, ap (λ (p : Places (List Entry)). p.reserved) c.push.ensures),
    )

pub returns-clause-shares : goal.returns-clause-shares
returns-clause-shares c =
    let s = c.self.inside in
    subst (λ (bs : List (List Entry)). Shares (Publish c.args.base c.args.file) bs c.push.new.self.items c.args.own.now c.seal-block.new.self c.in_ok-reply.reply) c.self.view_is
    (brought-shares s.journal.items c.args.own.now (Publish c.args.base c.args.file) (stands c) (stands c).entered c.args.own.now c.in_ok-reply.reply (map shelved c.shelve_built.new.shelves.items) s.entered s.present c.shelve_built.new.current (brought c)
    c.seal-block.new.self c.push.new.self.items c.seal-block.ensures.part (appended c))
