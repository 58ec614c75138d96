use Rattle.std.proofs.Common.{rules, ◌≡◌, ◌∙◌, List, [], ◌∷◌, ◌++◌, length, map, drop, refl, sym, subst, ap, arith}
use Rattle.std.proofs.lemmas.List.{take_at}
use Rattle.pc_base.specs.Reserved.{Places}
use Rattle.pc_calls.specs.declared.call.Call.TheVariants.{Open}
use Rattle.pc_calls.specs.declared.entry.Entry.{Entry}
use Rattle.pc_book.specs.Book.{IsBook, Shares, history_of, with_entry}
use Rattle.pc_book.specs.Own.{StandsAfter, state_with}
use Rattle.pc_book.specs.Sharing.{Brings}
use Rattle.pc_book.specs.Shelves.{shelved}
use Rattle.pc_book.specs.Visits.{plain_head}
use Rattle.pc_book.specs.declared.shelf.Shelf.{Shelf}
use Rattle.pc_book.proofs.SharingLemmas.{brought-book, brought-journal, brought-shares, few-opened, few-pins, seen-by}
use Rattle.pc_book.proofs.book.Book.open_session.Goals as goal

pub open_at_last-requires-clause-pins : goal.open_at_last-requires-clause-pins
open_at_last-requires-clause-pins c =
    let s = c.self.inside in
    let stands : StandsAfter (history_of s.journal.items) c.args.own.now = subst (λ (bs : List (List Entry)). StandsAfter (history_of bs) c.args.own.now) (sym c.self.view_is) c.requires.stands in
    rw c.as_mut_slice.ensures.value (few-pins s.journal.items c.args.own.now s.shelves.items s.entered s.present s.current stands c.self.invariant.0 (omega (arith, c.in_ok-make_room.ensures.small)))

pub open_at_last-requires-clause-room : goal.open_at_last-requires-clause-room
open_at_last-requires-clause-room c =
    let s = c.self.inside in
    let stands : StandsAfter (history_of s.journal.items) c.args.own.now = subst (λ (bs : List (List Entry)). StandsAfter (history_of bs) c.args.own.now) (sym c.self.view_is) c.requires.stands in
    omega (arith, c.in_ok-make_room.ensures.small, few-opened s.journal.items c.args.own.now (map shelved s.shelves.items) s.entered s.present s.current stands c.self.invariant.0)

stands : (c : goal.After-push) → StandsAfter (history_of c.self.inside.journal.items) c.args.own.now
stands c = subst (λ (bs : List (List Entry)). StandsAfter (history_of bs) c.args.own.now) (sym c.self.view_is) c.requires.stands

brought : (c : goal.After-push) → Brings Open (state_with (history_of c.self.inside.journal.items) c.args.own.now) c.args.own.now c.open_at_last.new.own c.in_ok-reply.reply (map shelved c.open_at_last.new.shelves) c.self.inside.entered c.self.inside.present c.self.inside.current
brought c =
    let s = c.self.inside in
    c.in_ok-reply.ensures.brings (state_with (history_of s.journal.items) c.args.own.now) s.entered s.present s.current
    (rw c.as_mut_slice.ensures.value (seen-by s.journal.items c.args.own.now (map shelved s.shelves.items) s.entered s.present s.current (stands c) c.self.invariant.0))

written : (c : goal.After-push) → c.push.new.self.items ≡ c.self.inside.journal.items
    ++ (c.open_at_last.new.own.pending ++ record { caller = c.open_at_last.new.own.number; call = Open; head = plain_head c.in_ok-reply.reply.head.session c.in_ok-reply.reply.head.version c.in_ok-reply.reply.head.outcome } ∷ []) ∷ []
written c = search rules

appended : (c : goal.After-push) → c.push.new.self.items ≡ with_entry c.self.inside.journal.items c.args.own.now Open
appended c =
    let s = c.self.inside in
    brought-journal s.journal.items c.args.own.now Open (stands c) (stands c).entered c.open_at_last.new.own c.in_ok-reply.reply (map shelved c.open_at_last.new.shelves) s.entered s.present s.current (brought c) c.push.new.self.items refl (written c)

pub invariant_of-self-2 : goal.invariant_of-self-2
invariant_of-self-2 c =
    let s = c.self.inside in
    let new = c.open_at_last.new.shelves in
    let wide : length new ≡ s.shelves.len = c.in_ok-reply.ensures.count ∙ c.as_mut_slice.ensures.len in (
      subst (λ (ss : List Shelf). IsBook c.push.new.self.items (map shelved ss) s.entered s.present s.current) (sym {A = List Shelf} (take_at new (drop (length new) s.shelves.items) s.shelves.len wide))
          (brought-book s.journal.items c.args.own.now Open (stands c) (stands c).entered c.open_at_last.new.own c.in_ok-reply.reply (map shelved new) s.entered s.present s.current (brought c)
          (map shelved s.shelves.items) s.entered s.present s.current c.self.invariant.0 c.push.new.self.items (appended c)),
      omega (arith, c.in_ok-make_room.ensures.room, ap (λ (p : Places (List Entry)). p.reserved) c.push.ensures),
    )

pub returns-clause-shares : goal.returns-clause-shares
returns-clause-shares c =
    let s = c.self.inside in
    subst (λ (bs : List (List Entry)). Shares Open bs c.push.new.self.items c.args.own.now c.seal-block.new.self c.in_ok-reply.reply) c.self.view_is
    (brought-shares s.journal.items c.args.own.now Open (stands c) (stands c).entered c.open_at_last.new.own c.in_ok-reply.reply (map shelved c.open_at_last.new.shelves) s.entered s.present s.current (brought c)
    c.seal-block.new.self c.push.new.self.items c.seal-block.ensures.part (appended c))
