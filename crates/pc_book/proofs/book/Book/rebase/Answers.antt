use Rattle.std.proofs.Common.{rules, ◌≡◌, ◌∙◌, List, [], ◌∷◌, ◌++◌, length, map, drop, sym, subst, ap, arith}
use Rattle.std.proofs.lemmas.List.{take_at}
use Rattle.pc_base.specs.Reserved.{Places}
use Rattle.pc_calls.specs.declared.call.Call.TheVariants.{Rebase}
use Rattle.pc_calls.specs.declared.entry.Entry.{Entry}
use Rattle.pc_book.specs.Book.{IsBook, Shares, history_of, state_of_book, with_entry}
use Rattle.pc_book.specs.Own.{StandsAfter, state_with}
use Rattle.pc_book.specs.Rebases.{IsMadeAt}
use Rattle.pc_book.specs.Sharing.{Brings}
use Rattle.pc_book.specs.Shelves.{shelved}
use Rattle.pc_book.specs.declared.shelf.Shelf.{Shelf}
use Rattle.pc_book.proofs.MoveLemmas.{enough-left, made-with, moved-journal}
use Rattle.pc_book.proofs.SharingLemmas.{brought-book, brought-shares, few-pins, seen-by}
use Rattle.pc_book.proofs.book.Book.rebase.Goals as goal

pub move_session-requires-clause-pins : goal.move_session-requires-clause-pins
move_session-requires-clause-pins c =
    let s = c.self.inside in
    let stands : StandsAfter (history_of s.journal.items) c.args.own.now = subst (λ (bs : List (List Entry)). StandsAfter (history_of bs) c.args.own.now) (sym c.self.view_is) c.requires.stands in
    rw c.as_mut_slice-shelves.ensures.value (few-pins s.journal.items c.args.own.now s.shelves.items s.entered s.present s.current stands c.self.invariant.0 (omega (arith, c.in_ok-make_room.ensures.small)))

pub move_session-requires-clause-enough : goal.move_session-requires-clause-enough
move_session-requires-clause-enough c =
    let s = c.self.inside in
    let stands : StandsAfter (history_of s.journal.items) c.args.own.now = subst (λ (bs : List (List Entry)). StandsAfter (history_of bs) c.args.own.now) (sym c.self.view_is) c.requires.stands in
    rw c.as_mut_slice-shelves.ensures.value (enough-left s.journal.items c.args.own.now stands s.shelves.items s.entered s.present s.current c.self.invariant.0)

stands : (c : goal.After-push) → StandsAfter (history_of c.self.inside.journal.items) c.args.own.now
stands c = subst (λ (bs : List (List Entry)). StandsAfter (history_of bs) c.args.own.now) (sym c.self.view_is) c.requires.stands

made : (c : goal.After-push) → IsMadeAt (state_with (history_of c.self.inside.journal.items) c.args.own.now) c.args.own.now c.args.session c.args.version c.args.dropping c.args.made
made c =
    made-with c.self.inside.journal.items c.args.own.now (stands c) c.args.session c.args.version c.args.dropping c.args.made
    (subst (λ (bs : List (List Entry)). IsMadeAt (state_of_book bs) c.args.own.now c.args.session c.args.version c.args.dropping c.args.made) (sym c.self.view_is) c.requires.made)

brought : (c : goal.After-push) → Brings (Rebase c.args.session c.args.version c.args.dropping) (state_with (history_of c.self.inside.journal.items) c.args.own.now) c.args.own.now c.move_session.new.own c.in_ok-reply.reply (map shelved c.move_session.new.shelves) c.self.inside.entered c.self.inside.present c.self.inside.current
brought c =
    let s = c.self.inside in
    c.in_ok-reply.ensures.brings c.args.dropping (state_with (history_of s.journal.items) c.args.own.now) s.entered s.present s.current
    (rw c.as_mut_slice-shelves.ensures.value (seen-by s.journal.items c.args.own.now (map shelved s.shelves.items) s.entered s.present s.current (stands c) c.self.invariant.0)) (made c)

written : (c : goal.After-push) → c.push.new.self.items ≡ c.self.inside.journal.items
    ++ (c.move_session.new.own.pending ++ record { caller = c.move_session.new.own.number; call = Rebase c.args.session c.args.version c.args.dropping; head = c.in_ok-reply.head } ∷ []) ∷ []
written c = search rules

appended : (c : goal.After-push) → c.push.new.self.items ≡ with_entry c.self.inside.journal.items c.args.own.now (Rebase c.args.session c.args.version c.args.dropping)
appended c =
    moved-journal c.self.inside.journal.items c.args.own.now c.move_session.new.own c.args.session c.args.version c.args.dropping c.in_ok-reply.reply c.in_ok-reply.head c.push.new.self.items
    (brought c).answer (brought c).same_number (brought c).same_pending c.in_ok-reply.ensures.head (written c)

pub invariant_of-self-2 : goal.invariant_of-self-2
invariant_of-self-2 c =
    let s = c.self.inside in
    let new = c.move_session.new.shelves in
    let said = Rebase c.args.session c.args.version c.args.dropping in
    let wide : length new ≡ s.shelves.len = c.in_ok-reply.ensures.count ∙ c.as_mut_slice-shelves.ensures.len in (
      subst (λ (ss : List Shelf). IsBook c.push.new.self.items (map shelved ss) s.entered s.present s.current) (sym {A = List Shelf} (take_at new (drop (length new) s.shelves.items) s.shelves.len wide))
          (brought-book s.journal.items c.args.own.now said (stands c) (stands c).entered c.move_session.new.own c.in_ok-reply.reply (map shelved new) s.entered s.present s.current (brought c)
          (map shelved s.shelves.items) s.entered s.present s.current c.self.invariant.0 c.push.new.self.items (appended c)),
      omega (arith, c.in_ok-make_room.ensures.room, ap (λ (p : Places (List Entry)). p.reserved) c.push.ensures),
    )

pub returns-clause-shares : goal.returns-clause-shares
returns-clause-shares c =
    let s = c.self.inside in
    let said = Rebase c.args.session c.args.version c.args.dropping in
    subst (λ (bs : List (List Entry)). Shares said bs c.push.new.self.items c.args.own.now c.seal-block.new.self c.in_ok-reply.reply) c.self.view_is
    (brought-shares s.journal.items c.args.own.now said (stands c) (stands c).entered c.move_session.new.own c.in_ok-reply.reply (map shelved c.move_session.new.shelves) s.entered s.present s.current (brought c)
    c.seal-block.new.self c.push.new.self.items c.seal-block.ensures.part (appended c))
