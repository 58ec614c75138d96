use Rattle.std.proofs.Common.{◌≡◌, List, [], ◌∷◌, ◌++◌, map, None, rules, ap, sym, subst, ◌∙◌, arith}
use Rattle.pc_base.specs.Reserved.{Places}
use Rattle.pc_calls.specs.declared.call.Call.TheVariants.{Versions}
use Rattle.pc_calls.specs.declared.entry.Entry.{Entry}
use Rattle.pc_calls.specs.declared.reply.Reply.{Reply}
use Rattle.pc_calls.specs.Heads.{reply}
use Rattle.pc_calls.specs.State.{State}
use Rattle.pc_book.specs.Book.{IsBook, IsKeptOf, history_of, with_entry}
use Rattle.pc_book.specs.Own.{OwnPart, StandsAfter, state_with}
use Rattle.pc_book.specs.Shelves.{shelved}
use Rattle.pc_book.proofs.BookLemmas.{appended-as, book-shared, kept-with, part-sealed, shares, shares-as}
use Rattle.pc_book.proofs.VersionsLemmas.{versions-told}
use Rattle.pc_book.proofs.book.Book.versions.Goals as goal

module _ (c : goal.After-push) where
  blocks : List (List Entry)
  blocks = c.self.inside.journal.items

  own : OwnPart
  own = c.args.own.now

  state : State
  state = state_with (history_of c.self.inside.journal.items) c.args.own.now

  stands : StandsAfter (history_of c.self.inside.journal.items) c.args.own.now
  stands = subst (λ bs. StandsAfter (history_of bs) c.args.own.now) (sym c.self.view_is) c.requires.stands

  kept : IsKeptOf (state_with (history_of c.self.inside.journal.items) c.args.own.now) (map shelved c.self.inside.shelves.items) c.self.inside.entered c.self.inside.present c.self.inside.current
  kept = kept-with c.self.inside.journal.items c.args.own.now stands (map shelved c.self.inside.shelves.items) c.self.inside.entered c.self.inside.present c.self.inside.current c.self.invariant.0

  noted : record { head = c.in_ok-noted.noted; shown = None } ≡ reply c.args.own.now.number Versions (state_with (history_of c.self.inside.journal.items) c.args.own.now)
  noted = versions-told c.args.own.now.number (state_with (history_of c.self.inside.journal.items) c.args.own.now) c.self.inside.shelves.items c.self.inside.entered c.self.inside.present c.self.inside.current kept (record { head = c.in_ok-noted.noted; shown = None }) (search rules)

  answered : record { head = c.in_ok-live_head.field-0; shown = None } ≡ reply c.args.own.now.number Versions (state_with (history_of c.self.inside.journal.items) c.args.own.now)
  answered = versions-told c.args.own.now.number (state_with (history_of c.self.inside.journal.items) c.args.own.now) c.self.inside.shelves.items c.self.inside.entered c.self.inside.present c.self.inside.current kept (record { head = c.in_ok-live_head.field-0; shown = None }) (search rules)

  items : c.push.new.self.items ≡ c.self.inside.journal.items ++ (c.args.own.now.pending ++ record { caller = c.args.own.now.number; call = Versions; head = c.in_ok-noted.noted } ∷ []) ∷ []
  items = search rules

  appended : c.push.new.self.items ≡ with_entry c.self.inside.journal.items c.args.own.now Versions
  appended = items ∙ appended-as c.self.inside.journal.items c.args.own.now Versions c.in_ok-noted.noted (ap (λ (r : Reply). r.head) noted)

pub invariant_of-self-2 : goal.invariant_of-self-2
invariant_of-self-2 c =
    let s = c.self.inside in (
      subst (λ (bs : List (List Entry)). IsBook bs (map shelved s.shelves.items) s.entered s.present s.current) (sym (appended c))
          (book-shared s.journal.items c.args.own.now Versions (stands c) s.entered s.present s.current (map shelved s.shelves.items) c.self.invariant.0 (stands c).entered (map shelved s.shelves.items) s.entered s.present s.current (λ k. k)),
      omega (arith, c.in_ok-make_room.ensures.room, ap (λ (p : Places (List Entry)). p.reserved) c.push.ensures),
    )

pub returns-clause-shares : goal.returns-clause-shares
returns-clause-shares c =
    shares-as Versions c.args.self.now c.self.inside.journal.items c.push.new.self.items c.args.own.now c.seal-block.new.self (record { head = c.in_ok-live_head.field-0; shown = None }) c.self.view_is (appended c)
    (shares c.self.inside.journal.items c.args.own.now Versions (stands c) c.seal-block.new.self (record { head = c.in_ok-live_head.field-0; shown = None }) (answered c) (search rules) (search rules) (stands c).entered
    (part-sealed _ c.args.own.now c.seal-block.new.self (search rules) (stands c).part) (stands c).entered)
