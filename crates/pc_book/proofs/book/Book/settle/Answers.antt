use Rattle.std.proofs.Common.{◌≡◌, List, [], ◌∷◌, ◌++◌, map, rules, ap, sym, subst, arith}
use Rattle.pc_base.specs.Reserved.{Places}
use Rattle.pc_calls.specs.declared.entry.Entry.{Entry}
use Rattle.pc_book.specs.Book.{IsBook, history_of}
use Rattle.pc_book.specs.Own.{StandsAfter}
use Rattle.pc_book.specs.Shelves.{shelved}
use Rattle.pc_book.proofs.BookLemmas.{book-settled, settles}
use Rattle.pc_book.proofs.book.Book.settle.Goals as goal

stands : (c : goal.After-push) → StandsAfter (history_of c.self.inside.journal.items) c.args.own.now
stands c = subst (λ bs. StandsAfter (history_of bs) c.args.own.now) (sym c.self.view_is) c.requires.stands

appended : (c : goal.After-push) → c.push.new.self.items ≡ c.self.inside.journal.items ++ c.args.own.now.pending ∷ []
appended c = search rules

pub invariant_of-self-2 : goal.invariant_of-self-2
invariant_of-self-2 c =
    let s = c.self.inside in (
      subst (λ (bs : List (List Entry)). IsBook bs (map shelved s.shelves.items) s.entered s.present s.current) (sym (appended c))
          (book-settled s.journal.items c.args.own.now (stands c) (map shelved s.shelves.items) s.entered s.present s.current c.self.invariant.0),
      omega (arith, c.in_ok-make_room.ensures.room, ap (λ (p : Places (List Entry)). p.reserved) c.push.ensures),
    )

pub returns-clause-stands : goal.returns-clause-stands
returns-clause-stands c =
    subst (λ (bs : List (List Entry)). StandsAfter (history_of bs) c.settle-block.new.self) (sym (appended c)) (settles c.self.inside.journal.items c.args.own.now c.settle-block.new.self (stands c) (search rules))
