use Rattle.std.proofs.Common.{◌≡◌, List, ◌+◌, map, rules, ap, sym, subst, arith}
use Rattle.pc_base.specs.Reserved.{Places}
use Rattle.pc_calls.specs.declared.entry.Entry.{Entry}
use Rattle.pc_book.specs.Book.{IsBook, history_of}
use Rattle.pc_book.specs.Own.{StandsAfter}
use Rattle.pc_book.specs.Shelves.{shelved}
use Rattle.pc_book.proofs.EnterLemmas.{book-entered, entered-blocks, enters}
use Rattle.pc_book.proofs.book.Book.enter.Goals as goal

appended : (c : goal.After-new) → c.push-2.new.self.items ≡ entered-blocks c.self.inside.journal.items
appended c = search rules

pub invariant_of-self-2 : goal.invariant_of-self-2
invariant_of-self-2 c =
    let s = c.self.inside in (
      subst (λ (blocks : List (List Entry)). IsBook blocks (map shelved s.shelves.items) (s.entered + 1) (s.present + 1) s.current) (sym (appended c)) (book-entered s.journal.items (map shelved s.shelves.items) s.entered s.present s.current c.self.invariant.0),
      omega (arith, c.in_ok-make_room.ensures.room, ap (λ (p : Places (List Entry)). p.reserved) c.push-2.ensures),
    )

pub returns-clause-stands : goal.returns-clause-stands
returns-clause-stands c =
    subst (λ (blocks : List (List Entry)). StandsAfter (history_of blocks) c.new.result) (sym (appended c)) (enters c.self.inside.journal.items c.self.invariant.0.legal c.new.result (search rules))
