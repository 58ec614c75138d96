use Rattle.std.proofs.Common.{◌≡◌, ◌-◌, ◌≤◌, List, length, map, All, rules, ap, sym, subst, ◌∙◌, arith}
use Rattle.pc_base.specs.Reserved.{Places}
use Rattle.pc_calls.specs.declared.call.Call.TheVariants.{Leave}
use Rattle.pc_calls.specs.declared.entry.Entry.{Entry}
use Rattle.pc_session.specs.Visit.{Visit}
use Rattle.pc_book.specs.declared.shelf.Shelf.{Shelf}
use Rattle.pc_book.specs.Book.{IsBook, history_of, with_entry}
use Rattle.pc_book.specs.Own.{state_with}
use Rattle.pc_book.specs.Shelves.{repinned, shelved, visits_at}
use Rattle.pc_book.proofs.BookLemmas.{book-shared, stands-at}
use Rattle.pc_book.proofs.LeaveLemmas.{enough-left, kept-left, someone-left}
use Rattle.pc_book.proofs.WrittenLemmas.{written-over}
use Rattle.pc_book.proofs.book.Book.leave.Goals as goal

pub unpin_all-requires : goal.unpin_all-requires
unpin_all-requires c =
    let s = c.self.inside in
    subst (λ (vs : List Visit). All (λ (shelf : Shelf). visits_at vs shelf.number ≤ shelf.pins) c.deref_mut.result.now) (sym (c.as_slice.ensures.value ∙ c.leave-block.ensures.sessions))
    (subst (All (λ (shelf : Shelf). visits_at c.args.own.sessions shelf.number ≤ shelf.pins)) (sym c.deref_mut.ensures.value)
    (enough-left s.journal.items c.args.own (stands-at c.args.self.now s.journal.items c.args.own c.self.view_is c.requires.stands) s.shelves.items s.entered s.present s.current c.self.invariant.0))

pub overflow_sub-self : goal.overflow_sub-self
overflow_sub-self c =
    let s = c.self.inside in
    someone-left s.journal.items c.args.own (stands-at c.args.self.now s.journal.items c.args.own c.self.view_is c.requires.stands) s.shelves.items s.entered s.present s.current c.self.invariant.0

pub push-requires : goal.push-requires
push-requires c =
    let s = c.self.inside in
    omega (arith, c.self.invariant.1, someone-left s.journal.items c.args.own (stands-at c.args.self.now s.journal.items c.args.own c.self.view_is c.requires.stands) s.shelves.items s.entered s.present s.current c.self.invariant.0)

pub invariant_of-self : goal.invariant_of-self
invariant_of-self c =
    let s = c.self.inside in
    let own = c.args.own in
    let stands = stands-at c.args.self.now s.journal.items own c.self.view_is c.requires.stands in
    let someone = someone-left s.journal.items own stands s.shelves.items s.entered s.present s.current c.self.invariant.0 in
    let appended : c.push.new.self.items ≡ with_entry s.journal.items own Leave = search rules in
    let changed : c.unpin_all.new.shelves ≡ map (repinned (λ number pins. pins - visits_at own.sessions number)) s.shelves.items =
    c.unpin_all.ensures
    ∙ ap (λ (vs : List Visit). map (repinned (λ number pins. pins - visits_at vs number)) c.deref_mut.result.now) (c.as_slice.ensures.value ∙ c.leave-block.ensures.sessions)
    ∙ ap (map (repinned (λ number pins. pins - visits_at own.sessions number))) c.deref_mut.ensures.value in
    let shelves = written-over (repinned (λ number pins. pins - visits_at own.sessions number)) s.shelves.items c.unpin_all.new.shelves s.shelves.len changed (sym c.deref_mut.ensures.len ∙ ap length c.deref_mut.ensures.value) in (
      subst (λ (ss : List Shelf). IsBook c.push.new.self.items (map shelved ss) s.entered (s.present - 1) s.current) (sym shelves)
          (subst (λ (bs : List (List Entry)). IsBook bs (map shelved (map (repinned (λ number pins. pins - visits_at own.sessions number)) s.shelves.items)) s.entered (s.present - 1) s.current) (sym appended)
          (book-shared s.journal.items own Leave stands s.entered s.present s.current (map shelved s.shelves.items) c.self.invariant.0 stands.entered _ s.entered (s.present - 1) s.current
          (kept-left (state_with (history_of s.journal.items) own) own stands.part stands.entered s.shelves.items s.entered s.present s.current))),
      omega (arith, someone, c.self.invariant.1, ap (λ (p : Places (List Entry)). p.reserved) c.push.ensures),
    )
