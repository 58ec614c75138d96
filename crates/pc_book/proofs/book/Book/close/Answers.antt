use Rattle.std.proofs.Common.{◌≡◌, ◌-◌, ◌≤◌, ℕ, List, [], ◌∷◌, ◌++◌, length, map, find, All, rules, ap, sym, subst, ◌∙◌, arith}
use Rattle.pc_base.specs.Reserved.{Places}
use Rattle.pc_calls.specs.declared.call.Call.TheVariants.{Close}
use Rattle.pc_calls.specs.declared.entry.Entry.{Entry}
use Rattle.pc_calls.specs.declared.reply.Reply.{Reply}
use Rattle.pc_book.specs.declared.shelf.Shelf.{Shelf}
use Rattle.pc_book.specs.Book.{IsBook, with_entry}
use Rattle.pc_book.specs.Shelves.{one_at, repinned, shelved}
use Rattle.pc_book.specs.Visits.{close_reply, has_number, plain_head}
use Rattle.pc_book.proofs.BookLemmas.{appended-as, book-shared, shares-as, stands-at}
use Rattle.pc_book.proofs.CloseLemmas.{enough-closed, head-closed, kept-closed, shares-closed}
use Rattle.pc_book.proofs.WrittenLemmas.{written-over}
use Rattle.pc_book.proofs.book.Book.close.Goals as goal

pub unpin-requires : goal.unpin-requires
unpin-requires c =
    let s = c.self.inside in
    let own = c.args.own.now in
    subst (λ (version : ℕ). All (λ (shelf : Shelf). one_at version shelf.number ≤ shelf.pins) c.deref_mut.result.now) (sym (ap (λ (r : Reply). r.head.version) c.close-reply.ensures.reply))
    (subst (All (λ (shelf : Shelf). one_at (close_reply c.args.session (find (has_number c.args.session) own.sessions)).head.version shelf.number ≤ shelf.pins)) (sym c.deref_mut.ensures.value)
    (enough-closed s.journal.items own (stands-at c.args.self.now s.journal.items own c.self.view_is c.requires.stands) c.args.session s.shelves.items s.entered s.present s.current c.self.invariant.0))

appended : (c : goal.After-push) → c.push.new.self.items ≡ with_entry c.self.inside.journal.items c.args.own.now (Close c.args.session)
appended c =
    let s = c.self.inside in
    let own = c.args.own.now in
    let answer = c.close-reply.result in
    let told = plain_head answer.head.session answer.head.version answer.head.outcome in
    let items : c.push.new.self.items ≡ s.journal.items ++ (own.pending ++ record { caller = own.number; call = Close c.args.session; head = told } ∷ []) ∷ [] = search rules in
    items ∙ appended-as s.journal.items own (Close c.args.session) told (head-closed s.journal.items own (stands-at c.args.self.now s.journal.items own c.self.view_is c.requires.stands) c.args.session s.shelves.items s.entered s.present s.current c.self.invariant.0 answer c.close-reply.ensures.reply)

pub invariant_of-self-2 : goal.invariant_of-self-2
invariant_of-self-2 c =
    let s = c.self.inside in
    let own = c.args.own.now in
    let stands = stands-at c.args.self.now s.journal.items own c.self.view_is c.requires.stands in
    let version = (close_reply c.args.session (find (has_number c.args.session) own.sessions)).head.version in
    let changed : c.unpin.new.shelves ≡ map (repinned (λ number pins. pins - one_at version number)) s.shelves.items =
    c.unpin.ensures
    ∙ ap (λ (v : ℕ). map (repinned (λ number pins. pins - one_at v number)) c.deref_mut.result.now) (ap (λ (r : Reply). r.head.version) c.close-reply.ensures.reply)
    ∙ ap (map (repinned (λ number pins. pins - one_at version number))) c.deref_mut.ensures.value in
    let shelves = written-over (repinned (λ number pins. pins - one_at version number)) s.shelves.items c.unpin.new.shelves s.shelves.len changed (sym c.deref_mut.ensures.len ∙ ap length c.deref_mut.ensures.value) in (
      subst (λ (ss : List Shelf). IsBook c.push.new.self.items (map shelved ss) s.entered s.present s.current) (sym shelves)
          (subst (λ (bs : List (List Entry)). IsBook bs (map shelved (map (repinned (λ number pins. pins - one_at version number)) s.shelves.items)) s.entered s.present s.current) (sym (appended c))
          (book-shared s.journal.items own (Close c.args.session) stands s.entered s.present s.current (map shelved s.shelves.items) c.self.invariant.0 stands.entered _ s.entered s.present s.current
          (kept-closed s.journal.items own stands c.args.session s.shelves.items s.entered s.present s.current c.self.invariant.0))),
      omega (arith, c.in_ok-make_room.ensures.room, ap (λ (p : Places (List Entry)). p.reserved) c.push.ensures),
    )

pub returns-clause-shares : goal.returns-clause-shares
returns-clause-shares c =
    let s = c.self.inside in
    let own = c.args.own.now in
    shares-as (Close c.args.session) c.args.self.now s.journal.items c.push.new.self.items own c.seal-block.new.self c.close-reply.result c.self.view_is (appended c)
    (shares-closed s.journal.items own (stands-at c.args.self.now s.journal.items own c.self.view_is c.requires.stands) c.args.session s.shelves.items s.entered s.present s.current c.self.invariant.0 c.seal-block.new.self c.close-reply.result c.close-reply.ensures.reply (search rules))
