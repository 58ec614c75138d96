use Rattle.std.proofs.Common.{◌≡◌, List, map, rules, ap, sym, subst, ◌∙◌, arith}
use Rattle.pc_base.specs.Reserved.{Places}
use Rattle.pc_calls.specs.declared.call.Call.TheVariants.{Reclaim}
use Rattle.pc_calls.specs.declared.entry.Entry.{Entry}
use Rattle.pc_book.specs.Book.{IsBook, Shares, history_of, with_entry}
use Rattle.pc_book.specs.Own.{StandsAfter}
use Rattle.pc_book.specs.Shelves.{shelved}
use Rattle.pc_book.specs.Visits.{plain_head}
use Rattle.pc_book.proofs.ReclaimLemmas.{appended-by, reclaim-book, reclaim-replied, reclaim-shares, reclaim-told}
use Rattle.pc_book.proofs.book.Book.reclaim.Goals as goal

stands : (c : goal.After-push) → StandsAfter (history_of c.self.inside.journal.items) c.args.own.now
stands c = subst (λ (blocks : List (List Entry)). StandsAfter (history_of blocks) c.args.own.now) (sym c.self.view_is) c.requires.stands

appended : (c : goal.After-push) → c.push.new.self.items ≡ with_entry c.self.inside.journal.items c.args.own.now (Reclaim c.args.version)
appended c =
    let s = c.self.inside in
    appended-by s.journal.items c.make_room.new.journal.items c.push.new.self.items c.args.own.now (Reclaim c.args.version) c.seal-block.result c.noted-entry.result (plain_head 0 c.args.version c.retire-outcome.result)
    (ap (λ (p : Places (List Entry)). p.items) c.push.ensures) c.in_ok-make_room.ensures.items c.seal-block.ensures.block (search rules)
    (reclaim-told s.journal.items c.args.own.now (stands c) c.args.version s.shelves.items s.entered s.present s.current c.self.invariant.0 c.retire-outcome.result c.retire-outcome.ensures.outcome)

pub invariant_of-self-2 : goal.invariant_of-self-2
invariant_of-self-2 c =
    let s = c.self.inside in (
      subst (λ (blocks : List (List Entry)). IsBook blocks (map shelved c.retire-outcome.new.shelves.items) s.entered s.present s.current) (sym (appended c))
          (reclaim-book s.journal.items c.args.own.now (stands c) c.args.version s.shelves.items s.entered s.present s.current c.self.invariant.0 c.retire-outcome.result c.retire-outcome.new.shelves.items c.retire-outcome.ensures.outcome c.retire-outcome.ensures.shelves),
      omega (arith, c.in_ok-make_room.ensures.room, ap (λ (p : Places (List Entry)). p.reserved) c.push.ensures),
    )

pub returns-clause-shares : goal.returns-clause-shares
returns-clause-shares c =
    let s = c.self.inside in
    subst (λ (blocks : List (List Entry)). Shares (Reclaim c.args.version) blocks c.push.new.self.items c.args.own.now c.seal-block.new.self c.refused-reply.result) c.self.view_is
    (subst (λ (blocks : List (List Entry)). Shares (Reclaim c.args.version) s.journal.items blocks c.args.own.now c.seal-block.new.self c.refused-reply.result) (sym (appended c))
    (reclaim-shares s.journal.items c.args.own.now (stands c) c.args.version s.shelves.items s.entered s.present s.current c.self.invariant.0 c.seal-block.new.self c.refused-reply.result
    (c.refused-reply.ensures ∙ reclaim-replied s.journal.items c.args.own.now (stands c) c.args.version s.shelves.items s.entered s.present s.current c.self.invariant.0 c.retire-outcome.result c.retire-outcome.ensures.outcome)
    c.seal-block.ensures.part))
