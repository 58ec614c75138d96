use Rattle.std.proofs.Common.{◌≡◌, List, Some, true, sym, subst, ap, ◌∙◌}
use Rattle.pc_build.specs.declared.version.Version as build
use Rattle.pc_calls.specs.declared.entry.Entry.{Entry}
use Rattle.pc_calls.specs.State.{file_of, is_live}
use Rattle.pc_book.specs.Book.{state_of_book}
use Rattle.pc_book.specs.Shelves.{holds}
use Rattle.pc_book.proofs.RebaseLemmas.{target-found, target-none}
use Rattle.pc_book.proofs.ShelfPlaces.{nowhere-found, place-found}
use Rattle.pc_book.proofs.book.Book.target.Goals as goal

pub returns-in_default : goal.returns-in_default
returns-in_default c =
    let s = c.self.inside in
    ap (λ (blocks : List (List Entry)). is_live (state_of_book blocks) c.args.version) (sym c.self.view_is)
    ∙ target-none s.shelves.items (state_of_book s.journal.items) c.args.version c.self.invariant.0.kept.shelves_are
    (nowhere-found (holds c.args.version) s.shelves.items (sym (rw c.as_slice.ensures.value at c.in_default.ensures)))

pub returns : goal.returns
returns c =
    let s = c.self.inside in
    let there = target-found s.shelves.items (state_of_book s.journal.items) c.args.version c.self.invariant.0.kept.shelves_are c.index.result.now
    (place-found (holds c.args.version) s.shelves.items c.in-Some.place c.index.result.now (sym (rw c.as_slice.ensures.value at c.in-Some.ensures)) c.index.ensures) in
    subst (λ (blocks : List (List Entry)). (is_live (state_of_book blocks) c.args.version ≡ true) × (file_of (state_of_book blocks) c.args.version ≡ Some c.in_ok-share.field-0.file)) c.self.view_is
    (there.0, there.1 ∙ ap (λ (v : build.Version). Some v.file) (sym c.in_ok-share.ensures))
