use Rattle.std.proofs.Common.{◌≡◌, ℕ, ◌==◌, List, find, Some, true, false, cond, not, sym, ap, ◌∙◌, arith}
use Rattle.std.proofs.lemmas.Bool.Decides.{nat_tests}
use Rattle.pc_calls.specs.declared.outcome.Outcome.TheVariants.{Done, IsCurrent, Pinned}
use Rattle.pc_book.specs.Shelves.{holds, retire_told}
use Rattle.pc_book.specs.declared.shelf.Shelf.{Shelf}
use Rattle.pc_book.proofs.ShelfPlaces.{nowhere-found, place-finds-some, place-found, place-without}
use Rattle.pc_book.proofs.shelf.retire.Goals as goal

-- the version is current
told-current : (version now : ℕ) (shelves : List Shelf) (shelf : Shelf) → find (holds version) shelves ≡ Some shelf → (version == now) ≡ true → IsCurrent ≡ retire_told version now (find (holds version) shelves)
told-current version now shelves shelf found same = sym (ap (retire_told version now) found ∙ ap (λ b. cond b IsCurrent (cond (not (shelf.pins == 0)) (Pinned shelf.pins) Done)) same)

pub returns-in_default-clause-outcome : goal.returns-in_default-clause-outcome
returns-in_default-clause-outcome c =
    ap (retire_told c.args.version c.args.current) (sym (nowhere-found (holds c.args.version) c.args.shelves.now.items (sym (rw c.as_slice.ensures.value at c.in_default.ensures))))

pub returns-then-version-current-clause-outcome : goal.returns-then-version-current-clause-outcome
returns-then-version-current-clause-outcome c =
    let some = place-finds-some (holds c.args.version) c.args.shelves.now.items c.in-Some.place (sym (rw c.as_slice.ensures.value at c.in-Some.ensures)) in
    let same : (c.args.version == c.args.current) ≡ true = grind (arith, nat_tests, c.if-version-current.true) in
    told-current c.args.version c.args.current c.args.shelves.now.items some.0 some.1 same

pub returns-then-pins-gt0-clause-outcome : goal.returns-then-pins-gt0-clause-outcome
returns-then-pins-gt0-clause-outcome c =
    let found = place-found (holds c.args.version) c.args.shelves.now.items c.in-Some.place c.index.result.now (sym (rw c.as_slice.ensures.value at c.in-Some.ensures)) c.index.ensures in
    let other : (c.args.version == c.args.current) ≡ false = grind (arith, nat_tests, c.if-version-current.false) in
    let some : (c.index.result.now.pins == 0) ≡ false = grind (arith, nat_tests, c.if-pins-gt0.true) in
    sym (ap (retire_told c.args.version c.args.current) found ∙ ap (λ b. cond b IsCurrent (cond (not (c.index.result.now.pins == 0)) (Pinned c.index.result.now.pins) Done)) other ∙ ap (λ b. cond (not b) (Pinned c.index.result.now.pins) Done) some)

pub returns-clause-outcome : goal.returns-clause-outcome
returns-clause-outcome c =
    let found = place-found (holds c.args.version) c.args.shelves.now.items c.in-Some.place c.index.result.now (sym (rw c.as_slice.ensures.value at c.in-Some.ensures)) c.index.ensures in
    let other : (c.args.version == c.args.current) ≡ false = grind (arith, nat_tests, c.if-version-current.false) in
    let none : (c.index.result.now.pins == 0) ≡ true = grind (arith, nat_tests, c.if-pins-gt0.false) in
    sym (ap (retire_told c.args.version c.args.current) found ∙ ap (λ b. cond b IsCurrent (cond (not (c.index.result.now.pins == 0)) (Pinned c.index.result.now.pins) Done)) other ∙ ap (λ b. cond (not b) (Pinned c.index.result.now.pins) Done) none)

pub returns-clause-shelves : goal.returns-clause-shelves
returns-clause-shelves c =
    c.remove.ensures.items ∙ sym (place-without c.args.version c.args.shelves.now.items c.in-Some.place c.index.result.now (sym (rw c.as_slice.ensures.value at c.in-Some.ensures)))
