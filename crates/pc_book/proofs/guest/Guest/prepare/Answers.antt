use Rattle.std.proofs.Common.{◌≡◌, ◌==◌, Bool, true, false, None, Some, sym, subst, arith}
use Rattle.std.proofs.lemmas.Bool.Decides.{nat_tests}
use Rattle.pc_book.specs.Rebases.{IsMade}
use Rattle.pc_book.proofs.Places.{no_place, at_place}
use Rattle.pc_book.proofs.RebaseLemmas.{prepared-at, prepared-none}
use Rattle.pc_book.proofs.guest.Guest.prepare.Goals as goal

pub returns-in_default : goal.returns-in_default
returns-in_default c =
    let none = no_place c.args.number c.args.self.now.sessions.items (sym (rw c.as_slice.ensures.value at c.in_default.ensures)) in
    prepared-none c.args.self.now.sessions.items c.args.number c.args.version c.args.target.now.file c.args.dropping none.0

pub returns-then-version : goal.returns-then-version
returns-then-version c =
    let visit = c.index-session.result.now in
    let there = at_place c.args.number c.args.self.now.sessions.items c.in-Some.place visit (sym (rw c.as_slice.ensures.value at c.in-Some.ensures)) (sym c.index-session.ensures) in
    let same : (c.args.version == visit.version) ≡ true = grind (arith, nat_tests, c.if-version.true, c.version.ensures) in
    prepared-at c.args.self.now.sessions.items c.args.number c.args.version c.args.target.now.file c.args.dropping visit None there.0
    (subst (λ (b : Bool). IsMade b visit c.args.version c.args.target.now.file c.args.dropping None) (sym same) tt)

pub returns : goal.returns
returns c =
    let visit = c.index-session.result.now in
    let there = at_place c.args.number c.args.self.now.sessions.items c.in-Some.place visit (sym (rw c.as_slice.ensures.value at c.in-Some.ensures)) (sym c.index-session.ensures) in
    let other : (c.args.version == visit.version) ≡ false = grind (arith, nat_tests, c.if-version.false, c.version.ensures) in
    prepared-at c.args.self.now.sessions.items c.args.number c.args.version c.args.target.now.file c.args.dropping visit (Some c.in_ok-rebased.field-0) there.0
    (subst (λ (b : Bool). IsMade b visit c.args.version c.args.target.now.file c.args.dropping (Some c.in_ok-rebased.field-0)) (sym other) c.in_ok-rebased.ensures)
