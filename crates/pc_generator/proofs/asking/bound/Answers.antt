-- What the part's call comes to.
use Rattle.std.proofs.Common.{◌≡◌, rules, subst, of_z, to_z, w64}
use Rattle.std.specs.Prelude.{IfOk}
use Rattle.pc_calls.specs.declared.call.Call.TheVariants.{Bound}
use Rattle.pc_generator.specs.Standing.{IsCalled}
use Rattle.pc_generator.proofs.Standing.{each-served}
use Rattle.pc_generator.proofs.asking.bound.Goals as goal

pub returns-clause-called : goal.returns-clause-called
returns-clause-called c =
    let same : to_z w64 (of_z w64 c.args.most) ≡ c.args.most = search rules in
    subst (λ most. IfOk c.bound.result (IsCalled (Bound c.args.session c.args.cost most) c.args._book.now c.args.own.now c.args._book.now c.bound.new.self)) same
    (each-served c.bound.result (Bound c.args.session c.args.cost (to_z w64 (of_z w64 c.args.most))) c.args._book.now c.args.own.now c.bound.new.self c.requires.stands c.bound.ensures.serves)
