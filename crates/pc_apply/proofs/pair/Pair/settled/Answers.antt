use Rattle.std.proofs.Common.{sym, subst, IfSome}
use Rattle.pc_apply.specs.declared.pair.Operation.{Operation}
use Rattle.pc_apply.specs.declared.pair.Operation.TheVariants.{And, Or, Without}
use Rattle.pc_apply.specs.Levels.{Answers}
use Rattle.pc_apply.specs.Pairs.{pairs_at}
use Rattle.pc_apply.proofs.PairLemmas.{made_answers}
use Rattle.pc_apply.proofs.pair.Pair.settled.Goals as goal

pub returns-in-And : goal.returns-in-And
returns-in-And c =
    let store = c.args.store.now in
    subst (λ (o : Operation). IfSome c.both.result (Answers store store c.args.layer (pairs_at store c.args.layer o) c.args.self)) (sym c.in-And.is)
    (made_answers store c.args.layer And c.args.self c.at-left.result c.at-right.result c.both.result c.requires.sets c.at-left.ensures.id c.at-right.ensures.id c.both.ensures)

pub returns-in-Or : goal.returns-in-Or
returns-in-Or c =
    let store = c.args.store.now in
    subst (λ (o : Operation). IfSome c.either.result (Answers store store c.args.layer (pairs_at store c.args.layer o) c.args.self)) (sym c.in-Or.is)
    (made_answers store c.args.layer Or c.args.self c.at-left.result c.at-right.result c.either.result c.requires.sets c.at-left.ensures.id c.at-right.ensures.id c.either.ensures)

pub returns-in-Without : goal.returns-in-Without
returns-in-Without c =
    let store = c.args.store.now in
    subst (λ (o : Operation). IfSome c.first_alone.result (Answers store store c.args.layer (pairs_at store c.args.layer o) c.args.self)) (sym c.in-Without.is)
    (made_answers store c.args.layer Without c.args.self c.at-left.result c.at-right.result c.first_alone.result c.requires.sets c.at-left.ensures.id c.at-right.ensures.id c.first_alone.ensures)
