use Rattle.std.proofs.Common.{sym, ◌∙◌}
use Rattle.pc_apply.proofs.LevelLemmas.{with_there}
use Rattle.pc_apply.proofs.states.place_near.Goals as goal

pub returns-then-eq-clause-keys : goal.returns-then-eq-clause-keys
returns-then-eq-clause-keys g c =
    sym (with_there g.S.PartialEq.eq c.args.states.now.keys c.args.state c.in-Some-get_index.other.now c.in-Some.near (sym c.in-Some-get_index.ensures.key) (sym c.eq.ensures ∙ c.if-eq.true))
