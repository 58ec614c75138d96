use Rattle.std.proofs.Common.{nat_lt, rules, of_calls, arith}
use Rattle.std.proofs.lemmas.Bool.Decides.{nat_tests}
use Rattle.std.proofs.lemmas.Fn.{always_returns_same}
use Rattle.pc_labels.proofs.RankLemmas.{ranks_part}
use Rattle.pc_labels.proofs.layer.place_among.Goals as goal

pub returns : goal.returns
returns c =
    let point = c.partition_point.ensures.partitioned (λ x. nat_lt x c.args.rank) (always_returns_same _ _ _ (λ a r f k. search (rules, of_calls))) (ranks_part c.args.ranks.now c.args.rank c.requires) in
    record {
      within = c.partition_point.ensures.bound;
      less = λ i lt. let passes = point.0 i 0 (omega arith) lt in grind (arith, nat_tests);
      more = λ i le lt. let fails = point.1 i 0 le lt in grind (arith, nat_tests);
    }
