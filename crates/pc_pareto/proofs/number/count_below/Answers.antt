use Rattle.std.proofs.Common.{nat_lt, rules}
use Rattle.std.proofs.lemmas.List.Sorted.{IsPartitionPoint-from_clause, IsPartitionedBy-ltb}
use Rattle.pc_pareto.proofs.NumberLemmas.{count_point}
use Rattle.pc_pareto.proofs.number.count_below.Goals as goal

pub returns : goal.returns
returns c =
    count_point c.args.ranks.now c.args.rank c.partition_point.result c.partition_point.ensures.bound
    (IsPartitionPoint-from_clause (λ other. nat_lt other c.args.rank) c.args.ranks.now c.partition_point.result c.partition_point.ensures.partitioned (IsPartitionedBy-ltb (λ x. x) c.args.ranks.now c.args.rank c.requires) (λ a r f h. search rules))
