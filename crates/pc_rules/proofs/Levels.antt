-- How far the functions of the grammar are above `atom`.
use Rattle.std.proofs.Common.{ℕ}
use Rattle.pc_rules.specs.declared.phrase.Chain.{Chain}
use Rattle.pc_rules.specs.declared.phrase.Chain.TheVariants as chain

abbrev pub level : Chain → ℕ
level chain.And = 0
level chain.Or = 3
