use Rattle.std.proofs.Common.{length, sym, arith}
use Rattle.std.proofs.lemmas.List.Sums.{position_or_len_is}
use Rattle.pc_names.specs.Spaces.{is_space}
use Rattle.pc_names.proofs.spaces.space_place.Goals as goal

pub returns-clause-place : goal.returns-clause-place
returns-clause-place c =
    sym (position_or_len_is is_space c.args.bytes.now (length c.args.bytes.now) 0 (omega arith) (λ k below. c.loop-place.invariant k (omega arith)) (λ past. absurd (omega arith)))
