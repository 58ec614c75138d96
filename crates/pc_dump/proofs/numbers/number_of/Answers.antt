-- A number below 2^32 is read, and kept whole.
use Rattle.std.proofs.Common.{◌≡◌, ℕ, ◌<◌, ◌^◌, ℤ, pos, Some, None, Result, FitsSigned, w64, ap, subst, ◌∙◌, arith, to_z, of_z}
use Rattle.std.proofs.Math.Facts.{to_z-of_z}
use Rattle.std.proofs.lemmas.Result.{Ok-from_Ok_iff}
use Rattle.std.specs.Int.{FitsUnsignedBits}
use Rattle.std.specs.Result.{OkIff, result_ok}
use lib.IntN.{nat_abs}
use Rattle.pc_dump.proofs.numbers.number_of.Goals as goal

number_kept : {E : Type 0} (r : Result ℕ E) (z : ℤ) (n : ℕ) → OkIff r (FitsUnsignedBits 32 z) (nat_abs z) → z ≡ pos n → n < 2 ^ 32 → result_ok r ≡ Some n
number_kept r z n iff same small =
    let here : OkIff r (FitsUnsignedBits 32 (pos n)) (nat_abs (pos n)) = subst (λ x. OkIff r (FitsUnsignedBits 32 x) (nat_abs x)) same iff in
    ap result_ok (Ok-from_Ok_iff r (FitsUnsignedBits 32 (pos n)) (nat_abs (pos n)) here small)

pub returns-in-Some-clause-every : goal.returns-in-Some-clause-every
returns-in-Some-clause-every c n small e =
    let fits : FitsSigned w64 (pos n) = record { sfits = omega arith } in
    let read : Some c.in-Some.number ≡ Some (pos n) = c.in-Some.ensures.read (pos n) fits e in
    let same : c.in-Some.number ≡ pos n = cc in
    c.ok.ensures.value ∙ number_kept c.try_from.result _ n c.try_from.ensures (ap (λ z. to_z w64 (of_z w64 z)) same ∙ to_z-of_z fits) small

pub returns-in-None-clause-every : goal.returns-in-None-clause-every
returns-in-None-clause-every c n small e =
    let fits : FitsSigned w64 (pos n) = record { sfits = omega arith } in
    let read : None ≡ Some (pos n) = c.in-None.ensures.read (pos n) fits e in
    absurd cc
