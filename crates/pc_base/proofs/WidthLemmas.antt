-- How many digits a number has.
use Rattle.std.proofs.Common.{◌≡◌, ℕ, ◌+◌, ◌/◌, ◌%◌, ◌^◌, ◌≤◌, ◌<◌, ◌∷◌, [], length, arith, ap, length-append}
use Rattle.std.specs.Fmt.{decimal}
use Rattle.std.proofs.lemmas.Fmt.{decimal_step, decimal_digit, length-decimal-le}

-- one digit more than without the last
pub width_step : (n : ℕ) → 10 ≤ n → n < 2 ^ 64 → length (decimal n) ≡ length (decimal (n / 10)) + 1
width_step n large small = omega (arith, ap length (decimal_step n large small), length-append (decimal (n / 10)) ((48 + n % 10) ∷ []))

pub width_of_digit : (n : ℕ) → n < 10 → length (decimal n) ≡ 1
width_of_digit n small = ap length (decimal_digit n small)

pub width_at_most : (n : ℕ) → n < 2 ^ 64 → length (decimal n) ≤ 20
width_at_most n small = length-decimal-le 20 n (omega arith) (omega arith) small

-- the magnitude of a number of 64 signed bits
pub width_of_magnitude : (n : ℕ) → n ≤ 2 ^ 63 → length (decimal n) ≤ 19
width_of_magnitude n small = length-decimal-le 19 n (omega arith) (omega arith) (omega arith)
