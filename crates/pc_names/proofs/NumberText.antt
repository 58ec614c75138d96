-- The text of a number of 64 signed bits.
use Rattle.std.proofs.Common.{◌≡◌, ℤ, pos, negsuc, ◌^◌, ◌<◌, ◌≤◌, FitsSigned, length, arith, w64}
use Rattle.std.specs.Str.{IsUtf8}
use Rattle.std.specs.Fmt.{signed_decimal}
use Rattle.std.proofs.lemmas.Fmt.{length_signed_le, IsAscii-signed, signed_decimal_injective}
use Rattle.std.proofs.lemmas.Str.{IsUtf8-from_ascii}
use lib.Signed.{mag}

-- one that fits is below 2 ^ 63, past the sign
pub small : (z : ℤ) → FitsSigned w64 z → mag z < 2 ^ 63
small (pos n) fits = fits.sfits
small (negsuc n) fits = fits.sfits

pub signed_short : (z : ℤ) → FitsSigned w64 z → length (signed_decimal z) ≤ 20
signed_short z fits = let below = small z fits in length_signed_le 19 z (omega arith) below

pub signed_utf8 : (z : ℤ) → FitsSigned w64 z → IsUtf8 (signed_decimal z)
signed_utf8 z fits = IsUtf8-from_ascii _ (IsAscii-signed z (small z fits))

pub signed_one : (y z : ℤ) → FitsSigned w64 y → FitsSigned w64 z → signed_decimal y ≡ signed_decimal z → y ≡ z
signed_one y z fits_y fits_z = signed_decimal_injective y z (small y fits_y) (small z fits_z)
