-- How an integer is spelt.
use Rattle.std.specs.Prelude.{ℕ, ℤ, pos, negsuc, neg_ℤ, ◌^◌, ◌==◌, Bool, ◌&&◌, int_le, int_lt, if◌then◌else◌, List, drop, slice_index, Option, Some, None, option_and_then}
use Rattle.std.specs.Fmt.{signed_decimal}
use Rattle.std.specs.Str.Parse.{digits_value}
use Rattle.std.specs.Cmp.Lexicographic.{pointwise}

-- the number that digits write, with `-` before those of a negative one
abbrev pub number_written : List ℕ → ℤ
number_written bytes = if slice_index bytes 0 == 45 then neg_ℤ (pos (digits_value 10 (drop 1 bytes))) else pos (digits_value 10 bytes)

-- it fits 64 signed bits
abbrev pub is_small : ℤ → Bool
is_small number = int_le (neg_ℤ (pos (2 ^ 63))) number && int_lt number (pos (2 ^ 63))

-- the number of 64 signed bits whose canonical decimal the bytes are: printing it gives them back
unfoldable pub int_of : List ℕ → Option ℤ
int_of bytes = if is_small (number_written bytes) && pointwise ◌==◌ (signed_decimal (number_written bytes)) bytes then Some (number_written bytes) else None

abbrev pub not_negative : ℤ → Option ℕ
not_negative (pos n) = Some n
not_negative (negsuc n) = None

-- such a number that isn't negative
abbrev pub unsigned_of : List ℕ → Option ℕ
unsigned_of bytes = option_and_then not_negative (int_of bytes)
