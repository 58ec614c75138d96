-- What the kinds of words read, and how each is spelled.
use Rattle.std.proofs.Common.{◌≡◌, ℕ, ℤ, pos, negsuc, ◌^◌, ◌<◌, ◌≤◌, Bool, true, false, ◌&&◌, cond, List, Option, Some, None, option_and_then, FitsSigned, refl, sym, ap, ◌∙◌, arith, w64}
use Rattle.std.specs.Prelude.{nat_le}
use Rattle.std.specs.Fmt.{signed_decimal, decimal}
use Rattle.std.proofs.lemmas.Bool.Decides.{nat_tests}
use Rattle.std.proofs.lemmas.Int.{ints}
use Rattle.pc_names.specs.Name.{is_name}
use Rattle.pc_names.specs.Number.{is_small, int_of, not_negative, unsigned_of}
use Rattle.pc_names.proofs.Written.{int_of_spelling, int_of_found}
use Rattle.pc_calls.specs.CommandReader.{line_count_of, name_of}
use Rattle.pc_calls.specs.CallWords.{IsUnsigned, IsName}

small_fits : (z : ℤ) → is_small z ≡ true → FitsSigned w64 z
small_fits (pos n) h = record { sfits = grind (arith, ints, nat_tests) }
small_fits (negsuc n) h = record { sfits = grind (arith, ints, nat_tests) }

pub number_read : (bytes : List ℕ) (z : ℤ) → int_of bytes ≡ Some z → (bytes ≡ signed_decimal z) × FitsSigned w64 z
number_read bytes z read =
    let found = int_of_found bytes z read in
    (found.0, small_fits z found.1)

below : (n : ℕ) → FitsSigned w64 (pos n) → n < 2 ^ 63
below n fits = fits.sfits

positive : (found : Option ℤ) (n : ℕ) → option_and_then not_negative found ≡ Some n → found ≡ Some (pos n)
positive (Some (pos m)) n e = let same : m ≡ n = cc in ap (λ k. Some (pos k)) same
positive (Some (negsuc m)) n e = absurd cc
positive None n e = absurd cc

pub unsigned_read : (bytes : List ℕ) (n : ℕ) → unsigned_of bytes ≡ Some n → (bytes ≡ decimal n) × IsUnsigned n
unsigned_read bytes n read =
    let found = number_read bytes (pos n) (positive (int_of bytes) n read) in
    (found.0, below n found.1)

pub unsigned_again : (n : ℕ) → IsUnsigned n → unsigned_of (decimal n) ≡ Some n
unsigned_again n fits = ap (λ found. option_and_then not_negative found) (int_of_spelling (pos n) (record { sfits = fits }))

chosen : {A : Type 0} (b : Bool) (x y : A) → cond b (Some x) None ≡ Some y → (b ≡ true) × (x ≡ y)
chosen true x y e = (refl, cc)
chosen false x y e = absurd cc

counted : (found : Option ℕ) (n : ℕ) → option_and_then (λ m. cond (nat_le 1 m && nat_le m 8192) (Some m) None) found ≡ Some n → (found ≡ Some n) × (1 ≤ n) × (n ≤ 8192)
counted (Some m) n e =
    let parts = chosen (nat_le 1 m && nat_le m 8192) m n e in
    let same : m ≡ n = parts.1 in
    let test : (nat_le 1 m && nat_le m 8192) ≡ true = parts.0 in
    (ap Some same, grind (arith, nat_tests), grind (arith, nat_tests))
counted None n e = absurd cc

abbrev pub IsCount : ℕ → Type 0
IsCount n = (1 ≤ n) × (n ≤ 8192)

pub line_count_read : (bytes : List ℕ) (n : ℕ) → line_count_of bytes ≡ Some n → (bytes ≡ decimal n) × IsCount n
line_count_read bytes n read =
    let found = counted (unsigned_of bytes) n read in
    ((unsigned_read bytes n found.0).0, (found.1, found.2))

in_range : (n : ℕ) → 1 ≤ n → n ≤ 8192 → (nat_le 1 n && nat_le n 8192) ≡ true
in_range n some few = grind (arith, nat_tests)

pub line_count_again : (n : ℕ) → IsCount n → line_count_of (decimal n) ≡ Some n
line_count_again n count =
    let fits : n < 2 ^ 63 = omega (arith, count.1) in
    ap (λ found. option_and_then (λ m. cond (nat_le 1 m && nat_le m 8192) (Some m) None) found) (unsigned_again n fits)
    ∙ ap (λ b. cond b (Some n) None) (in_range n count.0 count.1)

pub name_read : (bytes name : List ℕ) → name_of bytes ≡ Some name → (bytes ≡ name) × IsName name
name_read bytes name read =
    let parts = chosen (is_name bytes) bytes name read in
    (parts.1, ap is_name (sym parts.1) ∙ parts.0)

pub name_again : (name : List ℕ) → IsName name → name_of name ≡ Some name
name_again name named = ap (λ b. cond b (Some name) None) named
