-- Spellings of names, and the bytes in which they are kept.
use Rattle.std.proofs.Common.{◌≡◌, ℕ, ◌-◌, ◌<◌, ◌≤◌, true, ◌&&◌, List, [], ◌∷◌, ◌++◌, length, get_or, take, drop, refl, arith, length-append}
use Rattle.std.specs.Prelude.{nat_le, replicate}
use Rattle.std.specs.List.{list_all}
use Rattle.std.proofs.lemmas.List.{drop-replicate, length-replicate}
use Rattle.std.proofs.lemmas.Grind.{common_steps}
use Rattle.pc_names.specs.Name.{is_letter, is_name_byte, is_name}
use Rattle.pc_names.specs.Stored.{IsStored}

pub is_name_parts : (bytes : List ℕ) → 0 < length bytes → is_name bytes ≡ (is_letter (get_or bytes 0 0) && (nat_le (length (drop 1 bytes)) 31 && list_all is_name_byte (drop 1 bytes)))
is_name_parts [] some = absurd (omega arith)
is_name_parts (first ∷ rest) some = refl

pub is_name_short : (bytes : List ℕ) → is_name bytes ≡ true → length bytes ≤ 32
is_name_short [] named = omega arith
is_name_short (first ∷ rest) named = grind arith

take_front : (front back : List ℕ) → take (length front) (front ++ back) ≡ front
take_front front back = grind (arith, common_steps)

pub stored : (bytes : List ℕ) → is_name bytes ≡ true → IsStored (bytes ++ drop {A = ℕ} (length bytes) (replicate 32 0)) (length bytes)
stored bytes named =
    let short : length bytes ≤ 32 = is_name_short bytes named in
    let zeros : drop {A = ℕ} (length bytes) (replicate 32 0) ≡ replicate (32 - length bytes) 0 = drop-replicate (length bytes) 32 0 in
    let front = take_front bytes (replicate (32 - length bytes) 0) in
    rw zeros (record {
      short = short;
      full = omega (arith, length-append bytes (replicate (32 - length bytes) 0), length-replicate {A = ℕ} (32 - length bytes) 0);
      spelt = rw front named;
      rest = rw front refl;
    })
