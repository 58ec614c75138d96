-- The bytes up to the first space.
use Rattle.std.proofs.Common.{◌≡◌, ℕ, true, false, List, [], ◌∷◌, refl}
use Rattle.std.proofs.Math.Numerals.{one-add}
use Rattle.std.specs.List.{before_first}
use Rattle.pc_names.specs.Spaces.{is_space}

abbrev pub front : List ℕ → List ℕ
front bytes = before_first is_space bytes

pub front-space : (b : ℕ) (bs : List ℕ) → is_space b ≡ true → front (b ∷ bs) ≡ []
front-space b bs e = rw e refl

pub front-byte : (b : ℕ) (bs : List ℕ) → is_space b ≡ false → front (b ∷ bs) ≡ b ∷ front bs
front-byte b bs e = rw (e, one-add) refl
