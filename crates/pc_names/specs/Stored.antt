-- How the bytes of a spelling are kept in a value of one size.
use Rattle.std.specs.Prelude.{◌≡◌, ℕ, ◌-◌, ◌≤◌, true, List, ◌++◌, length, take, replicate}
use Rattle.pc_names.specs.declared.name.TheConstants.{LONGEST_NAME}
use Rattle.pc_names.specs.Name.{is_name}

-- the spelling, and zeros up to the longest name's bytes
abbrev pub padded : List ℕ → List ℕ
padded spelling = spelling ++ replicate (LONGEST_NAME - length spelling) 0

-- the first `count` of the longest name's bytes spell a name, and the others are 0
pub record IsStored (bytes : List ℕ) (count : ℕ) : Type 0 where
  pub short : count ≤ LONGEST_NAME
  pub full : length bytes ≡ LONGEST_NAME
  pub spelt : is_name (take count bytes) ≡ true
  pub rest : bytes ≡ padded (take count bytes)
