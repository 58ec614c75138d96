-- The text of a listing with the names of its file.
use Rattle.std.specs.Prelude.{ℕ, List, [], ◌∷◌, ◌++◌, codes, option_map, slice_get, unwrap_or}
use Rattle.std.specs.List.{flat_map, zip}
use Rattle.std.specs.Fmt.{signed_decimal}
use Rattle.pc_diagram.specs.declared.listed.Listed.{Listed}
use Rattle.pc_file.specs.declared.variable.Variable.{Variable}

-- the name of a value of a variable; nothing where there is no such value
abbrev pub name_text : Variable → ℕ → List ℕ
name_text variable value = unwrap_or (option_map (λ v. v.name) (slice_get variable.values value)) []

-- the names of the values that a word takes, each after a space
abbrev pub word_text : List Variable → List ℕ → List ℕ
word_text variables word = flat_map (λ p. 32 ∷ name_text p.0 p.1) (zip variables word)

-- `val NAME COST COST : NAME NAME ..` and a line feed
abbrev pub item_text : List Variable → Variable → Listed → List ℕ
item_text variables variable item =
    codes "val " ++ name_text variable item.value ++ 32 ∷ signed_decimal item.first ++ 32 ∷ signed_decimal item.second ++ codes " :"
    ++ word_text variables item.word ++ 10 ∷ []

-- `var NAME`, a line feed, and the lines of its listed values
abbrev pub variable_text : List Variable → Variable → List Listed → List ℕ
variable_text variables variable items = codes "var " ++ variable.name ++ 10 ∷ flat_map (item_text variables variable) items

-- the lines of each variable
abbrev pub listing_text : List Variable → List (List Listed) → List ℕ
listing_text variables rows = flat_map (λ p. variable_text variables p.0 p.1) (zip variables rows)
