-- When lines are the text of tables, and the first line at which they aren't.
use Rattle.std.specs.Prelude.{◌≡◌, ◌≢◌, ℕ, ◌+◌, ◌-◌, ◌*◌, ◌<◌, ◌≤◌, ◌^◌, List, [], ◌∷◌, ◌++◌, map, take, length, All, Option, IfSome}
use Rattle.std.specs.List.{slice_split}
use Rattle.pc_base.specs.Lines.{lines}
use Rattle.pc_diagram.specs.declared.raw_diagram.RawDiagram.{RawDiagram}
use Rattle.pc_dump.specs.declared.dump.Dump.{Dump}
use Rattle.pc_dump.specs.declared.dump.Dump.TheVariants.{Tables, Misfit}
use Rattle.pc_dump.specs.Dump.{Words, dump_words}
use Rattle.pc_names.specs.Spaces.{is_space}

-- the lines of a text, each cut into words at every space: two spaces in a row, or one at an end, give an empty word
abbrev pub cut_lines : List ℕ → List Words
cut_lines text = map (slice_split is_space) (lines text)

-- a number of 32 bits
abbrev pub IsNumber : ℕ → Type 0
IsNumber n = n < 2 ^ 32

-- an edge to a node of such a number, or none
abbrev pub IsEdge : Option ℕ → Type 0
IsEdge edge = IfSome edge IsNumber

-- a layer has an edge for each node and value
pub record IsLayer (domain size : ℕ) (table : List (Option ℕ)) : Type 0 where
  pub small : IsNumber size
  pub width : length table ≡ size * domain
  pub edges : All IsEdge table

-- there is one layer more than variables, with a table for each but the last
abbrev pub AreLayers : List ℕ → List ℕ → List (List (Option ℕ)) → Type 0
AreLayers (domain ∷ domains) (size ∷ sizes) (table ∷ tables) = IsLayer domain size table × AreLayers domains sizes tables
AreLayers (domain ∷ domains) (size ∷ sizes) [] = ⊥
AreLayers (domain ∷ domains) [] tables = ⊥
AreLayers [] [] tables = ⊥
AreLayers [] (size ∷ []) [] = IsNumber size
AreLayers [] (size ∷ []) (table ∷ tables) = ⊥
AreLayers [] (size ∷ other ∷ sizes) tables = ⊥

-- tables that have a text: their lists are as many and as long as the domains and the
-- sizes say, and each number, that of the last layer too, has 32 bits
pub record AreTables (raw : RawDiagram) : Type 0 where
  pub few : IsNumber (length raw.domains)
  pub domains : All IsNumber raw.domains
  pub layers : AreLayers raw.domains raw.sizes raw.edges

-- these lines begin the text of some tables
pub record Begins (first : List Words) : Type 0 where
  pub raw : RawDiagram
  pub later : List Words
  pub tables : AreTables raw
  pub prints : dump_words raw ≡ first ++ later

-- the lines before this one, counted from 1, begin the text of some tables, and with it they don't; or they are all
-- lines, and aren't the whole text of tables
pub record IsFirstMisfit (line : ℕ) (all : List Words) : Type 0 where
  pub counted : 0 < line
  pub within : line ≤ length all + 1
  pub begins : Begins (take (line - 1) all)
  pub misfit : line ≤ length all → Begins (take line all) → ⊥
  pub early : line ≡ length all + 1 → (raw : RawDiagram) → AreTables raw → dump_words raw ≢ all

-- what lines are: the text of these tables, or a text that goes wrong at this line first
abbrev pub IsDump : Dump → List Words → Type 0
IsDump (Tables raw) all = AreTables raw × (all ≡ dump_words raw)
IsDump (Misfit line) all = IsFirstMisfit line all
