-- The text of a diagram's tables, line by line and word by word.
use Rattle.std.specs.Prelude.{ℕ, zero, suc, ◌+◌, List, [], ◌∷◌, ◌++◌, map, take, drop, codes, decimal, Option, None, Some}
use Rattle.std.specs.List.{flat_map, join_with_byte}
use Rattle.pc_diagram.specs.declared.raw_diagram.RawDiagram.{RawDiagram}

-- the words of a line, in order
abbrev pub Words : Type 0
Words = List (List ℕ)

-- an edge: the number of the node that it leads to, or `-` where there is none
abbrev pub edge_word : Option ℕ → List ℕ
edge_word None = 45 ∷ []
edge_word (Some target) = decimal target

-- the first line
abbrev pub header_words : Words
header_words = codes "diagram" ∷ codes "1" ∷ []

-- how many values each variable takes
abbrev pub domains_words : List ℕ → Words
domains_words domains = codes "domains" ∷ map decimal domains

-- a layer's number, and how many nodes it has
abbrev pub layer_words : ℕ → ℕ → Words
layer_words layer size = codes "layer" ∷ decimal layer ∷ decimal size ∷ []

-- the edges of a node, by value
abbrev pub node_words : List (Option ℕ) → Words
node_words row = codes "n" ∷ map edge_word row

-- the last line
abbrev pub end_words : Words
end_words = codes "end" ∷ []

-- the lines of so many nodes with so many values each, by the edges of all
abbrev pub nodes : ℕ → ℕ → List (Option ℕ) → List Words
nodes domain zero table = []
nodes domain (suc count) table = node_words (take domain table) ∷ nodes domain count (drop domain table)

-- the lines of the layers from this one on: of each its own and those of its nodes, of the last its own; and the last
-- line of all
abbrev pub layers : ℕ → List ℕ → List ℕ → List (List (Option ℕ)) → List Words
layers layer (domain ∷ domains) (size ∷ sizes) (table ∷ tables) =
    layer_words layer size ∷ nodes domain size table ++ layers (layer + 1) domains sizes tables
layers layer (domain ∷ domains) (size ∷ sizes) [] = []
layers layer (domain ∷ domains) [] tables = []
layers layer [] (size ∷ sizes) tables = layer_words layer size ∷ end_words ∷ []
layers layer [] [] tables = []

-- the lines of tables
abbrev pub dump_words : RawDiagram → List Words
dump_words raw = header_words ∷ domains_words raw.domains ∷ layers 0 raw.domains raw.sizes raw.edges

-- a line: its words, parted by one space, and a line feed
abbrev pub line_of : Words → List ℕ
line_of words = join_with_byte 32 words ++ 10 ∷ []

-- the text of tables
abbrev pub dump_text : RawDiagram → List ℕ
dump_text raw = flat_map line_of (dump_words raw)
