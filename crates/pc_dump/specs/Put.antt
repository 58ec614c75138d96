-- Edges that were put at the end of a table.
use Rattle.std.specs.Prelude.{◌≡◌, ℕ, List, ◌++◌, map, length, All, Option}
use Rattle.pc_dump.specs.Dump.{Words, edge_word, node_words}
use Rattle.pc_dump.specs.Form.{IsEdge}

-- those that these words are
pub record AreEdgesPut (words : Words) (before after : List (Option ℕ)) : Type 0 where
  pub row : List (Option ℕ)
  pub numbers : All IsEdge row
  pub is : words ≡ map edge_word row
  pub put : after ≡ before ++ row

-- those of a node's line, so many
pub record IsRowPut (words : Words) (count : ℕ) (before after : List (Option ℕ)) : Type 0 where
  pub row : List (Option ℕ)
  pub numbers : All IsEdge row
  pub count_is : length row ≡ count
  pub is : words ≡ node_words row
  pub put : after ≡ before ++ row
