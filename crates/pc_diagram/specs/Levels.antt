-- A diagram, variable by variable.
use Rattle.std.specs.Prelude.{ℕ, ◌+◌, ◌*◌, List, [], map, length, count_by, is_some, Option, None, slice_index, slice_index_or}
use Rattle.std.specs.List.{range_with_len, slice_range, sum_by}
use Rattle.pc_diagram.specs.declared.raw_diagram.RawDiagram.{RawDiagram}

-- what a diagram has of one variable: how many values it takes, how many nodes its layer and the next layer have, and
-- the edges of its nodes, by node and then by value
pub record Level : Type 0 where
  pub domain : ℕ
  pub size : ℕ
  pub next : ℕ
  pub table : List (Option ℕ)

-- the level of one variable
abbrev pub level : RawDiagram → ℕ → Level
level raw variable = record {
  domain = slice_index raw.domains variable;
  size = slice_index raw.sizes variable;
  next = slice_index raw.sizes (variable + 1);
  table = slice_index_or raw.edges variable [];
}

-- the levels of all variables, in order
abbrev pub levels : RawDiagram → List Level
levels raw = map (level raw) (range_with_len 0 (length raw.domains))

-- the edges of a node, one for each value
abbrev pub row : Level → ℕ → List (Option ℕ)
row l node = slice_range l.table (node * l.domain) (node * l.domain + l.domain)

-- the edges of each node
abbrev pub rows : Level → List (List (Option ℕ))
rows l = map (row l) (range_with_len 0 l.size)

-- the edge of a node for a value, if there is one
abbrev pub edge : Level → ℕ → ℕ → Option ℕ
edge l node value = slice_index_or (row l node) value None

-- how many edges all nodes have
abbrev pub edge_count : RawDiagram → ℕ
edge_count raw = sum_by (count_by is_some) raw.edges

-- a level of these parts
abbrev pub as_level : ℕ → ℕ → ℕ → List (Option ℕ) → Level
as_level domain size next table = record { domain = domain; size = size; next = next; table = table }
