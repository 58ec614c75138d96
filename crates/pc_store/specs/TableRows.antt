-- The rows of a table.
use Rattle.std.specs.Prelude.{ℕ, List, map}
use Rattle.pc_store.specs.declared.table.Rows.{Rows}
use Rattle.pc_store.specs.declared.table.Rows.TheVariants.{Two, Any}

-- the rows that a table keeps, in order
abbrev pub rows_of : Rows → List (List ℕ)
rows_of (Two set) = set.keys
rows_of (Any set) = map (λ row. row.items) set.keys
