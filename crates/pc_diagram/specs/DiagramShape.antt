-- The shape of a diagram's tables.
use Rattle.std.specs.Prelude.{ℕ, ◌+◌, ◌*◌, ◌==◌, nat_lt, nat_le, Bool, not, ◌&&◌, ◌||◌, if◌then◌else◌, length, take, sum, slice_index, Option, Some}
use Rattle.std.specs.List.{range_with_len, find}
use Rattle.pc_diagram.specs.declared.limits.TheConstants.{MOST_NODES, MOST_VALUES, MOST_VARIABLES}
use Rattle.pc_diagram.specs.declared.raw_diagram.RawDiagram.{RawDiagram}
use Rattle.pc_diagram.specs.Levels.{Level, level}

-- the first number below a count that passes a test
abbrev pub first_below : (ℕ → Bool) → ℕ → Option ℕ
first_below test count = find test (range_with_len 0 count)

-- there are 1 to 64 domains, one size more, and as many tables
abbrev pub has_lists : RawDiagram → Bool
has_lists raw =
    nat_lt 0 (length raw.domains) && nat_le (length raw.domains) MOST_VARIABLES && length raw.sizes == length raw.domains + 1
    && length raw.edges == length raw.domains

-- the first and the last layer have one node, and each other layer has some
abbrev pub has_size : RawDiagram → ℕ → Bool
has_size raw layer =
    if layer == 0 || layer == length raw.domains then slice_index raw.sizes layer == 1
    else nat_lt 0 (slice_index raw.sizes layer)

-- the layers up to this one have at most 262,144 nodes
abbrev pub has_room : RawDiagram → ℕ → Bool
has_room raw layer = nat_le (sum (take (layer + 1) raw.sizes)) MOST_NODES

-- a variable takes 1 to 64 values, and its table has an edge for each node and value
abbrev pub has_table : Level → Bool
has_table l = nat_lt 0 l.domain && nat_le l.domain MOST_VALUES && length l.table == l.size * l.domain

-- a layer has the shape of one
abbrev pub has_shape : RawDiagram → ℕ → Bool
has_shape raw layer =
    has_size raw layer && has_room raw layer && (layer == length raw.domains || has_table (level raw layer))

-- the first layer that hasn't; 0 where a number of lists is wrong
abbrev pub misshapen_layer : RawDiagram → Option ℕ
misshapen_layer raw =
    if has_lists raw then first_below (λ layer. not (has_shape raw layer)) (length raw.sizes) else Some 0
