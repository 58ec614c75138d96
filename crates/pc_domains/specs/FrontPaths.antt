-- What fronts keep of a layer's nodes.
use Rattle.std.specs.Prelude.{ℕ, List, Option, option_map, slice_get}
use Rattle.pc_diagram.specs.declared.side.Side.{Side}
use Rattle.pc_pareto.specs.declared.front_item.FrontItem.{FrontItem}
use Rattle.pc_pareto.specs.Fronts.{items_at, word_at}
use Rattle.pc_pareto.specs.Items.{pair_of}
use Rattle.pc_domains.specs.Ways.{Kept}

-- an item as a kept path
abbrev pub kept_item : Side → List (List (List FrontItem)) → ℕ → FrontItem → Kept
kept_item side stages distance item = record { pair = pair_of item; rank = item.back.rank; path = word_at side stages distance item }

-- what is kept of a node of the layer that is so far from the end, by the places of its front
abbrev pub kept_by_fronts : Side → List (List (List FrontItem)) → ℕ → ℕ → ℕ → Option Kept
kept_by_fronts side stages distance node place = option_map (kept_item side stages distance) (slice_get (items_at stages distance node) place)
