-- What the way that is found tells of what is listed of a value.
use Rattle.std.specs.Prelude.{◌≡◌, ℕ, ◌+◌, ◌<◌, [], length, slice_index_or, Option, Some, None, IsSome}
use Rattle.pc_diagram.specs.declared.listed.Listed.{Listed}
use Rattle.pc_labels.specs.Kept.{KeptPaths, kept_at}
use Rattle.pc_pareto.specs.declared.fronts.Fronts.{Fronts}
use Rattle.pc_pareto.specs.FrontsView.{distance_of, stages_of}
use Rattle.pc_domains.specs.declared.front_way.FrontWay.{FrontWay}
use Rattle.pc_domains.specs.declared.label_way.LabelWay.{LabelWay}
use Rattle.pc_domains.specs.FrontWays.{front_of, word_of_way}
use Rattle.pc_domains.specs.LabelWays.{word_of_label_way}

-- a value with the costs and the word of a way by labels
abbrev pub item_of_label_way : KeptPaths → KeptPaths → ℕ → ℕ → LabelWay → Listed
item_of_label_way heads tails variable value way =
    record { value = value; first = way.ranked.pair.first; second = way.ranked.pair.second; word = word_of_label_way heads tails variable value way }

-- both nodes of a way have a path, and its item is what is listed
pub record IsListedByLabels (listed : Option Listed) (heads tails : KeptPaths) (variable value : ℕ) (way : LabelWay) : Type 0 where
  pub head : IsSome (kept_at heads variable way.node)
  pub tail : IsSome (kept_at tails (variable + 1) way.target)
  pub is : Some (item_of_label_way heads tails variable value way) ≡ listed

-- nothing is listed where there is no way
abbrev pub TellsByLabels : Option Listed → KeptPaths → KeptPaths → ℕ → ℕ → Option LabelWay → Type 0
TellsByLabels listed heads tails variable value None = None ≡ listed
TellsByLabels listed heads tails variable value (Some way) = IsListedByLabels listed heads tails variable value way

-- the nodes and places of a way by fronts are in range
pub record IsInside (heads tails : Fronts) (variable : ℕ) (way : FrontWay) : Type 0 where
  pub node : way.node < length (slice_index_or (stages_of heads) (distance_of heads variable) [])
  pub target : way.target < length (slice_index_or (stages_of tails) (distance_of tails (variable + 1)) [])
  pub head : way.join.head < length (front_of heads variable way.node)
  pub tail : way.join.tail < length (front_of tails (variable + 1) way.target)

-- a value with the costs and the word of a way by fronts
abbrev pub item_of_front_way : Fronts → Fronts → ℕ → ℕ → FrontWay → Listed
item_of_front_way heads tails variable value way =
    record { value = value; first = way.join.ranked.pair.first; second = way.join.ranked.pair.second; word = word_of_way heads tails variable value way }

-- a way is in range, and its item is what is listed
pub record IsListedByFronts (listed : Option Listed) (heads tails : Fronts) (variable value : ℕ) (way : FrontWay) : Type 0 where
  pub inside : IsInside heads tails variable way
  pub is : Some (item_of_front_way heads tails variable value way) ≡ listed

-- nothing is listed where there is no way
abbrev pub TellsByFronts : Option Listed → Fronts → Fronts → ℕ → ℕ → Option FrontWay → Type 0
TellsByFronts listed heads tails variable value None = None ≡ listed
TellsByFronts listed heads tails variable value (Some way) = IsListedByFronts listed heads tails variable value way
