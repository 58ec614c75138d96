-- The weights of a layer's nodes and their steps back.
use Rattle.std.specs.Prelude.{◌≡◌, ℕ, ◌<◌, ◌≤◌, List, length, All, slice_index_or, slice_set, if◌then◌else◌, Option, None, IfSome}
use Rattle.pc_diagram.specs.declared.weight.Ranked.{Ranked}
use Rattle.pc_diagram.specs.Weight.{is_less, rank_count}
use Rattle.pc_labels.specs.declared.step.Step.{Step}

-- per node a weight and the step back from it, and a number above all ranks
pub record Marks : Type 0 where
  pub weights : List (Option Ranked)
  pub steps : List Step
  pub limit : ℕ

-- a rank below a limit, if there is a path
abbrev pub IsBelow : ℕ → Option Ranked → Type 0
IsBelow limit weight = IfSome weight (λ r. r.rank < limit)

-- a step for each weight, and ranks below the limit
pub record AreMarks (marks : Marks) : Type 0 where
  pub steps : length marks.steps ≡ length marks.weights
  pub ranks : All (IsBelow marks.limit) marks.weights
  pub limit : marks.limit ≤ rank_count

-- the weight of a node
abbrev pub weight_at : Marks → ℕ → Option Ranked
weight_at marks node = slice_index_or marks.weights node None

-- a node that takes a lesser weight, with its step
abbrev pub offered : Marks → ℕ → Option Ranked → Step → Marks
offered marks node weight step =
    if is_less weight (weight_at marks node)
    then record { weights = slice_set marks.weights node weight; steps = slice_set marks.steps node step; limit = marks.limit }
    else marks
