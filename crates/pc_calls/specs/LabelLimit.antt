-- Where what a session asks has too many pairs of costs to be kept.
use Rattle.std.specs.Prelude.{ℕ, List, length, Option, None, option_map, is_some, if◌then◌else◌}
use Rattle.std.specs.Option.{option_or}
use Rattle.pc_diagram.specs.declared.bounds.Bounds.{Bounds}
use Rattle.pc_diagram.specs.declared.choice.Choice.{Choice}
use Rattle.pc_diagram.specs.declared.side.Side.{Side}
use Rattle.pc_diagram.specs.declared.side.Side.TheVariants.{Heads, Tails}
use Rattle.pc_pareto.specs.declared.limits.TheConstants.{MOST_LABELS}
use Rattle.pc_pareto.specs.Fronts.{layer_at}
use Rattle.pc_pareto.specs.WordFronts.{word_limit_at}
use Rattle.pc_file.specs.Contents.{Contents}
use Rattle.pc_file.specs.Costs.{costs_of}
use Rattle.pc_file.specs.Full.{full_domains, is_full}

-- the length of beginnings at which the fronts of a side have more than so many pairs, all in all, counted from its end
abbrev pub limit_of_side : ℕ → Contents → List Choice → Side → Option (Side × ℕ)
limit_of_side most file choices side =
    option_map (λ distance. (side, layer_at side (length (full_domains file)) distance))
    (word_limit_at most side (is_full file) (full_domains file) (costs_of file.variables) choices)

-- the first limit of both sides: that of the heads, else that of the tails
abbrev pub first_limit : ℕ → Contents → List Choice → Option (Side × ℕ)
first_limit most file choices = option_or (limit_of_side most file choices Heads) (limit_of_side most file choices Tails)

-- the limit of choices and bounds; there is none where the second cost has no bound
unfoldable pub label_limit : Contents → List Choice → Bounds → Option (Side × ℕ)
label_limit file choices bounds = if is_some bounds.second then first_limit MOST_LABELS file choices else None
