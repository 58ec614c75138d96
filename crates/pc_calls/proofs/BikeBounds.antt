-- Bounds of the bike, over the list of its products.
use Rattle.std.proofs.Common.{◌≡◌, ℕ, ◌==◌, ℤ, pos, codes, nat_eq, List, [], length, Option, Some, None, option_map, Ok, Err, ap}
use Rattle.std.specs.Cmp.Lexicographic.{pointwise}
use Rattle.std.specs.List.{list_any}
use Rattle.std.specs.Option.{option_or}
use Rattle.std.specs.Prelude.{unwrap_or}
use Rattle.pc_diagram.specs.declared.choice.Choice.{Choice}
use Rattle.pc_diagram.specs.declared.side.Side.{Side}
use Rattle.pc_diagram.specs.declared.side.Side.TheVariants.{Heads, Tails}
use Rattle.pc_diagram.specs.declared.which.Which.TheVariants.{Second}
use Rattle.pc_diagram.specs.Bounds.{no_bounds}
use Rattle.pc_diagram.specs.Fitting.{fitting}
use Rattle.pc_diagram.specs.Least.{least_cost}
use Rattle.pc_pareto.specs.declared.limits.TheConstants.{MOST_LABELS}
use Rattle.pc_pareto.specs.Fronts.{layer_at}
use Rattle.pc_pareto.specs.WordFronts.{word_limit_at}
use Rattle.pc_file.specs.Bike.{bike}
use Rattle.pc_file.specs.Costs.{costs_of}
use Rattle.pc_file.specs.Full.{full_domains}
use Rattle.pc_file.proofs.BikeLemmas.{bike_products}
use Rattle.pc_calls.specs.declared.outcome.Outcome.TheVariants.{LabelLimit, TooTight}
use Rattle.pc_calls.specs.Decision.{Decision, ◌>>=◌, ◌>>◌, refused_by, refused_where}
use Rattle.pc_calls.specs.LabelLimit.{first_limit, label_limit}
use Rattle.pc_calls.specs.Selection.{Selection, bound, bound_at, fitting_words, free}

abbrev side_over : ℕ → List (List ℕ) → List Choice → Side → Option (Side × ℕ)
side_over most words choices side =
    option_map (λ distance. (side, layer_at side (length (full_domains bike)) distance))
    (word_limit_at most side (λ word. list_any (pointwise nat_eq word) words) (full_domains bike) (costs_of bike.variables) choices)

-- the limit of labels over these products of the bike
abbrev pub limit_over : ℕ → List (List ℕ) → List Choice → Option (Side × ℕ)
limit_over most words choices = option_or (side_over most words choices Heads) (side_over most words choices Tails)

abbrev days : ℤ → Selection
days most = record { choices = []; bounds = record { first = None; second = Some most } }

abbrev unless_over : ℤ → List (List ℕ) → Decision Selection
unless_over most words = refused_by (limit_over MOST_LABELS words []) (λ limit. LabelLimit limit.0 limit.1) >> Ok (days most)

abbrev fits_over : List (List ℕ) → Selection → Decision Selection
fits_over words asked =
    refused_where (length (fitting (costs_of bike.variables) words asked.choices asked.bounds) == 0)
    (TooTight (unwrap_or (least_cost Second (costs_of bike.variables) (fitting (costs_of bike.variables) words [] no_bounds)) (pos 0)))
    >> Ok asked

abbrev bound_over : ℤ → List (List ℕ) → Decision Selection
bound_over most words = unless_over most words >>= fits_over words

pub limit_three : first_limit 3 bike [] ≡ Some (Heads, 1)
limit_three = ap (λ words. limit_over 3 words []) bike_products

pub two_days_are_bound : bound (codes "days") (pos 2) bike free ≡ Ok (days (pos 2))
unfolding bound_at fitting_words label_limit
two_days_are_bound = ap (bound_over (pos 2)) bike_products

pub one_day_is_too_tight : bound (codes "days") (pos 1) bike free ≡ Err (TooTight (pos 2))
unfolding bound_at fitting_words label_limit
one_day_is_too_tight = ap (bound_over (pos 1)) bike_products
