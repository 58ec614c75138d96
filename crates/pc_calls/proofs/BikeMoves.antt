-- A session of the bike that moves, over the list of its products.
use Rattle.std.proofs.Common.{◌≡◌, ℕ, ◌==◌, codes, Bool, true, false, not, ◌&&◌, List, [], ◌∷◌, ◌++◌, length, Option, None, is_some, if◌then◌else◌, Ok, Err, refl, ap}
use Rattle.pc_diagram.specs.declared.side.Side.{Side}
use Rattle.pc_diagram.specs.Fitting.{fitting}
use Rattle.pc_pareto.specs.declared.limits.TheConstants.{MOST_LABELS}
use Rattle.pc_file.specs.Bike.{bike}
use Rattle.pc_file.specs.Costs.{costs_of}
use Rattle.pc_file.proofs.BikeLemmas.{bike_products}
use Rattle.pc_calls.specs.declared.dropped.Dropped.TheVariants as item
use Rattle.pc_calls.specs.declared.outcome.Outcome.TheVariants.{Conflict, LabelLimit, Lost}
use Rattle.pc_calls.specs.BikeMoves.{carbon, loose_bike, small_bike, soon, soon_steel, steel, steel_led}
use Rattle.pc_calls.specs.Carry.{Carried, carry, is_possible, keep_if, moved_to, replay}
use Rattle.pc_calls.specs.Decision.{Decision, ◌>>=◌, ◌>>◌, refused_by, refused_where}
use Rattle.pc_calls.specs.LabelLimit.{label_limit}
use Rattle.pc_calls.specs.Selection.{Selection, fitting_words, free}
use Rattle.pc_calls.proofs.BikeBounds.{limit_over}

-- the words of the bike that fit, and whether what is asked is possible, over these products
abbrev fitting_over : List (List ℕ) → Selection → List (List ℕ)
fitting_over words asked = fitting (costs_of bike.variables) words asked.choices asked.bounds

abbrev limit_asked : List (List ℕ) → Selection → Option (Side × ℕ)
limit_asked words asked = if is_some asked.bounds.second then limit_over MOST_LABELS words asked.choices else None

abbrev possible_over : List (List ℕ) → Selection → Bool
possible_over words asked = not (is_some (limit_asked words asked)) && not (length (fitting_over words asked) == 0)

abbrev moved_over : List (List ℕ) → Selection → Decision Carried
moved_over words asked =
    refused_by (limit_asked words asked) (λ limit. LabelLimit limit.0 limit.1)
    >> Ok asked
    >>= (λ kept. refused_where (length (fitting_over words kept) == 0) Conflict >> Ok (record { selection = kept; dropped = [] }))

pub carbon_is_lost : moved_to false bike small_bike carbon ≡ Err (Lost (codes "carbon"))
unfolding moved_to carry
carbon_is_lost = refl

pub steel_with_led_conflicts : moved_to false loose_bike bike steel_led ≡ Err Conflict
unfolding moved_to carry fitting_words label_limit
steel_with_led_conflicts = ap (λ words. moved_over words steel_led) bike_products

pub led_is_dropped : moved_to true loose_bike bike steel_led ≡ Ok (record { selection = steel; dropped = item.Choice (codes "light") ∷ [] })
unfolding moved_to replay carry is_possible fitting_words label_limit
led_is_dropped = ap (λ words. Ok (
    let first = keep_if (possible_over words steel) steel (item.Choice (codes "frame")) (record { selection = free; dropped = [] }) in
    keep_if (possible_over words (record { choices = first.selection.choices ++ record { variable = 2; value = 1 } ∷ []; bounds = first.selection.bounds })) (record { choices = first.selection.choices ++ record { variable = 2; value = 1 } ∷ []; bounds = first.selection.bounds }) (item.Choice (codes "light")) first)) bike_products

pub frame_is_dropped : moved_to true loose_bike bike soon_steel ≡ Ok (record { selection = soon; dropped = item.Choice (codes "frame") ∷ [] })
unfolding moved_to replay carry is_possible fitting_words label_limit
frame_is_dropped = ap (λ words. Ok (
    let bounded = keep_if (possible_over words soon) soon (item.Bound (codes "days")) (record { selection = free; dropped = [] }) in
    keep_if (possible_over words (record { choices = bounded.selection.choices ++ record { variable = 0; value = 0 } ∷ []; bounds = bounded.selection.bounds })) (record { choices = bounded.selection.choices ++ record { variable = 0; value = 0 } ∷ []; bounds = bounded.selection.bounds }) (item.Choice (codes "frame")) bounded)) bike_products
