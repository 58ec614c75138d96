-- Costs and bounds with the first and the second changed about: the same words fit, and the least first cost is the least second.
use Rattle.std.proofs.Common.{◌≡◌, ℕ, zero, suc, Bool, true, false, ◌&&◌, List, [], ◌∷◌, length, map, All, refl, ap, ◌∙◌, ◌+ℤ◌, arith}
use Rattle.std.proofs.lemmas.List.{length-map}
use Rattle.std.proofs.lemmas.List.Elements.{All-cons, All-head, All-tail, filter_agree}
use Rattle.pc_diagram.specs.declared.bounds.Bounds.{Bounds}
use Rattle.pc_diagram.specs.declared.choice.Choice.{Choice}
use Rattle.pc_diagram.specs.declared.costs.CostPair.{CostPair}
use Rattle.pc_diagram.specs.declared.which.Which.{Which}
use Rattle.pc_diagram.specs.declared.which.Which.TheVariants.{First, Second}
use Rattle.pc_diagram.specs.Bounds.{allows}
use Rattle.pc_diagram.specs.Costs.{IsPricePair, cost, pair_at, part}
use Rattle.pc_diagram.specs.Fitting.{extends, fits, fitting, within}
use Rattle.pc_diagram.specs.Least.{least, least_cost}
use Rattle.pc_diagram.specs.NodePaths.{AreCostsOf}
use Rattle.pc_domains.specs.Least.{swapped, swapped_bounds, swapped_costs}

other : Which → Which
other First = Second
other Second = First

pair_swapped : (row : List CostPair) (value : ℕ) → pair_at (map swapped row) value ≡ swapped (pair_at row value)
pair_swapped [] value = refl
pair_swapped (pair ∷ row) zero = refl
pair_swapped (pair ∷ row) (suc value) = pair_swapped row value

part_swapped : (which : Which) (pair : CostPair) → part which (swapped pair) ≡ part (other which) pair
unfolding other
part_swapped First pair = refl
part_swapped Second pair = refl

cost_swapped : (which : Which) (costs : List (List CostPair)) (word : List ℕ) → cost (swapped_costs costs) which word ≡ cost costs (other which) word
cost_swapped which [] word = refl
cost_swapped which (row ∷ costs) [] = refl
cost_swapped which (row ∷ costs) (value ∷ word) =
    ap (λ z. z +ℤ cost (swapped_costs costs) which word) (ap (part which) (pair_swapped row value) ∙ part_swapped which (pair_at row value))
    ∙ ap (λ z. part (other which) (pair_at row value) +ℤ z) (cost_swapped which costs word)

and_swapped : (a b : Bool) → (a && b) ≡ (b && a)
and_swapped true true = refl
and_swapped true false = refl
and_swapped false true = refl
and_swapped false false = refl

module _ (costs : List (List CostPair)) (choices : List Choice) (bounds : Bounds) where
  within_swapped : (word : List ℕ) → within (swapped_costs costs) word (swapped_bounds bounds) ≡ within costs word bounds
  unfolding other
  within_swapped word =
      ap (λ z. allows bounds.second z && allows bounds.first (cost (swapped_costs costs) Second word)) (cost_swapped First costs word)
      ∙ ap (λ z. allows bounds.second (cost costs Second word) && allows bounds.first z) (cost_swapped Second costs word)
      ∙ and_swapped (allows bounds.second (cost costs Second word)) (allows bounds.first (cost costs First word))

  fitting_swapped : (all : List (List ℕ)) → fitting (swapped_costs costs) all choices (swapped_bounds bounds) ≡ fitting costs all choices bounds
  fitting_swapped all = filter_agree (λ word. fits (swapped_costs costs) word choices (swapped_bounds bounds)) (λ word. fits costs word choices bounds) (λ word. ap (λ b. extends word choices && b) (within_swapped word)) all

  costs_swapped : (all : List (List ℕ)) → map (cost (swapped_costs costs) First) all ≡ map (cost costs Second) all
  unfolding other
  costs_swapped [] = refl
  costs_swapped (word ∷ all) = ap (λ z. z ∷ map (cost (swapped_costs costs) First) all) (cost_swapped First costs word) ∙ ap (λ l. cost costs Second word ∷ l) (costs_swapped all)

  pub least_swapped : (all : List (List ℕ)) → least_cost First (swapped_costs costs) (fitting (swapped_costs costs) all choices (swapped_bounds bounds)) ≡ least_cost Second costs (fitting costs all choices bounds)
  least_swapped all = ap (least_cost First (swapped_costs costs)) (fitting_swapped all) ∙ ap least (costs_swapped (fitting costs all choices bounds))

lengths_swapped : (costs : List (List CostPair)) → map length (swapped_costs costs) ≡ map length costs
lengths_swapped [] = refl
lengths_swapped (row ∷ costs) = ap (λ n. n ∷ map length (swapped_costs costs)) (length-map row swapped) ∙ ap (λ l. length row ∷ l) (lengths_swapped costs)

row_in_range : (row : List CostPair) → All IsPricePair row → All IsPricePair (map swapped row)
row_in_range [] h = h
row_in_range (pair ∷ row) h =
    let first = All-head IsPricePair pair row h in
    All-cons IsPricePair (swapped pair) (map swapped row) (record { in_first = first.in_second; in_second = first.in_first }) (row_in_range row (All-tail IsPricePair pair row h))

in_range_swapped : (costs : List (List CostPair)) → All (All IsPricePair) costs → All (All IsPricePair) (swapped_costs costs)
in_range_swapped [] h = λ k d l. absurd (omega (arith, l))
in_range_swapped (row ∷ costs) h =
    All-cons (All IsPricePair) (map swapped row) (swapped_costs costs) (row_in_range row (All-head (All IsPricePair) row costs h)) (in_range_swapped costs (All-tail (All IsPricePair) row costs h))

pub are_swapped : (domains : List ℕ) (costs : List (List CostPair)) → AreCostsOf domains costs → AreCostsOf domains (swapped_costs costs)
are_swapped domains costs are = record {
  pairs = lengths_swapped costs ∙ are.pairs;
  priced = record { few = omega (arith, length-map costs (map swapped), are.priced.few); in_range = in_range_swapped costs are.priced.in_range };
}
