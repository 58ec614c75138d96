-- The cost of a word, one variable further, and its range.
use Rattle.std.proofs.Common.{◌≡◌, ℕ, zero, suc, ◌+◌, ◌*◌, ◌<◌, List, [], ◌∷◌, ◌++◌, length, take, drop, get_or, Option, Some, None, slice_get, All, pos, ◌+ℤ◌, neg_ℤ, ◌≤ℤ◌, refl, arith}
use Rattle.std.proofs.Math.Numerals.{add-one}
use Rattle.std.proofs.lemmas.Int.{ints}
use Rattle.std.proofs.lemmas.List.Elements.{All-head, All-tail}
use Rattle.pc_diagram.specs.declared.costs.CostPair.{CostPair}
use Rattle.pc_diagram.specs.declared.which.Which.{Which}
use Rattle.pc_diagram.specs.declared.which.Which.TheVariants.{First, Second}
use Rattle.pc_diagram.specs.Costs.{part, pair_at, part_taken, cost, IsPrice, IsPricePair, IsPriced, IsSum}

cost-take_suc : (costs : List (List CostPair)) (which : Which) (word : List ℕ) (i : ℕ) → i < length costs → cost (take (suc i) costs) which word ≡ cost (take i costs) which word +ℤ part_taken (get_or costs i []) which (slice_get word i)
cost-take_suc [] which word i h = absurd (omega arith)
cost-take_suc (row ∷ rows) which [] zero h = refl
cost-take_suc (row ∷ rows) which (value ∷ values) zero h = omega (arith, ints)
cost-take_suc (row ∷ rows) which [] (suc i) h = refl
cost-take_suc (row ∷ rows) which (value ∷ values) (suc i) h =
    omega (arith, ints, cost-take_suc rows which values i (omega arith))

-- one variable further
pub cost-take_more : (costs : List (List CostPair)) (which : Which) (word : List ℕ) (i : ℕ) → i < length costs → cost (take (i + 1) costs) which word ≡ cost (take i costs) which word +ℤ part_taken (get_or costs i []) which (slice_get word i)
cost-take_more costs which word i h = rw add-one (cost-take_suc costs which word i h)

zero_is_price : IsPrice (pos 0)
zero_is_price = (omega (arith, ints), omega (arith, ints))

pair_at_in_range : (row : List CostPair) (value : ℕ) → All IsPricePair row → IsPricePair (pair_at row value)
pair_at_in_range [] value h = record { in_first = zero_is_price; in_second = zero_is_price }
pair_at_in_range (pair ∷ row) zero h = All-head IsPricePair pair row h
pair_at_in_range (pair ∷ row) (suc value) h = pair_at_in_range row value (All-tail IsPricePair pair row h)

part_in_range : (which : Which) (pair : CostPair) → IsPricePair pair → IsPrice (part which pair)
part_in_range First pair h = h.in_first
part_in_range Second pair h = h.in_second

-- what one variable adds is in range
pub part_taken_in_range : (row : List CostPair) (which : Which) (taken : Option ℕ) → All IsPricePair row → IsPrice (part_taken row which taken)
part_taken_in_range row which None h = zero_is_price
part_taken_in_range row which (Some value) h = part_in_range which (pair_at row value) (pair_at_in_range row value h)

-- a sum over n variables lies within n times the range of one
cost_in_range : (costs : List (List CostPair)) (which : Which) (word : List ℕ) → All (All IsPricePair) costs → (neg_ℤ (pos (1000000000 * length costs)) ≤ℤ cost costs which word) × (cost costs which word ≤ℤ pos (1000000000 * length costs))
cost_in_range [] which word h = (omega (arith, ints), omega (arith, ints))
cost_in_range (row ∷ rows) which [] h = (omega (arith, ints), omega (arith, ints))
cost_in_range (row ∷ rows) which (value ∷ values) h =
    let one = part_taken_in_range row which (Some value) (All-head (All IsPricePair) row rows h) in
    let others = cost_in_range rows which values (All-tail (All IsPricePair) row rows h) in
    (omega (arith, ints), omega (arith, ints))

-- every sum lies from -64,000,000,000 to 64,000,000,000
pub cost-IsSum : (costs : List (List CostPair)) (which : Which) (word : List ℕ) → IsPriced costs → IsSum (cost costs which word)
cost-IsSum costs which word h =
    let few = h.few in
    let range = cost_in_range costs which word h.in_range in
    (omega (arith, ints), omega (arith, ints))
