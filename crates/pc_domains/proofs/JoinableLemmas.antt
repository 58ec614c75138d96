-- The fronts of both ends can be joined over every variable.
use Rattle.std.proofs.Common.{◌≡◌, ℕ, ◌+◌, ◌-◌, ◌<◌, ◌≤◌, List, [], length, map, drop, get_or, All, slice_index_or, refl, sym, ap, subst, ◌∙◌, arith, length-drop}
use Rattle.std.proofs.lemmas.List.Elements.{All-drop, All-weaker}
use Rattle.pc_diagram.specs.declared.choice.Choice.{Choice}
use Rattle.pc_diagram.specs.declared.costs.CostPair.{CostPair}
use Rattle.pc_diagram.specs.declared.raw_diagram.RawDiagram.{RawDiagram}
use Rattle.pc_diagram.specs.declared.side.Side.{Side}
use Rattle.pc_diagram.specs.declared.side.Side.TheVariants.{Heads, Tails}
use Rattle.pc_diagram.specs.declared.which.Which.TheVariants.{First, Second}
use Rattle.pc_diagram.specs.Costs.{IsPriced, IsPricePair, cost_pair}
use Rattle.pc_diagram.specs.Diagram.{IsCanonical}
use Rattle.pc_diagram.specs.NodePaths.{AreCostsOf}
use Rattle.pc_diagram.proofs.CostLemmas.{cost-IsSum}
use Rattle.pc_pareto.specs.declared.fronts.Fronts.{Fronts}
use Rattle.pc_pareto.specs.Front.{Falls}
use Rattle.pc_pareto.specs.Fronts.{IsFirstWith, items_at, layer_at, pair_of_word, word_at, words_of}
use Rattle.pc_pareto.specs.FrontsView.{IsFrontsOf, distance_of, stages_of}
use Rattle.pc_pareto.specs.Items.{pair_of}
use Rattle.pc_pareto.proofs.FrontLemmas.{front_is}
use Rattle.pc_domains.specs.FrontWays.{AreFallingFronts, AreJoinable}
use Rattle.pc_domains.specs.Joins.{IsSumPair}

pub priced_rest : (costs : List (List CostPair)) (layer : ℕ) → IsPriced costs → IsPriced (drop layer costs)
priced_rest costs layer priced = record { few = omega (arith, length-drop layer costs, priced.few); in_range = All-drop (All IsPricePair) layer costs priced.in_range }

pub sums_of : (costs : List (List CostPair)) (word : List ℕ) → IsPriced costs → IsSumPair (cost_pair costs word)
sums_of costs word priced = record { first = cost-IsSum costs First word priced; second = cost-IsSum costs Second word priced }

word_sums : (side : Side) (costs : List (List CostPair)) (layer : ℕ) (word : List ℕ) → IsPriced costs → IsSumPair (pair_of_word side costs layer word)
word_sums Heads costs layer word priced = sums_of costs word priced
word_sums Tails costs layer word priced = sums_of (drop layer costs) word (priced_rest costs layer priced)

-- of layers counted from an end, and back
there_and_back : (side : Side) (variables layer : ℕ) → layer ≤ variables → layer_at side variables (layer_at side variables layer) ≡ layer
there_and_back Heads variables layer le = refl
there_and_back Tails variables layer le = omega arith

within : (side : Side) (variables layer : ℕ) → layer ≤ variables → layer_at side variables layer ≤ variables
within Heads variables layer le = le
within Tails variables layer le = omega arith

module _ (side : Side) (raw : RawDiagram) (costs : List (List CostPair)) (choices : List Choice) (priced : IsPriced costs) (fronts : Fronts) (are : IsFrontsOf side raw costs choices fronts) where
  -- how far a layer is from the end
  pub distance_is : (layer : ℕ) → distance_of fronts layer ≡ layer_at side (length raw.domains) layer
  distance_is layer =
      let many : length (stages_of fronts) - 1 ≡ length raw.domains = omega (arith, are.are.layers) in
      ap (λ s. layer_at s (length (stages_of fronts) - 1) layer) are.side_is ∙ ap (λ n. layer_at side n layer) many

  pub falling : (layer : ℕ) → layer ≤ length raw.domains → AreFallingFronts (length raw.domains + 1) layer (get_or raw.sizes layer 0) fronts
  falling layer le =
      let n = length raw.domains in
      let far = layer_at side n layer in
      let back = there_and_back side n layer le in
      let near = within side n layer le in
      let at : distance_of fronts layer ≡ far = distance_is layer in
      let inside : (node : ℕ) → node < get_or raw.sizes layer 0 → node < get_or raw.sizes (layer_at side n far) 0 = λ node lt. subst (λ l. node < get_or raw.sizes l 0) (sym back) lt in
      record {
        layers_are = are.are.layers;
        nodes = ap (λ d. length (slice_index_or (stages_of fronts) d [])) at ∙ are.are.nodes far near ∙ ap (λ l. get_or raw.sizes l 0) back;
        falls = λ node lt.
            subst (λ d. Falls (map pair_of (items_at (stages_of fronts) d node))) (sym at)
            (subst Falls (sym (are.are.pairs far node near (inside node lt))) ((front_is (map (pair_of_word side costs (layer_at side n far)) (words_of side raw choices (layer_at side n far) node))).falls));
        sums = λ node lt.
            subst (λ d. All (λ item. IsSumPair (pair_of item)) (items_at (stages_of fronts) d node)) (sym at)
            (All-weaker
            (λ item. IsFirstWith (pair_of_word side costs (layer_at side n far)) (words_of side raw choices (layer_at side n far) node) (pair_of item) (word_at side (stages_of fronts) far item))
            (λ item. IsSumPair (pair_of item))
            (λ item first. subst IsSumPair first.has (word_sums side costs (layer_at side n far) (word_at side (stages_of fronts) far item) priced))
            (items_at (stages_of fronts) far node) (are.are.paths far node near (inside node lt)));
      }

-- the fronts of both ends of a diagram
pub joinable : (raw : RawDiagram) (costs : List (List CostPair)) (choices : List Choice) (variable : ℕ) (heads tails : Fronts) → IsCanonical raw → AreCostsOf raw.domains costs → variable < length raw.domains → IsFrontsOf Heads raw costs choices heads → IsFrontsOf Tails raw costs choices tails → AreJoinable raw variable heads tails
joinable raw costs choices variable heads tails canonical costs_of inside before after = record {
  canonical = canonical;
  before = falling Heads raw costs choices costs_of.priced heads before variable (omega arith);
  after = falling Tails raw costs choices costs_of.priced tails after (variable + 1) (omega arith);
}
