-- The costs of the tails of a variable are sums.
use Rattle.std.proofs.Common.{◌≡◌, ℕ, ℤ, ◌+◌, ◌<◌, List, length, get_or, Option, refl, sym, subst, ◌∙◌, arith}
use Rattle.pc_diagram.specs.declared.choice.Choice.{Choice}
use Rattle.pc_diagram.specs.declared.costs.CostPair.{CostPair}
use Rattle.pc_diagram.specs.declared.raw_diagram.RawDiagram.{RawDiagram}
use Rattle.pc_diagram.specs.declared.side.Side.TheVariants.{Tails}
use Rattle.pc_diagram.specs.NodePaths.{AreCostsOf}
use Rattle.pc_labels.specs.Kept.{KeptPaths}
use Rattle.pc_domains.specs.declared.ends.Ends.{Ends}
use Rattle.pc_domains.specs.declared.ends.Ends.TheVariants.{Least, Pairs}
use Rattle.pc_domains.specs.Ends.{IsEndOf}
use Rattle.pc_domains.specs.Floors.{HasSummedLayer}
use Rattle.pc_domains.specs.LabelWays.{AreSummedLabels}
use Rattle.pc_domains.proofs.EndLemmas.{labels_of}
use Rattle.pc_domains.proofs.LabelListedLemmas.{tails_summed}

module _ (raw : RawDiagram) (costs : List (List CostPair)) (choices : List Choice) (variable : ℕ) (costs_of : AreCostsOf raw.domains costs) (inside : variable < length raw.domains) where
  of_labels : (labels : KeptPaths) (count : ℕ) → count ≡ get_or raw.sizes (variable + 1) 0 → AreSummedLabels (length raw.domains + 1) (variable + 1) (get_or raw.sizes (variable + 1) 0) labels → HasSummedLayer (Least labels) (variable + 1) count
  of_labels labels count is s =
      let layers = s.layers_are in
      (omega (arith, layers, inside), record { layers_are = refl; nodes = s.nodes ∙ sym is; sums = λ node lt. s.sums node (omega (arith, lt, is)) })

  pub summed_end : (second : Option ℤ) (ends : Ends) (count : ℕ) → IsEndOf Tails raw costs choices second ends → count ≡ get_or raw.sizes (variable + 1) 0 → HasSummedLayer ends (variable + 1) count
  summed_end second (Least labels) count end is =
      of_labels labels count is (tails_summed raw costs choices variable labels costs_of inside (labels_of Tails raw costs choices second labels end))
  summed_end second (Pairs fronts) count end is = tt
