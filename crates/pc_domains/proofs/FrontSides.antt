-- The fronts of both ends keep the paths on either side of a variable, and those of the root.
use Rattle.std.proofs.Common.{ℕ, ◌+◌, ◌-◌, ◌<◌, List, length, take, drop, refl, subst, arith}
use Rattle.pc_diagram.specs.declared.choice.Choice.{Choice}
use Rattle.pc_diagram.specs.declared.costs.CostPair.{CostPair}
use Rattle.pc_diagram.specs.declared.raw_diagram.RawDiagram.{RawDiagram}
use Rattle.pc_diagram.specs.declared.side.Side.TheVariants.{Heads, Tails}
use Rattle.pc_diagram.specs.Diagram.{IsCanonical}
use Rattle.pc_diagram.specs.NodePaths.{is_head, is_tail}
use Rattle.pc_pareto.specs.declared.front_item.FrontItem.{FrontItem}
use Rattle.pc_pareto.specs.Fronts.{AreFronts}
use Rattle.pc_domains.specs.FrontPaths.{kept_by_fronts}
use Rattle.pc_domains.specs.Orders.{IsAtMost}
use Rattle.pc_domains.specs.Sides.{AreSides}
use Rattle.pc_domains.specs.Ways.{Keeps}
use Rattle.pc_domains.proofs.FrontPathLemmas.{fronts_keep}

module _ (raw : RawDiagram) (costs : List (List CostPair)) (choices : List Choice) where
  pub fronts_are_sides : (heads tails : List (List (List FrontItem))) (variable : ℕ) → variable < length raw.domains → AreFronts Heads raw costs choices heads → AreFronts Tails raw costs choices tails
      → AreSides IsAtMost raw costs choices variable (kept_by_fronts Heads heads variable) (kept_by_fronts Tails tails (length raw.domains - (variable + 1)))
  fronts_are_sides heads tails variable inside before after = record {
    before = fronts_keep Heads raw costs choices heads before variable variable (omega arith) refl (is_head raw choices variable) (take variable raw.domains) costs (λ node. refl) (λ word. refl);
    after = fronts_keep Tails raw costs choices tails after (length raw.domains - (variable + 1)) (variable + 1) (omega arith) (omega arith) (is_tail raw choices (variable + 1)) (drop (variable + 1) raw.domains) (drop (variable + 1) costs) (λ node. refl) (λ word. refl);
  }

  pub fronts_of_root : IsCanonical raw → (tails : List (List (List FrontItem))) → AreFronts Tails raw costs choices tails → Keeps IsAtMost costs (is_tail raw choices 0) raw.domains 1 (kept_by_fronts Tails tails (length raw.domains))
  fronts_of_root canonical tails fronts =
      subst (λ n. Keeps IsAtMost costs (is_tail raw choices 0) raw.domains n (kept_by_fronts Tails tails (length raw.domains))) canonical.shape.root
      (fronts_keep Tails raw costs choices tails fronts (length raw.domains) 0 (omega arith) (omega arith) (is_tail raw choices 0) raw.domains costs (λ node. refl) (λ word. refl))
