-- A board that is made.
use Rattle.std.proofs.Common.{◌≡◌, List, Option, None, true, ap, ◌∙◌}
use Rattle.std.specs.Option.{option_or}
use Rattle.pc_diagram.specs.declared.bounds.Bounds.{Bounds}
use Rattle.pc_diagram.specs.declared.choice.Choice.{Choice}
use Rattle.pc_diagram.specs.declared.costs.CostPair.{CostPair}
use Rattle.pc_diagram.specs.declared.raw_diagram.RawDiagram.{RawDiagram}
use Rattle.pc_diagram.specs.declared.side.Side.TheVariants.{Heads, Tails}
use Rattle.pc_diagram.specs.Diagram.{IsCanonical}
use Rattle.pc_diagram.specs.NodePaths.{AreCostsOf}
use Rattle.pc_domains.specs.declared.ends.Ends.{Ends}
use Rattle.pc_domains.specs.Boards.{IsBoardOf}
use Rattle.pc_domains.specs.Ends.{IsEndOf, root_is_within}
use Rattle.pc_domains.specs.LabelLimits.{end_limit, limit_under}
use Rattle.pc_domains.specs.Sides.{AreDistinctOf}
use Rattle.pc_domains.proofs.EndLemmas.{some_fits}

both_none : {X : Type 0} (a b : Option X) → a ≡ None → b ≡ None → option_or a b ≡ None
both_none a b h k = ap (λ o. option_or o b) h ∙ k

module _ (raw : RawDiagram) (costs : List (List CostPair)) (choices : List Choice) (bounds : Bounds) where
  -- a board has no limit where neither of its ends has
  pub within_both : end_limit Heads raw costs choices bounds.second ≡ None → end_limit Tails raw costs choices bounds.second ≡ None → limit_under raw costs choices bounds.second ≡ None
  within_both = both_none (end_limit Heads raw costs choices bounds.second) (end_limit Tails raw costs choices bounds.second)

  pub board_made : IsCanonical raw → AreCostsOf raw.domains costs → AreDistinctOf raw.domains choices → (heads tails : Ends)
      → IsEndOf Heads raw costs choices bounds.second heads → IsEndOf Tails raw costs choices bounds.second tails
      → end_limit Heads raw costs choices bounds.second ≡ None → end_limit Tails raw costs choices bounds.second ≡ None
      → root_is_within bounds tails ≡ true → IsBoardOf raw costs (record { choices = choices; bounds = bounds; heads = heads; tails = tails })
  board_made canonical costs_of are heads tails heads_are tails_are heads_in tails_in root = record {
    canonical = canonical;
    costs_of = costs_of;
    choices_of = are;
    heads = heads_are;
    tails = tails_are;
    within = within_both heads_in tails_in;
    fits = some_fits raw canonical costs choices bounds are tails tails_are root;
  }
