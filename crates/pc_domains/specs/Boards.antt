-- Boards of a diagram.
use Rattle.std.specs.Prelude.{◌≡◌, ◌≢◌, List, [], None}
use Rattle.pc_diagram.specs.declared.costs.CostPair.{CostPair}
use Rattle.pc_diagram.specs.declared.raw_diagram.RawDiagram.{RawDiagram}
use Rattle.pc_diagram.specs.declared.side.Side.TheVariants.{Heads, Tails}
use Rattle.pc_diagram.specs.Diagram.{IsCanonical}
use Rattle.pc_diagram.specs.Fitting.{fitting}
use Rattle.pc_diagram.specs.NodePaths.{AreCostsOf}
use Rattle.pc_diagram.specs.Paths.{words}
use Rattle.pc_domains.specs.declared.board.Board.{Board}
use Rattle.pc_domains.specs.Ends.{IsEndOf}
use Rattle.pc_domains.specs.LabelLimits.{limit_under}
use Rattle.pc_domains.specs.Sides.{AreDistinctOf}

-- a board over a canonical diagram and costs of its values: it has distinct choices of these and what is kept from both ends
-- with them, no limit stands, and some word fits
pub record IsBoardOf (raw : RawDiagram) (costs : List (List CostPair)) (board : Board) : Type 0 where
  pub canonical : IsCanonical raw
  pub costs_of : AreCostsOf raw.domains costs
  pub choices_of : AreDistinctOf raw.domains board.choices
  pub heads : IsEndOf Heads raw costs board.choices board.bounds.second board.heads
  pub tails : IsEndOf Tails raw costs board.choices board.bounds.second board.tails
  pub within : limit_under raw costs board.choices board.bounds.second ≡ None
  pub fits : fitting costs (words raw) board.choices board.bounds ≢ []
