-- What is listed of the variables so far, within their slots.
use Rattle.std.proofs.Common.{◌≡◌, ◌+◌, ◌≤◌, map}
use Rattle.std.specs.List.{range_with_len}
use Rattle.pc_diagram.specs.Fitting.{fitting}
use Rattle.pc_diagram.specs.Listing.{items}
use Rattle.pc_diagram.specs.Paths.{words}
use Rattle.pc_domains.specs.Slots.{slots_before}
use Rattle.pc_domains.proofs.board.Board.listing.Given as goal

abbrev pub invariant-loop-variable : goal.invariant-loop-variable
invariant-loop-variable g l =
    (l.rows ≡ map (items l.costs (fitting l.costs (words l.diagram) l.self.choices l.self.bounds)) (range_with_len 0 l.variable))
    × (l.steps ≤ l.initial.steps + slots_before l.diagram l.variable)
