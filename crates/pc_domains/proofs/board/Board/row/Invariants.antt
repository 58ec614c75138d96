-- What is listed of the values so far, at one step a node and value.
use Rattle.std.proofs.Common.{◌≡◌, ◌+◌, ◌*◌, ◌≤◌, get_or, filter_map}
use Rattle.std.specs.List.{range_with_len}
use Rattle.pc_diagram.specs.Fitting.{fitting}
use Rattle.pc_diagram.specs.Listing.{item}
use Rattle.pc_diagram.specs.Paths.{words}
use Rattle.pc_domains.proofs.board.Board.row.Given as goal

abbrev pub invariant-loop-value : goal.invariant-loop-value
invariant-loop-value g l =
    (l.row ≡ filter_map (item l.costs (fitting l.costs (words l.diagram) l.self.choices l.self.bounds) l.variable) (range_with_len 0 l.value))
    × (l.steps ≤ l.initial.steps + l.value * get_or l.diagram.sizes l.variable 0)
