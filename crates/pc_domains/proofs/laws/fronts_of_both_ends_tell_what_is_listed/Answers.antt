-- They keep the paths on either side of the variable.
use Rattle.std.proofs.Common.{◌+◌, ◌-◌, length}
use Rattle.pc_diagram.specs.declared.side.Side.TheVariants.{Heads, Tails}
use Rattle.pc_domains.specs.FrontPaths.{kept_by_fronts}
use Rattle.pc_domains.specs.Orders.{IsAtMost}
use Rattle.pc_domains.proofs.FrontSides.{fronts_are_sides}
use Rattle.pc_domains.proofs.ListedLemmas.{least_listed, none_allowed}
use Rattle.pc_domains.proofs.OrderLemmas.{at_most_adds_up, at_most_downward}
use Rattle.pc_domains.proofs.laws.fronts_of_both_ends_tell_what_is_listed.Goals as goal

pub returns-clause-listed : goal.returns-clause-listed
returns-clause-listed c raw costs choices bounds variable value heads tails way asked before after allowed least =
    least_listed raw costs choices bounds variable value asked IsAtMost at_most_adds_up (at_most_downward bounds) (kept_by_fronts Heads heads variable) (kept_by_fronts Tails tails (length raw.domains - (variable + 1)))
    (fronts_are_sides raw costs choices heads tails variable asked.variable_inside before after) allowed way least

pub returns-clause-unlisted : goal.returns-clause-unlisted
returns-clause-unlisted c raw costs choices bounds variable value heads tails asked before after allowed none =
    none_allowed raw costs choices bounds variable value asked IsAtMost at_most_adds_up (at_most_downward bounds) (kept_by_fronts Heads heads variable) (kept_by_fronts Tails tails (length raw.domains - (variable + 1)))
    (fronts_are_sides raw costs choices heads tails variable asked.variable_inside before after) allowed none
