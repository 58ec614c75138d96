-- To be at most as much by either cost adds up, and bounds go with it.
use Rattle.pc_domains.specs.Orders.{IsAtMost}
use Rattle.pc_domains.proofs.ListedLemmas.{least_listed, none_allowed}
use Rattle.pc_domains.proofs.OrderLemmas.{at_most_adds_up, at_most_downward}
use Rattle.pc_domains.proofs.laws.fronts_tell_what_is_listed.Goals as goal

pub returns-clause-listed : goal.returns-clause-listed
returns-clause-listed c raw costs choices bounds variable value heads tails way asked sides allowed least =
    least_listed raw costs choices bounds variable value asked IsAtMost at_most_adds_up (at_most_downward bounds) heads tails sides allowed way least

pub returns-clause-unlisted : goal.returns-clause-unlisted
returns-clause-unlisted c raw costs choices bounds variable value heads tails asked sides allowed none =
    none_allowed raw costs choices bounds variable value asked IsAtMost at_most_adds_up (at_most_downward bounds) heads tails sides allowed none
