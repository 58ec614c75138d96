-- To be no dearer adds up, and a bound on the first cost alone goes with it.
use Rattle.pc_domains.specs.Orders.{IsNoDearer}
use Rattle.pc_domains.proofs.ListedLemmas.{least_listed, none_allowed}
use Rattle.pc_domains.proofs.OrderLemmas.{no_dearer_adds_up, no_dearer_downward}
use Rattle.pc_domains.proofs.laws.cheapest_paths_tell_what_is_listed.Goals as goal

pub returns-clause-listed : goal.returns-clause-listed
returns-clause-listed c raw costs choices bounds variable value heads tails way asked alone sides allowed least =
    least_listed raw costs choices bounds variable value asked IsNoDearer no_dearer_adds_up (no_dearer_downward bounds alone) heads tails sides allowed way least

pub returns-clause-unlisted : goal.returns-clause-unlisted
returns-clause-unlisted c raw costs choices bounds variable value heads tails asked alone sides allowed none =
    none_allowed raw costs choices bounds variable value asked IsNoDearer no_dearer_adds_up (no_dearer_downward bounds alone) heads tails sides allowed none
