-- They keep the paths on either side of the variable.
use Rattle.std.proofs.Common.{◌+◌}
use Rattle.pc_domains.specs.LabelPaths.{kept_by_labels}
use Rattle.pc_domains.specs.Orders.{IsNoDearer}
use Rattle.pc_domains.proofs.LabelPathLemmas.{labels_are_sides}
use Rattle.pc_domains.proofs.ListedLemmas.{least_listed, none_allowed}
use Rattle.pc_domains.proofs.OrderLemmas.{no_dearer_adds_up, no_dearer_downward}
use Rattle.pc_domains.proofs.laws.labels_of_both_ends_tell_what_is_listed.Goals as goal

pub returns-clause-listed : goal.returns-clause-listed
returns-clause-listed c raw costs choices bounds variable value heads tails way asked alone before after allowed least =
    least_listed raw costs choices bounds variable value asked IsNoDearer no_dearer_adds_up (no_dearer_downward bounds alone) (kept_by_labels heads variable) (kept_by_labels tails (variable + 1))
    (labels_are_sides raw costs choices heads tails variable asked.variable_inside before after) allowed way least

pub returns-clause-unlisted : goal.returns-clause-unlisted
returns-clause-unlisted c raw costs choices bounds variable value heads tails asked alone before after allowed none =
    none_allowed raw costs choices bounds variable value asked IsNoDearer no_dearer_adds_up (no_dearer_downward bounds alone) (kept_by_labels heads variable) (kept_by_labels tails (variable + 1))
    (labels_are_sides raw costs choices heads tails variable asked.variable_inside before after) allowed none
