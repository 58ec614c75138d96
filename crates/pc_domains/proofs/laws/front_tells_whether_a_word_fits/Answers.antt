-- Each tail of the root is covered by a kept one.
use Rattle.pc_domains.specs.Orders.{IsAtMost}
use Rattle.pc_domains.proofs.FitLemmas.{none_fits, root_fits}
use Rattle.pc_domains.proofs.OrderLemmas.{at_most_adds_up, at_most_downward}
use Rattle.pc_domains.proofs.laws.front_tells_whether_a_word_fits.Goals as goal

pub returns-clause-fits : goal.returns-clause-fits
returns-clause-fits c raw costs choices bounds kept place path choices_of keeps is allowed =
    root_fits raw costs choices bounds choices_of.distinct choices_of.choices_of IsAtMost at_most_adds_up (at_most_downward bounds) kept keeps place path is allowed

pub returns-clause-none : goal.returns-clause-none
returns-clause-none c raw costs choices bounds kept choices_of keeps none =
    none_fits raw costs choices bounds choices_of.distinct choices_of.choices_of IsAtMost at_most_adds_up (at_most_downward bounds) kept keeps none
