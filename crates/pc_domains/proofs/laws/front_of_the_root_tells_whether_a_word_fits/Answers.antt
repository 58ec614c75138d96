-- It keeps the root's paths.
use Rattle.std.proofs.Common.{length}
use Rattle.pc_diagram.specs.declared.side.Side.TheVariants.{Tails}
use Rattle.pc_domains.specs.FrontPaths.{kept_by_fronts}
use Rattle.pc_domains.specs.Orders.{IsAtMost}
use Rattle.pc_domains.proofs.FitLemmas.{none_fits, root_fits}
use Rattle.pc_domains.proofs.FrontSides.{fronts_of_root}
use Rattle.pc_domains.proofs.OrderLemmas.{at_most_adds_up, at_most_downward}
use Rattle.pc_domains.proofs.laws.front_of_the_root_tells_whether_a_word_fits.Goals as goal

pub returns-clause-fits : goal.returns-clause-fits
returns-clause-fits c raw costs choices bounds tails place path canonical choices_of fronts is allowed =
    root_fits raw costs choices bounds choices_of.distinct choices_of.choices_of IsAtMost at_most_adds_up (at_most_downward bounds) (kept_by_fronts Tails tails (length raw.domains))
    (fronts_of_root raw costs choices canonical tails fronts) place path is allowed

pub returns-clause-none : goal.returns-clause-none
returns-clause-none c raw costs choices bounds tails canonical choices_of fronts none =
    none_fits raw costs choices bounds choices_of.distinct choices_of.choices_of IsAtMost at_most_adds_up (at_most_downward bounds) (kept_by_fronts Tails tails (length raw.domains))
    (fronts_of_root raw costs choices canonical tails fronts) none
