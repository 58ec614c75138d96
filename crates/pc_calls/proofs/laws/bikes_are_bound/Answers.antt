-- By evaluation over the list of the bike's products.
use Rattle.std.proofs.Common.{refl}
use Rattle.pc_calls.specs.Selection.{unbound_at}
use Rattle.pc_calls.proofs.BikeBounds.{limit_three, one_day_is_too_tight, two_days_are_bound}
use Rattle.pc_calls.proofs.laws.bikes_are_bound.Goals as goal

pub returns-clause-two : goal.returns-clause-two
returns-clause-two c = two_days_are_bound

pub returns-clause-one : goal.returns-clause-one
returns-clause-one c = one_day_is_too_tight

pub returns-clause-unknown : goal.returns-clause-unknown
returns-clause-unknown c = refl

pub returns-clause-unset : goal.returns-clause-unset
unfolding unbound_at
returns-clause-unset c = refl

pub returns-clause-limit : goal.returns-clause-limit
returns-clause-limit c = limit_three
