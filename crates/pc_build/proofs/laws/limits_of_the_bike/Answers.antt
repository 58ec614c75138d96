use Rattle.pc_build.proofs.BikeLimits.{limit_three, limit_four, limit_five, limit_six, no_limit_seven}
use Rattle.pc_build.proofs.laws.limits_of_the_bike.Goals as goal

pub returns-clause-three : goal.returns-clause-three
returns-clause-three c = limit_three

pub returns-clause-four : goal.returns-clause-four
returns-clause-four c = limit_four

pub returns-clause-five : goal.returns-clause-five
returns-clause-five c = limit_five

pub returns-clause-six : goal.returns-clause-six
returns-clause-six c = limit_six

pub returns-clause-seven : goal.returns-clause-seven
returns-clause-seven c = no_limit_seven
