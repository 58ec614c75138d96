use Rattle.pc_names.proofs.NumberText.{signed_one}
use Rattle.pc_names.proofs.laws.spelling_tells_number.Goals as goal

pub returns : goal.returns
returns c = signed_one _ _ c.ranges.first c.ranges.second
