-- The numbers of the bikes' diagram have one digit each.
use Rattle.pc_dump.proofs.TextLemmas.{bike_told}
use Rattle.pc_dump.proofs.laws.bikes_have_this_text.Goals as goal

pub returns : goal.returns
returns c = bike_told
