use Rattle.std.proofs.Common.{◌++◌, ◌∷◌, []}
use Rattle.pc_file.specs.Parts.{parts_before}
use Rattle.pc_file.proofs.PartLemmas.{agrees, parts_before_are}
use Rattle.pc_file.proofs.laws.parts_end_with_the_rule.Goals as goal

pub returns-clause-subrules : goal.returns-clause-subrules
returns-clause-subrules c = parts_before_are

pub returns-clause-last : goal.returns-clause-last
returns-clause-last c variables rule = λ i. parts_before variables rule ++ (λ word. agrees variables rule word i) ∷ []
