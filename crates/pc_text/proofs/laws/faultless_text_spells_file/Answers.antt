use Rattle.std.proofs.Common.{subst}
use Rattle.pc_text.specs.FirstFault.{given_by}
use Rattle.pc_text.specs.Given.{contents_given}
use Rattle.pc_text.specs.Spells.{Spells}
use Rattle.pc_text.proofs.NoFaultIsSpelled.{no_fault_is_spelled}
use Rattle.pc_text.proofs.SpelledHasNoFault.{spelled_has_no_fault}
use Rattle.pc_text.proofs.laws.faultless_text_spells_file.Goals as goal

pub returns-clause-spells : goal.returns-clause-spells
returns-clause-spells c = λ text. (λ none. (contents_given (given_by text), no_fault_is_spelled text none), λ found. (spelled_has_no_fault text found.0 found.1).0)

pub returns-clause-file : goal.returns-clause-file
returns-clause-file c = λ text file. (spelled_has_no_fault text file, λ both. subst (Spells text) both.1 (no_fault_is_spelled text both.0))
