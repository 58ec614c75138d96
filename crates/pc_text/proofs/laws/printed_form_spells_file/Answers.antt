use Rattle.pc_text.proofs.PrintedSpells.{printed_is_read}
use Rattle.pc_text.proofs.laws.printed_form_spells_file.Goals as goal

pub returns-clause-read : goal.returns-clause-read
returns-clause-read c = printed_is_read
