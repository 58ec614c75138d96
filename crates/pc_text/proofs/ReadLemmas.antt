-- What reading answers, beside what a text spells.
use Rattle.std.proofs.Common.{◌≡◌, ℕ, List, None, Err, sym, ap, subst, ◌∙◌}
use Rattle.pc_file.specs.Limits.{Contents}
use Rattle.pc_text.specs.declared.text_fault.TextFault.{TextFault}
use Rattle.pc_text.specs.declared.text_fault.TextFault.TheVariants.{At, NoMemory}
use Rattle.pc_text.specs.FirstFault.{first_fault, given_by}
use Rattle.pc_text.specs.Given.{Given, contents_given}
use Rattle.pc_text.specs.Spells.{GivesFile, Spells}
use Rattle.pc_text.specs.Told.{ReadsText}
use Rattle.pc_text.proofs.NoFaultIsSpelled.{no_fault_is_spelled}
use Rattle.pc_text.proofs.SpelledHasNoFault.{spelled_has_no_fault}

-- the file that is read is spelled
pub read_spells : (text : List ℕ) (given : Given) (file : Contents) → first_fault text ≡ None → given ≡ given_by text → file ≡ contents_given given → Spells text file
read_spells text given file none holds read = subst (Spells text) (ap contents_given (sym holds) ∙ sym read) (no_fault_is_spelled text none)

-- no other is
pub read_only : (text : List ℕ) (given : Given) (file : Contents) → given ≡ given_by text → file ≡ contents_given given → (spelled : Contents) → Spells text spelled → file ≡ spelled
read_only text given file holds read spelled spells = read ∙ ap contents_given holds ∙ (spelled_has_no_fault text spelled spells).1

-- a text that spells a file is not answered by a fault
pub fault_gives : {X : Type 0} (P : X → Type 0) (text : List ℕ) (fault : TextFault) → ReadsText P (Err fault) (first_fault text) → (spelled : Contents) → Spells text spelled → GivesFile spelled (Err fault)
fault_gives P text (At line kind) found spelled spells = let none = (spelled_has_no_fault text spelled spells).0 in absurd cc
fault_gives P text NoMemory found spelled spells = tt

-- a text spells one file at most
pub spelled_once : (text : List ℕ) (first second : Contents) → Spells text first → Spells text second → first ≡ second
spelled_once text first second one other = sym (spelled_has_no_fault text first one).1 ∙ (spelled_has_no_fault text second other).1
