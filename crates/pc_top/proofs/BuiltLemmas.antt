-- What is made of a text is what is made of the file that it spells.
use Rattle.std.proofs.Common.{◌≡◌, ℕ, List, None, sym, subst}
use Rattle.std.specs.Prelude.{Result, IfOk}
use Rattle.pc_file.specs.Contents.{Contents}
use Rattle.pc_text.specs.FirstFault.{first_fault}
use Rattle.pc_top.specs.declared.building.Built.{Built}
use Rattle.pc_top.specs.Built.{IsBuilt}
use Rattle.pc_top.specs.Refusals.{file_given, file_refusal, text_refusal}
use Rattle.pc_top.proofs.RefusalLemmas.{faultless}

pub built_of_text : {E : Type 0} (text : List ℕ) (file : Contents) (result : Result Built E) → first_fault text ≡ None → file ≡ file_given text →
    IfOk result (IsBuilt file (file_refusal file)) → IfOk result (IsBuilt (file_given text) (text_refusal text))
built_of_text text file result none same built =
    subst (λ refusal. IfOk result (IsBuilt (file_given text) refusal)) (sym (faultless text none))
    (subst (λ f. IfOk result (IsBuilt f (file_refusal f))) same built)
