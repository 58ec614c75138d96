-- What is answered is the file that the text spells, and that keeps all limits.
use Rattle.std.proofs.Common.{◌≡◌, sym, subst}
use Rattle.pc_file.specs.Limits.{IsFile}
use Rattle.pc_text.specs.declared.draft.Draft.{Draft}
use Rattle.pc_text.specs.FirstFault.{given_by}
use Rattle.pc_text.specs.Given.{contents_given}
use Rattle.pc_text.specs.Draft.{given_of}
use Rattle.pc_text.proofs.ReadLemmas.{read_spells, read_only, fault_gives}
use Rattle.pc_text.proofs.NoFaultIsSpelled.{no_fault_is_spelled}
use Rattle.pc_text.proofs.text.read_file.Goals as goal

pub into_file-requires : goal.into_file-requires
into_file-requires c =
    let given_is : given_of c.in-Ok.draft ≡ given_by c.args.text.now = c.in-Ok.ensures.1 in
    subst (λ g. IsFile (contents_given g)) (sym given_is) (no_fault_is_spelled c.args.text.now c.in-Ok.ensures.0).is_file

pub returns-in-Ok-into_file-clause-found : goal.returns-in-Ok-into_file-clause-found
returns-in-Ok-into_file-clause-found c =
    read_spells c.args.text.now (given_of c.in-Ok.draft) c.in-Ok-into_file.file c.in-Ok.ensures.0 c.in-Ok.ensures.1 c.in-Ok-into_file.ensures

pub returns-in-Ok-into_file-clause-only : goal.returns-in-Ok-into_file-clause-only
returns-in-Ok-into_file-clause-only c = read_only c.args.text.now (given_of c.in-Ok.draft) c.in-Ok-into_file.file c.in-Ok.ensures.1 c.in-Ok-into_file.ensures

pub returns-in-Err-clause-only : goal.returns-in-Err-clause-only
returns-in-Err-clause-only c = fault_gives (λ (draft : Draft). given_of draft ≡ given_by c.args.text.now) c.args.text.now c.in-Err.fault c.in-Err.ensures
