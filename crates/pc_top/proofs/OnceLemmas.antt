-- A product text gets one answer of `dump`.
use Rattle.std.proofs.Common.{◌≡◌, ℕ, List, Some, None, refl, sym, ap, ◌∙◌, inl, inr}
use Rattle.pc_diagram.proofs.EqualWords.{equal_words, some_words}
use Rattle.pc_dump.specs.Dump.{dump_text}
use Rattle.pc_file.specs.Full.{full, full_domains}
use Rattle.pc_text.proofs.ReadLemmas.{spelled_once}
use Rattle.pc_text.proofs.SpelledHasNoFault.{spelled_has_no_fault}
use Rattle.pc_top.specs.declared.status.Status.{Status}
use Rattle.pc_top.specs.declared.status.Status.TheVariants.{Done, WrongWords, Refused, ReadFault, WriteFault, NoMemory, TooLong}
use Rattle.pc_top.specs.DumpMeans.{DumpMeans, IsDumped}
use Rattle.pc_top.specs.Output.{Output}
use Rattle.pc_top.specs.Refusals.{RefusalMeans, file_refusal, text_refusal}
use Rattle.pc_top.proofs.RefusalLemmas.{faultless, faulty, file_passes, no_product, too_large}

abbrev refused : List ℕ → Output
refused written = record { status = Refused; text = written }

-- what is told of a refusal is what the text is refused for
refused_so : (text written : List ℕ) → RefusalMeans text written → text_refusal text ≡ Some (refused written)
refused_so text written (inl fault) = faulty text fault.line fault.kind fault.first ∙ ap (λ w. Some (refused w)) (sym fault.writes)
refused_so text written (inr (inl large)) =
    let read = spelled_has_no_fault text large.file large.spells in
    faultless text read.0 ∙ ap file_refusal read.1 ∙ too_large large.file large.rule large.part large.limit ∙ ap (λ w. Some (refused w)) (sym large.writes)
refused_so text written (inr (inr empty)) =
    let read = spelled_has_no_fault text empty.file empty.spells in
    faultless text read.0 ∙ ap file_refusal read.1 ∙ no_product empty.file empty.small empty.no_product ∙ ap (λ w. Some (refused w)) (sym empty.writes)

-- a text whose diagram is told isn't refused
passes_so : (text written : List ℕ) → IsDumped text written → text_refusal text ≡ None
passes_so text written dumped =
    let read = spelled_has_no_fault text dumped.file dumped.spells in
    faultless text read.0 ∙ ap file_refusal read.1
    ∙ file_passes dumped.file dumped.small (λ none. some_words dumped.diagram dumped.canonical (dumped.words_are ∙ none))

-- a file has one canonical diagram
dumped_alike : (text written other : List ℕ) → IsDumped text written → IsDumped text other → written ≡ other
dumped_alike text written other a b =
    let same = spelled_once text a.file b.file a.spells b.spells in
    a.writes
    ∙ ap dump_text (equal_words a.diagram b.diagram a.canonical b.canonical (a.domains ∙ ap full_domains same ∙ sym b.domains) (a.words_are ∙ ap full same ∙ sym b.words_are))
    ∙ sym b.writes

refused_alike : (text written other : List ℕ) → RefusalMeans text written → RefusalMeans text other → written ≡ other
refused_alike text written other a b =
    let one = refused_so text written a in
    let two = refused_so text other b in
    let same : refused written ≡ refused other = cc in
    ap (λ output. output.text) same

not_both : (text written other : List ℕ) → IsDumped text written → RefusalMeans text other → ⊥
not_both text written other a b =
    let one = passes_so text written a in
    let two = refused_so text other b in
    absurd cc

pub dumped_once : (text written other : List ℕ) (status beside : Status) → DumpMeans status text written → DumpMeans beside text other → (status ≡ beside) × (written ≡ other)
dumped_once text written other Done Done a b = (refl, dumped_alike text written other a b)
dumped_once text written other Done Refused a b = absurd (not_both text written other a b)
dumped_once text written other Refused Done a b = absurd (not_both text other written b a)
dumped_once text written other Refused Refused a b = (refl, refused_alike text written other a b)
dumped_once text written other WrongWords beside a b = absurd a
dumped_once text written other ReadFault beside a b = absurd a
dumped_once text written other WriteFault beside a b = absurd a
dumped_once text written other NoMemory beside a b = absurd a
dumped_once text written other TooLong beside a b = absurd a
dumped_once text written other Done WrongWords a b = absurd b
dumped_once text written other Done ReadFault a b = absurd b
dumped_once text written other Done WriteFault a b = absurd b
dumped_once text written other Done NoMemory a b = absurd b
dumped_once text written other Done TooLong a b = absurd b
dumped_once text written other Refused WrongWords a b = absurd b
dumped_once text written other Refused ReadFault a b = absurd b
dumped_once text written other Refused WriteFault a b = absurd b
dumped_once text written other Refused NoMemory a b = absurd b
dumped_once text written other Refused TooLong a b = absurd b
