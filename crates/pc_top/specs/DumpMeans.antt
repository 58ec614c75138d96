-- What an answer of `dump` to a product text means.
use Rattle.std.specs.Prelude.{◌≡◌, ℕ, List}
use Rattle.pc_diagram.specs.declared.raw_diagram.RawDiagram.{RawDiagram}
use Rattle.pc_diagram.specs.Diagram.{IsCanonical}
use Rattle.pc_diagram.specs.Paths.{words}
use Rattle.pc_dump.specs.Dump.{dump_text}
use Rattle.pc_file.specs.Contents.{Contents}
use Rattle.pc_file.specs.Full.{full, full_domains}
use Rattle.pc_build.specs.Building.{IsSmall}
use Rattle.pc_text.specs.Spells.{Spells}
use Rattle.pc_top.specs.declared.status.Status.{Status}
use Rattle.pc_top.specs.declared.status.Status.TheVariants.{Done, WrongWords, Refused, ReadFault, WriteFault, NoMemory, TooLong}
use Rattle.pc_top.specs.Output.{Output}
use Rattle.pc_top.specs.Refusals.{RefusalMeans}

-- the text of a diagram's tables
abbrev pub dumped_text : RawDiagram → Output
dumped_text diagram = record { status = Done; text = dump_text diagram }

-- the text spells a file of which no set is too large, and what is written is the text of the canonical diagram whose
-- words are the file's
pub record IsDumped (text written : List ℕ) : Type 0 where
  pub file : Contents
  pub diagram : RawDiagram
  pub spells : Spells text file
  pub small : IsSmall file
  pub canonical : IsCanonical diagram
  pub domains : diagram.domains ≡ full_domains file
  pub words_are : words diagram ≡ full file
  pub writes : written ≡ dump_text diagram

-- what it means that a text gets this status and what is written
abbrev pub DumpMeans : Status → List ℕ → List ℕ → Type 0
DumpMeans Done text written = IsDumped text written
DumpMeans WrongWords text written = ⊥
DumpMeans Refused text written = RefusalMeans text written
DumpMeans ReadFault text written = ⊥
DumpMeans WriteFault text written = ⊥
DumpMeans NoMemory text written = ⊥
DumpMeans TooLong text written = ⊥
