-- What an answer of `list` to a product text means.
use Rattle.std.specs.Prelude.{◌≡◌, ◌≢◌, ℕ, List, []}
use Rattle.pc_file.specs.Contents.{Contents}
use Rattle.pc_file.specs.Full.{full}
use Rattle.pc_build.specs.Building.{IsSmall}
use Rattle.pc_text.specs.Spells.{Spells}
use Rattle.pc_top.specs.declared.status.Status.{Status}
use Rattle.pc_top.specs.declared.status.Status.TheVariants.{Done, WrongWords, Refused, ReadFault, WriteFault, NoMemory, TooLong}
use Rattle.pc_top.specs.ListReply.{listing_reply}
use Rattle.pc_top.specs.Refusals.{RefusalMeans}

-- the text spells a file with a product, of which no set is too large, and what is written is the listing of the file and a
-- line `.`
pub record IsListed (text written : List ℕ) : Type 0 where
  pub file : Contents
  pub spells : Spells text file
  pub small : IsSmall file
  pub some_product : full file ≢ []
  pub writes : written ≡ (listing_reply file).text

-- what it means that a text gets this status and what is written
abbrev pub ListMeans : Status → List ℕ → List ℕ → Type 0
ListMeans Done text written = IsListed text written
ListMeans WrongWords text written = ⊥
ListMeans Refused text written = RefusalMeans text written
ListMeans ReadFault text written = ⊥
ListMeans WriteFault text written = ⊥
ListMeans NoMemory text written = ⊥
ListMeans TooLong text written = ⊥
