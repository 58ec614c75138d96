-- What an answer to an input means, by the job.
use Rattle.std.specs.Prelude.{◌≡◌, ℕ, List}
use Rattle.pc_top.specs.declared.job.Job.{Job}
use Rattle.pc_top.specs.declared.job.Job.TheVariants.{List as list, Dump, Check}
use Rattle.pc_top.specs.declared.job.TheConstants.{MOST_DUMP_BYTES, MOST_TEXT_BYTES}
use Rattle.pc_top.specs.declared.status.Status.{Status}
use Rattle.pc_top.specs.CheckMeans.{CheckMeans}
use Rattle.pc_top.specs.DumpMeans.{DumpMeans}
use Rattle.pc_top.specs.ListMeans.{ListMeans}
use Rattle.pc_top.specs.ListReply.{list_reply}

-- the most bytes of an input
abbrev pub most_bytes : Job → ℕ
most_bytes list = MOST_TEXT_BYTES
most_bytes Dump = MOST_TEXT_BYTES
most_bytes Check = MOST_DUMP_BYTES

-- what it means that an input gets this status and what is written. What `list` answers is also a function of the text.
abbrev pub Means : Job → Status → List ℕ → List ℕ → Type 0
Means list status text written = ListMeans status text written × (status ≡ (list_reply text).status) × (written ≡ (list_reply text).text)
Means Dump status text written = DumpMeans status text written
Means Check status text written = CheckMeans status text written
