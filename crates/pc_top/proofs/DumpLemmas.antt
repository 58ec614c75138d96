-- What an answer of `dump` means.
use Rattle.std.proofs.Common.{◌≡◌, ℕ, List, Some, None, subst, sym, ap, ◌∙◌}
use Rattle.std.specs.Prelude.{Result, Ok, Err, IfOk}
use Rattle.pc_diagram.specs.declared.raw_diagram.RawDiagram.{RawDiagram}
use Rattle.pc_diagram.specs.Diagram.{IsCanonical}
use Rattle.pc_diagram.specs.Paths.{words}
use Rattle.pc_file.specs.Contents.{Contents}
use Rattle.pc_file.specs.Full.{full, full_domains}
use Rattle.pc_top.specs.declared.response.Response.{Response}
use Rattle.pc_top.specs.declared.status.Status.TheVariants.{Refused}
use Rattle.pc_top.specs.DumpMeans.{DumpMeans, dumped_text}
use Rattle.pc_top.specs.Output.{Output}
use Rattle.pc_top.specs.Refusals.{file_given, text_refusal}
use Rattle.pc_top.specs.Response.{Is}
use Rattle.pc_top.proofs.RefusalLemmas.{is_buildable, refuses_rightly}

-- a version's diagram is told
pub means_dumped : {E : Type 0} (text : List ℕ) (file : Contents) (diagram : RawDiagram) (result : Result Response E) → text_refusal text ≡ None → file ≡ file_given text →
    IsCanonical diagram → diagram.domains ≡ full_domains file → words diagram ≡ full file →
    IfOk result (λ reply. Is reply (dumped_text diagram)) → IfOk result (λ reply. DumpMeans reply.status text reply.text)
means_dumped text file diagram (Ok reply) none same canonical domains words_are is =
    let buildable = is_buildable text none in
    subst (λ s. DumpMeans s text reply.text) (sym is.status) (record {
      file = file_given text;
      diagram = diagram;
      spells = buildable.spells;
      small = buildable.small;
      canonical = canonical;
      domains = domains ∙ ap full_domains same;
      words_are = words_are ∙ ap full same;
      writes = is.text;
    })
means_dumped text file diagram (Err fault) none same canonical domains words_are is = tt

-- what is refused is told
pub means_refused : (text : List ℕ) (reply : Response) (output : Output) → text_refusal text ≡ Some output → Is reply output → DumpMeans reply.status text reply.text
means_refused text reply output refused is =
    let rightly = refuses_rightly text output refused in
    subst (λ s. DumpMeans s text reply.text) (sym (is.status ∙ rightly.status))
    (subst (λ t. DumpMeans Refused text t) (sym is.text) rightly.means)
