-- What an answer of `list` means.
use Rattle.std.proofs.Common.{◌≡◌, ℕ, List, Option, Some, None, refl, sym, ap, ◌∙◌, subst, unwrap_or}
use Rattle.std.specs.Prelude.{Result, Ok, Err, IfOk}
use Rattle.pc_file.specs.Contents.{Contents}
use Rattle.pc_top.specs.declared.response.Response.{Response}
use Rattle.pc_top.specs.ListMeans.{ListMeans}
use Rattle.pc_top.specs.ListReply.{list_reply, listing_reply}
use Rattle.pc_top.specs.Output.{Output}
use Rattle.pc_top.specs.Refusals.{file_given, text_refusal}
use Rattle.pc_top.specs.Response.{Is}
use Rattle.pc_top.proofs.RefusalLemmas.{is_buildable, refuses_rightly}

abbrev Means : List ℕ → Output → Type 0
Means text output = ListMeans output.status text output.text

by_refusal : (text : List ℕ) (refusal : Option Output) → text_refusal text ≡ refusal → Means text (unwrap_or refusal (listing_reply (file_given text)))
by_refusal text (Some output) is =
    let rightly = refuses_rightly text output is in
    subst (λ s. ListMeans s text output.text) (sym rightly.status) rightly.means
by_refusal text None is =
    let buildable = is_buildable text is in
    record { file = file_given text; spells = buildable.spells; small = buildable.small; some_product = buildable.some_product; writes = refl }

list_means : (text : List ℕ) → Means text (list_reply text)
unfolding list_reply
list_means text = by_refusal text (text_refusal text) refl

-- the answer to a text means what it should
pub reply_means : (text : List ℕ) (reply : Response) → Is reply (list_reply text) → ListMeans reply.status text reply.text
reply_means text reply is =
    subst (λ s. ListMeans s text reply.text) (sym is.status) (subst (λ t. ListMeans (list_reply text).status text t) (sym is.text) (list_means text))

pub means_exact : {E : Type 0} (text : List ℕ) (result : Result Response E) → IfOk result (λ reply. Is reply (list_reply text)) → IfOk result (λ reply. ListMeans reply.status text reply.text)
means_exact text (Ok reply) is = reply_means text reply is
means_exact text (Err fault) is = tt

-- what is refused is the answer
pub refused_is : (text : List ℕ) (reply : Response) (output : Output) → text_refusal text ≡ Some output → Is reply output → Is reply (list_reply text)
unfolding list_reply
refused_is text reply output refused is = subst (Is reply) (sym (ap (λ r. unwrap_or r (listing_reply (file_given text))) refused)) is

-- the listing of a file is the answer to a text that spells it and isn't refused
pub listed_is : {E : Type 0} (text : List ℕ) (file : Contents) (result : Result Response E) → text_refusal text ≡ None → file ≡ file_given text →
    IfOk result (λ reply. Is reply (listing_reply file)) → IfOk result (λ reply. Is reply (list_reply text))
unfolding list_reply
listed_is text file result none same is =
    subst (λ output. IfOk result (λ reply. Is reply output))
    (ap listing_reply same ∙ sym (ap (λ r. unwrap_or r (listing_reply (file_given text))) none)) is
