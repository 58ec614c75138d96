-- What a product text is refused for, and what that means.
use Rattle.std.proofs.Common.{◌≡◌, ◌≢◌, ℕ, List, [], ◌∷◌, Option, Some, None, refl, ap, ◌∙◌, subst, inl, inr}
use Rattle.pc_file.specs.Contents.{Contents}
use Rattle.pc_file.specs.Full.{full}
use Rattle.pc_file.specs.Parts.{file_node_limit}
use Rattle.pc_build.specs.Building.{IsSmall}
use Rattle.pc_rules.specs.declared.kind.Kind.{Kind}
use Rattle.pc_text.specs.FirstFault.{first_fault}
use Rattle.pc_text.specs.Spells.{Spells}
use Rattle.pc_text.proofs.NoFaultIsSpelled.{no_fault_is_spelled}
use Rattle.pc_top.specs.declared.status.Status.TheVariants.{Refused}
use Rattle.pc_top.specs.Output.{Output}
use Rattle.pc_top.specs.Refusals.{RefusalMeans, file_given, file_refusal, refusal_after, refusal_by, refused_no_product, refused_node_limit, refused_text, text_refusal}

-- an output refuses a text as it should
pub record RefusesRightly (text : List ℕ) (output : Output) : Type 0 where
  pub status : output.status ≡ Refused
  pub means : RefusalMeans text output.text

-- the text spells a file with a product, of which no set is too large
pub record IsBuildable (text : List ℕ) (file : Contents) : Type 0 where
  pub spells : Spells text file
  pub small : IsSmall file
  pub some_product : full file ≢ []

by_file : (text : List ℕ) (file : Contents) (limit : Option (ℕ × ℕ)) (products : List (List ℕ)) (output : Output) → Spells text file →
    file_node_limit file ≡ limit → full file ≡ products → refusal_by limit products ≡ Some output → RefusesRightly text output
by_file text file (Some limit) products output spells limited all is =
    let same : refused_node_limit limit.0 limit.1 ≡ output = cc in
    subst (RefusesRightly text) same (record {
      status = refl;
      means = inr (inl (record { file = file; rule = limit.0; part = limit.1; spells = spells; limit = limited; writes = refl }));
    })
by_file text file None [] output spells limited all is =
    let same : refused_no_product ≡ output = cc in
    subst (RefusesRightly text) same (record {
      status = refl;
      means = inr (inr (record { file = file; spells = spells; small = limited; no_product = all; writes = refl }));
    })
by_file text file None (product ∷ products) output spells limited all is = absurd cc

by_fault : (text : List ℕ) (fault : Option (ℕ × Kind)) (output : Output) → first_fault text ≡ fault →
    refusal_after fault (file_given text) ≡ Some output → RefusesRightly text output
unfolding file_refusal
by_fault text (Some fault) output found is =
    let same : refused_text fault.0 fault.1 ≡ output = cc in
    subst (RefusesRightly text) same (record {
      status = refl;
      means = inl (record { line = fault.0; kind = fault.1; first = found; writes = refl });
    })
by_fault text None output found is =
    by_file text (file_given text) (file_node_limit (file_given text)) (full (file_given text)) output (no_fault_is_spelled text found) refl refl is

-- what a text is refused for is told
pub refuses_rightly : (text : List ℕ) (output : Output) → text_refusal text ≡ Some output → RefusesRightly text output
unfolding text_refusal
refuses_rightly text output is = by_fault text (first_fault text) output refl is

sound_file : (text : List ℕ) (file : Contents) (limit : Option (ℕ × ℕ)) (products : List (List ℕ)) → Spells text file →
    file_node_limit file ≡ limit → full file ≡ products → refusal_by limit products ≡ None → IsBuildable text file
sound_file text file (Some limit) products spells limited all is = absurd cc
sound_file text file None [] spells limited all is = absurd cc
sound_file text file None (product ∷ products) spells limited all is =
    record { spells = spells; small = limited; some_product = λ none. absurd cc }

sound_text : (text : List ℕ) (fault : Option (ℕ × Kind)) → first_fault text ≡ fault → refusal_after fault (file_given text) ≡ None →
    IsBuildable text (file_given text)
unfolding file_refusal
sound_text text (Some fault) found is = absurd cc
sound_text text None found is =
    sound_file text (file_given text) (file_node_limit (file_given text)) (full (file_given text)) (no_fault_is_spelled text found) refl refl is

-- a text that isn't refused spells a file that is built
pub is_buildable : (text : List ℕ) → text_refusal text ≡ None → IsBuildable text (file_given text)
unfolding text_refusal
is_buildable text is = sound_text text (first_fault text) refl is

-- a file with a product, of which no set is too large, isn't refused
pub file_passes : (file : Contents) → IsSmall file → full file ≢ [] → file_refusal file ≡ None
unfolding file_refusal
file_passes file small some = ap (λ limit. refusal_by limit (full file)) small ∙ by (full file) some
  where
    by : (products : List (List ℕ)) → products ≢ [] → refusal_by None products ≡ None
    by [] some = absurd (some refl)
    by (product ∷ products) some = refl

-- the first set that is too large is what its file is refused for
pub too_large : (file : Contents) (rule part : ℕ) → file_node_limit file ≡ Some (rule, part) → file_refusal file ≡ Some (refused_node_limit rule part)
unfolding file_refusal
too_large file rule part limit = ap (λ l. refusal_by l (full file)) limit

-- else it is that there is no product
pub no_product : (file : Contents) → IsSmall file → full file ≡ [] → file_refusal file ≡ Some refused_no_product
unfolding file_refusal
no_product file small none = (λ i. refusal_by (small i) (none i))

-- the first fault is what its text is refused for
pub faulty : (text : List ℕ) (line : ℕ) (kind : Kind) → first_fault text ≡ Some (line, kind) → text_refusal text ≡ Some (refused_text line kind)
unfolding text_refusal
faulty text line kind found = ap (λ fault. refusal_after fault (file_given text)) found

-- a text without a fault is refused for what its file is
pub faultless : (text : List ℕ) → first_fault text ≡ None → text_refusal text ≡ file_refusal (file_given text)
unfolding text_refusal
faultless text none = ap (λ fault. refusal_after fault (file_given text)) none
