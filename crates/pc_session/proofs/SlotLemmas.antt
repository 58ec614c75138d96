-- The slots of a version's diagram are told by the words of its file.
use Rattle.std.proofs.Common.{◌≡◌, ℕ, zero, suc, ◌+◌, ◌*◌, ◌<◌, ◌≤◌, List, [], length, get_or, take, drop, Option, Some, refl, sym, subst, ap, ◌∙◌, arith}
use Rattle.std.proofs.lemmas.List.{length-map}
use Rattle.std.proofs.lemmas.List.Quantifiers.{position-Some}
use Rattle.pc_names.specs.Spelling.{same_spelling}
use Rattle.pc_diagram.specs.declared.raw_diagram.RawDiagram.{RawDiagram}
use Rattle.pc_diagram.specs.Diagram.{IsCanonical}
use Rattle.pc_diagram.specs.Paths.{words}
use Rattle.pc_domains.specs.Slots.{slots_before, slots_of}
use Rattle.pc_build.proofs.VersionLemmas.{node_for_each_rest}
use Rattle.pc_file.specs.declared.variable.Variable.{Variable}
use Rattle.pc_file.specs.Contents.{Contents}
use Rattle.pc_file.specs.Limits.{variable_names}
use Rattle.pc_file.specs.Positions.{variable_named}
use Rattle.pc_diagram.specs.Rests.{rest_count}
use Rattle.pc_file.specs.Full.{full, full_domains, is_full}
use Rattle.pc_session.specs.Slots.{choose_steps, retract_steps, slots_at, slots_up_to}

module _ (file : Contents) (raw : RawDiagram) (canonical : IsCanonical raw) (domains : raw.domains ≡ full_domains file) (same : words raw ≡ full file) where
  pub slots_at_is : (variable : ℕ) → variable < length raw.domains → slots_of raw variable ≡ slots_at file variable
  unfolding slots_at
  slots_at_is variable inside =
      let many = ap length domains in
      ap (λ n. get_or raw.domains variable 0 * n) (node_for_each_rest file raw canonical domains same variable (omega arith))
      ∙ ap (λ (ds : List ℕ). get_or ds variable 0 * slots_rest variable) domains
    where
      slots_rest : ℕ → ℕ
      slots_rest variable = rest_count (is_full file) (take variable (full_domains file)) (drop variable (full_domains file))

  slots_up_to_is : (count : ℕ) → count ≤ length raw.domains → slots_before raw count ≡ slots_up_to file count
  unfolding slots_up_to
  slots_up_to_is zero le = refl
  slots_up_to_is (suc count) le = (λ i. slots_up_to_is count (omega arith) i + slots_at_is count (omega arith) i)

  pub all_slots_are : slots_before raw (length raw.domains) ≡ slots_up_to file (length (full_domains file))
  all_slots_are = slots_up_to_is (length raw.domains) (omega arith) ∙ ap (λ (ds : List ℕ). slots_up_to file (length ds)) domains

  -- the steps of a choose and of a retract, where its variable is there
  pub choose_within : (named : Option ℕ) (variable steps old : ℕ) → Some variable ≡ named → variable < length raw.domains
      → steps ≤ old + (2 * slots_before raw (length raw.domains) + 2 * slots_of raw variable) → steps ≤ old + choose_steps file named
  choose_within named variable steps old is inside h =
      subst (λ n. steps ≤ old + choose_steps file n) is (omega (arith, h, all_slots_are, slots_at_is variable inside))

  pub retract_within : (named : Option ℕ) (variable steps old : ℕ) → Some variable ≡ named → variable < length raw.domains
      → steps ≤ old + (2 * slots_before raw (length raw.domains) + slots_of raw variable) → steps ≤ old + retract_steps file named
  retract_within named variable steps old is inside h =
      subst (λ n. steps ≤ old + retract_steps file n) is (omega (arith, h, all_slots_are, slots_at_is variable inside))

  -- a variable that is named is one of the diagram's
  pub named_inside : (name : List ℕ) (variable : ℕ) → Some variable ≡ variable_named file name → variable < length raw.domains
  named_inside name variable is =
      let below = position-Some (same_spelling name) (variable_names file.variables) variable [] (sym is) in
      let names = length-map file.variables (λ (v : Variable). v.name) in
      let counts = length-map file.variables (λ (v : Variable). length v.values) in
      omega (arith, below.0, names, counts, ap length domains)
