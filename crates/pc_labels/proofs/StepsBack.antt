-- Paths that are kept, step by step.
use Rattle.std.proofs.Common.{◌≡◌, ℕ, zero, suc, ◌+◌, ◌-◌, ◌<◌, List, [], ◌∷◌, ◌++◌, length, All, Option, Some, None, is_some, refl, sym, ap, ◌∙◌, subst, arith}
use Rattle.std.specs.Prelude.{slice_index_or, IsSome}
use Rattle.std.proofs.lemmas.List.{get_or_default}
use Rattle.std.proofs.lemmas.List.Elements.{All-head, All-tail}
use Rattle.pc_diagram.specs.declared.side.Side.TheVariants.{Heads, Tails}
use Rattle.pc_diagram.specs.declared.weight.Ranked.{Ranked}
use Rattle.pc_labels.specs.declared.step.Step.{Step}
use Rattle.pc_labels.specs.Growing.{marks_at, AreLayers}
use Rattle.pc_labels.specs.Kept.{path_at, path_of, kept_by, kept_start, kept_heads, kept_tails}
use Rattle.pc_labels.specs.Marks.{Marks, AreMarks, weight_at}
use Rattle.pc_labels.specs.SoFar.{step_at}
use Rattle.pc_labels.proofs.KeptLemmas.{no_row, heads-next, tails-next}
use Rattle.pc_labels.proofs.Reranked.{kept_row-at}

-- paths start with no value
start_path : (weights : List (Option Ranked)) (node : ℕ) → path_at (kept_start weights) node ≡ []
start_path [] node = refl
start_path (None ∷ weights) zero = refl
start_path (Some r ∷ weights) zero = refl
start_path (w ∷ weights) (suc node) = start_path weights node

pub heads_begin : (layers : List Marks) (k node : ℕ) → k ≡ 0 → path_at (slice_index_or (kept_heads layers) k no_row) node ≡ []
heads_begin [] k node e = refl
heads_begin (m ∷ layers) zero node e = start_path m.weights node
heads_begin (m ∷ layers) (suc k) node e = absurd (omega arith)

pub tails_end : (layers : List Marks) (k node : ℕ) → k + 1 ≡ length layers → path_at (slice_index_or (kept_tails layers) k no_row) node ≡ []
tails_end [] k node e = absurd (omega arith)
tails_end (m ∷ []) zero node e = start_path m.weights node
tails_end (m ∷ []) (suc k) node e = absurd (omega arith)
tails_end (m ∷ n ∷ layers) zero node e = absurd (omega arith)
tails_end (m ∷ n ∷ layers) (suc k) node e = tails_end (n ∷ layers) k node (omega arith)

-- a step for each weight
pub steps-at : (layers : List Marks) → All AreMarks layers → (k : ℕ) → length (marks_at layers k).steps ≡ length (marks_at layers k).weights
steps-at [] h k = refl
steps-at (m ∷ layers) h zero = (All-head AreMarks m layers h).steps
steps-at (m ∷ layers) h (suc k) = steps-at layers (All-tail AreMarks m layers h) k

-- a path is that of the node of its step, and the value of the step
pub heads_go_on : (layers : List Marks) → All AreMarks layers → (k node : ℕ) (r : Ranked) → k + 1 < length layers → weight_at (marks_at layers (k + 1)) node ≡ Some r →
    path_at (slice_index_or (kept_heads layers) (k + 1) no_row) node ≡ path_at (slice_index_or (kept_heads layers) k no_row) (step_at (marks_at layers (k + 1)) node).node ++ (step_at (marks_at layers (k + 1)) node).value ∷ []
heads_go_on layers h k node r lt e =
    let before = slice_index_or (kept_heads layers) k no_row in
    let marks = marks_at layers (k + 1) in
    ap (λ row. path_at row node) (heads-next layers k lt) ∙ ap path_of (kept_row-at Heads before marks.weights marks.steps node (record { node = 0; value = 0 }) (steps-at layers h (k + 1)))
    ∙ ap (λ w. path_of (kept_by Heads before w (step_at marks node))) e

pub tails_go_on : (layers : List Marks) → All AreMarks layers → (k node : ℕ) (r : Ranked) → k + 1 < length layers → weight_at (marks_at layers k) node ≡ Some r →
    path_at (slice_index_or (kept_tails layers) k no_row) node ≡ (step_at (marks_at layers k) node).value ∷ path_at (slice_index_or (kept_tails layers) (k + 1) no_row) (step_at (marks_at layers k) node).node
tails_go_on layers h k node r lt e =
    let after = slice_index_or (kept_tails layers) (k + 1) no_row in
    let marks = marks_at layers k in
    ap (λ row. path_at row node) (tails-next layers k lt) ∙ ap path_of (kept_row-at Tails after marks.weights marks.steps node (record { node = 0; value = 0 }) (steps-at layers h k))
    ∙ ap (λ w. path_of (kept_by Tails after w (step_at marks node))) e

-- a node with a path is one of its layer's
within_row : (weights : List (Option Ranked)) (node : ℕ) → IsSome (slice_index_or weights node None) → node < length weights
within_row [] node some = absurd cc
within_row (w ∷ weights) zero some = omega arith
within_row (w ∷ weights) (suc node) some = let lt = within_row weights node some in omega (arith, lt)

taken : (o : Option Ranked) → IsSome o → (r : Ranked) × (o ≡ Some r)
taken None some = absurd cc
taken (Some r) some = (r, refl)

-- the step that is read of a node with a path
pub step_read : (layers : List Marks) → All AreMarks layers → (k node : ℕ) (marks : Marks) (step : Step) → k < length layers → IsSome (weight_at (marks_at layers k) node) →
    marks ≡ slice_index_or layers k marks → step ≡ slice_index_or marks.steps node step → step ≡ step_at (marks_at layers k) node
step_read layers h k node marks step lt some is e =
    let same : marks ≡ marks_at layers k = is ∙ get_or_default layers k marks (record { weights = []; steps = []; limit = 0 }) lt in
    let one = within_row (marks_at layers k).weights node some in
    let within : node < length (marks_at layers k).steps = omega (arith, one, steps-at layers h k) in
    e ∙ get_or_default marks.steps node step (record { node = 0; value = 0 }) (subst (λ (m : Marks). node < length m.steps) (sym same) within) ∙ ap (λ m. step_at m node) same

-- it leads to a node with a path, whose path it goes on
module _ (layers : List Marks) (h : AreLayers Heads layers) (k node : ℕ) (lt : k < length layers) (far : 0 < k) (some : IsSome (weight_at (marks_at layers k) node)) where
  back : (k - 1) + 1 ≡ k
  back = omega (arith, far)

  one : (r : Ranked) × (weight_at (marks_at layers ((k - 1) + 1)) node ≡ Some r)
  one = let t = taken (weight_at (marks_at layers k) node) some in (t.0, ap (λ i. weight_at (marks_at layers i) node) back ∙ t.1)

  less : (k - 1) + 1 < length layers
  less = omega (arith, back, lt)

  pub heads_lead : IsSome (weight_at (marks_at layers (k - 1)) (step_at (marks_at layers k) node).node)
  heads_lead = subst (λ i. IsSome (weight_at (marks_at layers (k - 1)) (step_at (marks_at layers i) node).node)) back (ap is_some (h.joined (k - 1) less node one.0 one.1).1)

  pub heads_path : path_at (slice_index_or (kept_heads layers) k no_row) node ≡ path_at (slice_index_or (kept_heads layers) (k - 1) no_row) (step_at (marks_at layers k) node).node ++ (step_at (marks_at layers k) node).value ∷ []
  heads_path = subst (λ i. path_at (slice_index_or (kept_heads layers) i no_row) node ≡ path_at (slice_index_or (kept_heads layers) (k - 1) no_row) (step_at (marks_at layers i) node).node ++ (step_at (marks_at layers i) node).value ∷ []) back
      (heads_go_on layers h.marked (k - 1) node one.0 less one.1)

module _ (layers : List Marks) (h : AreLayers Tails layers) (k node : ℕ) (lt : k + 1 < length layers) (some : IsSome (weight_at (marks_at layers k) node)) where
  one_of : (r : Ranked) × (weight_at (marks_at layers k) node ≡ Some r)
  one_of = taken (weight_at (marks_at layers k) node) some

  pub tails_lead : IsSome (weight_at (marks_at layers (k + 1)) (step_at (marks_at layers k) node).node)
  tails_lead = ap is_some (h.joined k lt node one_of.0 one_of.1).1

  pub tails_path : path_at (slice_index_or (kept_tails layers) k no_row) node ≡ (step_at (marks_at layers k) node).value ∷ path_at (slice_index_or (kept_tails layers) (k + 1) no_row) (step_at (marks_at layers k) node).node
  tails_path = tails_go_on layers h.marked k node one_of.0 lt one_of.1
