-- What is kept in layers that follow one another.
use Rattle.std.proofs.Common.{◌≡◌, ℕ, zero, suc, ◌+◌, ◌<◌, List, [], ◌∷◌, ◌++◌, length, All, Option, Some, None, option_map, refl, sym, ap, ◌∙◌, arith}
use Rattle.std.specs.Prelude.{slice_index_or}
use Rattle.std.proofs.lemmas.List.Elements.{All-head, All-tail}
use Rattle.pc_diagram.specs.declared.side.Side.{Side}
use Rattle.pc_diagram.specs.declared.side.Side.TheVariants.{Heads, Tails}
use Rattle.pc_diagram.specs.declared.weight.Ranked.{Ranked}
use Rattle.pc_labels.specs.declared.step.Step.{Step}
use Rattle.pc_labels.specs.Growing.{marks_at}
use Rattle.pc_labels.specs.Kept.{Kept, kept_row, kept_start, kept_after, kept_heads, kept_before, kept_tails}
use Rattle.pc_labels.specs.Marks.{Marks, AreMarks, weight_at}
use Rattle.pc_labels.proofs.Extending.{weighed}
use Rattle.pc_labels.proofs.Reranked.{length-kept_row}

abbrev no_marks : Marks
no_marks = record { weights = []; steps = []; limit = 0 }

abbrev no_rows : List (List (Option Kept))
no_rows = []

abbrev pub no_row : List (Option Kept)
no_row = []

pub length-after : (before : List (Option Kept)) (layers : List Marks) → length (kept_after before layers) ≡ length layers
length-after before [] = refl
length-after before (m ∷ layers) = ap suc (length-after (kept_row Heads before m.weights m.steps) layers)

pub length-heads : (layers : List Marks) → length (kept_heads layers) ≡ length layers
length-heads [] = refl
length-heads (m ∷ layers) = ap suc (length-after (kept_start m.weights) layers)

pub length-tails : (layers : List Marks) → length (kept_tails layers) ≡ length layers
length-tails [] = refl
length-tails (m ∷ layers) = ap suc (length-tails layers)

-- each layer after the first is kept by the one before it
after-next : (before : List (Option Kept)) (layers : List Marks) (k : ℕ) → k < length layers →
    slice_index_or (kept_after before layers) k no_row ≡ kept_row Heads (slice_index_or (before ∷ kept_after before layers) k no_row) (marks_at layers k).weights (marks_at layers k).steps
after-next before [] k lt = absurd (omega arith)
after-next before (m ∷ layers) zero lt = refl
after-next before (m ∷ layers) (suc k) lt = after-next (kept_row Heads before m.weights m.steps) layers k (omega arith)

pub heads-next : (layers : List Marks) (k : ℕ) → k + 1 < length layers →
    slice_index_or (kept_heads layers) (k + 1) no_row ≡ kept_row Heads (slice_index_or (kept_heads layers) k no_row) (marks_at layers (k + 1)).weights (marks_at layers (k + 1)).steps
heads-next [] k lt = absurd (omega arith)
heads-next (m ∷ layers) k lt =
    let one : k + 1 ≡ suc k = omega arith in
    ap (λ n. slice_index_or (kept_heads (m ∷ layers)) n no_row) one ∙ after-next (kept_start m.weights) layers k (omega (arith, lt))
    ∙ ap (λ n. kept_row Heads (slice_index_or (kept_heads (m ∷ layers)) k no_row) (marks_at (m ∷ layers) n).weights (marks_at (m ∷ layers) n).steps) (sym one)

-- more layers leave what is kept in those before
after-push : (before : List (Option Kept)) (layers : List Marks) (m : Marks) (k : ℕ) → k < length layers → slice_index_or (kept_after before (layers ++ m ∷ [])) k no_row ≡ slice_index_or (kept_after before layers) k no_row
after-push before [] m k lt = absurd (omega arith)
after-push before (n ∷ layers) m zero lt = refl
after-push before (n ∷ layers) m (suc k) lt = after-push (kept_row Heads before n.weights n.steps) layers m k (omega arith)

pub heads-push : (layers : List Marks) (m : Marks) (k : ℕ) → k < length layers → slice_index_or (kept_heads (layers ++ m ∷ [])) k no_row ≡ slice_index_or (kept_heads layers) k no_row
heads-push [] m k lt = absurd (omega arith)
heads-push (n ∷ layers) m zero lt = refl
heads-push (n ∷ layers) m (suc k) lt = after-push (kept_start n.weights) layers m k (omega arith)

pub tails-next : (layers : List Marks) (k : ℕ) → k + 1 < length layers →
    slice_index_or (kept_tails layers) k no_row ≡ kept_row Tails (slice_index_or (kept_tails layers) (k + 1) no_row) (marks_at layers k).weights (marks_at layers k).steps
tails-next [] k lt = absurd (omega arith)
tails-next (m ∷ []) k lt = absurd (omega arith)
tails-next (m ∷ n ∷ layers) zero lt = refl
tails-next (m ∷ n ∷ layers) (suc k) lt =
    let one : suc (k + 1) ≡ suc k + 1 = omega arith in
    tails-next (n ∷ layers) k (omega arith) ∙ ap (λ i. kept_row Tails (slice_index_or (kept_tails (m ∷ n ∷ layers)) i no_row) (marks_at (n ∷ layers) k).weights (marks_at (n ∷ layers) k).steps) one

-- what is kept weighs what is marked
weighed-row : (side : Side) (before : List (Option Kept)) (weights : List (Option Ranked)) (steps : List Step) → length steps ≡ length weights → (node : ℕ) → option_map weighed (slice_index_or (kept_row side before weights steps) node None) ≡ slice_index_or weights node None
weighed-row side before [] steps same node = refl
weighed-row side before (w ∷ ws) [] same node = absurd (omega arith)
weighed-row side before (None ∷ ws) (s ∷ ss) same zero = refl
weighed-row side before (Some r ∷ ws) (s ∷ ss) same zero = refl
weighed-row side before (w ∷ ws) (s ∷ ss) same (suc node) = weighed-row side before ws ss (omega arith) node

weighed-start : (weights : List (Option Ranked)) (node : ℕ) → option_map weighed (slice_index_or (kept_start weights) node None) ≡ slice_index_or weights node None
weighed-start [] node = refl
weighed-start (None ∷ ws) zero = refl
weighed-start (Some r ∷ ws) zero = refl
weighed-start (w ∷ ws) (suc node) = weighed-start ws node

weighed-after : (before : List (Option Kept)) (layers : List Marks) → All AreMarks layers → (k node : ℕ) → option_map weighed (slice_index_or (slice_index_or (kept_after before layers) k no_row) node None) ≡ weight_at (marks_at layers k) node
weighed-after before [] h k node = refl
weighed-after before (m ∷ layers) h zero node = weighed-row Heads before m.weights m.steps (All-head AreMarks m layers h).steps node
weighed-after before (m ∷ layers) h (suc k) node = weighed-after (kept_row Heads before m.weights m.steps) layers (All-tail AreMarks m layers h) k node

pub weighed-heads : (layers : List Marks) → All AreMarks layers → (k node : ℕ) → option_map weighed (slice_index_or (slice_index_or (kept_heads layers) k no_row) node None) ≡ weight_at (marks_at layers k) node
weighed-heads [] h k node = refl
weighed-heads (m ∷ layers) h zero node = weighed-start m.weights node
weighed-heads (m ∷ layers) h (suc k) node = weighed-after (kept_start m.weights) layers (All-tail AreMarks m layers h) k node

pub weighed-tails : (layers : List Marks) → All AreMarks layers → (k node : ℕ) → option_map weighed (slice_index_or (slice_index_or (kept_tails layers) k no_row) node None) ≡ weight_at (marks_at layers k) node
weighed-tails [] h k node = refl
weighed-tails (m ∷ []) h zero node = weighed-start m.weights node
weighed-tails (m ∷ n ∷ layers) h zero node = weighed-row Tails (kept_before n (kept_tails layers)) m.weights m.steps (All-head AreMarks m (n ∷ layers) h).steps node
weighed-tails (m ∷ layers) h (suc k) node = weighed-tails layers (All-tail AreMarks m layers h) k node

length-start : (weights : List (Option Ranked)) → length (kept_start weights) ≡ length weights
length-start [] = refl
length-start (w ∷ ws) = ap suc (length-start ws)

width-after : (before : List (Option Kept)) (layers : List Marks) → All AreMarks layers → (k : ℕ) → length (slice_index_or (kept_after before layers) k no_row) ≡ length (marks_at layers k).weights
width-after before [] h k = refl
width-after before (m ∷ layers) h zero = length-kept_row Heads before m.weights m.steps (All-head AreMarks m layers h).steps
width-after before (m ∷ layers) h (suc k) = width-after (kept_row Heads before m.weights m.steps) layers (All-tail AreMarks m layers h) k

pub width-heads : (layers : List Marks) → All AreMarks layers → (k : ℕ) → length (slice_index_or (kept_heads layers) k no_row) ≡ length (marks_at layers k).weights
width-heads [] h k = refl
width-heads (m ∷ layers) h zero = length-start m.weights
width-heads (m ∷ layers) h (suc k) = width-after (kept_start m.weights) layers (All-tail AreMarks m layers h) k

pub width-tails : (layers : List Marks) → All AreMarks layers → (k : ℕ) → length (slice_index_or (kept_tails layers) k no_row) ≡ length (marks_at layers k).weights
width-tails [] h k = refl
width-tails (m ∷ []) h zero = length-start m.weights
width-tails (m ∷ n ∷ layers) h zero = length-kept_row Tails (kept_before n (kept_tails layers)) m.weights m.steps (All-head AreMarks m (n ∷ layers) h).steps
width-tails (m ∷ layers) h (suc k) = width-tails layers (All-tail AreMarks m layers h) k
