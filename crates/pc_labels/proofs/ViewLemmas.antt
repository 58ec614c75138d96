-- What labels show of their marks.
use Rattle.std.proofs.Common.{◌≡◌, ℕ, ◌<◌, zero, suc, List, [], ◌∷◌, length, All, Option, Some, None, option_map, refl, sym, subst, arith}
use Rattle.std.specs.Prelude.{slice_index_or, IsSome}
use Rattle.pc_diagram.specs.declared.side.Side.{Side}
use Rattle.pc_diagram.specs.declared.side.Side.TheVariants.{Heads, Tails}
use Rattle.pc_labels.specs.Growing.{marks_at}
use Rattle.pc_labels.specs.Kept.{Kept, KeptPaths, kept_at, kept_layers, weight}
use Rattle.pc_labels.specs.Marks.{Marks, AreMarks, weight_at}
use Rattle.pc_labels.proofs.KeptLemmas.{no_row, length-heads, length-tails, width-heads, width-tails, weighed-heads, weighed-tails}

pub shown_layers : (side : Side) (layers : List Marks) → length (kept_layers side layers) ≡ length layers
shown_layers Heads layers = length-heads layers
shown_layers Tails layers = length-tails layers

pub shown_width : (side : Side) (layers : List Marks) → All AreMarks layers → (k : ℕ) → length (slice_index_or (kept_layers side layers) k no_row) ≡ length (marks_at layers k).weights
shown_width Heads layers h k = width-heads layers h k
shown_width Tails layers h k = width-tails layers h k

pub shown_weight : (side : Side) (layers : List Marks) → All AreMarks layers → (k node : ℕ) → option_map weight (slice_index_or (slice_index_or (kept_layers side layers) k no_row) node None) ≡ weight_at (marks_at layers k) node
shown_weight Heads layers h k node = weighed-heads layers h k node
shown_weight Tails layers h k node = weighed-tails layers h k node

-- where something is kept of a node, a path is marked
has_weight : (o : Option Kept) → IsSome o → IsSome (option_map weight o)
has_weight None some = absurd cc
has_weight (Some kept) some = refl

pub shown_some : (side : Side) (layers : List Marks) → All AreMarks layers → (shown : KeptPaths) → record { side = side; layers = kept_layers side layers } ≡ shown → (k node : ℕ) → IsSome (kept_at shown k node) → IsSome (weight_at (marks_at layers k) node)
shown_some side layers h shown is k node some =
    let own : KeptPaths = record { side = side; layers = kept_layers side layers } in
    subst IsSome (shown_weight side layers h k node) (has_weight (kept_at own k node) (subst (λ (v : KeptPaths). IsSome (kept_at v k node)) (sym is) some))

pub within_layers : (layers : List Marks) (k node : ℕ) → IsSome (weight_at (marks_at layers k) node) → k < length layers
within_layers [] k node some = absurd cc
within_layers (m ∷ layers) zero node some = omega arith
within_layers (m ∷ layers) (suc k) node some = let lt = within_layers layers k node some in omega (arith, lt)
