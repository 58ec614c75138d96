-- What labels made for other choices keep.
use Rattle.std.proofs.Common.{◌≡◌, ◌≢◌, ℕ, zero, suc, ◌+◌, ◌-◌, ◌<◌, ◌≤◌, List, [], ◌∷◌, length, take, drop, filter, if◌then◌else◌, Bool, true, false, ◌&&◌, Option, Some, None, refl, sym, ap, ◌∙◌, subst, length-drop, arith}
use Rattle.std.specs.Prelude.{slice_index, slice_index_or}
use Rattle.std.proofs.lemmas.List.{length-take}
use Rattle.std.proofs.lemmas.List.Elements.{All-take, All-drop}
use Rattle.pc_diagram.specs.declared.choice.Choice.{Choice}
use Rattle.pc_diagram.specs.declared.costs.CostPair.{CostPair}
use Rattle.pc_diagram.specs.declared.raw_diagram.RawDiagram.{RawDiagram}
use Rattle.pc_diagram.specs.declared.side.Side.{Side}
use Rattle.pc_diagram.specs.declared.side.Side.TheVariants.{Heads, Tails}
use Rattle.pc_diagram.specs.Best.{best}
use Rattle.pc_diagram.specs.Choices.{value_of, AgreeBeside}
use Rattle.pc_diagram.specs.Fitting.{is_number}
use Rattle.pc_diagram.specs.Levels.{Level, levels, edge}
use Rattle.pc_diagram.specs.NodePaths.{leads_to, is_allowed, agrees, is_head, is_tail, heads, tails}
use Rattle.pc_diagram.specs.Paths.{accepts}
use Rattle.pc_diagram.specs.Words.{all_words}
use Rattle.pc_labels.specs.Growing.{marks_at, AreLinked, AreLayers, AreHeadsUpTo, AreTailsFrom}
use Rattle.pc_labels.specs.Kept.{Kept, KeptPaths, kept_layers, kept_row, kept_start, kept_after, kept_heads, kept_tails}
use Rattle.pc_labels.specs.Labels.{IsLabelled, WereHeads, WereTails}
use Rattle.pc_labels.specs.Marks.{Marks, AreMarks}
use Rattle.pc_labels.proofs.KeptLemmas.{no_row, length-heads, length-tails}
use Rattle.pc_labels.proofs.ViewLemmas.{shown_layers}

same_filter : (p q : List ℕ → Bool) → ((word : List ℕ) → p word ≡ q word) → (words : List (List ℕ)) → filter p words ≡ filter q words
same_filter p q same [] = refl
same_filter p q same (w ∷ words) = ap (λ b. if b then w ∷ filter p words else filter p words) (same w) ∙ ap (λ ws. if q w then w ∷ ws else ws) (same_filter p q same words)

middle_first : (p q r : Bool) → (p && (q && r)) ≡ (q && (p && r))
middle_first true q r = refl
middle_first false true r = refl
middle_first false false r = refl

module _ (raw : RawDiagram) (variable : ℕ) (before choices : List Choice) (same : AgreeBeside variable before choices) where
  -- paths that end before a variable agree with both
  parts : (ls : List Level) (o : Option ℕ) (node : ℕ) (word : List ℕ) (first : ℕ) → first + length ls ≤ variable →
      (is_number (leads_to ls o word) node && agrees before first word) ≡ (is_number (leads_to ls o word) node && agrees choices first word)
  parts [] o node [] first le = refl
  parts [] o node (value ∷ word) first le = refl
  parts (l ∷ ls) o node [] first le = refl
  parts (l ∷ ls) None node (value ∷ word) first le = refl
  parts (l ∷ ls) (Some n) node (value ∷ word) first le =
      let there = is_number (leads_to ls (edge l n value) word) node in
      let other : first ≢ variable = λ e. omega (arith, e, le) in
      middle_first there (is_allowed (value_of before first) value) (agrees before (first + 1) word)
      ∙ ap (λ t. is_allowed (value_of before first) value && t) (parts ls (edge l n value) node word (first + 1) (omega (arith, le)))
      ∙ ap (λ o. is_allowed o value && (there && agrees choices (first + 1) word)) (same first other)
      ∙ sym (middle_first there (is_allowed (value_of choices first) value) (agrees choices (first + 1) word))

  few : (layer : ℕ) → layer ≤ variable → (ls : List Level) → 0 + length (take layer ls) ≤ variable
  few zero le ls = omega arith
  few (suc layer) le [] = omega arith
  few (suc layer) le (l ∷ ls) = let less = shorter layer ls in omega (arith, less, le)
    where
      shorter : (n : ℕ) (ms : List Level) → length (take n ms) ≤ n
      shorter zero ms = omega arith
      shorter (suc n) [] = omega arith
      shorter (suc n) (m ∷ ms) = let less = shorter n ms in omega (arith, less)

  pub same_heads : (layer node : ℕ) → layer ≤ variable → heads raw before layer node ≡ heads raw choices layer node
  same_heads layer node le = same_filter (is_head raw before layer node) (is_head raw choices layer node) (λ word. parts (take layer (levels raw)) (Some 0) node word 0 (few layer le (levels raw))) (all_words (take layer raw.domains))

  -- and so do those that begin after it
  agrees-after : (word : List ℕ) (first : ℕ) → variable < first → agrees before first word ≡ agrees choices first word
  agrees-after [] first lt = refl
  agrees-after (value ∷ word) first lt =
      let other : first ≢ variable = λ e. omega (arith, e, lt) in
      ap (λ o. is_allowed o value && agrees before (first + 1) word) (same first other) ∙ ap (λ t. is_allowed (value_of choices first) value && t) (agrees-after word (first + 1) (omega (arith, lt)))

  pub same_tails : (layer node : ℕ) → variable < layer → tails raw before layer node ≡ tails raw choices layer node
  same_tails layer node lt = same_filter (is_tail raw before layer node) (is_tail raw choices layer node) (λ word. ap (λ t. accepts (drop layer (levels raw)) (Some node) word && t) (agrees-after word layer lt)) (all_words (drop layer raw.domains))

-- labels stay labels where the paths are the same
pub labelled_as : (costs : List (List CostPair)) (paths others : ℕ → List (List ℕ)) (size : ℕ) (row : List (Option Kept)) → ((node : ℕ) → paths node ≡ others node) → IsLabelled costs paths size row → IsLabelled costs others size row
labelled_as costs paths others size row same labelled = record {
  nodes = labelled.nodes;
  best_path = λ node lt. labelled.best_path node lt ∙ ap (best costs) (same node);
  priced = labelled.priced;
  ranked = labelled.ranked;
}

-- the first layers keep what they kept
after-take : (before : List (Option Kept)) (layers : List Marks) (n k : ℕ) → k < n → slice_index_or (kept_after before (take n layers)) k no_row ≡ slice_index_or (kept_after before layers) k no_row
after-take before layers zero k lt = absurd (omega arith)
after-take before [] (suc n) k lt = refl
after-take before (m ∷ layers) (suc n) zero lt = refl
after-take before (m ∷ layers) (suc n) (suc k) lt = after-take (kept_row Heads before m.weights m.steps) layers n k (omega arith)

pub heads-take : (layers : List Marks) (n k : ℕ) → k < n → slice_index_or (kept_heads (take n layers)) k no_row ≡ slice_index_or (kept_heads layers) k no_row
heads-take layers zero k lt = absurd (omega arith)
heads-take [] (suc n) k lt = refl
heads-take (m ∷ layers) (suc n) zero lt = refl
heads-take (m ∷ layers) (suc n) (suc k) lt = after-take (kept_start m.weights) layers n k (omega arith)

pub marks-take : (layers : List Marks) (n k : ℕ) → k < n → marks_at (take n layers) k ≡ marks_at layers k
marks-take layers zero k lt = absurd (omega arith)
marks-take [] (suc n) k lt = refl
marks-take (m ∷ layers) (suc n) zero lt = refl
marks-take (m ∷ layers) (suc n) (suc k) lt = marks-take layers n k (omega arith)

-- the layers up to the variable whose choice changed are those of the new choices
pub heads_taken : (raw : RawDiagram) (choices : List Choice) (costs : List (List CostPair)) (variable : ℕ) (layers : List Marks) → variable < length raw.domains → AreLayers Heads layers →
    WereHeads raw choices costs variable (record { side = Heads; layers = kept_heads layers }) → AreHeadsUpTo raw choices costs variable (take (variable + 1) layers)
heads_taken raw choices costs variable layers lt h were = record {
  layers_made = length-take (variable + 1) layers ∙ (omega (arith, lt, long));
  marked = All-take AreMarks (variable + 1) layers h.marked;
  labelled = λ layer le. subst (λ row. IsLabelled costs (heads raw choices layer) (slice_index raw.sizes layer) row) (sym (heads-take layers (variable + 1) layer (omega (arith, le))))
      (labelled_as costs (heads raw were.before layer) (heads raw choices layer) (slice_index raw.sizes layer) (slice_index_or (kept_heads layers) layer no_row) (λ node. same_heads raw variable were.before choices were.agree layer node le) (were.made.labelled layer (omega (arith, le, lt))));
  joined = λ layer less.
      let below : layer + 1 < variable + 1 = omega (arith, less, length-take (variable + 1) layers, lt, long) in
      subst (λ m. AreLinked m (marks_at (take (variable + 1) layers) layer)) (sym (marks-take layers (variable + 1) (layer + 1) below))
      (subst (λ m. AreLinked (marks_at layers (layer + 1)) m) (sym (marks-take layers (variable + 1) layer (omega (arith, below)))) (h.joined layer (omega (arith, below, lt, long))));
}
  where
    long : length layers ≡ length raw.domains + 1
    long = sym (length-heads layers) ∙ were.made.layers

-- the last layers keep what they kept
tails-drop : (layers : List Marks) (n k i : ℕ) → i ≡ n + k → slice_index_or (kept_tails (drop n layers)) k no_row ≡ slice_index_or (kept_tails layers) i no_row
tails-drop layers zero k i e = let same : k ≡ i = omega (arith, e) in ap (λ j. slice_index_or (kept_tails layers) j no_row) same
tails-drop [] (suc n) k i e = refl
tails-drop (m ∷ layers) (suc n) k zero e = absurd (omega arith)
tails-drop (m ∷ layers) (suc n) k (suc i) e = tails-drop layers n k i (omega arith)

marks-drop : (layers : List Marks) (n k i : ℕ) → i ≡ n + k → marks_at (drop n layers) k ≡ marks_at layers i
marks-drop layers zero k i e = let same : k ≡ i = omega (arith, e) in ap (λ j. marks_at layers j) same
marks-drop [] (suc n) k i e = refl
marks-drop (m ∷ layers) (suc n) k zero e = absurd (omega arith)
marks-drop (m ∷ layers) (suc n) k (suc i) e = marks-drop layers n k i (omega arith)

-- the layers after the variable whose choice changed are those of the new choices
pub tails_taken : (raw : RawDiagram) (choices : List Choice) (costs : List (List CostPair)) (variable : ℕ) (layers : List Marks) → variable < length raw.domains → AreLayers Tails layers →
    WereTails raw choices costs variable (record { side = Tails; layers = kept_tails layers }) → AreTailsFrom raw choices costs (variable + 1) (drop (variable + 1) layers)
tails_taken raw choices costs variable layers lt h were = record {
  layers_made = omega (arith, lt, long, rest);
  marked = All-drop AreMarks (variable + 1) layers h.marked;
  labelled = λ layer le. subst (λ row. IsLabelled (drop (variable + 1 + layer) costs) (tails raw choices (variable + 1 + layer)) (slice_index raw.sizes (variable + 1 + layer)) row) (sym (tails-drop layers (variable + 1) layer (variable + 1 + layer) refl))
      (labelled_as (drop (variable + 1 + layer) costs) (tails raw were.before (variable + 1 + layer)) (tails raw choices (variable + 1 + layer)) (slice_index raw.sizes (variable + 1 + layer)) (slice_index_or (kept_tails layers) (variable + 1 + layer) no_row)
      (λ node. same_tails raw variable were.before choices were.agree (variable + 1 + layer) node (omega arith)) (were.made.labelled (variable + 1 + layer) le));
  joined = λ layer less.
      subst (λ m. AreLinked m (marks_at (drop (variable + 1) layers) (layer + 1))) (sym (marks-drop layers (variable + 1) layer (variable + 1 + layer) refl))
      (subst (λ m. AreLinked (marks_at layers (variable + 1 + layer)) m) (sym (marks-drop layers (variable + 1) (layer + 1) (variable + 1 + layer + 1) (omega arith))) (h.joined (variable + 1 + layer) (omega (arith, less, rest, lt, long))));
}
  where
    long : length layers ≡ length raw.domains + 1
    long = sym (length-tails layers) ∙ were.made.layers

    rest : length (drop (variable + 1) layers) ≡ length layers - (variable + 1)
    rest = length-drop (variable + 1) layers

-- labels for other choices show as many layers as they hold
pub layers_held : (n : ℕ) (side : Side) (layers : List Marks) (shown : KeptPaths) → record { side = side; layers = kept_layers side layers } ≡ shown → length shown.layers ≡ n + 1 → length layers ≡ n + 1
layers_held n side layers shown is made = sym (shown_layers side layers) ∙ ap (λ (v : KeptPaths). length v.layers) is ∙ made

-- the layers that labels for other choices hold up to the variable are those of the new choices
pub heads_shared : (raw : RawDiagram) (choices : List Choice) (costs : List (List CostPair)) (variable : ℕ) (side : Side) (layers : List Marks) (shown : KeptPaths) → record { side = side; layers = kept_layers side layers } ≡ shown →
    variable < length raw.domains → AreLayers side layers → WereHeads raw choices costs variable shown → AreHeadsUpTo raw choices costs variable (take (variable + 1) layers)
heads_shared raw choices costs variable Heads layers shown is lt h were = heads_taken raw choices costs variable layers lt h (subst (WereHeads raw choices costs variable) (sym is) were)
heads_shared raw choices costs variable Tails layers shown is lt h were = let same : Tails ≡ Heads = ap (λ (v : KeptPaths). v.side) is ∙ were.made.side in absurd cc

-- and those after it
pub tails_shared : (raw : RawDiagram) (choices : List Choice) (costs : List (List CostPair)) (variable : ℕ) (side : Side) (layers : List Marks) (shown : KeptPaths) → record { side = side; layers = kept_layers side layers } ≡ shown →
    variable < length raw.domains → AreLayers side layers → WereTails raw choices costs variable shown → AreTailsFrom raw choices costs (variable + 1) (drop (variable + 1) layers)
tails_shared raw choices costs variable Tails layers shown is lt h were = tails_taken raw choices costs variable layers lt h (subst (WereTails raw choices costs variable) (sym is) were)
tails_shared raw choices costs variable Heads layers shown is lt h were = let same : Heads ≡ Tails = ap (λ (v : KeptPaths). v.side) is ∙ were.made.side in absurd cc
