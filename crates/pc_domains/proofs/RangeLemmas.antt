-- Paths lead to nodes of the layers.
use Rattle.std.proofs.Common.{◌≡◌, ℕ, zero, suc, ◌+◌, ◌<◌, ◌≤◌, true, List, [], ◌∷◌, take, drop, length, get_or, Option, Some, None, refl, sym, ap, subst, ◌∙◌, arith}
use Rattle.pc_diagram.specs.declared.choice.Choice.{Choice}
use Rattle.pc_diagram.specs.declared.raw_diagram.RawDiagram.{RawDiagram}
use Rattle.pc_diagram.specs.Diagram.{IsCanonical}
use Rattle.pc_diagram.specs.Fitting.{is_number}
use Rattle.pc_diagram.specs.Levels.{edge, level, levels}
use Rattle.pc_diagram.specs.NodePaths.{agrees, is_head, leads_to}
use Rattle.pc_diagram.proofs.LevelLemmas.{drop-levels}
use Rattle.pc_diagram.proofs.PathLemmas.{is_number-is, leads_to-none}
use Rattle.pc_diagram.proofs.ShapeLemmas.{both}
use Rattle.pc_diagram.proofs.UniqueLemmas.{inside, outside_row}

module _ (raw : RawDiagram) (canonical : IsCanonical raw) where
  -- an edge leads to a node of the next layer
  pub edge_inside : (variable node value target : ℕ) → variable < length raw.domains → edge (level raw variable) node value ≡ Some target → target < get_or raw.sizes (variable + 1) 0
  edge_inside variable node value target lt is =
      inside (get_or raw.sizes (variable + 1) 0) (edge (level raw variable) node value) target (outside_row (level raw variable) (canonical.canonical variable lt) node value) is

  leads_inside : (count variable : ℕ) (word : List ℕ) (start node : ℕ) → variable + count ≤ length raw.domains → start < get_or raw.sizes variable 0 → leads_to (take count (drop variable (levels raw))) (Some start) word ≡ Some node → node < get_or raw.sizes (variable + count) 0
  leads_inside zero variable [] start node few lt is =
      let same : start ≡ node = cc in
      let here : variable ≡ variable + 0 = omega arith in
      subst (λ n. n < get_or raw.sizes (variable + 0) 0) same (subst (λ k. start < get_or raw.sizes k 0) here lt)
  leads_inside zero variable (value ∷ word) start node few lt is = absurd cc
  leads_inside (suc count) variable word start node few lt is =
      step (λ target rest. leads_inside count (variable + 1) rest target node (omega arith)) word (ap (λ ls. leads_to (take (suc count) ls) (Some start) word) (sym (drop-levels raw variable (omega arith))) ∙ is)
    where
      on : ((target : ℕ) (rest : List ℕ) → target < get_or raw.sizes (variable + 1) 0 → leads_to (take count (drop (variable + 1) (levels raw))) (Some target) rest ≡ Some node → node < get_or raw.sizes ((variable + 1) + count) 0) → (value : ℕ) (rest : List ℕ) (o : Option ℕ) → edge (level raw variable) start value ≡ o → leads_to (take count (drop (variable + 1) (levels raw))) o rest ≡ Some node → node < get_or raw.sizes (variable + suc count) 0
      on further value rest None e h = let no = leads_to-none (take count (drop (variable + 1) (levels raw))) rest in absurd cc
      on further value rest (Some target) e h =
          let there : (variable + 1) + count ≡ variable + suc count = omega arith in
          subst (λ k. node < get_or raw.sizes k 0) there (further target rest (edge_inside variable start value target (omega arith) e) h)

      step : ((target : ℕ) (rest : List ℕ) → target < get_or raw.sizes (variable + 1) 0 → leads_to (take count (drop (variable + 1) (levels raw))) (Some target) rest ≡ Some node → node < get_or raw.sizes ((variable + 1) + count) 0) → (w : List ℕ) → leads_to (level raw variable ∷ take count (drop (variable + 1) (levels raw))) (Some start) w ≡ Some node → node < get_or raw.sizes (variable + suc count) 0
      step further [] h = absurd cc
      step further (value ∷ rest) h = on further value rest (edge (level raw variable) start value) refl h

  -- a node with a head is one of its layer
  pub head_inside : (choices : List Choice) (layer node : ℕ) (word : List ℕ) → layer ≤ length raw.domains → is_head raw choices layer node word ≡ true → node < get_or raw.sizes layer 0
  head_inside choices layer node word few is =
      let two = both (is_number (leads_to (take layer (levels raw)) (Some 0) word) node) (agrees choices 0 word) is in
      let one : 0 < get_or raw.sizes 0 0 = omega (arith, canonical.shape.root) in
      let here : 0 + layer ≡ layer = omega arith in
      subst (λ k. node < get_or raw.sizes k 0) here
      (leads_inside layer 0 word 0 node (omega arith) one (is_number-is (leads_to (take layer (levels raw)) (Some 0) word) node two.0))
