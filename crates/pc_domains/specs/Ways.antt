-- Ways through an edge: what is kept of the paths on either side of it, joined.
use Rattle.std.specs.Prelude.{◌≡◌, ℕ, ◌<◌, nat_lt, List, ◌∷◌, ◌++◌, slice_index, Bool, true, false, not, ◌&&◌, ◌||◌, Option, Some}
use Rattle.pc_diagram.specs.declared.costs.CostPair.{CostPair}
use Rattle.pc_diagram.specs.declared.raw_diagram.RawDiagram.{RawDiagram}
use Rattle.pc_diagram.specs.Costs.{cost_pair, is_cheaper}
use Rattle.pc_diagram.specs.Levels.{edge, level}
use Rattle.pc_diagram.specs.NodePaths.{comes_before}
use Rattle.pc_diagram.specs.Weight.{plus_pair}
use Rattle.pc_diagram.specs.Words.{is_word}
pub use Rattle.pc_labels.specs.Kept.{Kept}

-- some kept path of a node costs no more than another path, and comes no later where it costs as much
pub record IsCovered (no_more : CostPair → CostPair → Type 0) (costs : List (List CostPair)) (kept : ℕ → Option Kept) (word : List ℕ) : Type 0 where
  pub place : ℕ
  pub path : Kept
  pub is : kept place ≡ Some path
  pub no_dearer : no_more path.pair (cost_pair costs word)
  pub no_later : is_cheaper path.pair (cost_pair costs word) ≡ false → comes_before word path.path ≡ false

-- what is kept of the nodes of a layer, by their places: paths of theirs with their costs, which cover all their paths; no two
-- of a node cost the same; and ranks compare as the paths do
pub record Keeps (no_more : CostPair → CostPair → Type 0) (costs : List (List CostPair)) (paths : ℕ → List ℕ → Bool) (domains : List ℕ) (size : ℕ) (kept : ℕ → ℕ → Option Kept) : Type 0 where
  pub over : (node place : ℕ) → node < size → (k : Kept) → kept node place ≡ Some k → is_word domains k.path ≡ true
  pub is_path : (node place : ℕ) → node < size → (k : Kept) → kept node place ≡ Some k → paths node k.path ≡ true
  pub priced : (node place : ℕ) → node < size → (k : Kept) → kept node place ≡ Some k → k.pair ≡ cost_pair costs k.path
  pub covers : (node : ℕ) → node < size → (word : List ℕ) → is_word domains word ≡ true → paths node word ≡ true → IsCovered no_more costs (kept node) word
  pub differ : (node place other : ℕ) → node < size → (k l : Kept) → kept node place ≡ Some k → kept node other ≡ Some l → k.pair ≡ l.pair → k.path ≡ l.path
  pub ranked : (node place other beside : ℕ) → node < size → other < size → (k l : Kept) → kept node place ≡ Some k → kept other beside ≡ Some l → nat_lt k.rank l.rank ≡ comes_before k.path l.path

-- a way through an edge of a value of a variable: the edge, and a kept path on either side of it
pub record Way (raw : RawDiagram) (variable value : ℕ) (heads tails : ℕ → ℕ → Option Kept) : Type 0 where
  pub node : ℕ
  pub target : ℕ
  pub head_place : ℕ
  pub tail_place : ℕ
  pub head : Kept
  pub tail : Kept
  pub inside : node < slice_index raw.sizes variable
  pub leads : edge (level raw variable) node value ≡ Some target
  pub head_is : heads node head_place ≡ Some head
  pub tail_is : tails target tail_place ≡ Some tail

-- what a head, a value that costs this, and a tail cost
abbrev pub joined_pair : CostPair → Kept → Kept → CostPair
joined_pair price head tail = plus_pair head.pair (plus_pair price tail.pair)

-- the word that they make
abbrev pub joined_word : ℕ → Kept → Kept → List ℕ
joined_word value head tail = head.path ++ value ∷ tail.path

-- one join is less than another: cheaper, or as cheap with a head of lesser rank
abbrev pub is_less_join : CostPair → Kept → Kept → Kept → Kept → Bool
is_less_join price head tail other_head other_tail =
    is_cheaper (joined_pair price head tail) (joined_pair price other_head other_tail)
    || not (is_cheaper (joined_pair price other_head other_tail) (joined_pair price head tail)) && nat_lt head.rank other_head.rank
