-- In how many of several sets words lie.
use Rattle.std.specs.Prelude.{◌≡◌, ℕ, nat_le, List, Bool, count_by, Some, length, slice_get, slice_index_or}
use Rattle.pc_store.specs.declared.id.Id.{Id}
use Rattle.pc_store.specs.declared.id.Node.{Node}
use Rattle.pc_store.specs.declared.store.Store.{Store}
use Rattle.pc_store.specs.Sets.{layer_of, id_at, has}

-- in how many of the sets a word lies; a set that stands twice counts twice
abbrev pub count_of : Store → List Id → List ℕ → ℕ
count_of store sets word = count_by (λ set. has store set word) sets

-- a word lies in at most so many of the sets
abbrev pub is_within : Store → ℕ → List Id → List ℕ → Bool
is_within store most sets word = nat_le (count_of store sets word) most

-- in how many of the sets of a layer a word lies
abbrev pub count_at : Store → ℕ → List Node → List ℕ → ℕ
count_at store layer nodes word = count_by (λ node. has store (id_at layer node) word) nodes

-- in how many of the sets that stand in rows at a value a word lies
abbrev pub count_after : Store → ℕ → List (List Node) → ℕ → List ℕ → ℕ
count_after store layer rows value word = count_by (λ row. has store (id_at layer (slice_index_or row value (record { number = 0 }))) word) rows

-- sets are these nodes, each of its layer
pub record AreNodes (sets : List Id) (nodes : List Node) : Type 0 where
  pub count : length nodes ≡ length sets
  pub each : (place : ℕ) (set : Id) (node : Node) → slice_get sets place ≡ Some set → slice_get nodes place ≡ Some node → set ≡ id_at (layer_of set) node
