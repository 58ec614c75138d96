-- Lists of sets of one layer, and what they lead to.
use Rattle.std.specs.Prelude.{◌≡◌, ℕ, ◌+◌, ◌≤◌, List, [], ◌∷◌, ◌++◌, ◌⊎◌, true, cond, Some, length, slice_get, slice_index, All}
use Rattle.pc_store.specs.declared.id.Node.{Node}
use Rattle.pc_store.specs.declared.store.Store.{Store}
use Rattle.pc_store.specs.Sets.{domains_of, id_at, IsNodeAt, has, AreChildren}
use Rattle.pc_apply.specs.declared.split.Split.{Split}
use Rattle.pc_apply.specs.declared.step.Step.{Step}
use Rattle.pc_apply.specs.declared.step.Steps.{Steps}
use Rattle.pc_apply.specs.Counting.{count_at, count_after}
use Rattle.pc_apply.specs.Levels.{AllAt, is_over}

-- lists with one more at the end, unless it is there
abbrev pub IsWith : List (List Node) → List Node → List (List Node) → Type 0
IsWith old list new = (new ≡ old) ⊎ (new ≡ old ++ list ∷ [])

-- the sets of all lists are of a layer
abbrev pub ListsAt : Store → ℕ → List (List Node) → Type 0
ListsAt store layer lists = AllAt (All (IsNodeAt store layer)) lists

-- lists of a layer go on with more
pub record Grows (store : Store) (layer : ℕ) (old new : List (List Node)) : Type 0 where
  pub more : List (List Node)
  pub new_is : new ≡ old ++ more
  pub lists_at : ListsAt store layer new

-- what each set of a layer goes on with
pub record AreRows (store : Store) (layer : ℕ) (sets : List Node) (rows : List (List Node)) : Type 0 where
  pub count : length rows ≡ length sets
  pub each : (place : ℕ) (set : Node) (row : List Node) → slice_get sets place ≡ Some set → slice_get rows place ≡ Some row → AreChildren store layer set row

-- one set of a layer more has been counted: among the full ones, or among the rest
pub record CountsIn (store : Store) (layer : ℕ) (set : Node) (old new : Split) : Type 0 where
  pub rest : All (IsNodeAt store layer) old.rest.items → All (IsNodeAt store layer) new.rest.items
  pub count : (word : List ℕ) → is_over store layer word ≡ true → new.full + count_at store layer new.rest.items word ≡ old.full + count_at store layer old.rest.items word + cond (has store (id_at layer set) word) 1 0
  pub few : new.full ≤ old.full + 1

-- a word lies in as many of the sets that stand in rows at a value as are full, and as many of the rest as it lies in
pub record IsSplit (store : Store) (layer : ℕ) (rows : List (List Node)) (value : ℕ) (split : Split) : Type 0 where
  pub rest : All (IsNodeAt store layer) split.rest.items
  pub count : (word : List ℕ) → is_over store layer word ≡ true → count_after store layer rows value word ≡ split.full + count_at store layer split.rest.items word

-- a word that begins with a value and goes on in a word of the next layer lies in as many sets of a list as its step has
-- full ones, and as many of the list below as that word lies in
pub record IsStep (store : Store) (layer : ℕ) (sets : List Node) (value : ℕ) (below : List (List Node)) (step : Step) : Type 0 where
  pub rest : List Node
  pub stands : slice_get below step.list ≡ Some rest
  pub count : (word : List ℕ) → is_over store (layer + 1) word ≡ true → count_at store layer sets (value ∷ word) ≡ step.full + count_at store (layer + 1) rest word

-- a step is that of the value before, and all rows have the same set at both
pub record IsBefore (rows : List (List Node)) (value : ℕ) (steps : List Step) (step : Step) : Type 0 where
  pub before : ℕ
  pub next : before + 1 ≡ value
  pub stands : slice_get steps before ≡ Some step
  pub alike : All (λ row. slice_get row before ≡ slice_get row value) rows

-- a step for each value
pub record HasSteps (store : Store) (layer : ℕ) (sets : List Node) (below : List (List Node)) (steps : Steps) : Type 0 where
  pub count : length steps.steps.items ≡ slice_index (domains_of store) layer
  pub each : (value : ℕ) (step : Step) → slice_get steps.steps.items value ≡ Some step → IsStep store layer sets value below step

-- each list has its steps
pub record HaveSteps (store : Store) (layer : ℕ) (lists below : List (List Node)) (steps : List Steps) : Type 0 where
  pub count : length steps ≡ length lists
  pub each : (place : ℕ) (sets : List Node) (of_list : Steps) → slice_get lists place ≡ Some sets → slice_get steps place ≡ Some of_list → HasSteps store layer sets below of_list
