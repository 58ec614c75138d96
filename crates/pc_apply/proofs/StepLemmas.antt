-- Steps of lists, a value at a time.
use Rattle.std.proofs.Common.{◌≡◌, ℕ, suc, ◌+◌, Bool, true, false, cond, not, List, [], ◌∷◌, length, get_or, slice_get, slice_index, unwrap_or, Some, ◌<◌, All, refl, sym, ap, ◌∙◌, arith}
use Rattle.std.proofs.lemmas.List.Sums.{sum_by-cons}
use Rattle.std.proofs.lemmas.Option.{slice_get_read, unwrap_or-slice_get}
use Rattle.pc_store.specs.declared.id.Node.{Node}
use Rattle.pc_store.specs.declared.store.Store.{Store}
use Rattle.pc_store.specs.Sets.{domains_of, id_at, has}
use Rattle.pc_apply.specs.declared.split.Split.{Split}
use Rattle.pc_apply.specs.declared.step.Step.{Step}
use Rattle.pc_apply.specs.Counting.{count_at, count_after}
use Rattle.pc_apply.specs.Lists.{AreRows, IsBefore, IsSplit, IsStep}
use Rattle.pc_apply.proofs.SplitLemmas.{same_node, same_node-Decides, rows_count}

-- nodes that aren't found different
pub not_different : (a b : Node) (r : Bool) → r ≡ not (same_node a b) → r ≡ false → a ≡ b
not_different a b r is none = (same_node-Decides a b).0 (by (same_node a b) (sym is ∙ none))
  where
    by : (same : Bool) → not same ≡ false → same ≡ true
    by true e = refl
    by false e = absurd cc

-- the step of the value before, where it stands
pub step_is_before : (rows : List (List Node)) (before value : ℕ) (steps : List Step) (step : Step) → before + 1 ≡ value → All (λ row. slice_get row before ≡ slice_get row value) rows → length steps ≡ value → step ≡ get_or steps before step → IsBefore rows value steps step
step_is_before rows before value steps step next alike count read = record {
  before = before;
  next = next;
  stands = slice_get_read steps value before step (sym count) (omega arith) read;
  alike = alike;
}

-- a word lies in as many sets after two values at which all rows have the same set
pub alike_count : (store : Store) (layer : ℕ) (rows : List (List Node)) (value other : ℕ) (word : List ℕ) → All (λ row. slice_get row value ≡ slice_get row other) rows → count_after store layer rows value word ≡ count_after store layer rows other word
alike_count store layer [] value other word alike = refl
alike_count store layer (row ∷ rows) value other word alike =
    sum_by-cons (λ r. cond (has store (id_at layer (get_or r value none)) word) 1 0) row rows
    ∙ (λ i. cond {A = ℕ} (has store (id_at layer (same i)) word) 1 0 + alike_count store layer rows value other word (λ k d lt. alike (suc k) d (omega arith)) i)
    ∙ sym (sum_by-cons (λ r. cond (has store (id_at layer (get_or r other none)) word) 1 0) row rows)
  where
    none : Node
    none = record { number = 0 }

    same : get_or row value none ≡ get_or row other none
    same = sym (unwrap_or-slice_get row value none) ∙ ap (λ o. unwrap_or o none) (alike 0 row (omega arith)) ∙ unwrap_or-slice_get row other none

-- a list has the step of the value before, where all its sets go on with the same
pub before_is_step : (store : Store) (layer : ℕ) (sets : List Node) (rows : List (List Node)) (value : ℕ) (below : List (List Node)) (steps : List Step) (step : Step) → AreRows store layer sets rows → value < slice_index (domains_of store) layer → IsBefore rows value steps step →
    ((v : ℕ) (s : Step) → slice_get steps v ≡ Some s → IsStep store layer sets v below s) → IsStep store layer sets value below step
before_is_step store layer sets rows value below steps step are lt is each = record {
  rest = first.rest;
  stands = first.stands;
  count = λ word over.
      rows_count store layer sets rows value word are lt
      ∙ sym (alike_count store (layer + 1) rows is.before value word is.alike)
      ∙ sym (rows_count store layer sets rows is.before word are (let next = is.next in omega arith))
      ∙ first.count word over;
}
  where
    first : IsStep store layer sets is.before below step
    first = each is.before step is.stands

-- a list has the step whose split was counted
pub split_is_step : (store : Store) (layer : ℕ) (sets : List Node) (rows : List (List Node)) (value : ℕ) (below : List (List Node)) (step : Step) (split : Split) → AreRows store layer sets rows → value < slice_index (domains_of store) layer → IsSplit store (layer + 1) rows value split → step.full ≡ split.full →
    slice_get below step.list ≡ Some split.rest.items → IsStep store layer sets value below step
split_is_step store layer sets rows value below step split are lt is_split full stands = record {
  rest = split.rest.items;
  stands = stands;
  count = λ word over. rows_count store layer sets rows value word are lt ∙ is_split.count word over ∙ ap (λ n. n + count_at store (layer + 1) split.rest.items word) (sym full);
}
