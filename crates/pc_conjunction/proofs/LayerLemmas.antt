-- Layers that grow or are cut, one column after another.
use Rattle.std.proofs.Common.{◌≡◌, ℕ, ◌+◌, ◌<◌, ◌≤◌, nat_lt, Bool, true, false, List, [], ◌∷◌, length, get_or, set, refl, sym, ◌∙◌, subst, arith}
use Rattle.std.proofs.lemmas.Bool.Decides.{nat_tests}
use Rattle.std.proofs.lemmas.List.{get_or-set_same, get_or-set_other, length-set}
use Rattle.pc_store.specs.declared.id.Id.{Id}
use Rattle.pc_store.specs.declared.store.Store.{Store}
use Rattle.pc_store.specs.Sets.{has}
use Rattle.pc_conjunction.specs.declared.layer.Layer.{Layer}
use Rattle.pc_conjunction.specs.declared.pair.Pair.{Pair}
use Rattle.pc_conjunction.specs.Meets.{IsBelow, MorePairs, in_node, GrownColumn, CutColumn}
use Rattle.pc_conjunction.proofs.MeetLemmas.{meets_later, meets_same, more_none, more_then}

-- columns that were changed up to one: each is by a relation what it was, and those after it stay
pub record Changing (store : Store) (layer count : ℕ) (Changed : List Layer → ℕ → List Pair → List ℕ → List ℕ → Type 0) (done : ℕ) (first next : List Pair) (old new : List (List ℕ)) : Type 0 where
  pub width : length new ≡ length old
  pub kept : (value : ℕ) → done ≤ value → get_or new value [] ≡ get_or old value []
  pub more : MorePairs store (layer + 1) count first next
  pub changed : (layers : List Layer) → IsBelow store (layer + 1) count layers → (value : ℕ) → value < done → Changed layers value next (get_or old value []) (get_or new value [])

pub changing_none : (store : Store) (layer count : ℕ) (Changed : List Layer → ℕ → List Pair → List ℕ → List ℕ → Type 0) (next : List Pair) (columns : List (List ℕ)) → Changing store layer count Changed 0 next next columns columns
changing_none store layer count Changed next columns = record {
  width = refl;
  kept = λ value le. refl;
  more = more_none store (layer + 1) count next;
  changed = λ layers below value lt. absurd (omega arith);
}

-- one column more
pub changing_more : (store : Store) (layer count : ℕ) (Changed : List Layer → ℕ → List Pair → List ℕ → List ℕ → Type 0) (done : ℕ) (first mid next : List Pair) (old new : List (List ℕ)) (column : List ℕ) →
    ((layers : List Layer) (value : ℕ) (a b : List ℕ) → Changed layers value mid a b → Changed layers value next a b) → done < length old → Changing store layer count Changed done first mid old new → MorePairs store (layer + 1) count mid next →
    ((layers : List Layer) → IsBelow store (layer + 1) count layers → Changed layers done next (get_or old done []) column) → Changing store layer count Changed (done + 1) first next old (set new done column)
changing_more store layer count Changed done first mid next old new column later inside h more one = record {
  width = length-set new done column ∙ h.width;
  kept = λ value le. get_or-set_other new done value column [] (λ e. absurd (omega arith)) ∙ h.kept value (omega arith);
  more = more_then store (layer + 1) count first mid next h.more more;
  changed = λ layers below value lt. by layers below value lt (nat_lt value done) refl;
}
  where
    by : (layers : List Layer) → IsBelow store (layer + 1) count layers → (value : ℕ) → value < done + 1 → (b : Bool) → nat_lt value done ≡ b → Changed layers value next (get_or old value []) (get_or (set new done column) value [])
    by layers below value lt true before =
        let less : value < done = grind (arith, nat_tests) in
        subst (Changed layers value next (get_or old value [])) (sym (get_or-set_other new done value column [] (λ e. absurd (omega arith)))) (later layers value (get_or old value []) (get_or new value []) (h.changed layers below value less))
    by layers below value lt false last =
        let here : done ≡ value = grind (arith, nat_tests) in
        subst (λ v. Changed layers v next (get_or old v []) (get_or (set new done column) v [])) here
        (subst (Changed layers done next (get_or old done [])) (sym (get_or-set_same new done column [] (let w = h.width in omega arith))) (one layers below))

-- a grown column stays one where more pairs are made
pub grown_later : (store : Store) (layer count : ℕ) (pairs mid next : List Pair) → MorePairs store (layer + 1) count mid next → (layers : List Layer) (value : ℕ) (old new : List ℕ) → GrownColumn store layer layers value pairs mid old new → GrownColumn store layer layers value pairs next old new
grown_later store layer count pairs mid next more layers value old new h = record {
  width = h.width;
  kept = h.kept;
  met = λ i pair at. meets_later store (layer + 1) count layers mid next (get_or old pair.place 0) (λ word. in_node store layer pair (value ∷ word)) (get_or new (length old + i) 0) more (h.met i pair at);
}

pub cut_later : (store : Store) (layer count : ℕ) (set : Id) (mid next : List Pair) → MorePairs store (layer + 1) count mid next → (layers : List Layer) (value : ℕ) (old new : List ℕ) → CutColumn store (layer + 1) layers (λ word. has store set (value ∷ word)) mid old new →
    CutColumn store (layer + 1) layers (λ word. has store set (value ∷ word)) next old new
cut_later store layer count set mid next more layers value old new h = record {
  width = h.width;
  empty = h.empty;
  met = λ place lt. meets_later store (layer + 1) count layers mid next (get_or old place 0) (λ word. has store set (value ∷ word)) (get_or new place 0) more (h.met place lt);
}

-- a cut by a test that tells the same
pub cut_same : (store : Store) (layer : ℕ) (layers : List Layer) (test other : List ℕ → Bool) (next : List Pair) (old new : List ℕ) → ((word : List ℕ) → test word ≡ other word) → CutColumn store layer layers test next old new → CutColumn store layer layers other next old new
cut_same store layer layers test other next old new same h = record {
  width = h.width;
  empty = h.empty;
  met = λ place lt. meets_same store layer layers next (get_or old place 0) test other (get_or new place 0) same (h.met place lt);
}
