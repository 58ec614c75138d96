-- A set has no more nodes than its store.
use Rattle.std.proofs.Common.{◌≡◌, ℕ, zero, suc, ◌+◌, ◌-◌, ◌<◌, ◌≤◌, List, [], ◌∷◌, ◌++◌, map, filter, length, get_or, take, drop, sum, refl, sym, ap, ◌∙◌, subst, arith, zero-add}
use Rattle.std.specs.List.{range_with_len}
use Rattle.std.specs.Set.{distinct_count}
use Rattle.std.proofs.lemmas.List.{length-map, take-append-drop}
use Rattle.std.proofs.lemmas.List.FromFn.{sum_by-map-range_with_len_more}
use Rattle.pc_diagram.specs.Rests.{has_words, rest_count, size}
use Rattle.pc_store.specs.declared.layer.Layer.{Layer}
use Rattle.pc_store.specs.Layered.{node_count, node_total, accepts, IsLayered}
use Rattle.pc_store.proofs.SetLemmas.{layered_drop, domains_drop}
use Rattle.pc_store.proofs.LayerLemmas.{two_nodes}
use Rattle.pc_store.proofs.DistinctLemmas.{same, distinct_most, at_most}
use Rattle.pc_store.proofs.SizeLemmas.{domains, domains_take, reached, reached_within, words_of, rests_are, no_words, rests_at}

-- as many different non-empty rests at most as nodes of a layer
rests_most : (front back : List Layer) → IsLayered (front ++ back) → IsLayered back → (node : ℕ) → node < node_count (front ++ back) → rest_count (accepts (front ++ back) node) (domains front) (domains back) ≤ node_count back
rests_most front back h hb node lt =
    let two = two_nodes back hb in
    let most : rest_count (accepts (front ++ back) node) (domains front) (domains back) ≤ node_count back - 1 =
    subst (λ l. distinct_count same (filter has_words l) ≤ node_count back - 1) (sym (rests_are front back h node lt))
    (distinct_most (words_of back) (node_count back - 1) (no_words back hb) (reached front node) (at_most (node_count back) two (reached front node) (reached_within front back h node lt))) in
    omega arith

rests_at_most : (layers : List Layer) → IsLayered layers → (node : ℕ) → node < node_count layers → (count : ℕ) → rests_at layers node count ≤ node_count (drop count layers)
rests_at_most layers h node lt count =
    let whole : take count layers ++ drop count layers ≡ layers = take-append-drop count layers in
    let split : rest_count (accepts (take count layers ++ drop count layers) node) (domains (take count layers)) (domains (drop count layers)) ≤ node_count (drop count layers) =
    rests_most (take count layers) (drop count layers) (subst IsLayered (sym whole) h) (layered_drop count layers h) node (subst (λ ls. node < node_count ls) (sym whole) lt) in
    let again : rest_count (accepts layers node) (domains (take count layers)) (domains (drop count layers)) ≤ node_count (drop count layers) =
    subst (λ ls. rest_count (accepts ls node) (domains (take count layers)) (domains (drop count layers)) ≤ node_count (drop count layers)) whole split in
    subst (λ d. rest_count (accepts layers node) d (drop count (domains layers)) ≤ node_count (drop count layers)) (sym (domains_take count layers))
    (subst (λ d. rest_count (accepts layers node) (domains (take count layers)) d ≤ node_count (drop count layers)) (sym (domains_drop count layers)) again)

-- the nodes of one layer and of those below it
total_split : (layers : List Layer) (count : ℕ) → count < length layers → node_total (drop count layers) ≡ node_count (drop count layers) + node_total (drop (count + 1) layers)
total_split [] count lt = absurd (omega arith)
total_split (layer ∷ layers) zero lt = refl
total_split (layer ∷ layers) (suc count) lt = total_split layers count (omega arith) ∙ ap (λ n. node_count (drop count layers) + node_total (drop n (layer ∷ layers))) (let one : suc (count + 1) ≡ suc count + 1 = omega arith in one)

-- past the last layer are two
pub total_end : (layers : List Layer) (count : ℕ) → length layers ≤ count → node_total (drop count layers) ≡ 2
total_end [] zero le = refl
total_end [] (suc count) le = refl
total_end (layer ∷ layers) zero le = absurd (omega arith)
total_end (layer ∷ layers) (suc count) le = total_end layers count (omega arith)

count_end : (layers : List Layer) (count : ℕ) → length layers ≤ count → node_count (drop count layers) ≡ 2
count_end [] zero le = refl
count_end [] (suc count) le = refl
count_end (layer ∷ layers) zero le = absurd (omega arith)
count_end (layer ∷ layers) (suc count) le = count_end layers count (omega arith)

-- the same by the layer that stands there
pub total_at : (layers : List Layer) (count : ℕ) (layer : Layer) → count < length layers → layer ≡ get_or layers count layer → node_total (drop count layers) ≡ length layer.table + node_total (drop (count + 1) layers)
total_at layers count layer lt read = total_split layers count lt ∙ ap (λ n. n + node_total (drop (count + 1) layers)) (by layers count lt ∙ sym (ap (λ (l : Layer). length l.table) read))
  where
    by : (layers : List Layer) (count : ℕ) → count < length layers → node_count (drop count layers) ≡ length (get_or layers count layer).table
    by [] count lt = absurd (omega arith)
    by (first ∷ layers) zero lt = refl
    by (first ∷ layers) (suc count) lt = by layers count (omega arith)

first_rests : (layers : List Layer) → IsLayered layers → (node : ℕ) → node < node_count layers → (count : ℕ) → count ≤ length layers → sum (map (rests_at layers node) (range_with_len 0 count)) + node_total (drop count layers) ≤ node_total layers
first_rests layers h node lt zero le = omega arith
first_rests layers h node lt (suc count) le =
    let before = first_rests layers h node lt count (omega arith) in
    let more : sum (map (rests_at layers node) (range_with_len 0 (count + 1))) ≡ sum (map (rests_at layers node) (range_with_len 0 count)) + rests_at layers node count = sum_by-map-range_with_len_more (λ x. x) (rests_at layers node) 0 count count (zero-add count) in
    let most = rests_at_most layers h node lt count in
    let split = total_split layers count (omega arith) in
    let next : sum (map (rests_at layers node) (range_with_len 0 (count + 1))) + node_total (drop (count + 1) layers) ≤ node_total layers = omega arith in
    subst (λ n. sum (map (rests_at layers node) (range_with_len 0 n)) + node_total (drop n layers) ≤ node_total layers) (let one : count + 1 ≡ suc count = omega arith in one) next

-- the size of a node's set is at most the number of nodes
pub size_most : (layers : List Layer) → IsLayered layers → (node : ℕ) → node < node_count layers → size (domains layers) (accepts layers node) ≤ node_total layers
size_most layers h node lt =
    let n = length layers in
    let before = first_rests layers h node lt n (omega arith) in
    let more : sum (map (rests_at layers node) (range_with_len 0 (n + 1))) ≡ sum (map (rests_at layers node) (range_with_len 0 n)) + rests_at layers node n = sum_by-map-range_with_len_more (λ x. x) (rests_at layers node) 0 n n (zero-add n) in
    let most = rests_at_most layers h node lt n in
    let end = count_end layers n (omega arith) in
    let past = total_end layers n (omega arith) in
    let whole : sum (map (rests_at layers node) (range_with_len 0 (n + 1))) ≤ node_total layers = omega arith in
    subst (λ k. sum (map (rests_at layers node) (range_with_len 0 (k + 1))) ≤ node_total layers) (sym (length-map layers (λ (layer : Layer). layer.domain))) whole
