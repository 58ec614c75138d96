-- Layers that get more rows.
use Rattle.std.proofs.Common.{◌≡◌, ℕ, zero, suc, ◌<◌, ◌≤◌, nat_eq, Bool, true, false, ◌||◌, List, [], ◌∷◌, ◌++◌, map, length, get_or, set, drop, Some, Result, Ok, Err, IfOk, OnOk, slice_get, refl, sym, ap, ◌∙◌, subst, arith, if◌then◌else◌, length-append}
use Rattle.std.specs.Cmp.Lexicographic.{pointwise}
use Rattle.std.specs.List.{IsDistinct, AllByRecursion, list_any}
use Rattle.std.proofs.lemmas.List.{append-nil, get_or_append_left}
use Rattle.std.proofs.lemmas.List.Elements.{All-from_recursion, recursion_from_All}
use Rattle.std.proofs.lemmas.Cmp.{nat_list_eq_equiv}
use Rattle.pc_base.specs.declared.memory.NoMemory.{NoMemory}
use Rattle.pc_store.specs.declared.layer.Layer.{Layer}
use Rattle.pc_store.specs.Rows.{with_row}
use Rattle.pc_store.specs.Layered.{row_of, node_count, accepts, IsRow, IsLayer, IsLayered, IsStore, RowFits, with_row_at, HasRow}
use Rattle.pc_store.proofs.LayerLemmas.{child_within}

-- each layer keeps its rows, and may have more after them
abbrev pub Grows : List Layer → List Layer → Type 0
Grows [] [] = Unit {0}
Grows [] (now ∷ more) = ⊥
Grows (layer ∷ layers) [] = ⊥
Grows (layer ∷ layers) (now ∷ more) = (now.domain ≡ layer.domain) × (rows : List (List ℕ)) × (now.table ≡ layer.table ++ rows) × Grows layers more

pub grows_same : (layers : List Layer) → Grows layers layers
grows_same [] = tt
grows_same (layer ∷ layers) = (refl, [], sym (append-nil layer.table), grows_same layers)

pub grows_domains : (old new : List Layer) → Grows old new → map (λ layer. layer.domain) new ≡ map (λ layer. layer.domain) old
grows_domains [] [] g = refl
grows_domains [] (now ∷ more) g = elim g [ ]
grows_domains (layer ∷ layers) [] g = elim g [ ]
grows_domains (layer ∷ layers) (now ∷ more) g = λ i. g.0 i ∷ grows_domains layers more g.3 i

pub grows_length : (old new : List Layer) → Grows old new → length new ≡ length old
grows_length [] [] g = refl
grows_length [] (now ∷ more) g = elim g [ ]
grows_length (layer ∷ layers) [] g = elim g [ ]
grows_length (layer ∷ layers) (now ∷ more) g = ap suc (grows_length layers more g.3)

pub grows_count : (old new : List Layer) → Grows old new → node_count old ≤ node_count new
grows_count [] [] g = omega arith
grows_count [] (now ∷ more) g = elim g [ ]
grows_count (layer ∷ layers) [] g = elim g [ ]
grows_count (layer ∷ layers) (now ∷ more) g = omega (arith, ap length g.2, length-append layer.table g.1)

pub grows_drop : (count : ℕ) (old new : List Layer) → Grows old new → Grows (drop count old) (drop count new)
grows_drop zero old new g = g
grows_drop (suc count) [] [] g = tt
grows_drop (suc count) [] (now ∷ more) g = elim g [ ]
grows_drop (suc count) (layer ∷ layers) [] g = elim g [ ]
grows_drop (suc count) (layer ∷ layers) (now ∷ more) g = grows_drop count layers more g.3

-- a node keeps its words
pub grows_accepts : (old new : List Layer) → Grows old new → IsLayered old → (node : ℕ) → node < node_count old → (word : List ℕ) → accepts new node word ≡ accepts old node word
grows_accepts [] [] g h node lt word = refl
grows_accepts [] (now ∷ more) g h node lt word = elim g [ ]
grows_accepts (layer ∷ layers) [] g h node lt word = elim g [ ]
grows_accepts (layer ∷ layers) (now ∷ more) g h node lt [] = refl
grows_accepts (layer ∷ layers) (now ∷ more) g h node lt (value ∷ word) =
    let same : row_of now node ≡ row_of layer node = ap (λ t. get_or t node []) g.2 ∙ get_or_append_left layer.table g.1 [] node lt in
    rw same (grows_accepts layers more g.3 h.1 (get_or (row_of layer node) value 0) (child_within layer layers h node value lt) word)

stands_still : {X : Type 0} (xs ys : List X) (i : ℕ) (x : X) → slice_get xs i ≡ Some x → slice_get (xs ++ ys) i ≡ Some x
stands_still [] ys i x h = absurd cc
stands_still (z ∷ xs) ys zero x h = h
stands_still (z ∷ xs) ys (suc i) x h = stands_still xs ys i x h

all_push : {X : Type 0} (P : X → Type 0) (xs : List X) (x : X) → AllByRecursion P xs → P x → AllByRecursion P (xs ++ x ∷ [])
all_push P [] x h p = (p, tt)
all_push P (y ∷ xs) x h p = (h.0, all_push P xs x h.1 p)

none_same : (rows : List (List ℕ)) (row : List ℕ) → list_any (pointwise nat_eq row) rows ≡ false → IsDistinct (pointwise nat_eq) rows → IsDistinct (pointwise nat_eq) (rows ++ row ∷ [])
unfolding IsDistinct
none_same [] row new d = (tt, tt)
none_same (first ∷ rows) row new d = by (pointwise nat_eq row first) refl (none_same rows row)
  where
    by : (b : Bool) → pointwise nat_eq row first ≡ b → (list_any (pointwise nat_eq row) rows ≡ false → IsDistinct (pointwise nat_eq) rows → IsDistinct (pointwise nat_eq) (rows ++ row ∷ [])) →
        IsDistinct (pointwise nat_eq) (first ∷ rows ++ row ∷ [])
    by true e rest = let there : (true || list_any (pointwise nat_eq row) rows) ≡ false = ap (λ b. b || list_any (pointwise nat_eq row) rows) (sym e) ∙ new in absurd cc
    by false e rest =
        let apart : pointwise nat_eq first row ≡ false = nat_list_eq_equiv.symm first row ∙ e in
        let later : list_any (pointwise nat_eq row) rows ≡ false = ap (λ b. b || list_any (pointwise nat_eq row) rows) (sym e) ∙ new in
        (all_push (λ y. pointwise nat_eq first y ≡ false) rows row d.0 apart, rest later d.1)

-- a layer with one more row at its end
layer_push : (below : ℕ) (layer : Layer) (row : List ℕ) → IsLayer below layer → IsRow layer.domain below row → list_any (pointwise nat_eq row) layer.table ≡ false → IsLayer below (record layer { table = layer.table ++ row ∷ [] })
layer_push below layer row h r new = record {
  some_value = h.some_value;
  few_values = h.few_values;
  empty = stands_still layer.table (row ∷ []) 0 _ h.empty;
  full = stands_still layer.table (row ∷ []) 1 _ h.full;
  rows = All-from_recursion (IsRow layer.domain below) (layer.table ++ row ∷ []) (all_push (IsRow layer.domain below) layer.table row (recursion_from_All (IsRow layer.domain below) layer.table h.rows) r);
  distinct = none_same layer.table row new h.distinct;
}

-- a layer with one more row, unless it is there
layer_with : (below : ℕ) (layer : Layer) (row : List ℕ) → IsLayer below layer → IsRow layer.domain below row → IsLayer below (record layer { table = with_row layer.table row })
layer_with below layer row h r = by (list_any (pointwise nat_eq row) layer.table) refl
  where
    by : (b : Bool) → list_any (pointwise nat_eq row) layer.table ≡ b → IsLayer below (record layer { table = if b then layer.table else layer.table ++ row ∷ [] })
    by true e = h
    by false e = layer_push below layer row h r e

more_rows : (rows : List (List ℕ)) (row : List ℕ) → (more : List (List ℕ)) × (with_row rows row ≡ rows ++ more)
more_rows rows row = by (list_any (pointwise nat_eq row) rows)
  where
    by : (b : Bool) → (more : List (List ℕ)) × ((if b then rows else rows ++ row ∷ []) ≡ rows ++ more)
    by true = ([], sym (append-nil rows))
    by false = (row ∷ [], refl)

-- a layer over more nodes
layer_over : (below more : ℕ) (layer : Layer) → below ≤ more → IsLayer below layer → IsLayer more layer
layer_over below more layer le h = record {
  some_value = h.some_value;
  few_values = h.few_values;
  empty = h.empty;
  full = h.full;
  rows = λ k d lt. record { width = (h.rows k d lt).width; within = λ i e l. let w = (h.rows k d lt).within i e l in omega arith };
  distinct = h.distinct;
}

pub grows_with : (layers : List Layer) (place : ℕ) (row : List ℕ) → Grows layers (with_row_at layers place row)
grows_with [] place row = tt
grows_with (layer ∷ layers) zero row = let more = more_rows layer.table row in (refl, more.0, more.1, grows_same layers)
grows_with (layer ∷ layers) (suc place) row = (refl, [], sym (append-nil layer.table), grows_with layers place row)

pub layered_with : (layers : List Layer) (place : ℕ) (row : List ℕ) → IsLayered layers → RowFits layers place row → IsLayered (with_row_at layers place row)
layered_with [] place row h r = h
layered_with (layer ∷ layers) zero row h r = (layer_with (node_count layers) layer row h.0 r, h.1)
layered_with (layer ∷ layers) (suc place) row h r =
    (layer_over (node_count layers) (node_count (with_row_at layers place row)) layer (grows_count layers (with_row_at layers place row) (grows_with layers place row)) h.0, layered_with layers place row h.1 r)

-- a layer put back with one more row
put_row : (layers : List Layer) (place : ℕ) (d : Layer) (now : List (List ℕ)) (row : List ℕ) → place < length layers → now ≡ with_row (get_or layers place d).table row →
    set layers place (record { domain = (get_or layers place d).domain; table = now }) ≡ with_row_at layers place row
put_row [] place d now row lt e = refl
put_row (first ∷ layers) zero d now row lt e = λ i. record { domain = first.domain; table = e i } ∷ layers
put_row (first ∷ layers) (suc place) d now row lt e = ap (λ rest. first ∷ rest) (put_row layers place d now row (omega arith) e)

put_has : (layers : List Layer) (place : ℕ) (layer : Layer) (row : List ℕ) (node : ℕ) → place < length layers → slice_get layer.table node ≡ Some row → HasRow (set layers place layer) place node row
put_has [] place layer row node lt e = absurd (omega arith)
put_has (first ∷ layers) zero layer row node lt e = e
put_has (first ∷ layers) (suc place) layer row node lt e = put_has layers place layer row node (omega arith) e

pub put_row_ok : (layers : List Layer) (place : ℕ) (layer : Layer) (now : List (List ℕ)) (row : List ℕ) (r : Result ℕ NoMemory) → place < length layers → layer ≡ get_or layers place layer →
    IfOk r (λ _. now ≡ with_row layer.table row) → OnOk r (set layers place (record { domain = layer.domain; table = now }) ≡ with_row_at layers place row)
put_row_ok layers place layer now row (Err error) lt read e = tt
put_row_ok layers place layer now row (Ok node) lt read e =
    subst (λ (l : Layer). now ≡ with_row l.table row → set layers place (record { domain = l.domain; table = now }) ≡ with_row_at layers place row) (sym read) (put_row layers place layer now row lt) e

pub put_has_ok : (layers : List Layer) (place : ℕ) (layer : Layer) (now : List (List ℕ)) (row : List ℕ) (r : Result ℕ NoMemory) → place < length layers →
    IfOk r (λ node. slice_get now node ≡ Some row) → IfOk r (λ node. HasRow (set layers place (record { domain = layer.domain; table = now })) place node row)
put_has_ok layers place layer now row (Err error) lt e = tt
put_has_ok layers place layer now row (Ok node) lt e = put_has layers place (record { domain = layer.domain; table = now }) row node lt e

pub length-with : (layers : List Layer) (place : ℕ) (row : List ℕ) → length (with_row_at layers place row) ≡ length layers
length-with layers place row = grows_length layers (with_row_at layers place row) (grows_with layers place row)

-- a store with one more row
pub store_with : (layers : List Layer) (place : ℕ) (row : List ℕ) → IsStore layers → RowFits layers place row → IsStore (with_row_at layers place row)
store_with layers place row h r = let same = length-with layers place row in record {
  some_layer = let some = h.some_layer in omega arith;
  few_layers = let few = h.few_layers in omega arith;
  layered = layered_with layers place row h.layered r;
}
