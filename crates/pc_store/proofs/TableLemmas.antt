-- A row among rows, found by a test.
use Rattle.std.proofs.Common.{◌≡◌, ℕ, zero, suc, ◌+◌, Bool, true, false, cond, ◌||◌, nat_eq, List, [], ◌∷◌, ◌++◌, map, take, length, get_or, ◌<◌, Option, None, Some, slice_get, position, refl, sym, ap, ◌∙◌, arith, subst, IfSome, if◌then◌else◌}
use Rattle.std.specs.Cmp.Lexicographic.{pointwise}
use Rattle.std.specs.List.{list_any, position_from, IsDistinct, AllByRecursion}
use Rattle.pc_store.specs.Rows.{with_row}
use Rattle.std.specs.Option.{option_map}
use Rattle.std.proofs.lemmas.Iterator.Adapters.{position_from-zero}
use Rattle.std.proofs.lemmas.List.{map-append, take_more}
use Rattle.std.proofs.lemmas.Slice.Eq.{bytes_eq-Decides}
use Rattle.std.proofs.lemmas.Cmp.{nat_list_eq_equiv}

module _ {K : Type 0} (items : K → List ℕ) (row : List ℕ) where
  abbrev test : K → Bool
  test k = pointwise nat_eq row (items k)

  pub list_any-rows : (ks : List K) → list_any test ks ≡ list_any (pointwise nat_eq row) (map items ks)
  list_any-rows [] = refl
  list_any-rows (k ∷ ks) = ap (λ b. test k || b) (list_any-rows ks)

  abbrev Stands : ℕ → List K → Option ℕ → Type 0
  Stands n ks None = list_any test ks ≡ false
  Stands n ks (Some place) = (j : ℕ) × (place ≡ n + j) × (slice_get (map items ks) j ≡ Some row) × (list_any test ks ≡ true)

  stands_from : (n : ℕ) (ks : List K) → Stands n ks (position_from test n ks)
  stands_from n [] = refl
  stands_from n (k ∷ ks) = by (test k) refl (position_from test (n + 1) ks) (stands_from (n + 1) ks)
    where
      later : (place : Option ℕ) → test k ≡ false → Stands (n + 1) ks place → Stands n (k ∷ ks) place
      later None apart rest = rw (apart, rest) refl
      later (Some place) apart rest = (suc rest.0, omega (arith, rest.1), rest.2, rw (apart, rest.3) refl)

      by : (b : Bool) → test k ≡ b → (place : Option ℕ) → Stands (n + 1) ks place → Stands n (k ∷ ks) (cond b (Some n) place)
      by true same place rest = (0, omega arith, ap Some (sym ((bytes_eq-Decides row (items k)).0 same)), ap (λ b. b || list_any test ks) same)
      by false apart place rest = later place apart rest

  found : (ks : List K) (place : Option ℕ) → place ≡ position test ks → Stands 0 ks place
  found ks place is = let P : Option ℕ → Type 0 = Stands 0 ks in subst P (sym (is ∙ position_from-zero test ks)) (stands_from 0 ks)

  -- a place that the test finds is that of the row
  pub row_found : (ks : List K) (place : Option ℕ) → place ≡ position test ks → IfSome place (λ p. slice_get (map items ks) p ≡ Some row)
  row_found ks place is = by place (found ks place is)
    where
      by : (p : Option ℕ) → Stands 0 ks p → IfSome p (λ q. slice_get (map items ks) q ≡ Some row)
      by None s = tt
      by (Some p) s = let same : p ≡ s.0 = omega (arith, s.1) in rw same s.2

  -- one more at the end, unless it is there
  pub row_put : (ks more : List K) (k : K) → items k ≡ row → more ≡ (if list_any (λ x. pointwise nat_eq (items k) (items x)) ks then ks else ks ++ k ∷ []) → map items more ≡ with_row (map items ks) row
  row_put ks more k is e =
      let same : list_any (λ x. pointwise nat_eq (items k) (items x)) ks ≡ list_any (pointwise nat_eq row) (map items ks) = ap (λ r. list_any (λ x. pointwise nat_eq r (items x)) ks) is ∙ list_any-rows ks in
      ap (map items) (e ∙ ap (λ b. if b then ks else ks ++ k ∷ []) same) ∙ by (list_any (pointwise nat_eq row) (map items ks))
    where
      by : (b : Bool) → map items (if b then ks else ks ++ k ∷ []) ≡ (if b then map items ks else map items ks ++ row ∷ [])
      by true = refl
      by false = map-append items ks (k ∷ []) ∙ ap (λ r. map items ks ++ r ∷ []) is

  -- where one stands that the test finds, the row stands
  pub row_stored : (ks : List K) (k stored : K) (place : ℕ) → items k ≡ row → slice_get ks place ≡ Some stored → pointwise nat_eq (items k) (items stored) ≡ true → slice_get (map items ks) place ≡ Some row
  row_stored ks k stored place is at same =
      at_place ks place at ∙ ap Some (sym ((bytes_eq-Decides (items k) (items stored)).0 same) ∙ is)
    where
      at_place : (xs : List K) (i : ℕ) → slice_get xs i ≡ Some stored → slice_get (map items xs) i ≡ Some (items stored)
      at_place [] i h = absurd cc
      at_place (x ∷ xs) zero h = ap (λ o. option_map items o) h
      at_place (x ∷ xs) (suc i) h = at_place xs i h

-- rows that stand once, one after another
all_at : {X : Type 0} (P : X → Type 0) (xs : List X) (i : ℕ) (d : X) → AllByRecursion P xs → i < length xs → P (get_or xs i d)
all_at P [] i d h lt = absurd (omega arith)
all_at P (x ∷ xs) zero d h lt = h.0
all_at P (x ∷ xs) (suc i) d h lt = all_at P xs i d h.1 (omega arith)

apart_before : (rows : List (List ℕ)) (i : ℕ) (d : List ℕ) → i < length rows → IsDistinct (pointwise nat_eq) rows → list_any (pointwise nat_eq (get_or rows i d)) (take i rows) ≡ false
unfolding IsDistinct
apart_before [] i d lt h = absurd (omega arith)
apart_before (first ∷ rows) zero d lt h = refl
apart_before (first ∷ rows) (suc i) d lt h =
    let apart : pointwise nat_eq (get_or rows i d) first ≡ false = nat_list_eq_equiv.symm (get_or rows i d) first ∙ all_at (λ y. pointwise nat_eq first y ≡ false) rows i d h.0 (omega arith) in
    ap (λ b. b || list_any (pointwise nat_eq (get_or rows i d)) (take i rows)) apart ∙ apart_before rows i d (omega arith) h.1

pub next_row : (rows : List (List ℕ)) (i : ℕ) (d : List ℕ) → i < length rows → IsDistinct (pointwise nat_eq) rows → with_row (take i rows) (get_or rows i d) ≡ take (i + 1) rows
next_row rows i d lt h = ap (λ b. if b then take i rows else take i rows ++ get_or rows i d ∷ []) (apart_before rows i d lt h) ∙ sym (take_more rows i d lt)
