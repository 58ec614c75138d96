-- What a look-up by a test that decides `≡` says of places.
use Rattle.std.proofs.Common.{◌≡◌, ◌≢◌, ℕ, zero, suc, ◌+◌, ◌<◌, Bool, true, false, cond, List, [], ◌∷◌, Option, None, Some, slice_get, position, refl, sym, ap, subst, ◌∙◌, true≢false, arith}
use Rattle.std.specs.Bool.{Decides}
use Rattle.std.specs.List.{position_from}
use Rattle.std.specs.Option.{unwrap_or}
use Rattle.std.specs.Cmp.Lexicographic.{pointwise}
use Rattle.std.specs.Prelude.{nat_eq}
use Rattle.std.proofs.lemmas.Iterator.Adapters.{position_from-zero}
use Rattle.std.proofs.lemmas.Option.{none-some}
use Rattle.std.proofs.lemmas.Slice.Eq.{bytes_eq-Decides}
use Rattle.pc_names.specs.Places.{IsFirstPlace}

-- `==` of two names, as a test of lists: it holds exactly where they are the same bytes
pub name_eq-Decides : (first second : List ℕ) → Decides (pointwise nat_eq first second) (first ≡ second)
name_eq-Decides = bytes_eq-Decides

module _ {X : Type 0} (E : X → X → Bool) (decides : (a b : X) → Decides (E a b) (a ≡ b)) (item : X) where
  -- the first place, where the list's own first place counts as n
  abbrev IsPlaceFrom : ℕ → List X → Option ℕ → Type 0
  IsPlaceFrom n items None = (k : ℕ) → slice_get items k ≢ Some item
  IsPlaceFrom n items (Some place) = (j : ℕ) × (place ≡ n + j) × (slice_get items j ≡ Some item) × ((k : ℕ) → k < j → slice_get items k ≢ Some item)

  other : (x : X) → E item x ≡ false → Some x ≢ Some item
  other x apart at = true≢false (sym ((decides item x).1 (sym (ap (λ o. unwrap_or o item) at))) ∙ apart)

  nowhere : (x : X) (xs : List X) → E item x ≡ false → ((k : ℕ) → slice_get xs k ≢ Some item) → (k : ℕ) → slice_get (x ∷ xs) k ≢ Some item
  nowhere x xs apart rest zero at = other x apart at
  nowhere x xs apart rest (suc k) at = rest k at

  nowhere_before : (x : X) (xs : List X) (j : ℕ) → E item x ≡ false → ((k : ℕ) → k < j → slice_get xs k ≢ Some item) → (k : ℕ) → k < suc j → slice_get (x ∷ xs) k ≢ Some item
  nowhere_before x xs j apart rest zero below at = other x apart at
  nowhere_before x xs j apart rest (suc k) below at = rest k (omega arith) at

  later : (n : ℕ) (x : X) (xs : List X) (place : Option ℕ) → E item x ≡ false → IsPlaceFrom (n + 1) xs place → IsPlaceFrom n (x ∷ xs) place
  later n x xs None apart rest = nowhere x xs apart rest
  later n x xs (Some place) apart rest = (suc rest.0, omega (arith, rest.1), rest.2, nowhere_before x xs rest.0 apart rest.3)

  head_or_later : (n : ℕ) (x : X) (xs : List X) → IsPlaceFrom (n + 1) xs (position_from (E item) (n + 1) xs) → IsPlaceFrom n (x ∷ xs) (position_from (E item) n (x ∷ xs))
  head_or_later n x xs rest = by (E item x) refl
    where
      by : (b : Bool) → E item x ≡ b → IsPlaceFrom n (x ∷ xs) (cond b (Some n) (position_from (E item) (n + 1) xs))
      by true equal = (0, omega arith, ap Some (sym ((decides item x).0 equal)), λ k below. absurd (omega arith))
      by false apart = later n x xs (position_from (E item) (n + 1) xs) apart rest

  place_from : (n : ℕ) (items : List X) → IsPlaceFrom n items (position_from (E item) n items)
  place_from n [] = λ k. none-some item
  place_from n (x ∷ xs) = head_or_later n x xs (place_from (n + 1) xs)

  first_from : (items : List X) (place : Option ℕ) → IsPlaceFrom 0 items place → IsFirstPlace items item place
  first_from items None nowhere = nowhere
  first_from items (Some place) there =
      let same : there.0 ≡ place = omega (arith, there.1) in
      subst (λ j. (slice_get items j ≡ Some item) × ((k : ℕ) → k < j → slice_get items k ≢ Some item)) same (there.2, there.3)

  -- what `position`, and so `get_index_of`, answers is the first place of the item
  pub first_place : (items : List X) (place : Option ℕ) → place ≡ position (E item) items → IsFirstPlace items item place
  first_place items place is =
      first_from items place (subst (IsPlaceFrom 0 items) (sym (is ∙ position_from-zero (E item) items)) (place_from 0 items))

-- of names
pub first_place_of_name : (names : List (List ℕ)) (name : List ℕ) (place : Option ℕ) → place ≡ position (pointwise nat_eq name) names → IsFirstPlace names name place
first_place_of_name names name = first_place (pointwise nat_eq) name_eq-Decides name names
