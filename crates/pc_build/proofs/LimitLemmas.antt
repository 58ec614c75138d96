-- Where the first set of more nodes than are allowed stands.
use Rattle.std.proofs.Common.{◌≡◌, ℕ, zero, suc, ◌+◌, Bool, true, false, ◌||◌, cond, List, [], ◌∷◌, ◌++◌, length, take, Option, None, Some, option_map, slice_get, position, refl, sym, ap, ◌∙◌, arith}
use Rattle.std.specs.List.{list_any, position_from}
use Rattle.std.specs.Option.{option_or}
use Rattle.std.proofs.lemmas.Bool.{or_parts}
use Rattle.std.proofs.lemmas.Iterator.Adapters.{position_from-zero}
use Rattle.pc_file.specs.Parts.{is_too_large, node_limit_from}
use Rattle.pc_build.specs.Making.{IsFirst}

module _ {X : Type 0} (p : X → Bool) where
  nowhere_from : (n : ℕ) (xs : List X) → list_any p xs ≡ false → position_from p n xs ≡ None
  nowhere_from n [] none = refl
  nowhere_from n (x ∷ xs) none =
      let parts = or_parts (p x) (list_any p xs) none in
      ap (λ b. cond b (Some n) (position_from p (n + 1) xs)) parts.0 ∙ nowhere_from (n + 1) xs parts.1

  -- where no item passes there is no first one
  nowhere : (xs : List X) → list_any p xs ≡ false → position p xs ≡ None
  nowhere xs none = position_from-zero p xs ∙ nowhere_from 0 xs none

  none_from : (n : ℕ) (xs : List X) → position_from p n xs ≡ None → list_any p xs ≡ false
  none_from n [] nowhere = refl
  none_from n (x ∷ xs) nowhere = by (none_from (n + 1) xs) (p x) nowhere
    where
      by : (position_from p (n + 1) xs ≡ None → list_any p xs ≡ false) → (b : Bool) → cond b (Some n) (position_from p (n + 1) xs) ≡ None → (b || list_any p xs) ≡ false
      by rest true e = absurd cc
      by rest false e = rest e

  -- where there is no first one no item passes
  none_passes : (xs : List X) → position p xs ≡ None → list_any p xs ≡ false
  none_passes xs nowhere = none_from 0 xs (sym (position_from-zero p xs) ∙ nowhere)

  first_from : (n : ℕ) (xs : List X) (place : ℕ) (item : X) → slice_get xs place ≡ Some item → p item ≡ true → list_any p (take place xs) ≡ false → position_from p n xs ≡ Some (n + place)
  first_from n [] place item at passes before = absurd cc
  first_from n (x ∷ xs) zero item at passes before =
      let same : x ≡ item = cc in
      ap (λ b. cond b (Some n) (position_from p (n + 1) xs)) (ap p same ∙ passes) ∙ ap Some (let e : n ≡ n + 0 = omega arith in e)
  first_from n (x ∷ xs) (suc place) item at passes before =
      let parts = or_parts (p x) (list_any p (take place xs)) before in
      ap (λ b. cond b (Some n) (position_from p (n + 1) xs)) parts.0
      ∙ first_from (n + 1) xs place item at passes parts.1
      ∙ ap Some (let e : n + 1 + place ≡ n + suc place = omega arith in e)

  -- the place of the first one
  first_place : (xs : List X) (place : ℕ) (item : X) → IsFirst p xs place item → position p xs ≡ Some place
  first_place xs place item first = position_from-zero p xs ∙ first_from 0 xs place item first.stands first.passes first.none_before ∙ ap Some (let e : 0 + place ≡ place = omega arith in e)

module _ (most : ℕ) (domains : List ℕ) where
  abbrev large : (List ℕ → Bool) → Bool
  large = is_too_large most domains

  -- rules before of which no set is too large are passed over
  pub passed_over : (rule : ℕ) (before made : List (List (List ℕ → Bool))) → node_limit_from rule most domains before ≡ None → node_limit_from rule most domains (before ++ made) ≡ node_limit_from (rule + length before) most domains made
  passed_over rule [] made none = ap (λ n. node_limit_from n most domains made) (let e : rule ≡ rule + 0 = omega arith in e)
  passed_over rule (sets ∷ before) made none = by (passed_over (rule + 1) before made) (option_map (λ place. (rule, place + 1)) (position large sets)) none
    where
      by : (node_limit_from (rule + 1) most domains before ≡ None → node_limit_from (rule + 1) most domains (before ++ made) ≡ node_limit_from (rule + 1 + length before) most domains made)
          → (here : Option (ℕ × ℕ)) → option_or here (node_limit_from (rule + 1) most domains before) ≡ None → option_or here (node_limit_from (rule + 1) most domains (before ++ made)) ≡ node_limit_from (rule + length (sets ∷ before)) most domains made
      by rest None e = rest e ∙ ap (λ n. node_limit_from n most domains made) (let e : rule + 1 + length before ≡ rule + suc (length before) = omega arith in e)
      by rest (Some place) e = absurd cc

  -- the first set of a rule that is too large
  pub limit_here : (rule : ℕ) (sets : List (List ℕ → Bool)) (made : List (List (List ℕ → Bool))) (place : ℕ) (set : List ℕ → Bool) → IsFirst large sets place set → node_limit_from rule most domains (sets ∷ made) ≡ Some (rule, place + 1)
  limit_here rule sets made place set first = ap (λ o. option_or (option_map (λ place. (rule, place + 1)) o) (node_limit_from (rule + 1) most domains made)) (first_place large sets place set first)

  -- a rule of which no set is too large
  pub no_limit_here : (rule : ℕ) (sets : List (List ℕ → Bool)) → list_any large sets ≡ false → node_limit_from rule most domains (sets ∷ []) ≡ None
  no_limit_here rule sets none = ap (λ o. option_or (option_map (λ place. (rule, place + 1)) o) None) (nowhere large sets none)

  -- where there is no limit no set is too large
  pub none_too_large : (rule : ℕ) (made : List (List (List ℕ → Bool))) → node_limit_from rule most domains made ≡ None → list_any (list_any large) made ≡ false
  none_too_large rule [] none = refl
  none_too_large rule (sets ∷ made) none = by (none_too_large (rule + 1) made) (position large sets) (none_passes large sets) none
    where
      by : (node_limit_from (rule + 1) most domains made ≡ None → list_any (list_any large) made ≡ false)
          → (here : Option ℕ) → (here ≡ None → list_any large sets ≡ false) → option_or (option_map (λ place. (rule, place + 1)) here) (node_limit_from (rule + 1) most domains made) ≡ None → (list_any large sets || list_any (list_any large) made) ≡ false
      by rest None small e = ap (λ b. b || list_any (list_any large) made) (small refl) ∙ rest e
      by rest (Some place) small e = absurd cc
