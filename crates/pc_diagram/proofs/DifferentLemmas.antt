-- The different ones of a list: they have its members, no two are equal, and what is summed over them is summed over any list
-- of the same members of which no two are equal.
use Rattle.std.proofs.Common.{◌≡◌, ℕ, ◌+◌, Bool, true, false, not, cond, ◌||◌, List, [], ◌∷◌, filter, sum_by, refl, sym, ap, ◌∙◌, subst, arith}
use Rattle.std.specs.List.{list_any, AllByRecursion, IsDistinct}
use Rattle.std.proofs.lemmas.Bool.{both_ways}
use Rattle.std.proofs.lemmas.List.Sums.{sum_by-cons}

module _ {X : Type 0} (eq : X → X → Bool) (is : (x y : X) → eq x y ≡ true → x ≡ y) (itself : (x : X) → eq x x ≡ true) where
  abbrev others : X → List X → List X
  others x xs = filter (λ y. not (eq x y)) xs

  abbrev pub different_by : List X → List X
  different_by [] = []
  different_by (x ∷ xs) = x ∷ others x (different_by xs)

  member : X → List X → Bool
  member x xs = list_any (eq x) xs

  turned : (x y : X) → eq x y ≡ false → eq y x ≡ false
  turned x y h = by (eq y x) refl
    where
      by : (b : Bool) → eq y x ≡ b → b ≡ false
      by true e = absurd (both_ways (eq x y) h (ap (eq x) (is y x e) ∙ itself x))
      by false e = refl

  step : (b c : Bool) → (b ≡ false → c ≡ true) → (b || c) ≡ true
  step true c h = refl
  step false c h = h refl

  unstep : (b c : Bool) → (b || c) ≡ true → b ≡ false → c ≡ true
  unstep true c h e = absurd cc
  unstep false c h e = h

  kept_in : (r x : X) (xs : List X) → eq r x ≡ false → list_any (eq x) xs ≡ true → list_any (eq x) (others r xs) ≡ true
  kept_in r x [] apart h = h
  kept_in r x (y ∷ ys) apart h = by (eq r y) refl (kept_in r x ys apart)
    where
      by : (b : Bool) → eq r y ≡ b → (list_any (eq x) ys ≡ true → list_any (eq x) (others r ys) ≡ true) → list_any (eq x) (cond (not b) (y ∷ others r ys) (others r ys)) ≡ true
      by true e rest = rest (unstep (eq x y) (list_any (eq x) ys) h (gone (eq x y) refl))
        where
          gone : (c : Bool) → eq x y ≡ c → c ≡ false
          gone true f = absurd (both_ways (eq r x) apart (ap (eq r) (is x y f) ∙ e))
          gone false f = refl
      by false e rest = step (eq x y) (list_any (eq x) (others r ys)) (λ f. rest (unstep (eq x y) (list_any (eq x) ys) h f))

  was_in : (r x : X) (xs : List X) → list_any (eq x) (others r xs) ≡ true → list_any (eq x) xs ≡ true
  was_in r x [] h = h
  was_in r x (y ∷ ys) h = by (eq r y) h (was_in r x ys)
    where
      by : (b : Bool) → list_any (eq x) (cond (not b) (y ∷ others r ys) (others r ys)) ≡ true → (list_any (eq x) (others r ys) ≡ true → list_any (eq x) ys ≡ true) → (eq x y || list_any (eq x) ys) ≡ true
      by true k rest = step (eq x y) (list_any (eq x) ys) (λ f. rest k)
      by false k rest = step (eq x y) (list_any (eq x) ys) (λ f. rest (unstep (eq x y) (list_any (eq x) (others r ys)) k f))

  is_other : (r x : X) (xs : List X) → list_any (eq x) (others r xs) ≡ true → eq r x ≡ false
  is_other r x [] h = absurd cc
  is_other r x (y ∷ ys) h = by (eq r y) refl h (is_other r x ys)
    where
      by : (b : Bool) → eq r y ≡ b → list_any (eq x) (cond (not b) (y ∷ others r ys) (others r ys)) ≡ true → (list_any (eq x) (others r ys) ≡ true → eq r x ≡ false) → eq r x ≡ false
      by true e k rest = rest k
      by false e k rest = here (eq x y) refl k rest
        where
          here : (c : Bool) → eq x y ≡ c → (c || list_any (eq x) (others r ys)) ≡ true → (list_any (eq x) (others r ys) ≡ true → eq r x ≡ false) → eq r x ≡ false
          here true f g rest = ap (eq r) (is x y f) ∙ e
          here false f g rest = rest g

  -- none of them equals the first
  Apart : X → List X → Type 0
  Apart x xs = AllByRecursion (λ y. eq x y ≡ false) xs

  apart_others : (x : X) (p : X → Bool) (xs : List X) → Apart x xs → Apart x (filter p xs)
  unfolding Apart
  apart_others x p [] h = tt
  apart_others x p (y ∷ ys) h = by (p y) (apart_others x p ys h.1)
    where
      by : (b : Bool) → Apart x (filter p ys) → Apart x (cond b (y ∷ filter p ys) (filter p ys))
      by true rest = (h.0, rest)
      by false rest = rest

  distinct_filter : (p : X → Bool) (xs : List X) → IsDistinct eq xs → IsDistinct eq (filter p xs)
  unfolding IsDistinct Apart
  distinct_filter p [] h = tt
  distinct_filter p (x ∷ xs) h = by (p x) (distinct_filter p xs h.1)
    where
      by : (b : Bool) → IsDistinct eq (filter p xs) → IsDistinct eq (cond b (x ∷ filter p xs) (filter p xs))
      by true rest = (apart_others x p xs h.0, rest)
      by false rest = rest

  others_apart : (x : X) (xs : List X) → Apart x (others x xs)
  unfolding Apart
  others_apart x [] = tt
  others_apart x (y ∷ ys) = by (eq x y) refl (others_apart x ys)
    where
      by : (b : Bool) → eq x y ≡ b → Apart x (others x ys) → Apart x (cond (not b) (y ∷ others x ys) (others x ys))
      by true e rest = rest
      by false e rest = (e, rest)

  pub different_distinct : (xs : List X) → IsDistinct eq (different_by xs)
  unfolding IsDistinct Apart
  different_distinct [] = tt
  different_distinct (x ∷ xs) = (others_apart x (different_by xs), distinct_filter (λ y. not (eq x y)) (different_by xs) (different_distinct xs))

  pub different_among : (x : X) (xs : List X) → list_any (eq x) (different_by xs) ≡ true → list_any (eq x) xs ≡ true
  different_among x [] h = h
  different_among x (y ∷ ys) h = step (eq x y) (list_any (eq x) ys) (λ e. different_among x ys (was_in y x (different_by ys) (unstep (eq x y) (list_any (eq x) (others y (different_by ys))) h e)))

  pub among_different : (x : X) (xs : List X) → list_any (eq x) xs ≡ true → list_any (eq x) (different_by xs) ≡ true
  among_different x [] h = h
  among_different x (y ∷ ys) h = step (eq x y) (list_any (eq x) (others y (different_by ys))) (λ e. kept_in y x (different_by ys) (turned x y e) (among_different x ys (unstep (eq x y) (list_any (eq x) ys) h e)))

  all_others : (x : X) (xs : List X) → Apart x xs → others x xs ≡ xs
  unfolding Apart
  all_others x [] h = refl
  all_others x (y ∷ ys) h = by (eq x y) h.0 (all_others x ys h.1)
    where
      by : (b : Bool) → b ≡ false → others x ys ≡ ys → cond (not b) (y ∷ others x ys) (others x ys) ≡ y ∷ ys
      by true e rest = absurd cc
      by false e rest = ap (λ l. y ∷ l) rest

  apart_member : (x z : X) (xs : List X) → Apart x xs → list_any (eq z) xs ≡ true → eq x z ≡ false
  unfolding Apart
  apart_member x z [] h k = absurd cc
  apart_member x z (y ∷ ys) h k = by (eq z y) refl k (apart_member x z ys h.1)
    where
      by : (b : Bool) → eq z y ≡ b → (b || list_any (eq z) ys) ≡ true → (list_any (eq z) ys ≡ true → eq x z ≡ false) → eq x z ≡ false
      by true e k rest = ap (eq x) (is z y e) ∙ h.0
      by false e k rest = rest k

  module _ (f : X → ℕ) where
    one_out : (r : X) (ns : List X) → IsDistinct eq ns → list_any (eq r) ns ≡ true → sum_by f ns ≡ f r + sum_by f (others r ns)
    unfolding IsDistinct Apart
    one_out r [] h k = absurd cc
    one_out r (y ∷ ys) h k = by (eq r y) refl k (one_out r ys h.1)
      where
        by : (b : Bool) → eq r y ≡ b → (b || list_any (eq r) ys) ≡ true → (list_any (eq r) ys ≡ true → sum_by f ys ≡ f r + sum_by f (others r ys))
            → sum_by f (y ∷ ys) ≡ f r + sum_by f (cond (not b) (y ∷ others r ys) (others r ys))
        by true e k rest =
            let same = is r y e in
            let left : others r ys ≡ ys = subst (λ x. others x ys ≡ ys) (sym same) (all_others y ys h.0) in
            omega (arith, sum_by-cons f y ys, ap f same, ap (sum_by f) left)
        by false e k rest = omega (arith, sum_by-cons f y ys, sum_by-cons f y (others r ys), rest k)

    pub same_sum : (xs ns : List X) → IsDistinct eq xs → IsDistinct eq ns → ((z : X) → list_any (eq z) xs ≡ true → list_any (eq z) ns ≡ true) → ((z : X) → list_any (eq z) ns ≡ true → list_any (eq z) xs ≡ true)
        → sum_by f xs ≡ sum_by f ns
    unfolding IsDistinct Apart
    same_sum [] [] h k there back = refl
    same_sum [] (y ∷ ys) h k there back = let no = back y (step (eq y y) (list_any (eq y) ys) (λ e. absurd (both_ways (eq y y) e (itself y)))) in absurd cc
    same_sum (x ∷ xs) ns h k there back =
        let first = there x (step (eq x x) (list_any (eq x) xs) (λ e. absurd (both_ways (eq x x) e (itself x)))) in
        let rest = same_sum xs (others x ns) h.1 (distinct_filter (λ y. not (eq x y)) ns k)
        (λ z among. kept_in x z ns (apart_member x z xs h.0 among) (there z (step (eq z x) (list_any (eq z) xs) (λ e. among))))
        (λ z among. unstep (eq z x) (list_any (eq z) xs) (back z (was_in x z ns among)) (turned x z (is_other x z ns among))) in
        omega (arith, sum_by-cons f x xs, one_out x ns k first, rest)
