-- So many numbers name at most so many different lists of words.
use Rattle.std.proofs.Common.{◌≡◌, ℕ, zero, suc, ◌-◌, ◌<◌, ◌≤◌, nat_eq, Bool, true, false, ◌||◌, List, [], ◌∷◌, map, filter, length, cond, refl, sym, ap, ◌∙◌, arith, true≢false}
use Rattle.std.specs.Cmp.{IsEquivalence}
use Rattle.std.specs.Cmp.Lexicographic.{pointwise, lists_equiv}
use Rattle.std.specs.List.{IsDistinct, AllByRecursion}
use Rattle.std.specs.Set.{distinct_count, unique_keys, is_member}
use Rattle.std.proofs.lemmas.Bool.Decides.{nat_tests}
use Rattle.std.proofs.lemmas.Cmp.{nat_list_eq_equiv}
use Rattle.std.proofs.lemmas.List.{length-map}
use Rattle.std.proofs.lemmas.Map.Made.{length-le_from_is_member}
use Rattle.std.proofs.lemmas.Slice.Eq.{slice_eq-Decides, bytes_eq-Decides}
use Rattle.pc_diagram.specs.Rests.{has_words}

-- equality of lists of words
abbrev pub same : List (List ℕ) → List (List ℕ) → Bool
same = pointwise (pointwise nat_eq)

same_laws : IsEquivalence same
same_laws = lists_equiv nat_list_eq_equiv

same_is : (xs ys : List (List ℕ)) → same xs ys ≡ true → xs ≡ ys
same_is xs ys e = (slice_eq-Decides bytes_eq-Decides xs ys (same xs ys) refl).0 e

member_unique : (xs : List (List (List ℕ))) (q : List (List ℕ)) → is_member same (unique_keys same xs) q ≡ is_member same xs q
member_unique [] q = refl
member_unique (x ∷ xs) q = by (is_member same xs x) (same q x) refl refl (member_unique xs q)
  where
    by : (b c : Bool) → is_member same xs x ≡ b → same q x ≡ c → is_member same (unique_keys same xs) q ≡ is_member same xs q → is_member same (cond b (unique_keys same xs) (x ∷ unique_keys same xs)) q ≡ (c || is_member same xs q)
    by true true m t r = r ∙ ap (is_member same xs) (same_is q x t) ∙ m
    by true false m t r = r
    by false c m t r = rw t (ap (λ v. c || v) r)

apart : (x : List (List ℕ)) (ys : List (List (List ℕ))) → is_member same ys x ≡ false → AllByRecursion (λ y. same x y ≡ false) ys
apart x [] h = tt
apart x (y ∷ ys) h = by (same x y) refl h (apart x ys)
  where
    by : (b : Bool) → same x y ≡ b → (b || is_member same ys x) ≡ false → (is_member same ys x ≡ false → AllByRecursion (λ y. same x y ≡ false) ys) → (same x y ≡ false) × AllByRecursion (λ y. same x y ≡ false) ys
    by true t g r = absurd (true≢false g)
    by false t g r = (t, r g)

distinct_unique : (xs : List (List (List ℕ))) → IsDistinct same (unique_keys same xs)
unfolding IsDistinct
distinct_unique [] = tt
distinct_unique (x ∷ xs) = by (is_member same xs x) refl (distinct_unique xs)
  where
    by : (b : Bool) → is_member same xs x ≡ b → IsDistinct same (unique_keys same xs) → IsDistinct same (cond b (unique_keys same xs) (x ∷ unique_keys same xs))
    by true m r = r
    by false m r = (apart x (unique_keys same xs) (member_unique xs x ∙ m), r)

-- so many numbers down to 1
down : ℕ → List ℕ
down zero = []
down (suc n) = suc n ∷ down n

length-down : (n : ℕ) → length (down n) ≡ n
unfolding down
length-down zero = refl
length-down (suc n) = ap suc (length-down n)

module _ (f : ℕ → List (List ℕ)) where
  among : (n most : ℕ) → 0 < n → n ≤ most → is_member same (map f (down most)) (f n) ≡ true
  unfolding down
  among n zero some le = absurd (omega arith)
  among n (suc most) some le = by (nat_eq n (suc most)) refl (among n most some)
    where
      or_true : (b : Bool) → (b || true) ≡ true
      or_true true = refl
      or_true false = refl

      by : (b : Bool) → nat_eq n (suc most) ≡ b → (n ≤ most → is_member same (map f (down most)) (f n) ≡ true) → (same (f n) (f (suc most)) || is_member same (map f (down most)) (f n)) ≡ true
      by true e r =
          let is : n ≡ suc most = grind (arith, nat_tests) in
          ap (λ k. same (f n) (f k) || is_member same (map f (down most)) (f n)) (sym is) ∙ ap (λ b. b || is_member same (map f (down most)) (f n)) (same_laws.refl (f n))
      by false e r = let less : n ≤ most = grind (arith, nat_tests) in ap (λ b. same (f n) (f (suc most)) || b) (r less) ∙ or_true (same (f n) (f (suc most)))

  member_of : (most : ℕ) → f 0 ≡ [] → (ns : List ℕ) → AllByRecursion (λ n. n ≤ most) ns → (q : List (List ℕ)) → is_member same (filter has_words (map f ns)) q ≡ true → is_member same (map f (down most)) q ≡ true
  member_of most none [] all q m = absurd (true≢false (sym m))
  member_of most none (n ∷ ns) all q m = by (has_words (f n)) refl m (member_of most none ns all.1 q)
    where
      positive : (n : ℕ) → has_words (f n) ≡ true → 0 < n
      positive zero some = absurd (true≢false (sym some ∙ ap has_words none))
      positive (suc n) some = omega arith

      here : has_words (f n) ≡ true → (c : Bool) → same q (f n) ≡ c → (c || is_member same (filter has_words (map f ns)) q) ≡ true → (is_member same (filter has_words (map f ns)) q ≡ true → is_member same (map f (down most)) q ≡ true) → is_member same (map f (down most)) q ≡ true
      here some true t m r = ap (is_member same (map f (down most))) (same_is q (f n) t) ∙ among n most (positive n some) all.0
      here some false t m r = r m

      by : (b : Bool) → has_words (f n) ≡ b → is_member same (cond b (f n ∷ filter has_words (map f ns)) (filter has_words (map f ns))) q ≡ true → (is_member same (filter has_words (map f ns)) q ≡ true → is_member same (map f (down most)) q ≡ true) → is_member same (map f (down most)) q ≡ true
      by true some m r = here some (same q (f n)) refl m r
      by false without m r = r m

  -- of the values at so many numbers, that at 0 is without words
  pub distinct_most : (most : ℕ) → f 0 ≡ [] → (ns : List ℕ) → AllByRecursion (λ n. n ≤ most) ns → distinct_count same (filter has_words (map f ns)) ≤ most
  distinct_most most none ns all =
      let xs = filter has_words (map f ns) in
      let le : length (unique_keys same xs) ≤ length (map f (down most)) = length-le_from_is_member same_laws (unique_keys same xs) (map f (down most)) (distinct_unique xs) (λ q m. member_of most none ns all q (sym (member_unique xs q) ∙ m)) in
      let count : length (map f (down most)) ≡ most = length-map (down most) f ∙ length-down most in
      omega arith

-- numbers below a count are at most the one before it
pub at_most : (count : ℕ) → 1 < count → (ns : List ℕ) → AllByRecursion (λ n. n < count) ns → AllByRecursion (λ n. n ≤ count - 1) ns
at_most count two [] all = tt
at_most count two (n ∷ ns) all = ((let lt = all.0 in omega arith), at_most count two ns all.1)
