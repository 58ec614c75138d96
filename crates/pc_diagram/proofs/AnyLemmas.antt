-- Whether an element of a list passes a test.
use Rattle.std.proofs.Common.{◌≡◌, ℕ, zero, suc, ◌+◌, ◌<◌, ◌≤◌, ◌==◌, nat_eq, nat_le, nat_lt, Bool, true, false, cond, ◌&&◌, ◌||◌, List, [], ◌∷◌, map, filter, length, get_or, take, drop, refl, sym, ap, ◌∙◌, arith}
use Rattle.std.specs.List.{list_any, range_with_len}
use Rattle.std.proofs.lemmas.Bool.{both_ways}
use Rattle.std.proofs.lemmas.Bool.Decides.{nat_tests}

pub neither : (a b : Bool) → (a || b) ≡ false → (a ≡ false) × (b ≡ false)
neither true b h = absurd cc
neither false b h = (refl, h)

-- where none passes, the one at a place doesn't
pub none_at : {X : Type 0} (p : X → Bool) (xs : List X) (i : ℕ) (d : X) → list_any p xs ≡ false → p d ≡ false → p (get_or xs i d) ≡ false
none_at p [] i d h e = e
none_at p (x ∷ xs) zero d h e = (neither (p x) (list_any p xs) h).0
none_at p (x ∷ xs) (suc i) d h e = none_at p xs i d (neither (p x) (list_any p xs) h).1 e

pub none_in_take : {X : Type 0} (p : X → Bool) (n : ℕ) (xs : List X) → list_any p xs ≡ false → list_any p (take n xs) ≡ false
none_in_take p zero xs h = refl
none_in_take p (suc n) [] h = refl
none_in_take p (suc n) (x ∷ xs) h =
    let two = neither (p x) (list_any p xs) h in
    ap (λ b. b || list_any p (take n xs)) two.0 ∙ none_in_take p n xs two.1

pub none_in_drop : {X : Type 0} (p : X → Bool) (n : ℕ) (xs : List X) → list_any p xs ≡ false → list_any p (drop n xs) ≡ false
none_in_drop p zero xs h = h
none_in_drop p (suc n) [] h = refl
none_in_drop p (suc n) (x ∷ xs) h = none_in_drop p n xs (neither (p x) (list_any p xs) h).1

-- a test that passes only where another does
pub none_weaker : {X : Type 0} (p q : X → Bool) → ((x : X) → q x ≡ false → p x ≡ false) → (xs : List X) → list_any q xs ≡ false → list_any p xs ≡ false
none_weaker p q weaker [] h = refl
none_weaker p q weaker (x ∷ xs) h =
    let two = neither (q x) (list_any q xs) h in
    ap (λ b. b || list_any p xs) (weaker x two.0) ∙ none_weaker p q weaker xs two.1

-- where one passes, it stands at a place
pub one_at : {X : Type 0} (p : X → Bool) (xs : List X) (d : X) → list_any p xs ≡ true → (i : ℕ) × (i < length xs) × (p (get_or xs i d) ≡ true)
one_at p [] d h = absurd cc
one_at {X} p (x ∷ xs) d h = by (p x) refl (one_at p xs d)
  where
    by : (b : Bool) → p x ≡ b → (list_any p xs ≡ true → (i : ℕ) × (i < length xs) × (p (get_or xs i d) ≡ true)) → (i : ℕ) × (i < suc (length xs)) × (p (get_or (x ∷ xs) i d) ≡ true)
    by true e rest = (0, omega arith, e)
    by false e rest = let later = rest (ap (λ b. b || list_any p xs) (sym e) ∙ h) in (suc later.0, omega (arith, later.1), later.2)

pub passes_at : {X : Type 0} (p : X → Bool) (xs : List X) (i : ℕ) (d : X) → i < length xs → p (get_or xs i d) ≡ true → list_any p xs ≡ true
passes_at p [] i d lt h = absurd (omega arith)
passes_at p (x ∷ xs) zero d lt h = ap (λ b. b || list_any p xs) h
passes_at p (x ∷ xs) (suc i) d lt h = ap (λ b. p x || b) (passes_at p xs i d (omega arith) h) ∙ by (p x)
  where
    by : (b : Bool) → (b || true) ≡ true
    by true = refl
    by false = refl

-- the same over numbers from one on
pub none_of_range : {X : Type 0} (p : X → Bool) (f : ℕ → X) (a n k : ℕ) → list_any p (map f (range_with_len a n)) ≡ false → a ≤ k → k < a + n → p (f k) ≡ false
none_of_range p f a zero k h ge lt = absurd (omega arith)
none_of_range p f a (suc n) k h ge lt = by (nat_eq a k) refl (none_of_range p f (a + 1) n k)
  where
    two : (p (f a) ≡ false) × (list_any p (map f (range_with_len (a + 1) n)) ≡ false)
    two = neither (p (f a)) (list_any p (map f (range_with_len (a + 1) n))) h

    by : (b : Bool) → nat_eq a k ≡ b → (list_any p (map f (range_with_len (a + 1) n)) ≡ false → a + 1 ≤ k → k < (a + 1) + n → p (f k) ≡ false) → p (f k) ≡ false
    by true e rest = let same : k ≡ a = grind (arith, nat_tests) in ap (λ j. p (f j)) same ∙ two.0
    by false e rest = let above : a + 1 ≤ k = grind (arith, nat_tests) in rest two.1 above (omega arith)

pub all_fail_in_range : {X : Type 0} (p : X → Bool) (f : ℕ → X) (a n : ℕ) → ((k : ℕ) → a ≤ k → k < a + n → p (f k) ≡ false) → list_any p (map f (range_with_len a n)) ≡ false
all_fail_in_range p f a zero none = refl
all_fail_in_range p f a (suc n) none =
    ap (λ b. b || list_any p (map f (range_with_len (a + 1) n))) (none a (omega arith) (omega arith))
    ∙ all_fail_in_range p f (a + 1) n (λ k ge lt. none k (omega arith) (omega arith))

-- a number is among those from one on
pub among_range : (k a n : ℕ) → list_any (λ x. x == k) (range_with_len a n) ≡ (nat_le a k && nat_lt k (a + n))
among_range k a zero = by (nat_le a k) refl (nat_lt k (a + 0)) refl
  where
    by : (b : Bool) → nat_le a k ≡ b → (c : Bool) → nat_lt k (a + 0) ≡ c → false ≡ (b && c)
    by true e true f = absurd (grind (arith, nat_tests))
    by true e false f = refl
    by false e c f = refl
among_range k a (suc n) = ap (λ b. (a == k) || b) (among_range k (a + 1) n) ∙ by (a == k) refl (nat_le (a + 1) k) refl (nat_lt k ((a + 1) + n)) refl (nat_le a k) refl (nat_lt k (a + suc n)) refl
  where
    by : (s : Bool) → (a == k) ≡ s → (b : Bool) → nat_le (a + 1) k ≡ b → (c : Bool) → nat_lt k ((a + 1) + n) ≡ c → (e : Bool) → nat_le a k ≡ e → (f : Bool) → nat_lt k (a + suc n) ≡ f → (s || (b && c)) ≡ (e && f)
    by true p b q c r true t true u = refl
    by true p b q c r true t false u = absurd (grind (arith, nat_tests))
    by true p b q c r false t f u = absurd (grind (arith, nat_tests))
    by false p true q true r true t true u = refl
    by false p true q true r true t false u = absurd (grind (arith, nat_tests))
    by false p true q true r false t f u = absurd (grind (arith, nat_tests))
    by false p true q false r true t true u = absurd (grind (arith, nat_tests))
    by false p true q false r true t false u = refl
    by false p true q false r false t f u = refl
    by false p false q c r true t true u = absurd (grind (arith, nat_tests))
    by false p false q c r true t false u = refl
    by false p false q c r false t f u = refl

-- a filter keeps what passes, where all that passes is kept
pub any_kept : {X : Type 0} (p q : X → Bool) → ((x : X) → p x ≡ true → q x ≡ true) → (xs : List X) → list_any p (filter q xs) ≡ list_any p xs
any_kept p q keeps [] = refl
any_kept {X} p q keeps (x ∷ xs) = by (p x) refl (q x) refl (keeps x) (any_kept p q keeps xs)
  where
    by : (b : Bool) → p x ≡ b → (c : Bool) → q x ≡ c → (p x ≡ true → q x ≡ true) → list_any p (filter q xs) ≡ list_any p xs → list_any p (cond (q x) (x ∷ filter q xs) (filter q xs)) ≡ (p x || list_any p xs)
    by b e true f k rest = ap (λ d. list_any p (cond d (x ∷ filter q xs) (filter q xs))) f ∙ ap (λ d. p x || d) rest
    by true e false f k rest = absurd (both_ways (q x) f (k e))
    by false e false f k rest = ap (λ d. list_any p (cond d (x ∷ filter q xs) (filter q xs))) f ∙ rest ∙ ap (λ d. d || list_any p xs) (sym e)
