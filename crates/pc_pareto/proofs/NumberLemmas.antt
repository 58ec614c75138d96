-- Ranks that are numbered anew.
use Rattle.std.proofs.Common.{◌≡◌, ℕ, zero, suc, ◌+◌, ◌<◌, ◌≤◌, nat_lt, true, false, cond, List, [], ◌∷◌, ◌++◌, length, get_or, map, take, Contains, sum_by, append_assoc, length-append, ◌⊎◌, inl, inr, refl, sym, ◌∙◌, ap, arith}
use Rattle.std.specs.List.{flat_map}
use Rattle.std.specs.List.Sorted.{IsPermutation, IsPartitionPoint}
use Rattle.std.proofs.lemmas.Bool.{cases_order}
use Rattle.std.proofs.lemmas.Bool.Decides.{nat_tests}
use Rattle.std.proofs.lemmas.List.{take_more, append-nil}
use Rattle.std.proofs.lemmas.List.Elements.{Contains-get_or}
use Rattle.std.proofs.lemmas.List.Sorted.{Contains-permutation}
use Rattle.std.proofs.lemmas.List.Sums.{sum_by-cons}
use Rattle.pc_pareto.specs.declared.front_item.FrontItem.{FrontItem}
use Rattle.pc_pareto.specs.declared.limits.TheConstants.{MOST_RANKS}
use Rattle.pc_pareto.specs.Numbered.{with_rank, count_below, IsNumbered}
use Rattle.pc_pareto.proofs.StageLemmas.{in_flat, in_map, in_range}

pub flat_more : {X Y : Type 0} (f : X → List Y) (xs : List X) (i : ℕ) (d : X) → i < length xs → flat_map f (take (i + 1) xs) ≡ flat_map f (take i xs) ++ f (get_or xs i d)
flat_more f xs i d l = ap (flat_map f) (take_more xs i d l) ∙ flat_append f (take i xs) (get_or xs i d)
  where
    flat_append : {X Y : Type 0} (f : X → List Y) (xs : List X) (x : X) → flat_map f (xs ++ x ∷ []) ≡ flat_map f xs ++ f x
    flat_append f [] x = append-nil (f x)
    flat_append f (y ∷ xs) x = ap (λ zs. f y ++ zs) (flat_append f xs x) ∙ sym (append_assoc (f y) (flat_map f xs) (f x))

-- each rank of a layer is among all of them
pub rank_among : (stage : List (List FrontItem)) (ranks : List ℕ) → IsPermutation (flat_map (map (λ (item : FrontItem). item.back.rank)) stage) ranks → (node : ℕ) (x : FrontItem) → Contains (get_or stage node []) x → Contains ranks x.back.rank
rank_among stage ranks p node x c =
    Contains-permutation (flat_map (map (λ (item : FrontItem). item.back.rank)) stage) ranks x.back.rank p
    (in_flat (map (λ (item : FrontItem). item.back.rank)) stage (get_or stage node []) x.back.rank (Contains-get_or stage node [] (in_range stage node x c)) (in_map (λ (item : FrontItem). item.back.rank) (get_or stage node []) x c))

one_below : (other r : ℕ) → other < r → cond {A = ℕ} (nat_lt other r) 1 0 ≡ 1
one_below other r l = grind (arith, nat_tests)

none_below : (other r : ℕ) → r ≤ other → cond {A = ℕ} (nat_lt other r) 1 0 ≡ 0
none_below other r l = grind (arith, nat_tests)

count_step : (ranks : List ℕ) (r : ℕ) (other : ℕ) → (other < r → count_below (other ∷ ranks) r ≡ suc (count_below ranks r)) × (r ≤ other → count_below (other ∷ ranks) r ≡ count_below ranks r)
count_step ranks r other =
    (λ l. whole ∙ ap (λ n. n + count_below ranks r) (one_below other r l) ∙ up, λ l. whole ∙ ap (λ n. n + count_below ranks r) (none_below other r l) ∙ same)
  where
    whole : count_below (other ∷ ranks) r ≡ cond {A = ℕ} (nat_lt other r) 1 0 + count_below ranks r
    whole = sum_by-cons (λ x. cond (nat_lt x r) 1 0) other ranks

    up : 1 + count_below ranks r ≡ suc (count_below ranks r)
    up = omega arith

    same : 0 + count_below ranks r ≡ count_below ranks r
    same = omega arith

pub count_most : (ranks : List ℕ) (r : ℕ) → count_below ranks r ≤ length ranks
count_most [] r = omega arith
count_most (x ∷ ranks) r = by (cases_order x r) (count_most ranks r)
  where
    by : (x ≡ r) ⊎ ((x < r) ⊎ (r < x)) → count_below ranks r ≤ length ranks → count_below (x ∷ ranks) r ≤ suc (length ranks)
    by (inl e) h = let s = (count_step ranks r x).1 (omega arith) in omega arith
    by (inr (inl l)) h = let s = (count_step ranks r x).0 l in omega arith
    by (inr (inr l)) h = let s = (count_step ranks r x).1 (omega arith) in omega arith

count_rises : (ranks : List ℕ) (a b : ℕ) → a ≤ b → count_below ranks a ≤ count_below ranks b
count_rises [] a b l = omega arith
count_rises (x ∷ ranks) a b l = by (cases_order x a) (cases_order x b) (count_rises ranks a b l)
  where
    by : (x ≡ a) ⊎ ((x < a) ⊎ (a < x)) → (x ≡ b) ⊎ ((x < b) ⊎ (b < x)) → count_below ranks a ≤ count_below ranks b → count_below (x ∷ ranks) a ≤ count_below (x ∷ ranks) b
    by (inr (inl p)) q h = let s = (count_step ranks a x).0 p in let t = (count_step ranks b x).0 (omega arith) in omega arith
    by (inl p) (inr (inl q)) h = let s = (count_step ranks a x).1 (omega arith) in let t = (count_step ranks b x).0 q in omega arith
    by (inl p) (inl q) h = let s = (count_step ranks a x).1 (omega arith) in let t = (count_step ranks b x).1 (omega arith) in omega arith
    by (inl p) (inr (inr q)) h = let s = (count_step ranks a x).1 (omega arith) in let t = (count_step ranks b x).1 (omega arith) in omega arith
    by (inr (inr p)) (inr (inl q)) h = let s = (count_step ranks a x).1 (omega arith) in let t = (count_step ranks b x).0 q in omega arith
    by (inr (inr p)) (inl q) h = let s = (count_step ranks a x).1 (omega arith) in let t = (count_step ranks b x).1 (omega arith) in omega arith
    by (inr (inr p)) (inr (inr q)) h = let s = (count_step ranks a x).1 (omega arith) in let t = (count_step ranks b x).1 (omega arith) in omega arith

count_strict : (ranks : List ℕ) (a b : ℕ) → a < b → Contains ranks a → count_below ranks a < count_below ranks b
count_strict [] a b l (k, m, e) = absurd (omega (arith, m))
count_strict (x ∷ ranks) a b l (zero, m, e) =
    let rest = count_rises ranks a b (omega arith) in
    let same : x ≡ a = e in
    let s = (count_step ranks a x).1 (omega arith) in
    let t = (count_step ranks b x).0 (omega arith) in
    omega arith
count_strict (x ∷ ranks) a b l (suc k, m, e) = by (cases_order x a) (cases_order x b) (count_strict ranks a b l (k, omega arith, e))
  where
    by : (x ≡ a) ⊎ ((x < a) ⊎ (a < x)) → (x ≡ b) ⊎ ((x < b) ⊎ (b < x)) → count_below ranks a < count_below ranks b → count_below (x ∷ ranks) a < count_below (x ∷ ranks) b
    by (inr (inl p)) q h = let s = (count_step ranks a x).0 p in let t = (count_step ranks b x).0 (omega arith) in omega arith
    by (inl p) q h = let s = (count_step ranks a x).1 (omega arith) in let t = (count_step ranks b x).0 (omega arith) in omega arith
    by (inr (inr p)) (inr (inl q)) h = let s = (count_step ranks a x).1 (omega arith) in let t = (count_step ranks b x).0 q in omega arith
    by (inr (inr p)) (inl q) h = let s = (count_step ranks a x).1 (omega arith) in let t = (count_step ranks b x).1 (omega arith) in omega arith
    by (inr (inr p)) (inr (inr q)) h = let s = (count_step ranks a x).1 (omega arith) in let t = (count_step ranks b x).1 (omega arith) in omega arith

pub count_compare : (ranks : List ℕ) (a b : ℕ) → Contains ranks a → Contains ranks b → nat_lt (count_below ranks a) (count_below ranks b) ≡ nat_lt a b
count_compare ranks a b c d = by (cases_order a b)
  where
    by : (a ≡ b) ⊎ ((a < b) ⊎ (b < a)) → nat_lt (count_below ranks a) (count_below ranks b) ≡ nat_lt a b
    by (inl e) = let s = count_rises ranks b a (omega arith) in grind (arith, nat_tests)
    by (inr (inl l)) = let s = count_strict ranks a b l c in grind (arith, nat_tests)
    by (inr (inr l)) = let s = count_strict ranks b a l d in grind (arith, nat_tests)

-- where ranks are parted, the place is their count
pub count_point : (ranks : List ℕ) (r i : ℕ) → i ≤ length ranks → IsPartitionPoint (λ y. nat_lt y r ≡ true) (λ y. nat_lt y r ≡ false) ranks i → i ≡ count_below ranks r
count_point [] r i l h = omega arith
count_point (x ∷ ranks) r zero l h =
    let q = at_least x r (h.1 0 x (omega arith) (omega arith)) in
    let s = (count_step ranks r x).1 q in
    let rest = count_point ranks r 0 (omega arith) (λ k d a b. absurd (omega arith), λ k d a b. h.1 (suc k) d (omega arith) (omega arith)) in
    omega arith
  where
    at_least : (x r : ℕ) → nat_lt x r ≡ false → r ≤ x
    at_least x r e = grind (arith, nat_tests)
count_point (x ∷ ranks) r (suc i) l h =
    let q = below_it x r (h.0 0 x (omega arith) (omega arith)) in
    let s = (count_step ranks r x).0 q in
    let rest = count_point ranks r i (omega arith) (λ k d a b. h.0 (suc k) d (omega arith) (omega arith), λ k d a b. h.1 (suc k) d (omega arith) (omega arith)) in
    omega arith
  where
    below_it : (x r : ℕ) → nat_lt x r ≡ true → x < r
    below_it x r e = grind (arith, nat_tests)

map_at : (f : FrontItem → FrontItem) (stage : List (List FrontItem)) (node : ℕ) → get_or (map (map f) stage) node [] ≡ map f (get_or stage node [])
map_at f [] node = refl
map_at f (x ∷ stage) zero = refl
map_at f (x ∷ stage) (suc node) = map_at f stage node

pub numbered_counts : (stage : List (List FrontItem)) (ranks : List ℕ) (bound : ℕ) → ((node : ℕ) (x : FrontItem) → Contains (get_or stage node []) x → Contains ranks x.back.rank) → bound ≡ length ranks + 1 → bound ≤ MOST_RANKS
    → IsNumbered stage (map (map (with_rank (count_below ranks))) stage) bound
numbered_counts stage ranks bound among is small = record {
  number = count_below ranks;
  count = mapped stage;
  items = map_at (with_rank (count_below ranks)) stage;
  compare = λ node other x y c d. count_compare ranks x.back.rank y.back.rank (among node x c) (among other y d);
  below = λ node x c. let m = count_most ranks x.back.rank in omega arith;
  small = small;
}
  where
    mapped : (xs : List (List FrontItem)) → length (map (map (with_rank (count_below ranks))) xs) ≡ length xs
    mapped [] = refl
    mapped (x ∷ xs) = ap suc (mapped xs)

-- all ranks are as many as all items
pub ranks_count : (stage : List (List FrontItem)) → length (flat_map (map (λ (item : FrontItem). item.back.rank)) stage) ≡ sum_by length stage
ranks_count [] = refl
ranks_count (xs ∷ stage) = length-append (map (λ (item : FrontItem). item.back.rank) xs) (flat_map (map (λ (item : FrontItem). item.back.rank)) stage) ∙ ap (λ n. n + length (flat_map (map (λ (item : FrontItem). item.back.rank)) stage)) (mapped xs) ∙ ap (λ n. length xs + n) (ranks_count stage) ∙ sym (sum_by-cons length xs stage)
  where
    mapped : (xs : List FrontItem) → length (map (λ (item : FrontItem). item.back.rank) xs) ≡ length xs
    mapped [] = refl
    mapped (x ∷ xs) = ap suc (mapped xs)
