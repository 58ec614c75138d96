-- What it means that one item covers another.
use Rattle.std.proofs.Common.{◌≡◌, List, [], ◌∷◌, get_or, map, true, false, All, Contains, refl, arith, ◌≤ℤ◌, ◌<ℤ◌, ◌≤◌}
use Rattle.std.specs.List.{AllByRecursion}
use Rattle.std.proofs.lemmas.Bool.Decides.{nat_tests}
use Rattle.std.proofs.lemmas.Int.{ints}
use Rattle.std.specs.List.Sorted.{IsPermutation}
use Rattle.std.proofs.lemmas.List.Sorted.{IsPermutation-sym, Contains-permutation}
use Rattle.std.proofs.lemmas.List.Elements.{All-contains, All-from_recursion, recursion_from_All, Contains-get_or, Contains-append_right}
use Rattle.pc_pareto.specs.declared.front_item.FrontItem.{FrontItem}
use Rattle.pc_pareto.specs.Items.{covers, precedes, IsCovered, IsFrontOf}

pub covers_itself : (x : FrontItem) → covers x x ≡ true
covers_itself x = grind (arith, ints, nat_tests)

covers_first : (x y : FrontItem) → covers x y ≡ true → x.first ≤ℤ y.first
covers_first x y h = grind (arith, ints, nat_tests)

covers_second : (x y : FrontItem) → covers x y ≡ true → x.second ≤ℤ y.second
covers_second x y h = grind (arith, ints, nat_tests)

covers_rank : (x y : FrontItem) → covers x y ≡ true → y.first ≤ℤ x.first → y.second ≤ℤ x.second → x.back.rank ≤ y.back.rank
covers_rank x y h p q = grind (arith, ints, nat_tests)

covers_made : (x y : FrontItem) → x.first ≤ℤ y.first → x.second ≤ℤ y.second → (y.first ≤ℤ x.first → y.second ≤ℤ x.second → x.back.rank ≤ y.back.rank) → covers x y ≡ true
covers_made x y p q t = grind (arith, ints, nat_tests)

pub covers_trans : (x y z : FrontItem) → covers x y ≡ true → covers y z ≡ true → covers x z ≡ true
covers_trans x y z h k =
    let a = covers_first x y h in
    let b = covers_first y z k in
    let c = covers_second x y h in
    let d = covers_second y z k in
    covers_made x z (omega (arith, ints)) (omega (arith, ints)) (λ p q.
    let e = covers_rank x y h (omega (arith, ints)) (omega (arith, ints)) in
    let f = covers_rank y z k (omega (arith, ints)) (omega (arith, ints)) in
    omega arith)

-- what comes first and isn't above in the second cost covers
pub covers_later : (x y : FrontItem) → precedes y x ≡ false → x.second ≤ℤ y.second → covers x y ≡ true
covers_later x y h k = grind (arith, ints, nat_tests)

-- what comes later with a smaller second cost has a greater first one
pub first_rises : (x y : FrontItem) → precedes y x ≡ false → y.second <ℤ x.second → x.first <ℤ y.first
first_rises x y h k = grind (arith, ints, nat_tests)

pub contains_head : {X : Type 0} (x : X) (xs : List X) → Contains (x ∷ xs) x
contains_head x xs = (0, omega arith, refl)

pub contains_tail : {X : Type 0} (x : X) (xs : List X) (y : X) → Contains xs y → Contains (x ∷ xs) y
contains_tail x xs y h = Contains-append_right (x ∷ []) xs y h

pub all_weaker : {X : Type 0} (P Q : X → Type 0) → ((x : X) → P x → Q x) → (xs : List X) → AllByRecursion P xs → AllByRecursion Q xs
all_weaker P Q f [] h = tt
all_weaker P Q f (x ∷ xs) h = (f x h.0, all_weaker P Q f xs h.1)

pub all_both : {X : Type 0} (P Q R : X → Type 0) → ((x : X) → P x → Q x → R x) → (xs : List X) → AllByRecursion P xs → AllByRecursion Q xs → AllByRecursion R xs
all_both P Q R f [] h k = tt
all_both P Q R f (x ∷ xs) h k = (f x h.0 k.0, all_both P Q R f xs h.1 k.1)

pub all_among : {X : Type 0} (P : X → Type 0) (xs ys : List X) → AllByRecursion P xs → AllByRecursion (Contains xs) ys → AllByRecursion P ys
all_among P xs ys h k = all_weaker (Contains xs) P (λ y c. All-contains P xs y (All-from_recursion P xs h) c) ys k

pub all_map : {X Y : Type 0} (P : Y → Type 0) (f : X → Y) (xs : List X) → AllByRecursion (λ x. P (f x)) xs → AllByRecursion P (map f xs)
all_map P f [] h = tt
all_map P f (x ∷ xs) h = (h.0, all_map P f xs h.1)

-- a front of what covers a list, and is taken of it, is a front of the list
pub front_through : (items between kept : List FrontItem) → All (Contains items) between → All (IsCovered between) items → IsFrontOf between kept → IsFrontOf items kept
front_through items between kept h k f = record {
  falls = f.falls;
  among = recursed items kept (all_weaker (Contains between) (Contains items) (λ y c. All-contains (Contains items) between y h c) kept (recursion_from_All (Contains between) kept f.among));
  covered = λ i d l. reach (get_or items i d) (k i d l);
}
  where
    recursed : (items kept : List FrontItem) → AllByRecursion (Contains items) kept → All (Contains items) kept
    recursed items kept h = All-from_recursion (Contains items) kept h

    reach : (x : FrontItem) → IsCovered between x → IsCovered kept x
    reach x c =
        let d = All-contains (IsCovered kept) between c.0 f.covered c.1 in
        (d.0, d.1, covers_trans d.0 c.0 x d.2 c.2)

-- a front of a list is one of the same items in another order
pub front_of_permuted : (items sorted kept : List FrontItem) → IsPermutation items sorted → IsFrontOf sorted kept → IsFrontOf items kept
front_of_permuted items sorted kept h f =
    front_through items sorted kept
    (λ i d l. Contains-permutation sorted items (get_or sorted i d) (IsPermutation-sym items sorted h) (Contains-get_or sorted i d l))
    (λ i d l. (get_or items i d, Contains-permutation items sorted (get_or items i d) h (Contains-get_or items i d l), covers_itself (get_or items i d)))
    f
