-- A list whose items are written one after the other.
use Rattle.std.proofs.Common.{◌≡◌, ℕ, zero, suc, ◌+◌, ◌<◌, ◌≤◌, ◌==◌, Bool, true, false, cond, List, [], ◌∷◌, length, map, take, drop, ◌-◌, ◌++◌, Some, slice_get, slice_index_or, slice_set, refl, sym, ap, ◌∙◌, arith}
use Rattle.std.proofs.lemmas.List.{append-nil}
use Rattle.pc_book.specs.Shelves.{one_at}

-- the first so many items written
abbrev pub written : {A : Type 0} → ℕ → (A → A) → List A → List A
written zero write xs = xs
written (suc count) write [] = []
written (suc count) write (x ∷ xs) = write x ∷ written count write xs

module _ {A : Type 0} (write : A → A) where
  -- the next is as it was
  pub written-at : (xs : List A) (place : ℕ) (d : A) → slice_index_or (written place write xs) place d ≡ slice_index_or xs place d
  written-at xs zero d = refl
  written-at [] (suc place) d = refl
  written-at (x ∷ xs) (suc place) d = written-at xs place d

  pub written-more : (xs : List A) (place : ℕ) (d : A) → place < length xs → slice_set (written place write xs) place (write (slice_index_or xs place d)) ≡ written (suc place) write xs
  written-more [] place d inside = absurd (omega (arith, inside))
  written-more (x ∷ xs) zero d inside = refl
  written-more (x ∷ xs) (suc place) d inside = ap (λ ys. write x ∷ ys) (written-more xs place d (omega (arith, inside)))

  pub written-all : (xs : List A) → written (length xs) write xs ≡ map write xs
  written-all [] = refl
  written-all (x ∷ xs) = ap (λ ys. write x ∷ ys) (written-all xs)

  pub written-length : (xs : List A) (count : ℕ) → length (written count write xs) ≡ length xs
  written-length xs zero = refl
  written-length [] (suc count) = refl
  written-length (x ∷ xs) (suc count) = ap suc (written-length xs count)

-- the loop has gone through all
pub written-end : {A : Type 0} (write : A → A) (xs : List A) (count : ℕ) → length xs ≤ count → count ≤ length xs → written count write xs ≡ map write xs
written-end write xs count past within =
    let all : count ≡ length xs = omega (arith, past, within) in
    ap (λ n. written n write xs) all ∙ written-all write xs

-- and one step on
pub written-next : {A : Type 0} (write : A → A) (xs now : List A) (place : ℕ) (d : A) (put : A → A) → now ≡ written place write xs → place < length xs → ((x : A) → put x ≡ write x) → slice_set now place (put (slice_index_or now place d)) ≡ written (place + 1) write xs
written-next write xs now place d put is inside same =
    let next : suc place ≡ place + 1 = omega arith in
    ap (λ ys. slice_set ys place (put (slice_index_or ys place d))) is
    ∙ ap (λ x. slice_set (written place write xs) place (put x)) (written-at write xs place d)
    ∙ ap (λ x. slice_set (written place write xs) place x) (same (slice_index_or xs place d))
    ∙ written-more write xs place d inside
    ∙ ap (λ n. written n write xs) next

-- a test as a number
pub byte-one : (b : Bool) → mir.Val.bool_byte b ≡ cond b 1 0
byte-one true = refl
byte-one false = refl

pub one-small : (version number : ℕ) → one_at version number ≤ 1
one-small version number = small (number == version)
  where
    small : (b : Bool) → cond b 1 0 ≤ 1
    small true = omega arith
    small false = omega arith

-- what was lent of a list is written back whole
pub written-back : {A : Type 0} (old new : List A) (count : ℕ) → length new ≡ length old → count ≡ length old → take count (new ++ drop (length new) old) ≡ new
written-back old new count same is =
    ap (λ n. take count (new ++ drop n old)) same ∙ ap (λ xs. take count (new ++ xs)) (drop-all old) ∙ ap (take count) (append-nil new) ∙ ap (λ n. take n new) (is ∙ sym same) ∙ take-all new
  where
    drop-all : {A : Type 0} (xs : List A) → drop (length xs) xs ≡ []
    drop-all [] = refl
    drop-all (x ∷ xs) = drop-all xs

    take-all : {A : Type 0} (xs : List A) → take (length xs) xs ≡ xs
    take-all [] = refl
    take-all (x ∷ xs) = ap (λ ys. x ∷ ys) (take-all xs)

-- the item at the last place
place-has : {A : Type 0} (xs : List A) (place : ℕ) (d : A) → place < length xs → slice_get xs place ≡ Some (slice_index_or xs place d)
place-has [] place d inside = absurd (omega (arith, inside))
place-has (x ∷ xs) zero d inside = refl
place-has (x ∷ xs) (suc place) d inside = place-has xs place d (omega (arith, inside))

some-length : {A : Type 0} (xs : List A) → (xs ≡ [] → ⊥) → 1 ≤ length xs
some-length [] some = absurd (some refl)
some-length (x ∷ xs) some = omega arith

pub last-is : {A : Type 0} (xs ys : List A) (last : A) → ys ≡ xs → (xs ≡ [] → ⊥) → last ≡ slice_index_or ys (length ys - 1) last → Some last ≡ slice_get xs (length xs - 1)
last-is xs ys last same some is =
    ap Some (is ∙ ap (λ zs. slice_index_or zs (length zs - 1) last) same) ∙ sym (place-has xs (length xs - 1) last (omega (arith, some-length xs some)))

pub map-length : {A B : Type 0} (f : A → B) (xs : List A) → length (map f xs) ≡ length xs
map-length f [] = refl
map-length f (x ∷ xs) = ap suc (map-length f xs)

-- what is written over all items of what was lent
pub written-over : {A : Type 0} (write : A → A) (old new : List A) (count : ℕ) → new ≡ map write old → count ≡ length old → take count (new ++ drop (length new) old) ≡ map write old
written-over write old new count is all = written-back old new count (ap length is ∙ map-length write old) all ∙ is
