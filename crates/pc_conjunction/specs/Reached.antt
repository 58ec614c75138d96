-- Places that are reached from those of the layer above.
use Rattle.std.specs.Prelude.{◌≡◌, ℕ, ◌<◌, ◌⊎◌, List, [], Bool, true, false, length, slice_index_or}

-- a place has a mark. Past the last mark is none
abbrev pub is_marked : List Bool → ℕ → Bool
is_marked marks place = slice_index_or marks place false

-- a marked place goes on in a place of the next layer, by a column
pub record IsLedTo (marks : List Bool) (places : List ℕ) (next : ℕ) : Type 0 where
  pub place : ℕ
  pub inside : place < length places
  pub marked : is_marked marks place ≡ true
  pub goes : slice_index_or places place 0 ≡ next

-- those places of the next layer are marked too that marked ones go on in by a column
pub record MarksMore (marks : List Bool) (places : List ℕ) (old new : List Bool) : Type 0 where
  pub count_is : length new ≡ length old
  pub kept : (next : ℕ) → is_marked old next ≡ true → is_marked new next ≡ true
  pub led : (place : ℕ) → place < length places → is_marked marks place ≡ true → is_marked new (slice_index_or places place 0) ≡ true
  pub only : (next : ℕ) → is_marked new next ≡ true → (is_marked old next ≡ true) ⊎ IsLedTo marks places next

-- a marked place goes on in a place of the next layer, after some value
pub record IsReached (marks : List Bool) (columns : List (List ℕ)) (next : ℕ) : Type 0 where
  pub value : ℕ
  pub within : value < length columns
  pub led_to : IsLedTo marks (slice_index_or columns value []) next

-- of so many places of the next layer those are marked that marked ones go on in
pub record AreReached (marks : List Bool) (columns : List (List ℕ)) (count : ℕ) (below : List Bool) : Type 0 where
  pub count_is : length below ≡ count
  pub led : (value place : ℕ) → value < length columns → place < length (slice_index_or columns value []) → is_marked marks place ≡ true → is_marked below (slice_index_or (slice_index_or columns value []) place 0) ≡ true
  pub only : (next : ℕ) → is_marked below next ≡ true → IsReached marks columns next
