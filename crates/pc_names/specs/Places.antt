-- Where an item stands in a list.
use Rattle.std.specs.Prelude.{◌≡◌, ◌≢◌, ℕ, ◌<◌, List, Option, None, Some, slice_get}

-- the first place at which the list has the item; None where it has it at no place
abbrev pub IsFirstPlace : {X : Type 0} → List X → X → Option ℕ → Type 0
IsFirstPlace items item None = (k : ℕ) → slice_get items k ≢ Some item
IsFirstPlace items item (Some place) = (slice_get items place ≡ Some item) × ((k : ℕ) → k < place → slice_get items k ≢ Some item)
