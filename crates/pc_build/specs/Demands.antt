-- What the row of a table asks of each variable.
use Rattle.std.specs.Prelude.{ℕ, ◌+◌, ◌<◌, ◌≤◌, nat_eq, Bool, true, false, ◌&&◌, List, [], ◌∷◌, All, ◌≡◌, ◌||◌, length, slice_index_or}
use Rattle.std.specs.List.{list_any}
use Rattle.pc_build.specs.declared.demand.Demand.{Demand}
use Rattle.pc_build.specs.declared.demand.Demand.TheVariants.{Any, One, Never}
use Rattle.pc_build.specs.declared.rests.Values.{Values}
use Rattle.pc_build.specs.declared.span.Span.{Span}

-- a demand allows a value
abbrev pub allows : Demand → ℕ → Bool
allows Any taken = true
allows (One value) taken = nat_eq taken value
allows Never taken = false

-- the values of a word are allowed, one for each demand
abbrev pub meets : List Demand → List ℕ → Bool
meets [] word = true
meets (demand ∷ demands) [] = false
meets (demand ∷ demands) (value ∷ word) = allows demand value && meets demands word

-- a row of demands allows a value of its first variable
abbrev pub is_open : List Demand → ℕ → Bool
is_open [] value = true
is_open (demand ∷ demands) value = allows demand value

-- a word meets one of several rows of demands
abbrev pub some_meets : List (List Demand) → List ℕ → Bool
some_meets rows word = list_any (λ row. meets row word) rows

-- all of these variables are in a span
pub record Spans (variables : List ℕ) (span : Span) : Type 0 where
  pub from : All (λ variable. span.first ≤ variable) variables
  pub within : All (λ variable. variable < span.first + span.count) variables

-- for each of so many values of the first variable, in order, what the rows that allow it demand of those after it
pub record AreRests (rows : List (List Demand)) (count : ℕ) (rests : List (List (List Demand))) : Type 0 where
  pub width : length rests ≡ count
  pub goes : (value : ℕ) (word : List ℕ) → value < count → some_meets (slice_index_or rests value []) word ≡ some_meets rows (value ∷ word)

-- the same with one more row
pub record WithRow (row : List Demand) (before after : List (List (List Demand))) : Type 0 where
  pub width : length after ≡ length before
  pub goes : (value : ℕ) (word : List ℕ) → value < length before → some_meets (slice_index_or after value []) word ≡ (some_meets (slice_index_or before value []) word || meets row (value ∷ word))

-- a row allows no value but these, among so many
abbrev pub AllowsWithin : List Demand → ℕ → Values → Type 0
AllowsWithin row count values = (value : ℕ) → value < count → is_open row value ≡ true → (values.first ≤ value) × (value < values.end)
