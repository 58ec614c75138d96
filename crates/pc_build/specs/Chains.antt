-- Nodes that lead on to one set.
use Rattle.std.specs.Prelude.{◌≡◌, ℕ, ◌<◌, nat_lt, Bool, false, ◌&&◌, cond, List, [], ◌∷◌, Some, length, slice_get}
use Rattle.pc_store.specs.declared.id.Id.{Id}
use Rattle.pc_store.specs.declared.store.Store.{Store}
use Rattle.pc_store.specs.Sets.{has}

-- a word begins with one of so many values, for which a test holds, and goes on in a set
abbrev pub leads_on : Store → ℕ → (ℕ → Bool) → Id → List ℕ → Bool
leads_on store count test below [] = false
leads_on store count test below (value ∷ word) = nat_lt value count && (test value && has store below word)

-- a child for each of so many values: one set where a test holds, another for all others
pub record Children (test : ℕ → Bool) (below other : Id) (count : ℕ) (children : List Id) : Type 0 where
  pub width : length children ≡ count
  pub each : (value : ℕ) → value < count → slice_get children value ≡ Some (cond (test value) below other)
