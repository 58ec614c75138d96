-- What operations ask of pairs of sets.
use Rattle.std.specs.Prelude.{◌≡◌, ℕ, nat_eq, List, Bool, not, ◌&&◌, ◌||◌}
use Rattle.pc_store.specs.declared.id.Id.{Id}
use Rattle.pc_store.specs.declared.store.Store.{Store}
use Rattle.pc_store.specs.Sets.{id_at, IsIdAt, has}
use Rattle.pc_apply.specs.declared.pair.Operation.{Operation}
use Rattle.pc_apply.specs.declared.pair.Operation.TheVariants.{And, Or, Without}
use Rattle.pc_apply.specs.declared.pair.Pair.{Pair}
use Rattle.pc_apply.specs.Levels.{Question}

-- whether an operation asks for a word that is in the first set or not, and in the second or not
abbrev pub holds : Operation → Bool → Bool → Bool
holds And left right = left && right
holds Or left right = left || right
holds Without left right = left && not right

-- the sets of a pair are of a layer
pub record HasBoth (store : Store) (layer : ℕ) (pair : Pair) : Type 0 where
  pub left : IsIdAt store layer (id_at layer pair.left)
  pub right : IsIdAt store layer (id_at layer pair.right)

-- the pairs of a layer, and the words that an operation asks for of their sets
abbrev pub pairs_at : Store → ℕ → Operation → Question Pair
pairs_at store layer operation = record {
  IsAt = HasBoth store layer;
  asks = λ pair word. holds operation (has store (id_at layer pair.left) word) (has store (id_at layer pair.right) word);
}

-- a set has the words that an operation asks for of two sets
pub record Makes (store : Store) (layer : ℕ) (operation : Operation) (left right id : Id) : Type 0 where
  pub is_id : IsIdAt store layer id
  pub words : (word : List ℕ) → has store id word ≡ holds operation (has store left word) (has store right word)

-- equality of pairs
abbrev pub same_pair : Pair → Pair → Bool
same_pair a b = nat_eq a.left.number b.left.number && nat_eq a.right.number b.right.number
