-- Making the sets of words of rules and of their parts.
use Rattle.std.specs.Prelude.{◌≡◌, ℕ, ◌+◌, ◌&&◌, Bool, true, false, List, Some, Result, Ok, Err, length, take, slice_get}
use Rattle.std.specs.List.{list_all, list_any}
use Rattle.pc_diagram.specs.declared.limits.TheConstants.{MOST_NODES}
use Rattle.pc_diagram.specs.Words.{is_word}
use Rattle.pc_store.specs.declared.id.Id.{Id}
use Rattle.pc_store.specs.declared.store.Store.{Store}
use Rattle.pc_store.specs.Sets.{domains_of, IsIdAt, has}
use Rattle.pc_conjunction.specs.declared.conjunction.Conjunction.{Conjunction}
use Rattle.pc_conjunction.specs.Conjunctions.{conjunction_domains, contains}
use Rattle.pc_file.specs.declared.variable.Variable.{Variable}
use Rattle.pc_file.specs.declared.rule.Rule.{Rule}
use Rattle.pc_file.specs.Limits.{is_spelled}
use Rattle.pc_file.specs.Rule.{holds}
use Rattle.pc_file.specs.Parts.{is_too_large}
use Rattle.pc_build.specs.declared.fault.PartFault.{PartFault}
use Rattle.pc_build.specs.declared.fault.PartFault.TheVariants.{TooLarge, NoMemory}

-- a rule has a printed form, and the positions that it names are there; so have all of several
unfoldable pub IsSpelled : List Variable → Rule → Type 0
IsSpelled variables rule = is_spelled variables rule ≡ true

unfoldable pub AreSpelled : List Variable → List Rule → Type 0
AreSpelled variables rules = list_all (is_spelled variables) rules ≡ true

-- a set has the words over the numbers of values that pass a test
pub record Denotes (store : Store) (test : List ℕ → Bool) (id : Id) : Type 0 where
  pub is_id : IsIdAt store 0 id
  pub words : (word : List ℕ) → has store id word ≡ (is_word (domains_of store) word && test word)

-- a conjunction has the words over the numbers of values that pass a test
pub record Holds (domains : List ℕ) (all : Conjunction) (test : List ℕ → Bool) : Type 0 where
  pub domains_are : conjunction_domains all ≡ domains
  pub words : (word : List ℕ) → contains all word ≡ (is_word domains word && test word)

-- each set has the words for which its rule holds
pub record DenoteEach (store : Store) (variables : List Variable) (rules : List Rule) (ids : List Id) : Type 0 where
  pub count : length ids ≡ length rules
  pub each : (place : ℕ) (rule : Rule) (id : Id) → slice_get rules place ≡ Some rule → slice_get ids place ≡ Some id → Denotes store (λ word. holds variables word rule) id

-- what stands at a place passes a test, and nothing before it does
pub record IsFirst {X : Type 0} (test : X → Bool) (items : List X) (place : ℕ) (item : X) : Type 0 where
  pub stands : slice_get items place ≡ Some item
  pub passes : test item ≡ true
  pub none_before : list_any test (take place items) ≡ false

-- the sets of all parts were made, so many more than before, and none of them is too large
pub record AllMade (domains : List ℕ) (parts : List (List ℕ → Bool)) (old new : ℕ) : Type 0 where
  pub none : list_any (is_too_large MOST_NODES domains) parts ≡ false
  pub count : new ≡ old + length parts

-- the first set that is too large has this number, where so many parts came before
pub record StopsAt (domains : List ℕ) (parts : List (List ℕ → Bool)) (old number : ℕ) : Type 0 where
  pub place : ℕ
  pub part : List ℕ → Bool
  pub first : IsFirst (is_too_large MOST_NODES domains) parts place part
  pub number_is : number ≡ old + place + 1

-- making stopped with a fault: at a set that is too large, or for want of memory, wherever that was
abbrev pub Stopped : List ℕ → List (List ℕ → Bool) → ℕ → PartFault → Type 0
Stopped domains parts old (TooLarge number) = StopsAt domains parts old number
Stopped domains parts old NoMemory = Unit {0}

-- how the sets of parts were made, by the answer
abbrev pub Made : {A : Type 0} → List ℕ → List (List ℕ → Bool) → ℕ → ℕ → Result A PartFault → Type 0
Made domains parts old new (Ok made) = AllMade domains parts old new
Made domains parts old new (Err fault) = Stopped domains parts old fault
