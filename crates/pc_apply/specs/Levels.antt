-- How the sets of the states of one layer are got from those of the next.
use Rattle.std.specs.Prelude.{◌≡◌, ℕ, ◌+◌, ◌<◌, ◌≤◌, List, [], ◌∷◌, ◌++◌, Bool, true, ◌&&◌, if◌then◌else◌, Some, length, take, drop, slice_get, slice_index, All}
use Rattle.std.specs.List.{list_any}
use Rattle.pc_diagram.specs.Words.{is_word}
use Rattle.pc_store.specs.declared.id.Id.{Id}
use Rattle.pc_store.specs.declared.store.Store.{Store}
use Rattle.pc_store.specs.Sets.{domains_of, IsIdAt, has, leads}
use Rattle.pc_apply.specs.declared.plan.Plan.{Plan}
use Rattle.pc_apply.specs.declared.plan.Plan.TheVariants.{Known, Node}

-- which states are of a layer, and which words each of them asks for
pub record Question (State : Type 0) : Type 1 where
  pub IsAt : State → Type 0
  pub asks : State → List ℕ → Bool

-- a word is one over the variables from a layer on
abbrev pub is_over : Store → ℕ → List ℕ → Bool
is_over store layer word = is_word (drop layer (domains_of store)) word

-- in a later state of the store an id has the words over the domains that a state asks for
pub record Answers {State : Type 0} (first now : Store) (layer : ℕ) (question : Question State) (state : State) (id : Id) : Type 0 where
  pub is_id : IsIdAt now layer id
  pub words : (word : List ℕ) → has now id word ≡ (is_over first layer word && question.asks state word)

-- all states are of a layer
abbrev pub AllAt : {State : Type 0} → (State → Type 0) → List State → Type 0
AllAt {State} IsAt states = (place : ℕ) (state : State) → slice_get states place ≡ Some state → IsAt state

-- what a state asks for after a value, a state of the next layer asks for
pub record Follows {State : Type 0} (store : Store) (layer : ℕ) (question next_question : Question State) (state : State) (value : ℕ) (next : State) : Type 0 where
  pub is_at : next_question.IsAt next
  pub same : (word : List ℕ) → is_over store (layer + 1) word ≡ true → next_question.asks next word ≡ question.asks state (value ∷ word)

-- at a place stands what follows on a state after a value
abbrev pub Leads : {State : Type 0} → Store → ℕ → Question State → Question State → State → ℕ → List State → ℕ → Type 0
Leads {State} store layer question next_question state value below place = (next : State) × (slice_get below place ≡ Some next) × Follows store layer question next_question state value next

-- the states with one more at the end, unless one that is the same by a test is there
abbrev pub with_state : {State : Type 0} → (State → State → Bool) → List State → State → List State
with_state same states state = if list_any (same state) states then states else states ++ state ∷ []

-- a state that is the same by a test stands at a place
abbrev pub StandsFor : {State : Type 0} → (State → State → Bool) → List State → ℕ → State → Type 0
StandsFor {State} same states place state = (other : State) × (slice_get states place ≡ Some other) × (same state other ≡ true)

-- so many targets from a place on
abbrev pub part : List ℕ → ℕ → ℕ → List ℕ
part targets first count = take count (drop first targets)

-- a target for each of so many values, from a place on, where what follows on a state stands
pub record LeadsFrom {State : Type 0} (store : Store) (layer : ℕ) (question next_question : Question State) (state : State) (below : List State) (targets : List ℕ) (first count : ℕ) : Type 0 where
  pub inside : first + count ≤ length targets
  pub each : (value place : ℕ) → slice_get (part targets first count) value ≡ Some place → Leads store layer question next_question state value below place

-- a plan is one for a state
abbrev pub Fits : {State : Type 0} → Store → ℕ → Question State → Question State → State → List State → List ℕ → Plan → Type 0
Fits store layer question next_question state below targets (Known id) = Answers store store layer question state id
Fits store layer question next_question state below targets (Node first) = LeadsFrom store layer question next_question state below targets first (slice_index (domains_of store) layer)

-- each plan is one for its state
pub record EachFits {State : Type 0} (store : Store) (layer : ℕ) (question next_question : Question State) (states below : List State) (targets : List ℕ) (plans : List Plan) : Type 0 where
  pub count : length plans ≡ length states
  pub each : (place : ℕ) (state : State) (plan : Plan) → slice_get states place ≡ Some state → slice_get plans place ≡ Some plan → Fits store layer question next_question state below targets plan
  pub all_at : AllAt next_question.IsAt below

-- each id answers its state
pub record EachAnswers {State : Type 0} (first now : Store) (layer : ℕ) (question : Question State) (states : List State) (ids : List Id) : Type 0 where
  pub count : length ids ≡ length states
  pub each : (place : ℕ) (state : State) (id : Id) → slice_get states place ≡ Some state → slice_get ids place ≡ Some id → Answers first now layer question state id

-- one state more was planned
pub record Planned {State : Type 0} (IsAt : State → Type 0) (old below : List State) (old_targets targets : List ℕ) : Type 0 where
  pub more_below : List State
  pub below_is : below ≡ old ++ more_below
  pub more_targets : List ℕ
  pub targets_are : targets ≡ old_targets ++ more_targets
  pub all_at : AllAt IsAt below

-- the targets are places of so many ids
abbrev pub InRange : List ℕ → ℕ → ℕ → Plan → Type 0
InRange targets count ids (Known id) = Unit {0}
InRange targets count ids (Node first) = (first + count ≤ length targets) × All (λ place. place < ids) (part targets first count)

-- the ids at these places
pub record Picks (ids : List Id) (places : List ℕ) (children : List Id) : Type 0 where
  pub count : length children ≡ length places
  pub each : (value place : ℕ) (id : Id) → slice_get places value ≡ Some place → slice_get ids place ≡ Some id → slice_get children value ≡ Some id

-- a node over the ids at these places
pub record IsOver (old now : Store) (layer : ℕ) (below : List Id) (places : List ℕ) (id : Id) : Type 0 where
  pub is_id : IsIdAt now layer id
  pub children : List Id
  pub picked : Picks below places children
  pub words : (word : List ℕ) → has now id word ≡ leads old children word

-- a plan was carried out
abbrev pub CarriedOut : Store → Store → ℕ → List ℕ → ℕ → List Id → Plan → Id → Type 0
CarriedOut old now layer targets count below (Known known) id = id ≡ known
CarriedOut old now layer targets count below (Node first) id = IsOver old now layer below (part targets first count) id

-- each plan was carried out
pub record EachCarriedOut (old now : Store) (layer : ℕ) (targets : List ℕ) (count : ℕ) (below : List Id) (plans : List Plan) (ids : List Id) : Type 0 where
  pub length_is : length ids ≡ length plans
  pub each : (place : ℕ) (plan : Plan) (id : Id) → slice_get plans place ≡ Some plan → slice_get ids place ≡ Some id → CarriedOut old now layer targets count below plan id
