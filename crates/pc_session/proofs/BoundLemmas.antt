-- The bounds that a session asks for stay on costs that its file has.
use Rattle.std.proofs.Common.{◌≡◌, ℕ, zero, suc, ℤ, ◌==◌, ◌<◌, Bool, true, false, not, if◌then◌else◌, List, [], ◌∷◌, ◌++◌, length, Option, Some, None, is_some, option_map, refl, sym, subst, ap, ◌∙◌, arith}
use Rattle.std.specs.Prelude.{Ok, Err, position}
use Rattle.std.proofs.lemmas.List.Quantifiers.{position-Some}
use Rattle.pc_diagram.specs.declared.bounds.Bounds.{Bounds}
use Rattle.pc_diagram.specs.declared.choice.Choice.{Choice}
use Rattle.pc_diagram.specs.declared.which.Which.{Which}
use Rattle.pc_diagram.specs.declared.which.Which.TheVariants.{First, Second}
use Rattle.pc_diagram.specs.Bounds.{bound_on, no_bounds, with_bound_on}
use Rattle.pc_diagram.specs.Choices.{is_chosen}
use Rattle.pc_names.specs.Spelling.{same_spelling}
use Rattle.pc_build.specs.declared.version.Version.{Version}
use Rattle.pc_file.specs.Contents.{Contents}
use Rattle.pc_file.specs.Positions.{cost_at, cost_named, value_named, variable_named}
use Rattle.pc_calls.specs.declared.dropped.Dropped.{Dropped}
use Rattle.pc_calls.specs.declared.dropped.Dropped.TheVariants as item
use Rattle.pc_calls.specs.declared.outcome.Outcome.{Outcome}
use Rattle.pc_calls.specs.declared.outcome.Outcome.TheVariants as outcome
use Rattle.pc_calls.specs.Carry.{Carried, carried_cost, carry, carry_bound, carry_bounds, carry_choice, carry_choices, carry_possible, cost_name, is_possible, keep, keep_if, moved_to, replay, replay_bound, replay_choice, replay_choices, variable_name}
use Rattle.pc_calls.specs.Decision.{Decision, ◌>>=◌, ◌>>◌, refused_by, refused_where, required}
use Rattle.pc_calls.specs.LabelLimit.{label_limit}
use Rattle.pc_calls.specs.Selection.{Selection, bound, bound_at, choose, choose_at, fitting_words, free, is_in, least_fitting, retract, retract_at, shown, unbound, unbound_at, unless_limited, with_bound, with_choice, without_choice}
use Rattle.pc_domains.specs.declared.board.Board.{Board}
use Rattle.pc_domains.specs.Boards.{IsBoardOf}
use Rattle.pc_session.specs.declared.next.Next.{Next}
use Rattle.pc_session.specs.declared.next.Next.TheVariants.{Same, Moved, Refused}
use Rattle.pc_session.specs.Costs.{AreOnCosts, IsOnCost, place_of}
use Rattle.pc_session.specs.Next.{IsNext, asked_by, board_by}
use Rattle.pc_session.proofs.MovingLemmas.{selection_of}
use Rattle.pc_session.proofs.NextLemmas.{board_next}

-- a decision that goes on to this was made before
bind_there : {A B : Type 0} (decision : Decision A) (next : A → Decision B) (y : B) → (decision >>= next) ≡ Ok y → (x : A) × (decision ≡ Ok x) × (next x ≡ Ok y)
bind_there (Ok x) next y h = (x, refl, h)
bind_there (Err refusal) next y h = absurd cc

required_is : {A : Type 0} (found : Option A) (refusal : Outcome) (x : A) → required found refusal ≡ Ok x → found ≡ Some x
required_is (Some y) refusal x h = cc
required_is None refusal x h = absurd cc

unlimited_is : (file : Contents) (asked given : Selection) → unless_limited file asked ≡ Ok given → asked ≡ given
unlimited_is file asked given h =
    let past = bind_there (refused_by (label_limit file asked.choices asked.bounds) (λ limit. outcome.LabelLimit limit.0 limit.1)) (λ _. Ok asked) given h in
    let same : asked ≡ given = cc in
    same

module _ (file : Contents) where
  -- ---- a cost of the file

  named_place : (name : List ℕ) (which : Which) → cost_named file name ≡ Some which → place_of which < length file.costs
  named_place name which h = by (position (same_spelling name) file.costs) refl h
    where
      at : (place : ℕ) → place < length file.costs → place_of (cost_at place) < length file.costs
      at zero below = below
      at (suc place) below = omega (arith, below)

      by : (found : Option ℕ) → position (same_spelling name) file.costs ≡ found → option_map cost_at found ≡ Some which → place_of which < length file.costs
      by None e k = absurd cc
      by (Some place) e k =
          let same : cost_at place ≡ which = cc in
          subst (λ w. place_of w < length file.costs) same (at place (position-Some (same_spelling name) file.costs place [] e).0)

  set_on : (which : Which) (bound : Option ℤ) (bounds : Bounds) → IsOnCost file which bound → AreOnCosts file bounds → AreOnCosts file (with_bound_on which bound bounds)
  set_on First bound bounds on are = (on, are.1)
  set_on Second bound bounds on are = (are.0, on)

  -- ---- the calls

  still : (asked given : Selection) → asked ≡ given → AreOnCosts file asked.bounds → AreOnCosts file given.bounds
  still asked given same are = subst (λ (s : Selection). AreOnCosts file s.bounds) same are

  pub after_choose : (variable value : List ℕ) (before given : Selection) → AreOnCosts file before.bounds → choose variable value file before ≡ Ok given → AreOnCosts file given.bounds
  unfolding choose_at
  after_choose variable value before given are h =
      let one = bind_there (required (variable_named file variable) outcome.NoVariable) (λ v. required (value_named file v value) outcome.NoValue >>= (λ w. choose_at v w file before)) given h in
      let two = bind_there (required (value_named file one.0 value) outcome.NoValue) (λ w. choose_at one.0 w file before) given one.2 in
      let three = bind_there (refused_where (not (is_in (shown file before) one.0 two.0)) outcome.NotListed) (λ _. unless_limited file (with_choice before one.0 two.0)) given two.2 in
      still (with_choice before one.0 two.0) given (unlimited_is file (with_choice before one.0 two.0) given three.2) (by one.0 two.0 (is_chosen before.choices one.0))
    where
      by : (v w : ℕ) (chosen : Bool) → AreOnCosts file (if chosen then before else selection_of (before.choices ++ record { variable = v; value = w } ∷ []) before.bounds).bounds
      by v w true = are
      by v w false = are

  pub after_retract : (variable : List ℕ) (before given : Selection) → AreOnCosts file before.bounds → retract variable file before ≡ Ok given → AreOnCosts file given.bounds
  unfolding retract_at
  after_retract variable before given are h =
      let one = bind_there (required (variable_named file variable) outcome.NoVariable) (λ v. retract_at v file before) given h in
      let two = bind_there (refused_where (not (is_chosen before.choices one.0)) outcome.NotChosen) (λ _. unless_limited file (without_choice before one.0)) given one.2 in
      still (without_choice before one.0) given (unlimited_is file (without_choice before one.0) given two.2) are

  pub after_bound : (cost : List ℕ) (most : ℤ) (before given : Selection) → AreOnCosts file before.bounds → bound cost most file before ≡ Ok given → AreOnCosts file given.bounds
  unfolding bound_at
  after_bound cost most before given are h =
      let one = bind_there (required (cost_named file cost) outcome.NoCost) (λ which. bound_at which most file before) given h in
      let asked : Selection = with_bound one.0 (Some most) before in
      let told = outcome.TooTight (least_fitting one.0 file (with_bound one.0 None before)) in
      let two = bind_there (unless_limited file asked) (λ (s : Selection). refused_where (length (fitting_words file s) == 0) told >> Ok s) given one.2 in
      let three = bind_there (refused_where (length (fitting_words file two.0) == 0) told) (λ _. Ok two.0) given two.2 in
      let same : two.0 ≡ given = cc in
      still asked given (unlimited_is file asked two.0 two.1 ∙ same) (set_on one.0 (Some most) before.bounds (named_place cost one.0 (required_is (cost_named file cost) outcome.NoCost one.0 one.1)) are)

  pub after_unbound : (cost : List ℕ) (before given : Selection) → AreOnCosts file before.bounds → unbound cost file before ≡ Ok given → AreOnCosts file given.bounds
  unfolding unbound_at
  after_unbound cost before given are h =
      let one = bind_there (required (cost_named file cost) outcome.NoCost) (λ which. unbound_at which file before) given h in
      let two = bind_there (refused_where (not (is_some (bound_on one.0 before.bounds))) outcome.NotBounded) (λ _. Ok (with_bound one.0 None before)) given one.2 in
      let same : with_bound one.0 None before ≡ given = cc in
      still (with_bound one.0 None before) given same (set_on one.0 None before.bounds tt are)

-- ---- a move

module _ (file target : Contents) where
  after_carry_bound : (which : Which) (bound : Option ℤ) (bounds given : Bounds) → AreOnCosts target bounds → carry_bound file target which bound bounds ≡ Ok given → AreOnCosts target given
  after_carry_bound which None bounds given are h = let same : bounds ≡ given = cc in subst (AreOnCosts target) same are
  after_carry_bound which (Some most) bounds given are h =
      let one = bind_there (required (carried_cost file target which) (outcome.Lost (cost_name file which))) (λ carried. Ok (with_bound_on carried (Some most) bounds)) given h in
      let same : with_bound_on one.0 (Some most) bounds ≡ given = cc in
      subst (AreOnCosts target) same (set_on target one.0 (Some most) bounds (named_place target (cost_name file which) one.0 (required_is (carried_cost file target which) (outcome.Lost (cost_name file which)) one.0 one.1)) are)

  after_carry_bounds : (bounds given : Bounds) → carry_bounds file target bounds ≡ Ok given → AreOnCosts target given
  after_carry_bounds bounds given h =
      let one = bind_there (carry_bound file target First bounds.first no_bounds) (λ first. carry_bound file target Second bounds.second first) given h in
      after_carry_bound Second bounds.second one.0 given (after_carry_bound First bounds.first no_bounds one.0 (tt, tt) one.1) one.2

  after_carry : (asked given : Selection) → carry file target asked ≡ Ok given → AreOnCosts target given.bounds
  unfolding carry
  after_carry asked given h =
      let one = bind_there (carry_choices file target asked.choices) (λ choices. carry_bounds file target asked.bounds >>= (λ bounds. Ok (selection_of choices bounds))) given h in
      let two = bind_there (carry_bounds file target asked.bounds) (λ bounds. Ok (selection_of one.0 bounds)) given one.2 in
      let same : selection_of one.0 two.0 ≡ given = cc in
      still target (selection_of one.0 two.0) given same (after_carry_bounds asked.bounds two.0 two.1)

  after_possible : (asked : Selection) (given : Carried) → carry_possible file target asked ≡ Ok given → AreOnCosts target given.selection.bounds
  after_possible asked given h =
      let one = bind_there (carry file target asked) (λ carried. unless_limited target carried >>= (λ asked. refused_where (length (fitting_words target asked) == 0) outcome.Conflict >> Ok (record { selection = asked; dropped = [] }))) given h in
      let two = bind_there (unless_limited target one.0) (λ (asked : Selection). refused_where (length (fitting_words target asked) == 0) outcome.Conflict >> Ok (record { selection = asked; dropped = [] })) given one.2 in
      let three = bind_there (refused_where (length (fitting_words target two.0) == 0) outcome.Conflict) (λ _. Ok (record { selection = two.0; dropped = [] })) given two.2 in
      let end : Carried = record { selection = two.0; dropped = [] } in
      let same : end ≡ given = cc in
      still target one.0 given.selection (unlimited_is target one.0 two.0 two.1 ∙ ap (λ (m : Carried). m.selection) same) (after_carry asked one.0 one.1)

  -- an item that is kept or dropped
  after_keep : (decision : Decision Selection) (dropped : Dropped) (moved : Carried) → ((asked : Selection) → decision ≡ Ok asked → AreOnCosts target asked.bounds) → AreOnCosts target moved.selection.bounds
      → AreOnCosts target (keep target decision dropped moved).selection.bounds
  after_keep (Err refusal) dropped moved asks are = are
  after_keep (Ok asked) dropped moved asks are = by (is_possible target asked)
    where
      by : (b : Bool) → AreOnCosts target (keep_if b asked dropped moved).selection.bounds
      by true = asks asked refl
      by false = are

  after_replay_bound : (which : Which) (bound : Option ℤ) (moved : Carried) → AreOnCosts target moved.selection.bounds → AreOnCosts target (replay_bound file target which bound moved).selection.bounds
  after_replay_bound which None moved are = are
  after_replay_bound which (Some most) moved are =
      let carried = carry_bound file target which (Some most) moved.selection.bounds in
      after_keep (carried >>= (λ bounds. Ok (selection_of moved.selection.choices bounds))) (item.Bound (cost_name file which)) moved
      (λ asked h.
      let one = bind_there carried (λ bounds. Ok (selection_of moved.selection.choices bounds)) asked h in
      let same : selection_of moved.selection.choices one.0 ≡ asked = cc in
      still target (selection_of moved.selection.choices one.0) asked same (after_carry_bound which (Some most) moved.selection.bounds one.0 are one.1))
      are

  after_replay_choice : (choice : Choice) (moved : Carried) → AreOnCosts target moved.selection.bounds → AreOnCosts target (replay_choice file target choice moved).selection.bounds
  after_replay_choice choice moved are =
      after_keep (carry_choice file target choice >>= (λ carried. Ok (selection_of (moved.selection.choices ++ carried ∷ []) moved.selection.bounds))) (item.Choice (variable_name file choice.variable)) moved
      (λ asked h.
      let one = bind_there (carry_choice file target choice) (λ carried. Ok (selection_of (moved.selection.choices ++ carried ∷ []) moved.selection.bounds)) asked h in
      let same : selection_of (moved.selection.choices ++ one.0 ∷ []) moved.selection.bounds ≡ asked = cc in
      still target (selection_of (moved.selection.choices ++ one.0 ∷ []) moved.selection.bounds) asked same are)
      are

  after_replay_choices : (choices : List Choice) (moved : Carried) → AreOnCosts target moved.selection.bounds → AreOnCosts target (replay_choices file target choices moved).selection.bounds
  after_replay_choices [] moved are = are
  after_replay_choices (choice ∷ choices) moved are = after_replay_choices choices (replay_choice file target choice moved) (after_replay_choice choice moved are)

  after_replay : (asked : Selection) → AreOnCosts target (replay file target asked).selection.bounds
  unfolding replay
  after_replay asked =
      let start : Carried = record { selection = free; dropped = [] } in
      let first = after_replay_bound First asked.bounds.first start (tt, tt) in
      after_replay_choices asked.choices (replay_bound file target Second asked.bounds.second (replay_bound file target First asked.bounds.first start))
      (after_replay_bound Second asked.bounds.second (replay_bound file target First asked.bounds.first start) first)

  pub after_move : (dropping : Bool) (asked : Selection) (given : Carried) → moved_to dropping file target asked ≡ Ok given → AreOnCosts target given.selection.bounds
  unfolding moved_to
  after_move false asked given h = after_possible asked given h
  after_move true asked given h =
      let same : replay file target asked ≡ given = cc in
      subst (λ (m : Carried). AreOnCosts target m.selection.bounds) same (after_replay asked)

-- ---- the board after a call

costs_next : (version : Version) (board : Board) (decision : Decision Selection) (next : Next) → AreOnCosts version.file board.bounds → ((given : Selection) → decision ≡ Ok given → AreOnCosts version.file given.bounds)
    → IsNext version (asked_by board) decision next → AreOnCosts version.file (board_by board next).bounds
costs_next version board decision (Same rows) are gives h = are
costs_next version board decision (Moved moved rows) are gives h = gives (asked_by moved) h.1
costs_next version board decision (Refused refusal) are gives h = are

-- what a session keeps, through a call that gives this
pub kept_next : (version given : Version) (board after : Board) (decision : Contents → Decision Selection) (next : Next) → given ≡ version → IsBoardOf version.diagram version.costs board × AreOnCosts version.file board.bounds
    → ((asked : Selection) → decision version.file ≡ Ok asked → AreOnCosts version.file asked.bounds) → IsNext given (asked_by board) (decision given.file) next → after ≡ board_by board next
    → IsBoardOf version.diagram version.costs after × AreOnCosts version.file after.bounds
kept_next version given board after decision next same are gives is moved =
    let here = subst (λ (v : Version). IsNext v (asked_by board) (decision v.file) next) same is in
    subst (λ b. IsBoardOf version.diagram version.costs b × AreOnCosts version.file b.bounds) (sym moved)
    (board_next version board (decision version.file) next are.0 here, costs_next version board (decision version.file) next are.1 gives here)
