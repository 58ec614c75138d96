-- What is kept and dropped, item by item, is what the definitions give.
use Rattle.std.proofs.Common.{◌≡◌, ◌≢◌, ℕ, ℤ, ◌==◌, Bool, true, false, not, ◌&&◌, List, [], ◌∷◌, ◌++◌, length, All, Option, Some, None, is_some, refl, sym, subst, ap, ◌∙◌}
use Rattle.std.specs.Prelude.{Result, Ok, Err, IfOk, IfErr, OnOk}
use Rattle.std.proofs.lemmas.List.Elements.{All-tail}
use Rattle.pc_diagram.specs.declared.bounds.Bounds.{Bounds}
use Rattle.pc_diagram.specs.declared.choice.Choice.{Choice}
use Rattle.pc_diagram.specs.declared.which.Which.{Which}
use Rattle.pc_diagram.specs.Bounds.{with_bound_on}
use Rattle.pc_diagram.specs.Diagram.{IsCanonical}
use Rattle.pc_build.specs.declared.version.Version.{Version}
use Rattle.pc_domains.specs.Sides.{AreDistinctOf}
use Rattle.pc_file.specs.Contents.{Contents}
use Rattle.pc_file.specs.Full.{full_domains}
use Rattle.pc_file.specs.Limits.{IsFile}
use Rattle.pc_calls.specs.declared.dropped.Dropped.{Dropped}
use Rattle.pc_calls.specs.declared.dropped.Dropped.TheVariants as item
use Rattle.pc_calls.specs.declared.outcome.Outcome.{Outcome}
use Rattle.pc_calls.specs.declared.outcome.Outcome.TheVariants.{Lost}
use Rattle.pc_calls.specs.Carry.{Carried, carried_cost, carry_choice, cost_name, is_possible, keep, keep_if, replay_bound, replay_choice, replay_choices, variable_name}
use Rattle.pc_calls.specs.Decision.{Decision, ◌>>=◌, required}
use Rattle.pc_calls.specs.LabelLimit.{label_limit}
use Rattle.pc_calls.specs.Selection.{Selection, fitting_words}
use Rattle.pc_domains.specs.declared.board.Board.{Board}
use Rattle.pc_domains.specs.declared.board_fault.BoardFault.{BoardFault}
use Rattle.pc_domains.specs.declared.board_fault.BoardFault.TheVariants.{LabelLimit, NoFit, NoMemory}
use Rattle.pc_domains.specs.BoardFaults.{IsBoardFault}
use Rattle.pc_domains.specs.Boards.{IsBoardOf}
use Rattle.pc_session.specs.declared.replay.Replay.{Replay}
use Rattle.pc_session.specs.Moving.{IsNew, carried_by, replay_after}
use Rattle.pc_session.specs.Next.{asked_by}
use Rattle.pc_session.proofs.CarryLemmas.{all_new, new_after_carried, rest_distinct}
use Rattle.pc_session.proofs.MovingLemmas.{selection_of}
use Rattle.pc_session.proofs.NextLemmas.{limit_is, none_fits, same_asked, some_fit, within}

module _ (target : Version) where
  -- ---- what is possible

  both_not : (limited none : Bool) (l n : Bool) → limited ≡ l → none ≡ n → (not limited && not none) ≡ (not l && not n)
  both_not limited none l n h k = λ i. not (h i) && not (k i)

  pub possible : (board : Board) → IsBoardOf target.diagram target.costs board → is_possible target.file (asked_by board) ≡ true
  unfolding is_possible
  possible board is =
      both_not (is_some (label_limit target.file board.choices board.bounds)) (length (fitting_words target.file (asked_by board)) == 0) false false
      (ap is_some (within target board is)) (some_fit target board is)

  limited_not : (limited none : Bool) → limited ≡ true → (not limited && not none) ≡ false
  limited_not limited none h = ap (λ b. not b && not none) h

  none_not : (limited none : Bool) → none ≡ true → (not limited && not none) ≡ false
  none_not true none h = refl
  none_not false none h = ap not h

  pub impossible : IsCanonical target.diagram → (asked : Selection) (fault : BoardFault) → IsBoardFault target.diagram target.costs asked.choices asked.bounds fault → fault ≢ NoMemory → is_possible target.file asked ≡ false
  unfolding is_possible
  impossible canonical asked (LabelLimit side layer) tells other =
      limited_not (is_some (label_limit target.file asked.choices asked.bounds)) (length (fitting_words target.file asked) == 0)
      (ap is_some (sym (limit_is target canonical asked.choices asked.bounds) ∙ tells))
  impossible canonical asked NoFit tells other =
      none_not (is_some (label_limit target.file asked.choices asked.bounds)) (length (fitting_words target.file asked) == 0)
      (ap (λ (l : List (List ℕ)). length l == 0) (none_fits target asked tells.1))
  impossible canonical asked NoMemory tells other = absurd (other refl)

  -- ---- an item with the board that was tried

  -- what a board that was tried is made of
  pub record IsTried (asked : Selection) (made : Result Board BoardFault) : Type 0 where
    pub board : IfOk made (IsBoardOf target.diagram target.costs)
    pub choices : IfOk made (λ b. b.choices ≡ asked.choices)
    pub bounds : IfOk made (λ b. b.bounds ≡ asked.bounds)
    pub fault : IfErr made (IsBoardFault target.diagram target.costs asked.choices asked.bounds)

  kept_or_dropped : (replay : Replay) (asked : Selection) (dropped : Dropped) (made : Result Board BoardFault) → IsCanonical target.diagram → IsTried asked made → made ≢ Err NoMemory
      → carried_by (replay_after made dropped replay) ≡ keep_if (is_possible target.file asked) asked dropped (carried_by replay)
  kept_or_dropped replay asked dropped (Ok board) canonical tried memory =
      let same = same_asked target board asked tried.choices tried.bounds in
      let is_so : is_possible target.file asked ≡ true = subst (λ s. is_possible target.file s ≡ true) same (possible board tried.board) in
      ap (λ (s : Selection). record { selection = s; dropped = replay.dropped }) same
      ∙ ap (λ b. keep_if b asked dropped (carried_by replay)) (sym is_so)
  kept_or_dropped replay asked dropped (Err fault) canonical tried memory =
      ap (λ b. keep_if b asked dropped (carried_by replay)) (sym (impossible canonical asked fault tried.fault (λ e. memory (ap Err e))))

  -- at the end of a call, if it isn't one without memory
  pub kept_at_end : {U E : Type 0} (ended : Result U E) (replay after : Replay) (asked : Selection) (dropped : Dropped) (made : Result Board BoardFault) (moved : Carried) → IsCanonical target.diagram → IsTried asked made
      → OnOk ended (after ≡ replay_after made dropped replay) → OnOk ended (made ≢ Err NoMemory)
      → moved ≡ keep_if (is_possible target.file asked) asked dropped (carried_by replay) → OnOk ended (carried_by after ≡ moved)
  kept_at_end (Ok u) replay after asked dropped made moved canonical tried is memory keeps =
      ap carried_by is ∙ kept_or_dropped replay asked dropped made canonical tried memory ∙ sym keeps
  kept_at_end (Err e) replay after asked dropped made moved canonical tried is memory keeps = tt

  -- ---- a bound

  module _ (file : Contents) (which : Which) (most : ℤ) (moved : Carried) where
    with_carried : Option Which → Carried
    with_carried found =
        keep target.file
        ((required found (Lost (cost_name file which)) >>= (λ carried. Ok (with_bound_on carried (Some most) moved.selection.bounds))) >>= (λ bounds. Ok (selection_of moved.selection.choices bounds)))
        (item.Bound (cost_name file which)) moved

    pub bound_carried : (carried : Which) → carried_cost file target.file which ≡ Some carried
        → replay_bound file target.file which (Some most) moved
        ≡ keep_if (is_possible target.file (selection_of moved.selection.choices (with_bound_on carried (Some most) moved.selection.bounds))) (selection_of moved.selection.choices (with_bound_on carried (Some most) moved.selection.bounds)) (item.Bound (cost_name file which)) moved
    unfolding with_carried
    bound_carried carried h = ap with_carried h

    pub bound_not_carried : carried_cost file target.file which ≡ None → replay_bound file target.file which (Some most) moved ≡ record { selection = moved.selection; dropped = moved.dropped ++ item.Bound (cost_name file which) ∷ [] }
    unfolding with_carried
    bound_not_carried h = ap with_carried h

  -- a bound leaves the choices as they are
  choices_of_keep : (decision : Decision Bounds) (dropped : Dropped) (moved : Carried) → (keep target.file (decision >>= (λ bounds. Ok (selection_of moved.selection.choices bounds))) dropped moved).selection.choices ≡ moved.selection.choices
  choices_of_keep (Ok bounds) dropped moved = by (is_possible target.file (selection_of moved.selection.choices bounds))
    where
      by : (b : Bool) → (keep_if b (selection_of moved.selection.choices bounds) dropped moved).selection.choices ≡ moved.selection.choices
      by true = refl
      by false = refl
  choices_of_keep (Err refusal) dropped moved = refl

  pub choices_after_bound : (file : Contents) (which : Which) (bound : Option ℤ) (moved : Carried) → (replay_bound file target.file which bound moved).selection.choices ≡ moved.selection.choices
  choices_after_bound file which None moved = refl
  choices_after_bound file which (Some most) moved =
      choices_of_keep (required (carried_cost file target.file which) (Lost (cost_name file which)) >>= (λ carried. Ok (with_bound_on carried (Some most) moved.selection.bounds))) (item.Bound (cost_name file which)) moved

  -- ---- a choice

  module _ (file : Contents) (choice : Choice) (moved : Carried) where
    with_choice : Decision Choice → Carried
    with_choice found = keep target.file (found >>= (λ carried. Ok (selection_of (moved.selection.choices ++ carried ∷ []) moved.selection.bounds))) (item.Choice (variable_name file choice.variable)) moved

    pub choice_carried : (carried : Choice) → carry_choice file target.file choice ≡ Ok carried
        → replay_choice file target.file choice moved
        ≡ keep_if (is_possible target.file (selection_of (moved.selection.choices ++ carried ∷ []) moved.selection.bounds)) (selection_of (moved.selection.choices ++ carried ∷ []) moved.selection.bounds) (item.Choice (variable_name file choice.variable)) moved
    unfolding with_choice
    choice_carried carried h = ap with_choice h

    pub choice_not_carried : (refusal : Outcome) → carry_choice file target.file choice ≡ Err refusal → replay_choice file target.file choice moved ≡ record { selection = moved.selection; dropped = moved.dropped ++ item.Choice (variable_name file choice.variable) ∷ [] }
    unfolding with_choice
    choice_not_carried refusal h = ap with_choice h

    -- what is chosen then: as before, or that choice too
    new_by : (rest : List Choice) (b : Bool) (carried : Choice) → All (IsNew file target.file moved.selection.choices) rest → All (IsNew file target.file (moved.selection.choices ++ carried ∷ [])) rest
        → All (IsNew file target.file (keep_if b (selection_of (moved.selection.choices ++ carried ∷ []) moved.selection.bounds) (item.Choice (variable_name file choice.variable)) moved).selection.choices) rest
    new_by rest true carried before after = after
    new_by rest false carried before after = before

    new_from : (rest : List Choice) (found : Decision Choice) → All (IsNew file target.file moved.selection.choices) rest
        → ((carried : Choice) → found ≡ Ok carried → All (IsNew file target.file (moved.selection.choices ++ carried ∷ [])) rest)
        → All (IsNew file target.file (with_choice found).selection.choices) rest
    unfolding with_choice
    new_from rest (Ok carried) before after = new_by rest (is_possible target.file (selection_of (moved.selection.choices ++ carried ∷ []) moved.selection.bounds)) carried before (after carried refl)
    new_from rest (Err refusal) before after = before

    pub new_after_choice : (rest : List Choice) → IsFile file → AreDistinctOf (full_domains file) (choice ∷ rest) → All (IsNew file target.file moved.selection.choices) (choice ∷ rest)
        → All (IsNew file target.file (replay_choice file target.file choice moved).selection.choices) rest
    unfolding with_choice
    new_after_choice rest limits are new =
        new_from rest (carry_choice file target.file choice) (All-tail (IsNew file target.file moved.selection.choices) choice rest new)
        (λ carried h. new_after_carried file target.file choice carried moved.selection.choices rest limits are h new)

  -- ---- the choices of a list, one after another

  -- some first choices of a list are replayed, and the rest are still to be
  pub record AreReplayed (file : Contents) (choices rest : List Choice) (start : Carried) (replay : Replay) : Type 0 where
    pub board : IsBoardOf target.diagram target.costs replay.board
    pub are_distinct : AreDistinctOf (full_domains file) rest
    pub are_new : All (IsNew file target.file replay.board.choices) rest
    pub goes_on : replay_choices file target.file choices start ≡ replay_choices file target.file rest (carried_by replay)

  pub none_replayed : (file : Contents) (choices : List Choice) (replay : Replay) → IsBoardOf target.diagram target.costs replay.board → AreDistinctOf (full_domains file) choices → replay.board.choices ≡ [] → AreReplayed file choices choices (carried_by replay) replay
  none_replayed file choices replay is are none = record {
    board = is;
    are_distinct = are;
    are_new = subst (λ (kept : List Choice). All (IsNew file target.file kept) choices) (sym none) (all_new file target.file choices);
    goes_on = refl;
  }

  pub one_replayed : (file : Contents) (choices rest : List Choice) (choice : Choice) (start : Carried) (replay after : Replay) → IsFile file → AreReplayed file choices (choice ∷ rest) start replay
      → IsBoardOf target.diagram target.costs after.board → carried_by after ≡ replay_choice file target.file choice (carried_by replay) → AreReplayed file choices rest start after
  one_replayed file choices rest choice start replay after limits are is replayed = record {
    board = is;
    are_distinct = rest_distinct file target.file choice rest are.are_distinct;
    are_new = subst (λ (moved : Carried). All (IsNew file target.file moved.selection.choices) rest) (sym replayed) (new_after_choice file choice (carried_by replay) rest limits are.are_distinct are.are_new);
    goes_on = are.goes_on ∙ ap (replay_choices file target.file rest) (sym replayed);
  }
