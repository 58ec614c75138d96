-- What a move of all that is asked comes to is what the definitions give.
use Rattle.std.proofs.Common.{◌≡◌, ℕ, ◌==◌, List, [], length, Bool, true, false, sym, subst, ap, ◌∙◌}
use Rattle.std.specs.Prelude.{Ok, Err}
use Rattle.pc_diagram.specs.declared.bounds.Bounds.{Bounds}
use Rattle.pc_diagram.specs.declared.choice.Choice.{Choice}
use Rattle.pc_diagram.specs.Diagram.{IsCanonical}
use Rattle.pc_build.specs.declared.version.Version.{Version}
use Rattle.pc_file.specs.Contents.{Contents}
use Rattle.pc_calls.specs.declared.outcome.Outcome.{Outcome}
use Rattle.pc_calls.specs.declared.outcome.Outcome.TheVariants as outcome
use Rattle.pc_calls.specs.Carry.{Carried, carry, carry_bounds, carry_choices, carry_possible}
use Rattle.pc_calls.specs.Decision.{Decision, ◌>>=◌, ◌>>◌, refused_where}
use Rattle.pc_calls.specs.LabelLimit.{label_limit}
use Rattle.pc_calls.specs.Selection.{Selection, fitting_words, unless_limited}
use Rattle.pc_domains.specs.declared.board.Board.{Board}
use Rattle.pc_domains.specs.declared.board_fault.BoardFault.{BoardFault}
use Rattle.pc_domains.specs.declared.board_fault.BoardFault.TheVariants as board_fault
use Rattle.pc_domains.specs.BoardFaults.{IsBoardFault}
use Rattle.pc_domains.specs.Boards.{IsBoardOf}
use Rattle.pc_session.specs.declared.move_fault.MoveFault.{MoveFault}
use Rattle.pc_session.specs.declared.move_fault.MoveFault.TheVariants.{NoMemory, Refused}
use Rattle.pc_session.specs.Moving.{IsMoveFault, fault_of_board}
use Rattle.pc_session.specs.Next.{asked_by}
use Rattle.pc_session.proofs.NextLemmas.{asked_limited, asked_stands, limited_by, no_limit, none_fits, some_fit}

-- what is asked, by its parts
abbrev pub selection_of : List Choice → Bounds → Selection
selection_of choices bounds = record { choices = choices; bounds = bounds }

module _ (file target : Contents) (asked : Selection) where
  -- ---- what is carried over

  carries : Decision (List Choice) → Decision Bounds → Decision Selection
  carries choices bounds = choices >>= (λ choices. bounds >>= (λ bounds. Ok (selection_of choices bounds)))

  pub carry_is : (choices : List Choice) (bounds : Bounds) → carry_choices file target asked.choices ≡ Ok choices → carry_bounds file target asked.bounds ≡ Ok bounds → carry file target asked ≡ Ok (selection_of choices bounds)
  unfolding carry carries
  carry_is choices bounds h k = λ i. carries (h i) (k i)

  pub choice_lost : (refusal : Outcome) → carry_choices file target asked.choices ≡ Err refusal → carry file target asked ≡ Err refusal
  unfolding carry carries
  choice_lost refusal h = ap (λ d. carries d (carry_bounds file target asked.bounds)) h

  pub bound_lost : (choices : List Choice) (refusal : Outcome) → carry_choices file target asked.choices ≡ Ok choices → carry_bounds file target asked.bounds ≡ Err refusal → carry file target asked ≡ Err refusal
  unfolding carry carries
  bound_lost choices refusal h k = λ i. carries (h i) (k i)

  -- ---- whether it is possible

  -- what is refused of what was carried over
  abbrev possible : Decision Selection → Decision Carried
  possible carried = carried >>= (λ carried. unless_limited target carried >>= (λ asked. refused_where (length (fitting_words target asked) == 0) outcome.Conflict >> Ok (record { selection = asked; dropped = [] })))

  pub carry_refused : (refusal : Outcome) → carry file target asked ≡ Err refusal → carry_possible file target asked ≡ Err refusal
  carry_refused refusal h = ap possible h

  -- a name of a choice or of a bound is lost, or memory was wanting
  pub choice_fault : (fault : MoveFault) → IsMoveFault (carry_choices file target asked.choices) fault → IsMoveFault (carry_possible file target asked) fault
  choice_fault (Refused refusal) h = carry_refused refusal (choice_lost refusal h)
  choice_fault NoMemory h = tt

module _ (file : Contents) (target : Version) (asked carried : Selection) (is : carry file target.file asked ≡ Ok carried) where
  ready : (stands : unless_limited target.file carried ≡ Ok carried) (none : Bool) → (length (fitting_words target.file carried) == 0) ≡ none
      → carry_possible file target.file asked ≡ (refused_where none outcome.Conflict >> Ok (record { selection = carried; dropped = [] }))
  ready stands none h =
      ap (possible file target.file asked) is
      ∙ ap (λ d. d >>= (λ (s : Selection). refused_where (length (fitting_words target.file s) == 0) outcome.Conflict >> Ok (record { selection = s; dropped = [] }))) stands
      ∙ ap (λ b. refused_where b outcome.Conflict >> Ok (record { selection = carried; dropped = [] })) h

  pub moves : (board : Board) → IsBoardOf target.diagram target.costs board → asked_by board ≡ carried → carry_possible file target.file asked ≡ Ok (record { selection = asked_by board; dropped = [] })
  moves board of_target same =
      ready (subst (λ s. unless_limited target.file s ≡ Ok s) same (asked_stands target board of_target)) false
      (subst (λ s. (length (fitting_words target.file s) == 0) ≡ false) same (some_fit target board of_target))
      ∙ ap (λ s. Ok (record { selection = s; dropped = [] })) (sym same)

  pub refused : IsCanonical target.diagram → (fault : BoardFault) → IsBoardFault target.diagram target.costs carried.choices carried.bounds fault → IsMoveFault (carry_possible file target.file asked) (fault_of_board fault)
  refused canonical (board_fault.LabelLimit side layer) tells =
      ap (possible file target.file asked) is
      ∙ ap (λ d. d >>= (λ (s : Selection). refused_where (length (fitting_words target.file s) == 0) outcome.Conflict >> Ok (record { selection = s; dropped = [] })))
      (asked_limited target canonical carried side layer tells)
  refused canonical board_fault.NoFit tells =
      ready (limited_by (label_limit target.file carried.choices carried.bounds) carried (no_limit target canonical carried tells.0)) true
      (ap (λ (l : List (List ℕ)). length l == 0) (none_fits target carried tells.1))
  refused canonical board_fault.NoMemory tells = tt
