-- What a session's call comes to is what the definitions give.
use Rattle.std.proofs.Common.{◌≡◌, ◌≢◌, ℕ, ℤ, ◌==◌, ◌<◌, List, [], ◌∷◌, ◌++◌, length, map, get_or, Option, Some, None, is_some, Bool, true, false, not, if◌then◌else◌, refl, sym, subst, ap, ◌∙◌, arith}
use Rattle.std.specs.Prelude.{Result, Ok, Err, IfOk, unwrap_or, pos}
use Rattle.std.proofs.lemmas.Bool.Decides.{nat_tests}
use Rattle.std.proofs.lemmas.List.{get_or-map, length-map}
use Rattle.pc_diagram.specs.declared.bounds.Bounds.{Bounds}
use Rattle.pc_diagram.specs.declared.choice.Choice.{Choice}
use Rattle.pc_diagram.specs.declared.costs.CostPair.{CostPair}
use Rattle.pc_diagram.specs.declared.listed.Listed.{Listed}
use Rattle.pc_diagram.specs.declared.side.Side.{Side}
use Rattle.pc_diagram.specs.declared.which.Which.{Which}
use Rattle.pc_diagram.specs.Bounds.{bound_on, with_bound_on}
use Rattle.pc_diagram.specs.Choices.{is_chosen, without}
use Rattle.pc_diagram.specs.Diagram.{IsCanonical}
use Rattle.pc_diagram.specs.Fitting.{fitting}
use Rattle.pc_diagram.specs.Least.{least_cost}
use Rattle.pc_diagram.specs.Listing.{listing, value_count}
use Rattle.pc_diagram.specs.Paths.{words}
use Rattle.pc_build.specs.declared.version.Version.{Version}
use Rattle.pc_build.proofs.VersionLemmas.{listing_of_version}
use Rattle.pc_calls.specs.declared.outcome.Outcome.TheVariants as outcome
use Rattle.pc_calls.specs.Decision.{Decision, ◌>>=◌, ◌>>◌, refused_by, refused_where}
use Rattle.pc_calls.specs.LabelLimit.{label_limit}
use Rattle.pc_calls.specs.Selection.{Selection, bound_at, choose_at, fitting_words, is_in, least_fitting, retract_at, shown, unbound_at, unless_limited, with_bound, with_choice, without_choice}
use Rattle.pc_domains.specs.declared.board.Board.{Board}
use Rattle.pc_domains.specs.declared.board_fault.BoardFault.{BoardFault}
use Rattle.pc_domains.specs.declared.board_fault.BoardFault.TheVariants as fault
use Rattle.pc_domains.specs.BoardFaults.{IsBoardFault}
use Rattle.pc_domains.specs.Boards.{IsBoardOf}
use Rattle.pc_domains.specs.LabelLimits.{limit_under}
use Rattle.pc_domains.specs.Sides.{listed_of}
use Rattle.pc_session.specs.declared.next.Next.{Next}
use Rattle.pc_session.specs.declared.next.Next.TheVariants.{Same, Moved, Refused}
use Rattle.pc_session.specs.Next.{IsLimitOf, IsMovedTo, IsNext, answer_by, asked_by, board_by}
use Rattle.pc_session.specs.Visit.{Visit, session_answer, visit_after}
use Rattle.pc_session.proofs.Limits.{limit_of_file}
use Rattle.pc_session.proofs.ListedLemmas.{in_listing}

-- what is asked is done
abbrev ok : Selection → Decision Selection
ok asked = Ok asked

-- what is asked stands where there is no limit
pub limited_by : (limit : Option (Side × ℕ)) (asked : Selection) → limit ≡ None → (refused_by limit (λ l. outcome.LabelLimit l.0 l.1) >> ok asked) ≡ Ok asked
limited_by None asked h = refl
limited_by (Some l) asked h = absurd cc

-- costs are of the variables and values of their domains
inside_costs : (costs : List (List CostPair)) (domains : List ℕ) (variable : ℕ) → map length costs ≡ domains → variable < length domains → variable < length costs
inside_costs costs domains variable pairs inside = let many = length-map costs length in omega (arith, ap length pairs)

below_costs : (costs : List (List CostPair)) (domains : List ℕ) (variable value : ℕ) → map length costs ≡ domains → variable < length costs → value < get_or domains variable 0 → value < value_count costs variable
below_costs costs domains variable value pairs inside below = omega (arith, get_or-map length costs variable [] 0 inside, ap (λ (ds : List ℕ). get_or ds variable 0) pairs, below)

module _ (version : Version) where
  -- a board's listing is the session's
  pub shows : (board : Board) (rows : List (List Listed)) → rows ≡ listing version.costs (words version.diagram) board.choices board.bounds → rows ≡ shown version.file (asked_by board)
  unfolding shown
  shows board rows h = h ∙ listing_of_version version.file (words version.diagram) version.costs board.choices board.bounds version.words version.priced

  pub shows_all : {E : Type 0} (board : Board) (result : Result (List (List Listed)) E) → IfOk result (λ rows. rows ≡ listing version.costs (words version.diagram) board.choices board.bounds) → IfOk result (λ rows. rows ≡ shown version.file (asked_by board))
  shows_all board (Ok rows) h = shows board rows h
  shows_all board (Err e) h = tt

  pub limit_is : IsCanonical version.diagram → (choices : List Choice) (bounds : Bounds) → limit_under version.diagram version.costs choices bounds.second ≡ label_limit version.file choices bounds
  limit_is canonical = limit_of_file version.file version.diagram canonical version.domains version.words version.costs version.priced

  -- no limit stands of what a board asks
  pub within : (board : Board) → IsBoardOf version.diagram version.costs board → label_limit version.file board.choices board.bounds ≡ None
  within board is = sym (limit_is is.canonical board.choices board.bounds) ∙ is.within

  pub same_asked : (board : Board) (asked : Selection) → board.choices ≡ asked.choices → board.bounds ≡ asked.bounds → asked_by board ≡ asked
  same_asked board asked choices bounds = λ i. record { choices = choices i; bounds = bounds i }

  pub asked_stands : (board : Board) → IsBoardOf version.diagram version.costs board → unless_limited version.file (asked_by board) ≡ Ok (asked_by board)
  asked_stands board is = limited_by (label_limit version.file board.choices board.bounds) (asked_by board) (within board is)

  pub asked_moves : (board : Board) (asked : Selection) → IsBoardOf version.diagram version.costs board → board.choices ≡ asked.choices → board.bounds ≡ asked.bounds → unless_limited version.file asked ≡ Ok (asked_by board)
  asked_moves board asked is choices bounds =
      subst (λ s. unless_limited version.file s ≡ Ok (asked_by board)) (same_asked board asked choices bounds) (asked_stands board is)

  pub asked_limited : IsCanonical version.diagram → (asked : Selection) (side : Side) (layer : ℕ) → limit_under version.diagram version.costs asked.choices asked.bounds.second ≡ Some (side, layer) → unless_limited version.file asked ≡ Err (outcome.LabelLimit side layer)
  asked_limited canonical asked side layer h =
      ap (λ l. refused_by l (λ l. outcome.LabelLimit l.0 l.1) >> ok asked) (sym (limit_is canonical asked.choices asked.bounds) ∙ h)

  -- ---- what follows a board that was asked for

  pub moved_is : {E : Type 0} (before : Selection) (decision : Decision Selection) (board : Board) (result : Result Next E) → IsBoardOf version.diagram version.costs board → decision ≡ Ok (asked_by board) → IfOk result (IsMovedTo version board) → IfOk result (IsNext version before decision)
  moved_is before decision board (Ok (Same rows)) is gives h = absurd h
  moved_is before decision board (Ok (Moved moved rows)) is gives h =
      (subst (IsBoardOf version.diagram version.costs) (sym h.0) is, gives ∙ ap (λ b. Ok (asked_by b)) (sym h.0), h.1 ∙ ap (λ b. shown version.file (asked_by b)) (sym h.0))
  moved_is before decision board (Ok (Refused refusal)) is gives h = absurd h
  moved_is before decision board (Err e) is gives h = tt

  pub limited_is : {E : Type 0} (before asked : Selection) (decision : Decision Selection) (board_fault : BoardFault) (result : Result Next E) → IsCanonical version.diagram
      → ((side : Side) (layer : ℕ) → unless_limited version.file asked ≡ Err (outcome.LabelLimit side layer) → decision ≡ Err (outcome.LabelLimit side layer))
      → IsBoardFault version.diagram version.costs asked.choices asked.bounds board_fault → IfOk result (IsLimitOf board_fault) → IfOk result (IsNext version before decision)
  limited_is before asked decision (fault.LabelLimit side layer) (Ok next) canonical gives tells h =
      subst (IsNext version before decision) (sym h) (gives side layer (asked_limited canonical asked side layer tells))
  limited_is before asked decision fault.NoFit (Ok next) canonical gives tells h = absurd h
  limited_is before asked decision fault.NoMemory (Ok next) canonical gives tells h = absurd h
  limited_is before asked decision board_fault (Err e) canonical gives tells h = tt

  -- ---- choose and retract

  module _ (board : Board) (is : IsBoardOf version.diagram version.costs board) (variable value : ℕ) (inside : variable < length version.diagram.domains) (below : value < get_or version.diagram.domains variable 0) where
    listed_at : (listed : Bool) → listed ≡ is_some (listed_of version.diagram version.costs board.choices board.bounds variable value) → is_in (shown version.file (asked_by board)) variable value ≡ listed
    listed_at listed h =
        ap (λ rows. is_in rows variable value) (sym (shows board (listing version.costs (words version.diagram) board.choices board.bounds) refl))
        ∙ in_listing version.costs (words version.diagram) board.choices board.bounds variable value (inside_costs version.costs version.diagram.domains variable is.costs_of.pairs inside)
        (below_costs version.costs version.diagram.domains variable value is.costs_of.pairs (inside_costs version.costs version.diagram.domains variable is.costs_of.pairs inside) below)
        ∙ sym h

    pub unlisted_is : false ≡ is_some (listed_of version.diagram version.costs board.choices board.bounds variable value) → choose_at variable value version.file (asked_by board) ≡ Err outcome.NotListed
    unfolding choose_at
    unlisted_is h = ap (λ b. refused_where (not b) outcome.NotListed >> unless_limited version.file (with_choice (asked_by board) variable value)) (listed_at false h)

    listed_is : true ≡ is_some (listed_of version.diagram version.costs board.choices board.bounds variable value) → choose_at variable value version.file (asked_by board) ≡ unless_limited version.file (with_choice (asked_by board) variable value)
    unfolding choose_at
    listed_is h = ap (λ b. refused_where (not b) outcome.NotListed >> unless_limited version.file (with_choice (asked_by board) variable value)) (listed_at true h)

    pub chosen_is : true ≡ is_some (listed_of version.diagram version.costs board.choices board.bounds variable value) → is_chosen board.choices variable ≡ true → choose_at variable value version.file (asked_by board) ≡ Ok (asked_by board)
    chosen_is h chosen =
        listed_is h
        ∙ ap (λ b. unless_limited version.file (if b then asked_by board else record { choices = board.choices ++ record { variable = variable; value = value } ∷ []; bounds = board.bounds })) chosen
        ∙ asked_stands board is

    pub choosing_is : true ≡ is_some (listed_of version.diagram version.costs board.choices board.bounds variable value) → is_chosen board.choices variable ≡ false
        → choose_at variable value version.file (asked_by board) ≡ unless_limited version.file (record { choices = board.choices ++ record { variable = variable; value = value } ∷ []; bounds = board.bounds })
    choosing_is h free =
        listed_is h
        ∙ ap (λ b. unless_limited version.file (if b then asked_by board else record { choices = board.choices ++ record { variable = variable; value = value } ∷ []; bounds = board.bounds })) free

  pub not_chosen_is : (board : Board) (variable : ℕ) → is_chosen board.choices variable ≡ false → retract_at variable version.file (asked_by board) ≡ Err outcome.NotChosen
  unfolding retract_at
  not_chosen_is board variable free = ap (λ b. refused_where (not b) outcome.NotChosen >> unless_limited version.file (without_choice (asked_by board) variable)) free

  pub retracting_is : (board : Board) (variable : ℕ) → is_chosen board.choices variable ≡ true
      → retract_at variable version.file (asked_by board) ≡ unless_limited version.file (record { choices = without board.choices variable; bounds = board.bounds })
  unfolding retract_at
  retracting_is board variable chosen = ap (λ b. refused_where (not b) outcome.NotChosen >> unless_limited version.file (without_choice (asked_by board) variable)) chosen

  -- ---- bound and unbound

  fitting_is : (choices : List Choice) (bounds : Bounds) → fitting version.costs (words version.diagram) choices bounds ≡ fitting_words version.file (record { choices = choices; bounds = bounds })
  unfolding fitting_words
  fitting_is choices bounds = λ i. fitting (version.priced i) (version.words i) choices bounds

  pub none_fits : (asked : Selection) → fitting version.costs (words version.diagram) asked.choices asked.bounds ≡ [] → fitting_words version.file asked ≡ []
  none_fits asked h = sym (fitting_is asked.choices asked.bounds) ∙ h

  -- some word fits what a board asks
  pub some_fit : (board : Board) → IsBoardOf version.diagram version.costs board → (length (fitting_words version.file (asked_by board)) == 0) ≡ false
  some_fit board is = some_length (fitting_words version.file (asked_by board)) (λ e. is.fits (fitting_is board.choices board.bounds ∙ e))
    where
      some_length : (l : List (List ℕ)) → l ≢ [] → (length l == 0) ≡ false
      some_length [] h = absurd (h refl)
      some_length (x ∷ xs) h = grind (arith, nat_tests)

  pub no_limit : IsCanonical version.diagram → (asked : Selection) → limit_under version.diagram version.costs asked.choices asked.bounds.second ≡ None → label_limit version.file asked.choices asked.bounds ≡ None
  no_limit canonical asked h = sym (limit_is canonical asked.choices asked.bounds) ∙ h

  pub bound_moves : (before : Selection) (which : Which) (most : ℤ) (board : Board) → IsBoardOf version.diagram version.costs board → asked_by board ≡ with_bound which (Some most) before → bound_at which most version.file before ≡ Ok (asked_by board)
  unfolding bound_at
  bound_moves before which most board is asked =
      ap (λ d. d >>= (λ (s : Selection). refused_where (length (fitting_words version.file s) == 0) (outcome.TooTight (least_fitting which version.file (with_bound which None before))) >> ok s))
      (subst (λ s. unless_limited version.file s ≡ Ok (asked_by board)) asked (asked_stands board is))
      ∙ ap (λ b. refused_where b (outcome.TooTight (least_fitting which version.file (with_bound which None before))) >> ok (asked_by board)) (some_fit board is)

  pub bound_limited : (before : Selection) (which : Which) (most : ℤ) (side : Side) (layer : ℕ) → unless_limited version.file (with_bound which (Some most) before) ≡ Err (outcome.LabelLimit side layer) → bound_at which most version.file before ≡ Err (outcome.LabelLimit side layer)
  unfolding bound_at
  bound_limited before which most side layer h =
      ap (λ d. d >>= (λ (s : Selection). refused_where (length (fitting_words version.file s) == 0) (outcome.TooTight (least_fitting which version.file (with_bound which None before))) >> ok s)) h

  pub too_tight_is : (board : Board) (which : Which) (most : ℤ) (least : Option ℤ) (told : ℤ) → label_limit version.file board.choices (with_bound_on which (Some most) board.bounds) ≡ None
      → fitting_words version.file (with_bound which (Some most) (asked_by board)) ≡ []
      → least ≡ least_cost which version.costs (fitting version.costs (words version.diagram) board.choices (with_bound_on which None board.bounds)) → told ≡ unwrap_or least (pos 0)
      → bound_at which most version.file (asked_by board) ≡ Err (outcome.TooTight told)
  unfolding bound_at
  too_tight_is board which most least told limit none is tells =
      let asked : Selection = with_bound which (Some most) (asked_by board) in
      let others : Bounds = with_bound_on which None board.bounds in
      ap (λ d. d >>= (λ (s : Selection). refused_where (length (fitting_words version.file s) == 0) (outcome.TooTight (least_fitting which version.file (with_bound which None (asked_by board)))) >> ok s))
      (limited_by (label_limit version.file asked.choices asked.bounds) asked limit)
      ∙ ap (λ (l : List (List ℕ)). refused_where (length l == 0) (outcome.TooTight (least_fitting which version.file (with_bound which None (asked_by board)))) >> ok asked) none
      ∙ ap (λ (o : Option ℤ). Err (outcome.TooTight (unwrap_or o (pos 0)))) (sym (is ∙ (λ i. least_cost which (version.priced i) (fitting_is board.choices others i))))
      ∙ ap (λ z. Err (outcome.TooTight z)) (sym tells)

  pub not_bounded_is : (before : Selection) (which : Which) → is_some (bound_on which before.bounds) ≡ false → unbound_at which version.file before ≡ Err outcome.NotBounded
  unfolding unbound_at
  not_bounded_is before which free = ap (λ b. refused_where (not b) outcome.NotBounded >> ok (with_bound which None before)) free

  pub unbound_moves : (before : Selection) (which : Which) (board : Board) → is_some (bound_on which before.bounds) ≡ true → asked_by board ≡ with_bound which None before → unbound_at which version.file before ≡ Ok (asked_by board)
  unfolding unbound_at
  unbound_moves before which board bounded asked =
      ap (λ b. refused_where (not b) outcome.NotBounded >> ok (with_bound which None before)) bounded ∙ ap Ok (sym asked)

-- ---- what is answered

pub answers_next : (version : Version) (before : Selection) (decision : Decision Selection) (next : Next) → IsNext version before decision next → answer_by next ≡ session_answer version.file decision
answers_next version before decision (Same rows) h = (λ i. record { outcome = outcome.Done; listing = Some (h.1 i) }) ∙ ap (session_answer version.file) (sym h.0)
answers_next version before decision (Moved board rows) h = (λ i. record { outcome = outcome.Done; listing = Some (h.2 i) }) ∙ ap (session_answer version.file) (sym h.1)
answers_next version before decision (Refused refusal) h = ap (session_answer version.file) (sym h)

pub board_next : (version : Version) (board : Board) (decision : Decision Selection) (next : Next) → IsBoardOf version.diagram version.costs board → IsNext version (asked_by board) decision next → IsBoardOf version.diagram version.costs (board_by board next)
board_next version board decision (Same rows) is h = is
board_next version board decision (Moved moved rows) is h = h.0
board_next version board decision (Refused refusal) is h = is

-- a session over a version
abbrev visit_of : ℕ → ℕ → Version → Selection → Visit
visit_of number version_number version selection = record { number = number; version = version_number; file = version.file; selection = selection }

pub visit_next : (number version_number : ℕ) (version : Version) (board : Board) (decision : Decision Selection) (next : Next) → IsNext version (asked_by board) decision next
    → visit_of number version_number version (asked_by (board_by board next)) ≡ visit_after (visit_of number version_number version (asked_by board)) decision
visit_next number version_number version board decision (Same rows) h = ap (visit_after (visit_of number version_number version (asked_by board))) (sym h.0)
visit_next number version_number version board decision (Moved moved rows) h = ap (visit_after (visit_of number version_number version (asked_by board))) (sym h.1)
visit_next number version_number version board decision (Refused refusal) h = ap (visit_after (visit_of number version_number version (asked_by board))) (sym h)
