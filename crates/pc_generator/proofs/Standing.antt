-- What the calls of a book come to for the generator's caller.
use Rattle.std.proofs.Common.{◌≡◌, ℕ, List, [], ◌∷◌, ◌++◌, All, refl, sym, subst, ap, ◌∙◌}
use Rattle.std.specs.Prelude.{Result, Ok, Err, IfOk}
use Rattle.std.proofs.lemmas.List.{append-nil}
use Rattle.std.proofs.lemmas.List.Elements.{All-head, All-tail}
use Rattle.pc_file.specs.Contents.{Contents}
use Rattle.pc_calls.specs.declared.call.Call.{Call}
use Rattle.pc_calls.specs.declared.call.Call.TheVariants.{Enter, Open, Publish}
use Rattle.pc_calls.specs.declared.entry.Entry.{Entry}
use Rattle.pc_calls.specs.declared.reply.Reply.{Reply}
use Rattle.pc_calls.specs.Heads.{reply}
use Rattle.pc_calls.specs.History.{after_entries, entry_of, state_after}
use Rattle.pc_calls.specs.State.{State, empty}
use Rattle.pc_calls.specs.Step.{after}
use Rattle.pc_book.specs.Book.{Shares, history_of, next_caller, state_of_book}
use Rattle.pc_book.specs.Own.{IsLocalOf, OwnPart, Serves, StandsAfter, state_with}
use Rattle.pc_book.proofs.BookLemmas.{history-more}
use Rattle.pc_book.proofs.OwnLemmas.{after-more}
use Rattle.pc_generator.specs.Answers.{AreAnswers}
use Rattle.pc_generator.specs.GeneratedFile.{generated}
use Rattle.pc_generator.specs.GeneratorCalls.{after_calls, bound_days, bound_price, generator_caller, opening, publishing, reply_after}
use Rattle.pc_generator.specs.Standing.{IsAt, IsCalled}

-- the caller's number and state in place of those of its part
module _ (said : Call) (blocks : List (List Entry)) (own : OwnPart) (state : State) (at : IsAt state blocks own) where
  after-at : after own.number said (state_with (history_of blocks) own) ≡ after generator_caller said state
  after-at = ap (λ n. after n said (state_with (history_of blocks) own)) at.number ∙ ap (after generator_caller said) at.state_is

  reply-at : reply own.number said (state_with (history_of blocks) own) ≡ reply generator_caller said state
  reply-at = ap (λ n. reply n said (state_with (history_of blocks) own)) at.number ∙ ap (reply generator_caller said) at.state_is

-- a call that others see
pub shared : (said : Call) (before later : List (List Entry)) (own own_later : OwnPart) (answer : Reply) → Shares said before later own own_later answer → IsCalled said before own later own_later answer
shared said before later own own_later answer shares state at =
    let entry = entry_of (state_with (history_of before) own) own.number said in
    let written : history_of later ≡ history_of before ++ (own.pending ++ entry ∷ []) = ap history_of shares.appended ∙ history-more before (own.pending ++ entry ∷ []) in
    let is : state_with (history_of later) own_later ≡ after own.number said (state_with (history_of before) own) =
    ap (λ entries. state_after (history_of later ++ entries)) shares.spent ∙ ap state_after (append-nil (history_of later)) ∙ ap state_after written ∙ after-more (history_of before) own.pending entry in (
      record { number = shares.same_number ∙ at.number; stands = shares.stands; state_is = is ∙ after-at said before own state at },
      shares.answer ∙ reply-at said before own state at,
    )

last-of : {A : Type 0} (P : A → Type 0) (xs : List A) (x : A) → All P (xs ++ x ∷ []) → P x
last-of P [] x all = All-head P x [] all
last-of P (y ∷ xs) x all = last-of P xs x (All-tail P y (xs ++ x ∷ []) all)

-- a call of a session: the entry that waits last tells whose the part is
pub served : (said : Call) (blocks : List (List Entry)) (own own_later : OwnPart) (answer : Reply) → Serves said own own_later answer (history_of blocks) → IsCalled said blocks own blocks own_later answer
served said blocks own own_later answer serves state at =
    let entry = entry_of (state_with (history_of blocks) own) own.number said in
    let is : state_with (history_of blocks) own_later ≡ after own.number said (state_with (history_of blocks) own) =
    ap (λ entries. state_after (history_of blocks ++ entries)) serves.entry ∙ after-more (history_of blocks) own.pending entry in
    let same : own.number ≡ own_later.number = (last-of (IsLocalOf own_later.number) own.pending entry (subst (All (IsLocalOf own_later.number)) serves.entry serves.stands.local)).0 in (
      record { number = sym same ∙ at.number; stands = serves.stands; state_is = is ∙ after-at said blocks own state at },
      serves.answer ∙ reply-at said blocks own state at,
    )

-- the first caller of a new book
pub entered : (before later : List (List Entry)) (own : OwnPart) → before ≡ [] → own ≡ record { number = next_caller before; opened = 0; sessions = []; pending = [] } → later ≡ before ++ (entry_of (state_of_book before) (next_caller before) Enter ∷ []) ∷ [] → StandsAfter (history_of later) own
    → IsAt (after generator_caller Enter empty) later own
unfolding after_entries
entered before later own none is appended stands =
    let part : own ≡ record { number = generator_caller; opened = 0; sessions = []; pending = [] } = is ∙ ap (λ blocks. record { number = next_caller blocks; opened = 0; sessions = []; pending = [] }) none in
    let journal : later ≡ (entry_of empty generator_caller Enter ∷ []) ∷ [] = appended ∙ ap (λ blocks. blocks ++ (entry_of (state_of_book blocks) (next_caller blocks) Enter ∷ []) ∷ []) none in
    record {
      number = ap (λ o. o.number) part;
      stands = stands;
      state_is = ap (λ o. state_with (history_of later) o) part ∙ ap (λ blocks. state_with (history_of blocks) (record { number = generator_caller; opened = 0; sessions = []; pending = [] })) journal;
    }

-- calls after others
after-calls : (state : State) (calls more : List Call) → after_calls state (calls ++ more) ≡ after_calls (after_calls state calls) more
unfolding after_calls
after-calls state [] more = refl
after-calls state (said ∷ calls) more = after-calls (after generator_caller said state) calls more

-- the replies to the calls after the file is published
module _ (calls : List Call) (price_call days_call : Call) (at_first at_second at_third at_last : List (List Entry)) (first second third fourth fifth sixth : OwnPart) (open_answer other another price_answer days_answer : Reply)
    (at : IsAt (after_calls empty calls) at_first first) (opened : IsCalled Open at_first first at_second second open_answer) (opened_again : IsCalled Open at_second second at_third third other) (opened_last : IsCalled Open at_third third at_last fourth another)
    (bounded : IsCalled price_call at_last fourth at_last fifth price_answer) (bounded_again : IsCalled days_call at_last fifth at_last sixth days_answer) where
  abbrev state-opened : State
  state-opened = after generator_caller Open (after generator_caller Open (after generator_caller Open (after_calls empty calls)))

  at-opened : IsAt state-opened at_last fourth
  at-opened = (opened_last _ (opened_again _ (opened _ at).0).0).0

  is-opened : after_calls empty (calls ++ Open ∷ Open ∷ Open ∷ []) ≡ state-opened
  unfolding after_calls
  is-opened = after-calls empty calls (Open ∷ Open ∷ Open ∷ [])

  is-bounded : after_calls empty ((calls ++ Open ∷ Open ∷ Open ∷ []) ++ price_call ∷ []) ≡ after generator_caller price_call state-opened
  unfolding after_calls
  is-bounded = after-calls empty (calls ++ Open ∷ Open ∷ Open ∷ []) (price_call ∷ []) ∙ ap (after generator_caller price_call) is-opened

  pub open-answered : open_answer ≡ reply_after calls Open
  unfolding reply_after
  open-answered = (opened _ at).1

  pub price-answered : price_answer ≡ reply_after (calls ++ Open ∷ Open ∷ Open ∷ []) price_call
  unfolding reply_after
  price-answered = (bounded state-opened at-opened).1 ∙ ap (reply generator_caller price_call) (sym is-opened)

  pub days-answered : days_answer ≡ reply_after ((calls ++ Open ∷ Open ∷ Open ∷ []) ++ price_call ∷ []) days_call
  unfolding reply_after
  days-answered = (bounded_again _ (bounded state-opened at-opened).0).1 ∙ ap (reply generator_caller days_call) (sym is-bounded)

  -- they are those that the summary tells
  pub are-answers : (variables : ℕ) → calls ≡ publishing variables → price_call ≡ bound_price variables → days_call ≡ bound_days variables
      → AreAnswers variables (record { unbounded = open_answer; price_bounded = price_answer; days_bounded = days_answer })
  are-answers variables is is_price is_days = record {
    unbounded = open-answered ∙ ap (λ cs. reply_after cs Open) is;
    price_bounded = price-answered ∙ ap (λ cs. reply_after (cs ++ Open ∷ Open ∷ Open ∷ []) price_call) is ∙ ap (reply_after (opening variables)) is_price;
    days_bounded =
        days-answered ∙ ap (λ cs. reply_after ((cs ++ Open ∷ Open ∷ Open ∷ []) ++ price_call ∷ []) days_call) is
        ∙ ap (λ said. reply_after (opening variables ++ said ∷ []) days_call) is_price ∙ ap (reply_after (opening variables ++ bound_price variables ∷ [])) is_days;
  }

-- ---- for the answers

pub each-shared : {Fault : Type 0} (result : Result Reply Fault) (said : Call) (before later : List (List Entry)) (own own_later : OwnPart) → IfOk result (λ answer. Shares said before later own own_later answer) → IfOk result (IsCalled said before own later own_later)
each-shared (Ok answer) said before later own own_later shares = shared said before later own own_later answer shares
each-shared (Err fault) said before later own own_later shares = tt

pub each-served : {Fault : Type 0} (result : Result Reply Fault) (said : Call) (blocks : List (List Entry)) (own own_later : OwnPart) → StandsAfter (history_of blocks) own
    → IfOk result (λ answer. (history : List Entry) → StandsAfter history own → Serves said own own_later answer history) → IfOk result (IsCalled said blocks own blocks own_later)
each-served (Ok answer) said blocks own own_later stands serves = served said blocks own own_later answer (serves (history_of blocks) stands)
each-served (Err fault) said blocks own own_later stands serves = tt

pub is-published : (variables : ℕ) (file : Contents) (blocks : List (List Entry)) (own : OwnPart) → file ≡ generated variables → IsAt (after generator_caller (Publish 0 file) (after generator_caller Enter empty)) blocks own → IsAt (after_calls empty (publishing variables)) blocks own
unfolding after_calls
is-published variables file blocks own is at = subst (λ f. IsAt (after generator_caller (Publish 0 f) (after generator_caller Enter empty)) blocks own) is at
