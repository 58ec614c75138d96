-- A part of which nothing waits stands whatever others call, and what its own calls come to.
use Rattle.std.proofs.Common.{◌≡◌, List, [], ◌∷◌, ◌++◌, map, false, not, Option, Some, Result, Ok, Err, IfOk, OnErr, All, option_map, sym, ap, subst, ◌∙◌}
use Rattle.std.specs.Prelude.{unwrap_or}
use Rattle.std.proofs.lemmas.List.{append-nil}
use Rattle.pc_base.specs.declared.memory.NoMemory.{NoMemory}
use Rattle.pc_calls.specs.declared.call.Call.{Call}
use Rattle.pc_calls.specs.declared.entry.Entry.{Entry}
use Rattle.pc_calls.specs.declared.reply.Reply.{Reply}
use Rattle.pc_calls.specs.Heads as heads
use Rattle.pc_calls.specs.History.{IsLegal, entry_of, is_present, made, state_after}
use Rattle.pc_calls.specs.OwnedSessions.{sessions_of}
use Rattle.pc_calls.specs.State.{Caller, State, file_of, opened_by}
use Rattle.pc_calls.proofs.OthersLaws.{files_keep, others_leave_caller, others_leave_sessions}
use Rattle.pc_session.specs.Visit.{Visit}
use Rattle.pc_book.specs.Book.{Shares, history_of, state_of_book}
use Rattle.pc_book.specs.Own.{IsPartOf, OwnPart, Serves, StandsAfter, owned_by, state_with}
use Rattle.pc_book.proofs.BookLemmas.{history-more}
use Rattle.pc_script.specs.Present.{IsSettled, Makes, StaysWith}

-- the history with nothing that waits
settled-history : (history : List Entry) (own : OwnPart) → IsSettled own → history ++ own.pending ≡ history
settled-history history own settled = ap (λ (es : List Entry). history ++ es) settled ∙ append-nil history

pub settled-state : (history : List Entry) (own : OwnPart) → IsSettled own → state_with history own ≡ state_after history
settled-state history own settled = ap state_after (settled-history history own settled)

pub settled-legal : (history : List Entry) (own : OwnPart) → IsSettled own → StandsAfter history own → IsLegal history
settled-legal history own settled stands = subst IsLegal (settled-history history own settled) stands.legal

pub others-stand : (history entries : List Entry) (own : OwnPart) → IsSettled own → StandsAfter history own → IsLegal (history ++ entries) → made entries own.number ≡ [] → StandsAfter (history ++ entries) own
others-stand history entries own settled stands legal none =
    let all = history ++ entries in
    let now = settled-state history own settled in
    let then = settled-state all own settled in
    let caller = others_leave_caller history entries own.number legal none in
    record {
      entered =
          ap (λ (s : State). is_present s own.number) then
          ∙ ap (λ (c : Option Caller). unwrap_or (option_map (λ c. not c.left) c) false) caller
          ∙ ap (λ (s : State). is_present s own.number) (sym now) ∙ stands.entered;
      local = stands.local;
      legal = subst IsLegal (sym (settled-history all own settled)) legal;
      part = subst (λ (s : State). IsPartOf s own) (sym then) (record {
        sessions = others_leave_sessions history entries own.number legal none ∙ subst (λ (s : State). sessions_of s own.number ≡ map (owned_by own.number) own.sessions) now stands.part.sessions;
        files = λ i d inside. files_keep history entries _ _ (subst (λ (s : State). All (λ (v : Visit). file_of s v.version ≡ Some v.file) own.sessions) now stands.part.files i d inside);
        opened = ap (λ (c : Option Caller). unwrap_or (option_map (λ c. c.opened) c) 0) caller ∙ subst (λ (s : State). opened_by s own.number ≡ own.opened) now stands.part.opened;
      });
    }

-- ---- the part's own calls

pub shares_makes : (call : Call) (before later : List (List Entry)) (own own_later : OwnPart) (reply : Reply) → IsSettled own → Shares call before later own own_later reply → Makes call before later own own_later reply
shares_makes call before later own own_later reply settled shares =
    let state = settled-state (history_of before) own settled in
    let entry = entry_of (state_with (history_of before) own) own.number call in
    let alone : own.pending ++ entry ∷ [] ≡ entry ∷ [] = ap (λ (es : List Entry). es ++ entry ∷ []) settled in
    let there : entry ∷ [] ≡ entry_of (state_of_book before) own.number call ∷ [] = ap (λ (s : State). entry_of s own.number call ∷ []) state in
    record {
      recorded = ap history_of shares.appended ∙ history-more before (own.pending ++ entry ∷ []) ∙ ap (λ (es : List Entry). history_of before ++ es) (alone ∙ there);
      answer = shares.answer ∙ ap (heads.reply own.number call) state;
      same_number = shares.same_number;
      settled = shares.spent;
      stands = shares.stands;
    }

-- a call of a session, and then what waits goes into the journal
pub serves_makes : (call : Call) (before later : List (List Entry)) (own own_between own_later : OwnPart) (reply : Reply) → IsSettled own → Serves call own own_between reply (history_of before) → own_between.number ≡ own.number
    → later ≡ before ++ own_between.pending ∷ [] → own_later ≡ record { number = own_between.number; opened = own_between.opened; sessions = own_between.sessions; pending = [] } → StandsAfter (history_of later) own_later
    → Makes call before later own own_later reply
serves_makes call before later own own_between own_later reply settled serves same appended part stands =
    let state = settled-state (history_of before) own settled in
    let entry = entry_of (state_with (history_of before) own) own.number call in
    let alone : own_between.pending ≡ entry ∷ [] = serves.entry ∙ ap (λ (es : List Entry). es ++ entry ∷ []) settled in
    let there : entry ∷ [] ≡ entry_of (state_of_book before) own.number call ∷ [] = ap (λ (s : State). entry_of s own.number call ∷ []) state in
    record {
      recorded = ap history_of appended ∙ history-more before own_between.pending ∙ ap (λ (es : List Entry). history_of before ++ es) (alone ∙ there);
      answer = serves.answer ∙ ap (heads.reply own.number call) state;
      same_number = ap (λ (o : OwnPart). o.number) part ∙ same;
      settled = ap (λ (o : OwnPart). o.pending) part;
      stands = stands;
    }

pub stays_as : (before later : List (List Entry)) (own own_later : OwnPart) → StandsAfter (history_of before) own → (later ≡ before) × (own_later ≡ own) → StaysWith before later own own_later
stays_as before later own own_later stands same = record {
  same = same.0;
  same_number = ap (λ (o : OwnPart). o.number) same.1;
  stands = subst (λ (bs : List (List Entry)). StandsAfter (history_of bs) own_later) (sym same.0) (subst (StandsAfter (history_of before)) (sym same.1) stands);
}

-- ---- what the book answers

module _ (call : Call) (before later : List (List Entry)) (own own_later : OwnPart) where
  pub shares_ok : (result : Result Reply NoMemory) → IsSettled own → IfOk result (λ reply. Shares call before later own own_later reply) → IfOk result (Makes call before later own own_later)
  shares_ok (Ok reply) settled shares = shares_makes call before later own own_later reply settled shares
  shares_ok (Err wanted) settled shares = tt

  pub kept_err : (result : Result Reply NoMemory) → StandsAfter (history_of before) own → OnErr result ((later ≡ before) × (own_later ≡ own)) → OnErr result (StaysWith before later own own_later)
  kept_err (Ok reply) stands kept = tt
  kept_err (Err wanted) stands kept = stays_as before later own own_later stands kept
