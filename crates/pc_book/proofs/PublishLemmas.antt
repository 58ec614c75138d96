-- A file becomes the next version.
use Rattle.std.proofs.Common.{◌≡◌, ◌≢◌, ℕ, zero, suc, ◌+◌, ◌<◌, ◌≤◌, ◌==◌, nat_le, Bool, true, false, not, cond, List, [], ◌∷◌, ◌++◌, length, map, count_by, Option, Some, None, Ok, Err, option_map, All, refl, sym, subst, ap, ◌∙◌, arith}
use Rattle.std.specs.Prelude.{unwrap_or}
use Rattle.std.proofs.lemmas.Bool.Decides.{nat_tests}
use Rattle.std.proofs.lemmas.List.{length-map, length_push, map-append}
use Rattle.std.proofs.lemmas.List.Elements.{All-head, All-tail, All-nil, All-cons}
use Rattle.std.proofs.lemmas.List.Sums.{sum_by-cons}
use Rattle.pc_build.specs.declared.version.Version as compiled
use Rattle.pc_file.specs.Contents.{Contents}
use Rattle.pc_file.specs.Full.{full}
use Rattle.pc_file.specs.Parts.{file_node_limit}
use Rattle.pc_calls.specs.declared.call.Call.TheVariants.{Publish}
use Rattle.pc_calls.specs.declared.outcome.Outcome.TheVariants.{Done, NodeLimit, NoProduct, ShelvesFull, Stale}
use Rattle.pc_calls.specs.declared.reply.Reply.{Reply}
use Rattle.pc_calls.specs.Decision.{Decision, ◌>>◌, refused_by, refused_where}
use Rattle.pc_calls.specs.History.{is_present}
use Rattle.pc_calls.specs.OwnedSessions.{sessions_of}
use Rattle.pc_calls.specs.State.{OpenSession, State, Version, current, file_of, live_versions, numbered, opened_by, pins}
use Rattle.pc_calls.specs.Step.{after, state_of, step}
use Rattle.pc_calls.proofs.StepLaws.{keeps_file}
use Rattle.pc_session.specs.Visit.{Visit}
use Rattle.pc_book.specs.Book.{IsKeptOf}
use Rattle.pc_book.specs.Own.{OwnPart}
use Rattle.pc_book.specs.Sharing.{Brings, IsSeen}
use Rattle.pc_book.specs.Shelves.{Shelved, shelved, shelves_from, shelves_of}
use Rattle.pc_book.specs.Visits.{plain_head}
use Rattle.pc_book.specs.declared.shelf.Shelf.{Shelf}
use Rattle.pc_book.proofs.SharingLemmas.{refused-brings, reply_of}

-- ---- the shelves of a state

-- as many as versions are live
live-count : (count : ℕ → ℕ) (first : ℕ) (versions : List Version) → count_by (λ (v : Version). v.live) versions ≡ length (shelves_from count first versions)
live-count count first [] = refl
live-count count first (v ∷ versions) =
    sum_by-cons (λ (w : Version). cond w.live 1 0) v versions
    ∙ elim v.live as (λ b. cond b 1 0 + count_by (λ (w : Version). w.live) versions ≡ length (cond b (record { number = first; file = v.file; pins = count first } ∷ shelves_from count (suc first) versions) (shelves_from count (suc first) versions))) [
      | true ↦ omega (arith, live-count count (suc first) versions)
      | false ↦ omega (arith, live-count count (suc first) versions)
    ]

-- with one more
shelves-push : (count : ℕ → ℕ) (first : ℕ) (versions : List Version) (file : Contents) (number : ℕ) → number ≡ first + length versions
    → shelves_from count first (versions ++ record { file = file; live = true } ∷ []) ≡ shelves_from count first versions ++ record { number = number; file = file; pins = count number } ∷ []
shelves-push count first [] file number is =
    let here : first ≡ number = omega (arith, is) in
    ap (λ (n : ℕ). record { number = n; file = file; pins = count n } ∷ []) here
shelves-push count first (v ∷ versions) file number is =
    let rest = shelves-push count (suc first) versions file number (omega (arith, is)) in
    elim v.live as (λ b. cond b (record { number = first; file = v.file; pins = count first } ∷ shelves_from count (suc first) (versions ++ record { file = file; live = true } ∷ [])) (shelves_from count (suc first) (versions ++ record { file = file; live = true } ∷ []))
    ≡ cond b (record { number = first; file = v.file; pins = count first } ∷ shelves_from count (suc first) versions) (shelves_from count (suc first) versions) ++ record { number = number; file = file; pins = count number } ∷ []) [
      | true ↦ ap (λ (ss : List Shelved). record { number = first; file = v.file; pins = count first } ∷ ss) rest
      | false ↦ rest
    ]

-- what is live was published
live-known : (versions : List Version) (version : ℕ) (found : Option Version) → numbered versions version ≡ found → unwrap_or (option_map (λ (v : Version). v.live) found) false ≡ true → version ≤ length versions
live-known versions version None is live = absurd cc
live-known versions zero (Some v) is live = absurd cc
live-known [] (suc place) (Some v) is live = absurd cc
live-known (w ∷ versions) (suc zero) (Some v) is live = omega arith
live-known (w ∷ versions) (suc (suc place)) (Some v) is live = let rest = live-known versions (suc place) (Some v) is live in omega (arith, rest)

-- no session is at a version that wasn't published yet
none-pinned : (versions : List Version) (number : ℕ) → number ≡ length versions + 1 → (sessions : List OpenSession) → All (λ s. unwrap_or (option_map (λ (v : Version). v.live) (numbered versions s.version)) false ≡ true) sessions → count_by (λ (s : OpenSession). s.version == number) sessions ≡ 0
none-pinned versions number is [] live = refl
none-pinned versions number is (s ∷ sessions) live =
    let lives = λ (t : OpenSession). unwrap_or (option_map (λ (v : Version). v.live) (numbered versions t.version)) false ≡ true in
    let known : s.version ≤ length versions = live-known versions s.version (numbered versions s.version) refl (All-head lives s sessions live) in
    let other : (s.version == number) ≡ false = grind (arith, nat_tests, known, is) in
    let counted = sum_by-cons (λ (t : OpenSession). cond (t.version == number) 1 0) s sessions ∙ ap (λ b. cond b 1 0 + count_by (λ (t : OpenSession). t.version == number) sessions) other in
    omega (arith, counted, none-pinned versions number is sessions (All-tail lives s sessions live))

files-later : (before later : State) → ((version : ℕ) (file : Contents) → file_of before version ≡ Some file → file_of later version ≡ Some file) → (visits : List Visit) → All (λ (v : Visit). file_of before v.version ≡ Some v.file) visits → All (λ (v : Visit). file_of later v.version ≡ Some v.file) visits
files-later before later keeps [] all = All-nil (λ (v : Visit). file_of later v.version ≡ Some v.file)
files-later before later keeps (visit ∷ visits) all =
    All-cons (λ (v : Visit). file_of later v.version ≡ Some v.file) visit visits (keeps visit.version visit.file (All-head (λ (v : Visit). file_of before v.version ≡ Some v.file) visit visits all))
    (files-later before later keeps visits (All-tail (λ (v : Visit). file_of before v.version ≡ Some v.file) visit visits all))

-- ---- the ends of a publish

abbrev published : State → Contents → State
published state file = record { versions = state.versions ++ record { file = file; live = true } ∷ []; callers = state.callers; sessions = state.sessions }

abbrev publish_by : State → Contents → ℕ → Option (ℕ × ℕ) → Bool → Bool → Bool → Decision State
publish_by state file now limit none other filled =
    refused_by limit (λ l. NodeLimit l.0 l.1) >> (refused_where none NoProduct >> (refused_where other (Stale now) >> (refused_where filled ShelvesFull >> Ok (published state file))))

some-words : (words : List (List ℕ)) → words ≢ [] → (length words == 0) ≡ false
some-words [] some = absurd (some refl)
some-words (word ∷ words) some = let t : (length (word ∷ words) == 0) ≡ false = grind (arith, nat_tests) in t

module _ (state : State) (own : OwnPart) (shelves : List Shelf) (entered present now base : ℕ) (file : Contents) (seen : IsSeen state own (map shelved shelves) entered present now) where
  abbrev none_fits : Bool
  none_fits = length (full file) == 0

  abbrev is_stale : Bool
  is_stale = not (base == current state)

  abbrev is_filled : Bool
  is_filled = nat_le 32 (live_versions state)

  abbrev by_limit : Option (ℕ × ℕ) → Decision State
  by_limit limit = publish_by state file (current state) limit none_fits is_stale is_filled

  -- too large a set
  pub publish-limit : (rule part : ℕ) (answer : Reply) → file_node_limit file ≡ Some (rule, part) → answer ≡ record { head = plain_head 0 0 (NodeLimit rule part); shown = None } → Brings (Publish base file) state own own answer (map shelved shelves) entered present now
  publish-limit rule part answer limit is = refused-brings state own (map shelved shelves) entered present now seen (Publish base file) (NodeLimit rule part) answer (ap by_limit limit) is

  -- no product
  pub publish-none : (answer : Reply) → file_node_limit file ≡ None → full file ≡ [] → answer ≡ record { head = plain_head 0 0 NoProduct; shown = None } → Brings (Publish base file) state own own answer (map shelved shelves) entered present now
  publish-none answer small none is =
      refused-brings state own (map shelved shelves) entered present now seen (Publish base file) NoProduct answer
      (ap by_limit small ∙ ap (λ (words : List (List ℕ)). publish_by state file (current state) None (length words == 0) is_stale is_filled) none) is

  module _ (small : file_node_limit file ≡ None) (some : full file ≢ []) where
    fits : step own.number (Publish base file) state ≡ publish_by state file (current state) None false (not (base == current state)) (nat_le 32 (live_versions state))
    fits = ap by_limit small ∙ ap (λ (b : Bool). publish_by state file (current state) None b is_stale is_filled) (some-words (full file) some)

    -- over another version than the current one
    pub publish-stale : (answer : Reply) → (base ≡ now → ⊥) → answer ≡ record { head = plain_head 0 0 (Stale now); shown = None } → Brings (Publish base file) state own own answer (map shelved shelves) entered present now
    publish-stale answer differs is =
        let at : now ≡ length state.versions = seen.kept.current_is in
        let other : (base == now) ≡ false = (elim (base == now) as (λ b. (base == now) ≡ b → b ≡ false) [
          | true ↦ (λ e. let same : base ≡ now = grind (arith, nat_tests, e) in absurd (differs same))
          | false ↦ (λ e. refl)
        ]) refl in
        let turned : not (base == current state) ≡ true = ap (λ (n : ℕ). not (base == n)) (sym at) ∙ ap not other in
        refused-brings state own (map shelved shelves) entered present now seen (Publish base file) (Stale now) answer
        (fits ∙ ap (λ (b : Bool). publish_by state file (current state) None false b is_filled) turned ∙ ap (λ (n : ℕ). Err (Stale n)) (sym at)) is

    module _ (same : base ≡ now) where
      fresh : step own.number (Publish base file) state ≡ publish_by state file (current state) None false false (nat_le 32 (live_versions state))
      fresh =
          let at : now ≡ length state.versions = seen.kept.current_is in
          let test : (base == current state) ≡ true = grind (arith, nat_tests, same, at) in
          fits ∙ ap (λ (b : Bool). publish_by state file (current state) None false (not b) is_filled) test

      counted : live_versions state ≡ length shelves
      counted = live-count (pins state) 1 state.versions ∙ ap length (sym seen.kept.shelves_are) ∙ length-map shelves shelved

      -- with as many live versions as may be
      pub publish-full : (answer : Reply) → 32 ≤ length shelves → answer ≡ record { head = plain_head 0 0 ShelvesFull; shown = None } → Brings (Publish base file) state own own answer (map shelved shelves) entered present now
      publish-full answer many is =
          let count = counted in
          let test : nat_le 32 (live_versions state) ≡ true = grind (arith, nat_tests, count, many) in
          refused-brings state own (map shelved shelves) entered present now seen (Publish base file) ShelvesFull answer (fresh ∙ ap (λ (b : Bool). publish_by state file (current state) None false false b) test) is

      module _ (few : length shelves < 32) where
        gives : step own.number (Publish base file) state ≡ Ok (published state file)
        gives =
            let count = counted in
            let test : nat_le 32 (live_versions state) ≡ false = grind (arith, nat_tests, count, few) in
            fresh ∙ ap (λ (b : Bool). publish_by state file (current state) None false false b) test

        becomes : after own.number (Publish base file) state ≡ published state file
        becomes = ap (state_of state) gives

        grown : length (state.versions ++ record { file = file; live = true } ∷ []) ≡ now + 1
        grown = length_push state.versions (record { file = file; live = true }) ∙ ap (λ (n : ℕ). n + 1) (sym seen.kept.current_is)

        -- the next version
        pub publish-done : (answer : Reply) (shelves_later : List Shelf) (version : compiled.Version) → answer ≡ record { head = plain_head 0 (now + 1) Done; shown = None }
            → version.file ≡ file → shelves_later ≡ shelves ++ record { number = now + 1; version = version; pins = 0 } ∷ []
            → Brings (Publish base file) state own own answer (map shelved shelves_later) entered present (now + 1)
        publish-done answer shelves_later version is file_is shelves_are =
            let at : now ≡ length state.versions = seen.kept.current_is in
            let number : now + 1 ≡ 1 + length state.versions = omega (arith, at) in
            let free : pins state (now + 1) ≡ 0 = none-pinned state.versions (now + 1) (omega (arith, at)) state.sessions seen.sound.sessions_live in
            record {
              answer = is ∙ ap (λ (n : ℕ). record { head = plain_head 0 n Done; shown = None }) (sym grown) ∙ sym (ap (reply_of own.number (Publish base file) state) gives);
              same_number = refl;
              same_pending = refl;
              there = ap (λ s. is_present s own.number) becomes ∙ seen.there;
              part = record {
                sessions = ap (λ (s : State). sessions_of s own.number) becomes ∙ seen.part.sessions;
                files = files-later state (after own.number (Publish base file) state) (keeps_file own.number (Publish base file) state) own.sessions seen.part.files;
                opened = ap (λ (s : State). opened_by s own.number) becomes ∙ seen.part.opened;
              };
              kept = subst (λ s. IsKeptOf s (map shelved shelves_later) entered present (now + 1)) (sym becomes) (record {
                shelves_are =
                    ap (map shelved) shelves_are
                    ∙ map-append shelved shelves (record { number = now + 1; version = version; pins = 0 } ∷ [])
                    ∙ ap (λ (ss : List Shelved). ss ++ record { number = now + 1; file = version.file; pins = 0 } ∷ []) seen.kept.shelves_are
                    ∙ ap (λ (f : Contents). shelves_of state ++ record { number = now + 1; file = f; pins = 0 } ∷ []) file_is
                    ∙ ap (λ (n : ℕ). shelves_of state ++ record { number = now + 1; file = file; pins = n } ∷ []) (sym free)
                    ∙ sym (shelves-push (pins state) 1 state.versions file (now + 1) number);
                entered_are = seen.kept.entered_are;
                present_are = seen.kept.present_are;
                current_is = sym grown;
              });
            }
