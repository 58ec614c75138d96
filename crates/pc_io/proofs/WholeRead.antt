-- What reading a source to its end keeps from line to line.
use Rattle.std.proofs.Common.{◌≡◌, ℕ, ◌+◌, ◌-◌, ◌<◌, ◌≤◌, ◌||◌, true, false, List, [], ◌++◌, length, Option, Some, None, Ok, Err, IsTrue, IfSome, refl, sym, ap, ◌∙◌, arith, length-append, append_assoc}
use Rattle.std.specs.List.{list_any}
use Rattle.std.specs.Io.KnownBytes.{IsAtEnd, prepend_known}
use Rattle.std.proofs.lemmas.Bool.{both_ways, false_from_ne_true, or_right}
use Rattle.std.proofs.lemmas.List.{append-nil}
use Rattle.pc_io.specs.declared.line_fault.LineFault.{LineFault}
use Rattle.pc_io.specs.Aside.{Aside}
use Rattle.pc_io.specs.Cutter.{Cutter, left_to_give, stream}
use Rattle.pc_io.specs.Limits.{broken_limit, text_or, text_within}
use Rattle.pc_base.specs.Lines.{HasNoFeed, is_feed}
use Rattle.pc_io.specs.NextLine.{answer_to, taken}
use Rattle.pc_io.proofs.LimitSteps.{answer-breaks, broken-nil, broken-step}
use Rattle.pc_io.proofs.Pieces.{prepend_known-append}

-- so far the text was taken of a source that had `rest_then` left
pub record ReadSoFar (line_limit total_limit : ℕ) (text : List ℕ) (l : Cutter) (rest_then rest : Option (List ℕ)) (faults_then faults : ℕ) (aside_then aside : Aside) : Type 0 where
  pub same_line_limit : l.line_limit ≡ line_limit
  pub same_total_limit : l.total_limit ≡ total_limit
  pub no_fault : l.fault ≡ None
  pub given : l.given ≡ length text
  pub within : length text ≤ total_limit
  pub read : rest_then ≡ prepend_known text (stream l rest)
  pub at_end : IsTrue l.ended → IsAtEnd rest
  pub none_kept : IsTrue l.ended → l.kept ≡ []
  -- what comes after the text is judged by what is left of the limits
  pub judged : (later : List ℕ) → (IsTrue l.ended → later ≡ []) → broken_limit line_limit total_limit (text ++ later) ≡ broken_limit line_limit (total_limit - length text) later
  pub faultless : faults ≡ faults_then
  pub same_aside : aside ≡ aside_then

-- a line is never taken after the end was given
open_before : (l m : Cutter) (line : List ℕ) (Same : Type 0) → (IsTrue l.ended → l.kept ≡ []) → ((list_any is_feed l.kept || l.ended) ≡ true → Same × (l.kept ≡ taken (Ok (Some line)) m.ended ++ m.kept))
    → m.given ≡ l.given + length (taken (Ok (Some line)) m.ended) → l.given < m.given → l.ended ≡ false
open_before l m line Same none_kept unread given rises =
    false_from_ne_true l.ended (λ ended.
    let bytes : [] ≡ taken (Ok (Some line)) m.ended ++ m.kept = sym (none_kept ended) ∙ (unread (or_right (list_any is_feed l.kept) l.ended ended)).1 in
    absurd (omega (arith, ap length bytes, length-append (taken (Ok (Some line)) m.ended) m.kept)))

-- one more line
pub read_on : (line_limit total_limit : ℕ) (text line : List ℕ) (l m : Cutter) (rest_then rest mid : Option (List ℕ)) (faults_then faults counted : ℕ) (aside_then aside kept : Aside) (Same : Type 0)
    → ReadSoFar line_limit total_limit text l rest_then rest faults_then faults aside_then aside
    → stream l rest ≡ prepend_known (taken (Ok (Some line)) m.ended) (stream m mid)
    → m.given ≡ l.given + length (taken (Ok (Some line)) m.ended)
    → HasNoFeed line × (length line ≤ l.line_limit)
    → l.given < m.given
    → m.given ≤ m.total_limit
    → (m.line_limit ≡ l.line_limit) × (m.total_limit ≡ l.total_limit)
    → (IsTrue m.ended → m.kept ≡ [])
    → (IsTrue m.ended → IsAtEnd mid)
    → m.fault ≡ None
    → ((list_any is_feed l.kept || l.ended) ≡ true → Same × (l.kept ≡ taken (Ok (Some line)) m.ended ++ m.kept))
    → counted ≡ faults → kept ≡ aside
    → ReadSoFar line_limit total_limit (text ++ taken (Ok (Some line)) m.ended) m rest_then mid faults_then counted aside_then kept
read_on line_limit total_limit text line l m rest_then rest mid faults_then faults counted aside_then aside kept Same before stream_is given fits rises within limits last at_end told unread count same =
    let bytes : List ℕ = taken (Ok (Some line)) m.ended in
    let open_ : l.ended ≡ false = open_before l m line Same before.none_kept unread given rises in
    let size : length (text ++ bytes) ≡ length text + length bytes = length-append text bytes in
    let is_given : m.given ≡ length (text ++ bytes) = omega (arith, size, before.given, given) in
    let room : length (text ++ bytes) ≤ total_limit = omega (arith, is_given, within, limits.1, before.same_total_limit) in
    let short : length line ≤ line_limit = omega (arith, fits.1, before.same_line_limit) in
    let fewer : (total_limit - length text) - length bytes ≡ total_limit - length (text ++ bytes) = omega (arith, size) in
    record {
      same_line_limit = limits.0 ∙ before.same_line_limit;
      same_total_limit = limits.1 ∙ before.same_total_limit;
      no_fault = told;
      given = is_given;
      within = room;
      read = before.read ∙ ap (prepend_known text) stream_is ∙ prepend_known-append (stream m mid) text bytes;
      at_end = at_end;
      none_kept = last;
      judged = λ later none.
          ap (broken_limit line_limit total_limit) (append_assoc text bytes later)
          ∙ before.judged (bytes ++ later) (λ ended. absurd (both_ways l.ended open_ ended))
          ∙ broken-step line_limit (total_limit - length text) line later m.ended fits.0 short (omega (arith, size)) none
          ∙ ap (λ (n : ℕ). broken_limit line_limit n later) fewer;
      faultless = count ∙ before.faultless;
      same_aside = same ∙ before.same_aside;
    }

-- the text keeps the limits
pub kept_limits : (line_limit total_limit : ℕ) (text : List ℕ) (l : Cutter) (rest_then rest : Option (List ℕ)) (faults_then faults : ℕ) (aside_then aside : Aside)
    → ReadSoFar line_limit total_limit text l rest_then rest faults_then faults aside_then aside → broken_limit line_limit total_limit text ≡ None
kept_limits line_limit total_limit text l rest_then rest faults_then faults aside_then aside so_far =
    ap (broken_limit line_limit total_limit) (sym (append-nil text)) ∙ so_far.judged [] (λ _. refl) ∙ broken-nil line_limit (total_limit - length text)

some_same : (x y : List ℕ) → Some x ≡ Some y → x ≡ y
some_same x y e = cc

some_is_none : (x : List ℕ) → Some x ≡ None → ⊥
some_is_none x e = cc

prepend_nil : (told : Option (List ℕ)) → prepend_known [] told ≡ told
prepend_nil None = refl
prepend_nil (Some xs) = refl

-- at the end nothing is left to read
pub all_read : (text : List ℕ) (rest_then rest mid : Option (List ℕ)) (l m : Cutter) → rest_then ≡ prepend_known text (stream l rest) → stream l rest ≡ prepend_known [] (stream m mid) → m.kept ≡ []
    → rest_then ≡ prepend_known text mid
all_read text rest_then rest mid l m read stream_is none =
    read ∙ ap (prepend_known text) (stream_is ∙ prepend_nil (stream m mid) ∙ ap (λ (kept : List ℕ). prepend_known kept mid) none ∙ prepend_nil mid)

-- where the text is all that was told, it is what the limits allow
pub exact_at_end : (line_limit total_limit : ℕ) (text : List ℕ) (told mid : Option (List ℕ)) → broken_limit line_limit total_limit text ≡ None → told ≡ prepend_known text mid → IsAtEnd mid
    → IfSome told (λ b. Ok text ≡ text_within line_limit total_limit b)
exact_at_end line_limit total_limit text None mid within read end = tt
exact_at_end line_limit total_limit text (Some b) None within read end = absurd (some_is_none b read)
exact_at_end line_limit total_limit text (Some b) (Some later) within read end =
    let same : b ≡ text = some_same b (text ++ later) read ∙ ap (λ (x : List ℕ). text ++ x) end ∙ append-nil text in
    rw (same, within) refl

-- a fault that the stream calls for is the limit that all bytes break
pub exact_at_fault : (line_limit total_limit : ℕ) (text : List ℕ) (l : Cutter) (told rest : Option (List ℕ)) (faults_then faults : ℕ) (aside_then aside : Aside) (fault : LineFault)
    → ReadSoFar line_limit total_limit text l told rest faults_then faults aside_then aside
    → IfSome (stream l rest) (λ b. Err fault ≡ answer_to l.line_limit (left_to_give l) b)
    → IfSome told (λ b. Err fault ≡ text_within line_limit total_limit b)
exact_at_fault line_limit total_limit text l None rest faults_then faults aside_then aside fault so_far called = tt
exact_at_fault line_limit total_limit text l (Some b) None faults_then faults aside_then aside fault so_far called = absurd (some_is_none b so_far.read)
exact_at_fault line_limit total_limit text l (Some b) (Some xs) faults_then faults aside_then aside fault so_far called =
    let same : b ≡ text ++ (l.kept ++ xs) = some_same b (text ++ (l.kept ++ xs)) so_far.read in
    let none : IsTrue l.ended → l.kept ++ xs ≡ [] = λ ended. ap (λ (x : List ℕ). x ++ xs) (so_far.none_kept ended) ∙ so_far.at_end ended in
    let left : left_to_give l ≡ total_limit - length text = omega (arith, so_far.given, so_far.same_total_limit) in
    let called_here : Err fault ≡ answer_to line_limit (total_limit - length text) (l.kept ++ xs) =
    called ∙ ap (λ (n : ℕ). answer_to n (left_to_give l) (l.kept ++ xs)) so_far.same_line_limit ∙ ap (λ (n : ℕ). answer_to line_limit n (l.kept ++ xs)) left in
    let broken : broken_limit line_limit total_limit b ≡ Some fault =
    ap (broken_limit line_limit total_limit) same ∙ so_far.judged (l.kept ++ xs) none ∙ answer-breaks line_limit (total_limit - length text) (l.kept ++ xs) fault called_here in
    sym (ap (λ (o : Option LineFault). text_or o b) broken)
