-- Taking lines off a source, one after the other.
use Rattle.std.proofs.Common.{◌≡◌, ℕ, ◌+◌, ◌-◌, ◌<◌, ◌≤◌, ◌||◌, Bool, true, false, List, [], ◌∷◌, ◌++◌, length, Option, Some, None, Ok, Err, IsTrue, IfSome, refl, sym, ap, ◌∙◌, arith, length-append, append_assoc}
use Rattle.std.specs.List.{list_any}
use Rattle.std.specs.Io.KnownBytes.{prepend_known}
use Rattle.std.proofs.lemmas.Bool.{both_ways, false_from_ne_true, or_right}
use Rattle.std.proofs.lemmas.List.{append-nil}
use Rattle.pc_io.specs.declared.line_fault.LineFault.{LineFault}
use Rattle.pc_io.specs.declared.line_fault.LineFault.TheVariants.{ReadFault}
use Rattle.pc_io.specs.Cutter.{Cutter, left_to_give, stream}
use Rattle.pc_io.specs.Limits.{broken_limit}
use Rattle.pc_io.specs.NextLine.{answer_to, is_outside_fault, taken}
use Rattle.pc_io.specs.Took.{Moment, coming, MayCome, Took, Stopped}
use Rattle.pc_base.specs.Lines.{HasNoFeed, is_feed, lines}
use Rattle.pc_base.proofs.LineCuts.{lines-feed_after, lines-last, lines-nil}
use Rattle.pc_io.proofs.LimitSteps.{broken-step}
use Rattle.pc_io.proofs.Pieces.{prepend_known-append}

pub prepend_none : (told : Option (List ℕ)) → told ≡ prepend_known [] told
prepend_none None = refl
prepend_none (Some xs) = refl

-- nothing was taken
pub took_nothing : (m : Moment) → Took [] [] m m
took_nothing m = record {
  read = prepend_none (coming m);
  given = omega arith;
  rising = omega arith;
  cut = λ later may. refl;
  judged = λ later may. refl;
  line_limit = refl;
  total_limit = refl;
}

-- the lines of a line that was taken and of what comes after it
lines-step : (line later : List ℕ) (ended : Bool) → HasNoFeed line → 0 < length (taken (Ok (Some line)) ended) → (IsTrue ended → later ≡ []) → lines (taken (Ok (Some line)) ended ++ later) ≡ line ∷ lines later
lines-step line later false clean some may = ap lines (append_assoc line (10 ∷ []) later) ∙ lines-feed_after line later clean
lines-step [] later true clean some may = absurd (omega arith)
lines-step (x ∷ xs) later true clean some may =
    ap (λ (b : List ℕ). lines ((x ∷ xs) ++ b)) (may refl) ∙ ap lines (append-nil (x ∷ xs)) ∙ lines-last x xs clean
    ∙ ap (λ (ls : List (List ℕ)). (x ∷ xs) ∷ ls) (sym (ap lines (may refl) ∙ lines-nil))

-- a line is never taken after the end was given
pub open_before : (l m : Cutter) (line : List ℕ) (Same : Type 0) → (IsTrue l.ended → l.kept ≡ []) → ((list_any is_feed l.kept || l.ended) ≡ true → Same × (l.kept ≡ taken (Ok (Some line)) m.ended ++ m.kept))
    → m.given ≡ l.given + length (taken (Ok (Some line)) m.ended) → l.given < m.given → l.ended ≡ false
open_before l m line Same none_kept unread given rises =
    false_from_ne_true l.ended (λ ended.
    let bytes : [] ≡ taken (Ok (Some line)) m.ended ++ m.kept = sym (none_kept ended) ∙ (unread (or_right (list_any is_feed l.kept) l.ended ended)).1 in
    absurd (omega (arith, ap length bytes, length-append (taken (Ok (Some line)) m.ended) m.kept)))

-- one line was taken
pub took_line : (line : List ℕ) (l m : Cutter) (rest mid : Option (List ℕ))
    → stream l rest ≡ prepend_known (taken (Ok (Some line)) m.ended) (stream m mid)
    → m.given ≡ l.given + length (taken (Ok (Some line)) m.ended)
    → HasNoFeed line × (length line ≤ l.line_limit)
    → l.given < m.given
    → m.given ≤ m.total_limit
    → (m.line_limit ≡ l.line_limit) × (m.total_limit ≡ l.total_limit)
    → Took (line ∷ []) (taken (Ok (Some line)) m.ended) (record { cutter = l; rest = rest }) (record { cutter = m; rest = mid })
took_line line l m rest mid read given fits rises within limits =
    let some : 0 < length (taken (Ok (Some line)) m.ended) = omega (arith, given, rises) in
    let room : length (taken (Ok (Some line)) m.ended) ≤ left_to_give l = omega (arith, given, within, limits.1) in
    let left : left_to_give l - length (taken (Ok (Some line)) m.ended) ≡ left_to_give m = omega (arith, given, limits.1) in
    record {
      read = read;
      given = given;
      rising = omega (arith, some);
      cut = λ later may. lines-step line later m.ended fits.0 some may;
      judged = λ later may. broken-step l.line_limit (left_to_give l) line later m.ended fits.0 fits.1 room may ∙ ap (λ (n : ℕ). broken_limit l.line_limit n later) left;
      line_limit = limits.0;
      total_limit = limits.1;
    }

no_bytes : (b : List ℕ) → length b ≡ 0 → b ≡ []
no_bytes [] none = refl
no_bytes (x ∷ xs) none = absurd (omega arith)

-- first some lines, then others, unless the source has given its end before
pub took_on : (xs ys : List (List ℕ)) (a b : List ℕ) (before mid after : Moment) → (IsTrue mid.cutter.ended → IsTrue after.cutter.ended) → (IsTrue mid.cutter.ended → after.cutter.given ≡ mid.cutter.given) → Took xs a before mid → Took ys b mid after → Took (xs ++ ys) (a ++ b) before after
took_on xs ys a b before mid after stays calm first next =
    let none : IsTrue mid.cutter.ended → b ≡ [] = λ ended. let same : after.cutter.given ≡ mid.cutter.given = calm ended in no_bytes b (omega (arith, same, next.given)) in
    let may : (later : List ℕ) → MayCome after later → MayCome mid (b ++ later) = λ later m ended. ap (λ (x : List ℕ). x ++ later) (none ended) ∙ m (stays ended) in
    record {
      read = first.read ∙ ap (prepend_known a) next.read ∙ prepend_known-append (coming after) a b;
      given = omega (arith, first.given, next.given, length-append a b);
      rising = omega (arith, first.rising, next.rising, length-append a b, length-append xs ys);
      cut = λ later m. ap lines (append_assoc a b later) ∙ first.cut (b ++ later) (may later m) ∙ ap (λ (ls : List (List ℕ)). xs ++ ls) (next.cut later m) ∙ sym (append_assoc xs ys (lines later));
      judged = λ later m.
          ap (broken_limit before.cutter.line_limit (left_to_give before.cutter)) (append_assoc a b later)
          ∙ first.judged (b ++ later) (may later m)
          ∙ ap (λ (n : ℕ). broken_limit n (left_to_give mid.cutter) (b ++ later)) (sym first.line_limit)
          ∙ next.judged later m
          ∙ ap (λ (n : ℕ). broken_limit n (left_to_give after.cutter) later) first.line_limit;
      line_limit = next.line_limit ∙ first.line_limit;
      total_limit = next.total_limit ∙ first.total_limit;
    }

pub took_both : (xs ys : List (List ℕ)) (a b : List ℕ) (before mid after : Moment) → mid.cutter.ended ≡ false → Took xs a before mid → Took ys b mid after → Took (xs ++ ys) (a ++ b) before after
took_both xs ys a b before mid after going = took_on xs ys a b before mid after (λ ended. absurd (both_ways mid.cutter.ended going ended)) (λ ended. absurd (both_ways mid.cutter.ended going ended))

turned : (line_limit left : ℕ) (told : Option (List ℕ)) (fault : LineFault) → IfSome told (λ b. Err fault ≡ answer_to line_limit left b) → IfSome told (λ b. answer_to line_limit left b ≡ Err fault)
turned line_limit left None fault calls = tt
turned line_limit left (Some b) fault calls = sym calls

-- the next line couldn't be cut
pub stopped_at : (fault : LineFault) (l m : Cutter) (rest mid : Option (List ℕ))
    → l.ended ≡ false
    → (is_outside_fault fault ≡ false → IfSome (stream l rest) (λ b. Err fault ≡ answer_to l.line_limit (left_to_give l) b))
    → stream l rest ≡ prepend_known [] (stream m mid)
    → (fault ≡ ReadFault → HasNoFeed m.kept)
    → Stopped fault (record { cutter = l; rest = rest }) (record { cutter = m; rest = mid })
stopped_at fault l m rest mid going exact read kept = record {
  going = going;
  same = read ∙ sym (prepend_none (stream m mid));
  breaks = λ inside. turned l.line_limit (left_to_give l) (stream l rest) fault (exact inside);
  unread = kept;
}
