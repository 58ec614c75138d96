-- What running a script keeps from turn to turn, and what each end leaves.
use Rattle.std.proofs.Common.{◌≡◌, ℕ, ◌+◌, ◌-◌, ◌≤◌, false, List, [], ◌++◌, length, take, Option, Some, None, Err, IsTrue, IfSome, refl, sym, subst, ap, ◌∙◌, arith, length-append, append_assoc}
use Rattle.std.specs.Io.KnownBytes.{IsAtEnd, append_known, prepend_known}
use Rattle.std.proofs.Math.Seq.{take-append_seam, take-append-add}
use Rattle.std.proofs.lemmas.Bool.{both_ways}
use Rattle.std.proofs.lemmas.List.{append-nil, take-append-le}
use Rattle.pc_base.specs.Lines.{lines}
use Rattle.pc_base.specs.Rose.{Rose}
use Rattle.pc_base.proofs.LineCuts.{lines-nil}
use Rattle.pc_io.specs.declared.line_fault.LineFault.TheVariants as line
use Rattle.pc_io.specs.Aside.{Aside}
use Rattle.pc_io.specs.Cutter.{Cutter, left_to_give, stream}
use Rattle.pc_io.specs.Limits.{broken_limit}
use Rattle.pc_io.specs.NextLine.{answer_to}
use Rattle.pc_io.specs.Told.{GrewByPart}
use Rattle.pc_io.specs.Took.{Moment, coming, MayCome, Took}
use Rattle.pc_io.proofs.LimitSteps.{answer-breaks, broken-nil}
use Rattle.pc_io.proofs.Pieces.{append_known-append, prepend_known-append}
use Rattle.pc_io.proofs.TookLemmas.{prepend_none, took_nothing, took_both}
use Rattle.pc_calls.specs.declared.entry.Entry.{Entry}
use Rattle.pc_calls.specs.History.{state_after}
use Rattle.pc_calls.specs.State.{State, empty}
use Rattle.pc_book.specs.Book.{history_of, state_of_book}
use Rattle.pc_script.specs.declared.callers.Callers.{Callers}
use Rattle.pc_script.specs.declared.item.Said.{Said}
use Rattle.pc_script.specs.declared.script_end.ScriptEnd.{ScriptEnd}
use Rattle.pc_script.specs.declared.script_end.ScriptEnd.TheVariants as ScriptFault
use Rattle.pc_script.specs.declared.turn.Turn.{Turn}
use Rattle.pc_script.specs.declared.turn.Turn.TheVariants.{Going, Last}
use Rattle.pc_script.specs.Script.{Script, commanded, beginning, answers, answers_to, after_lines, last_answers, script_text, said_text}
use Rattle.pc_script.specs.Present.{ArePresent, history_at, state_at}
use Rattle.pc_script.specs.ScriptHistory.{entries_from, said_by, said_entries, said_in}
use Rattle.pc_script.specs.ScriptOutcome.{broken, AnswersLines, AnswersBefore, AnswersRead, AnswersSome, LeavesBy}
use Rattle.pc_script.specs.Turns.{SaysNext, SaysLast, SaysNothing, HearsNone, HearsLimit, HearsTurn, Hears, Writes}
use Rattle.pc_script.proofs.LegalScripts.{script_is_legal}
use Rattle.pc_script.proofs.OnceLemmas.{last-recorded, made_once, more-recorded, nothing-made, nothing-recorded, same-recorded}
use Rattle.pc_script.proofs.PresentLemmas.{nobody-present}
use Rattle.pc_script.proofs.ScriptTexts.{said-later, text_is_of_history}
use Rattle.pc_script.proofs.AnswerLemmas.{answers-append, after-append, last-append, last-nothing, after-nothing, answers-nothing, last-commanded, script_text-is}

-- nothing was read yet
abbrev pub first : Cutter
first = record { line_limit = 65536; total_limit = 16777216; kept = []; given = 0; ended = false; fault = None }

abbrev at : Cutter → Option (List ℕ) → Moment
at l rest = record { cutter = l; rest = rest }

-- so far these lines were taken and answered, and a command comes next
pub record ScriptSoFar (l : Cutter) (callers : Callers) (rest_then rest written_then written : Option (List ℕ)) (reads_then reads writes_then writes : ℕ) (read_aside_then read_aside write_aside_then write_aside : Aside) : Type 0 where
  pub taken : List (List ℕ)
  pub bytes : List ℕ
  pub took : Took taken bytes (at first rest_then) (at l rest)
  pub no_fault : l.fault ≡ None
  pub at_end : IsTrue l.ended → IsAtEnd rest
  pub none_kept : IsTrue l.ended → l.kept ≡ []
  pub within : l.given ≤ l.total_limit
  pub then : after_lines beginning taken ≡ commanded (state_at callers)
  pub written_is : written ≡ append_known written_then (answers_to taken)
  pub recorded : history_at callers ≡ entries_from empty (said_by beginning taken)
  pub present : ArePresent callers.book callers.present.items
  pub reads_counted : reads_then ≤ reads
  pub writes_counted : writes_then ≤ writes
  pub same_read_aside : read_aside ≡ read_aside_then
  pub same_write_aside : write_aside ≡ write_aside_then

append_none : (known : Option (List ℕ)) → known ≡ append_known known []
append_none None = refl
append_none (Some xs) = ap (λ (x : List ℕ). Some x) (sym (append-nil xs))

pub script_begins : (callers : Callers) (rest written : Option (List ℕ)) (reads writes : ℕ) (read_aside write_aside : Aside) → callers.book ≡ [] → callers.present.items ≡ []
    → ScriptSoFar first callers rest rest written written reads reads writes writes read_aside read_aside write_aside write_aside
script_begins callers rest written reads writes read_aside write_aside none nobody = record {
  taken = [];
  bytes = [];
  took = took_nothing (at first rest);
  no_fault = refl;
  at_end = λ ended. absurd cc;
  none_kept = λ ended. absurd cc;
  within = omega arith;
  then = after-nothing beginning ∙ ap commanded (sym (ap state_of_book none ∙ nothing-made));
  written_is = append_none written ∙ ap (append_known written) (sym (answers-nothing beginning));
  recorded = ap history_of none ∙ nothing-recorded;
  present = nobody-present callers.book callers.present.items none nobody;
  reads_counted = omega arith;
  writes_counted = omega arith;
  same_read_aside = refl;
  same_write_aside = refl;
}

-- the answers to lines and then to what a turn says
more_answers : (xs ys : List (List ℕ)) (state : State) (text : List ℕ) → after_lines beginning xs ≡ commanded state → answers (commanded state) ys ≡ text → answers_to (xs ++ ys) ≡ answers_to xs ++ text
more_answers xs ys state text then is = answers-append beginning xs ys ∙ ap (λ (s : Script). answers_to xs ++ answers s ys) then ∙ ap (λ (t : List ℕ). answers_to xs ++ t) is

more_last : (xs ys : List (List ℕ)) (state : State) (text : List ℕ) → after_lines beginning xs ≡ commanded state → last_answers (commanded state) ys ≡ text → last_answers beginning (xs ++ ys) ≡ answers_to xs ++ text
more_last xs ys state text then is = last-append beginning xs ys ∙ ap (λ (s : Script). answers_to xs ++ last_answers s ys) then ∙ ap (λ (t : List ℕ). answers_to xs ++ t) is

-- what was written before, and a text
written_on : (then old new : Option (List ℕ)) (before text : List ℕ) → old ≡ append_known then before → new ≡ append_known old text → new ≡ append_known then (before ++ text)
written_on then old new before text is more = more ∙ ap (λ (w : Option (List ℕ)). append_known w text) is ∙ append_known-append then before text

module _ (l : Cutter) (callers : Callers) (rest_then rest written_then written : Option (List ℕ)) (reads_then reads writes_then writes : ℕ) (read_aside_then read_aside write_aside_then write_aside : Aside)
    (so_far : ScriptSoFar l callers rest_then rest written_then written reads_then reads writes_then writes read_aside_then read_aside write_aside_then write_aside) where
  -- one more turn
  pub script_goes_on : (m : Cutter) (later : Callers) (said : Said) (mid new : Option (List ℕ)) (reads_now writes_now : ℕ) (read_aside_now write_aside_now : Aside)
      → l.ended ≡ false
      → SaysNext (state_at callers) said (at l rest) (at m mid)
      → history_at later ≡ history_at callers ++ said_entries (state_at callers) said
      → ArePresent later.book later.present.items
      → new ≡ append_known written (said_text (state_at callers) said)
      → m.fault ≡ None
      → (IsTrue m.ended → IsAtEnd mid)
      → (IsTrue m.ended → m.kept ≡ [])
      → m.given ≤ m.total_limit
      → reads ≤ reads_now → writes ≤ writes_now → read_aside_now ≡ read_aside → write_aside_now ≡ write_aside
      → ScriptSoFar m later rest_then mid written_then new reads_then reads_now writes_then writes_now read_aside_then read_aside_now write_aside_then write_aside_now
  script_goes_on m later said mid new reads_now writes_now read_aside_now write_aside_now going says recorded present text sound end none within reads_more writes_more same_read same_write = record {
    taken = so_far.taken ++ says.taken;
    bytes = so_far.bytes ++ says.bytes;
    took = took_both so_far.taken says.taken so_far.bytes says.bytes (at first rest_then) (at l rest) (at m mid) going so_far.took says.took;
    no_fault = sound;
    at_end = end;
    none_kept = none;
    within = within;
    then = after-append beginning so_far.taken says.taken ∙ ap (λ (s : Script). after_lines s says.taken) so_far.then ∙ says.then ∙ ap commanded (said-later (history_at callers) said (state_at callers) refl ∙ ap state_after (sym recorded));
    written_is =
        written_on written_then written new (answers_to so_far.taken) (said_text (state_at callers) said) so_far.written_is text
        ∙ ap (append_known written_then) (sym (more_answers so_far.taken says.taken (state_at callers) (said_text (state_at callers) said) so_far.then says.text));
    recorded = recorded ∙ more-recorded (history_at callers) so_far.taken says.taken said so_far.recorded so_far.then says.items;
    present = present;
    reads_counted = omega (arith, so_far.reads_counted, reads_more);
    writes_counted = omega (arith, so_far.writes_counted, writes_more);
    same_read_aside = same_read ∙ so_far.same_read_aside;
    same_write_aside = same_write ∙ so_far.same_write_aside;
  }

-- all lines of the bytes that were taken by the end
lines-all : (taken : List (List ℕ)) (bytes : List ℕ) (before after : Moment) → Took taken bytes before after → lines bytes ≡ taken
lines-all taken bytes before after took =
    ap lines (sym (append-nil bytes)) ∙ took.cut [] (λ ended. refl) ∙ ap (λ (ls : List (List ℕ)). taken ++ ls) lines-nil ∙ append-nil taken

keeps_limits : (taken : List (List ℕ)) (bytes : List ℕ) (rest_then : Option (List ℕ)) (after : Moment) → Took taken bytes (at first rest_then) after → broken bytes ≡ None
keeps_limits taken bytes rest_then after took = ap broken (sym (append-nil bytes)) ∙ took.judged [] (λ ended. refl) ∙ broken-nil 65536 (left_to_give after.cutter)

-- all was taken and answered
all_answered : (taken : List (List ℕ)) (bytes : List ℕ) (m : Cutter) (rest_then mid written_then new : Option (List ℕ)) (history : List Entry) (reads_then reads writes_then writes : ℕ)
    → Took taken bytes (at first rest_then) (at m mid) → m.kept ≡ [] → IsAtEnd mid → new ≡ append_known written_then (last_answers beginning taken) → history ≡ entries_from empty (said_in beginning taken)
    → AnswersLines history (record { rest = rest_then; read_faults = reads_then; written = written_then; write_faults = writes_then }) (record { rest = mid; read_faults = reads; written = new; write_faults = writes })
all_answered taken bytes m rest_then mid written_then new history reads_then reads writes_then writes took none end is recorded =
    let all : lines bytes ≡ taken = lines-all taken bytes (at first rest_then) (at m mid) took in
    record {
      answers = record {
        bytes = bytes;
        read = prepend_none rest_then ∙ took.read ∙ ap (prepend_known bytes) (ap (λ (k : List ℕ). prepend_known k mid) none ∙ sym (prepend_none mid));
        at_end = end;
        within = keeps_limits taken bytes rest_then (at m mid) took;
        written = is ∙ ap (append_known written_then) (sym (script_text-is bytes ∙ ap (last_answers beginning) all));
        told = text_is_of_history bytes;
        legal = script_is_legal bytes;
        once = made_once bytes;
      };
      recorded = recorded ∙ ap (λ (ls : List (List ℕ)). entries_from empty (said_in beginning ls)) (sym all);
    }

-- what came of told bytes
told_later : (all bytes : List ℕ) (c : Option (List ℕ)) → Some all ≡ prepend_known bytes c → (later : List ℕ) × (c ≡ Some later) × (all ≡ bytes ++ later)
told_later all bytes None e = absurd cc
told_later all bytes (Some later) e = (later, refl, cc)

all_told : (all : List ℕ) (c d : Option (List ℕ)) → prepend_known [] (Some all) ≡ c → c ≡ d → Some all ≡ d
all_told all c d e f = e ∙ f

may_come : (m : Cutter) (mid : Option (List ℕ)) (later : List ℕ) → (IsTrue m.ended → m.kept ≡ []) → (IsTrue m.ended → IsAtEnd mid) → stream m mid ≡ Some later → IsTrue m.ended → later ≡ []
may_come m None later none end is ended = absurd cc
may_come m (Some xs) later none end is ended =
    let e : m.kept ++ xs ≡ later = cc in
    sym e ∙ ap (λ (k : List ℕ). k ++ xs) (none ended) ∙ end ended

module _ (l : Cutter) (callers : Callers) (rest_then rest written_then written : Option (List ℕ)) (reads_then reads writes_then writes : ℕ) (read_aside_then read_aside write_aside_then write_aside : Aside)
    (so_far : ScriptSoFar l callers rest_then rest written_then written reads_then reads writes_then writes read_aside_then read_aside write_aside_then write_aside) where
  -- the input has ended
  pub script_ends : (reads_now writes_now : ℕ) → IsTrue l.ended → AnswersLines (history_at callers) (record { rest = rest_then; read_faults = reads_then; written = written_then; write_faults = writes_then }) (record { rest = rest; read_faults = reads_now; written = written; write_faults = writes_now })
  script_ends reads_now writes_now ended =
      all_answered so_far.taken so_far.bytes l rest_then rest written_then written (history_at callers) reads_then reads_now writes_then writes_now so_far.took (so_far.none_kept ended) (so_far.at_end ended)
      (so_far.written_is ∙ ap (append_known written_then) (sym (last-commanded so_far.taken (state_at callers) so_far.then)))
      (same-recorded (history_at callers) so_far.taken so_far.recorded so_far.then)

  -- no line was left
  pub script_finds_none : (m : Cutter) (mid : Option (List ℕ)) (reads_now writes_now : ℕ) → l.ended ≡ false → SaysNothing (at l rest) (at m mid) → (IsTrue m.ended → m.kept ≡ []) → (IsTrue m.ended → IsAtEnd mid)
      → AnswersLines (history_at callers) (record { rest = rest_then; read_faults = reads_then; written = written_then; write_faults = writes_then }) (record { rest = mid; read_faults = reads_now; written = written; write_faults = writes_now })
  script_finds_none m mid reads_now writes_now going says none end =
      all_answered (so_far.taken ++ []) (so_far.bytes ++ []) m rest_then mid written_then written (history_at callers) reads_then reads_now writes_then writes_now
      (took_both so_far.taken [] so_far.bytes [] (at first rest_then) (at l rest) (at m mid) going so_far.took says.took) (none says.ended) (end says.ended)
      (so_far.written_is ∙ ap (append_known written_then) (sym (more_last so_far.taken [] (state_at callers) [] so_far.then (last-nothing (state_at callers)) ∙ append-nil (answers_to so_far.taken))))
      (same-recorded (history_at callers) so_far.taken so_far.recorded so_far.then ∙ ap (λ (ls : List (List ℕ)). entries_from empty (said_in beginning ls)) (sym (append-nil so_far.taken)))

  -- the last lines were answered
  pub script_says_last : (m : Cutter) (later : Callers) (said : Said) (mid new : Option (List ℕ)) (reads_now writes_now : ℕ) → l.ended ≡ false → SaysLast (state_at callers) said (at l rest) (at m mid) → history_at later ≡ history_at callers ++ said_entries (state_at callers) said → new ≡ append_known written (said_text (state_at callers) said) → (IsTrue m.ended → m.kept ≡ []) → (IsTrue m.ended → IsAtEnd mid)
      → AnswersLines (history_at later) (record { rest = rest_then; read_faults = reads_then; written = written_then; write_faults = writes_then }) (record { rest = mid; read_faults = reads_now; written = new; write_faults = writes_now })
  script_says_last m later said mid new reads_now writes_now going says recorded text none end =
      all_answered (so_far.taken ++ says.taken) (so_far.bytes ++ says.bytes) m rest_then mid written_then new (history_at later) reads_then reads_now writes_then writes_now
      (took_both so_far.taken says.taken so_far.bytes says.bytes (at first rest_then) (at l rest) (at m mid) going so_far.took says.took) (none says.ended) (end says.ended)
      (written_on written_then written new (answers_to so_far.taken) (said_text (state_at callers) said) so_far.written_is text ∙ ap (append_known written_then) (sym (more_last so_far.taken says.taken (state_at callers) (said_text (state_at callers) said) so_far.then says.text)))
      (recorded ∙ last-recorded (history_at callers) so_far.taken says.taken said so_far.recorded so_far.then says.items)

  -- a read failed
  pub script_read_fails : (m : Cutter) (mid : Option (List ℕ)) (reads_now writes_now : ℕ) → l.ended ≡ false → HearsNone (state_at callers) line.ReadFault (at l rest) (at m mid)
      → AnswersRead (record { rest = rest_then; read_faults = reads_then; written = written_then; write_faults = writes_then }) (record { rest = mid; read_faults = reads_now; written = written; write_faults = writes_now })
  script_read_fails m mid reads_now writes_now going none =
      let all = took_both so_far.taken none.taken so_far.bytes none.bytes (at first rest_then) (at l rest) none.at going so_far.took none.took in
      record {
        taken = so_far.taken ++ none.taken;
        bytes = so_far.bytes ++ none.bytes;
        part = m.kept;
        read = prepend_none rest_then ∙ all.read ∙ ap (prepend_known (so_far.bytes ++ none.bytes)) none.stopped.same ∙ prepend_known-append mid (so_far.bytes ++ none.bytes) m.kept;
        cut = λ later. all.cut later (λ ended. absurd (both_ways none.at.cutter.ended none.stopped.going ended));
        no_feed = none.stopped.unread refl;
        written = so_far.written_is ∙ ap (append_known written_then) (sym (more_answers so_far.taken none.taken (state_at callers) [] so_far.then none.silent ∙ append-nil (answers_to so_far.taken)));
      }

  -- a limit is broken
  limit_of : (all : List ℕ) (m : Cutter) (mid : Option (List ℕ)) (reads_now writes_now : ℕ) → rest_then ≡ Some all → l.ended ≡ false → HearsLimit (state_at callers) (at l rest) (at m mid)
      → AnswersBefore all (record { rest = rest_then; read_faults = reads_then; written = written_then; write_faults = writes_then }) (record { rest = mid; read_faults = reads_now; written = written; write_faults = writes_now })
  limit_of all m mid reads_now writes_now told going hears =
      let none = hears.none in
      let took = took_both so_far.taken none.taken so_far.bytes none.bytes (at first rest_then) (at l rest) none.at going so_far.took none.took in
      let bytes = so_far.bytes ++ none.bytes in
      let later = told_later all bytes (coming none.at) (sym told ∙ prepend_none rest_then ∙ took.read) in
      let may : (b : List ℕ) → MayCome none.at b = λ b ended. absurd (both_ways none.at.cutter.ended none.stopped.going ended) in
      let calls : answer_to none.at.cutter.line_limit (left_to_give none.at.cutter) later.0 ≡ Err hears.fault = subst (λ c. IfSome c (λ b. answer_to none.at.cutter.line_limit (left_to_give none.at.cutter) b ≡ Err hears.fault)) later.1 (none.stopped.breaks hears.inside) in
      let left : left_to_give none.at.cutter ≡ 16777216 - length bytes = omega (arith, took.given, took.total_limit) in
      let breaks : answer_to 65536 (16777216 - length bytes) later.0 ≡ Err hears.fault =
      sym (ap (λ (n : ℕ). answer_to n (left_to_give none.at.cutter) later.0) took.line_limit ∙ ap (λ (n : ℕ). answer_to 65536 n later.0) left) ∙ calls in
      record {
        taken = so_far.taken ++ none.taken;
        bytes = bytes;
        coming = later.0;
        fault = hears.fault;
        parts = later.2;
        cut = λ b. took.cut b (may b);
        within = keeps_limits (so_far.taken ++ none.taken) bytes rest_then none.at took;
        breaks = breaks;
        is_broken =
            ap broken later.2 ∙ took.judged later.0 (may later.0) ∙ ap (λ (n : ℕ). broken_limit 65536 n later.0) left
            ∙ answer-breaks 65536 (16777216 - length bytes) later.0 hears.fault (sym breaks);
        written = so_far.written_is ∙ ap (append_known written_then) (sym (more_answers so_far.taken none.taken (state_at callers) [] so_far.then none.silent ∙ append-nil (answers_to so_far.taken)));
      }

  -- memory ran out after these lines
  some_of : (all : List ℕ) (mid new : Option (List ℕ)) (reads_now writes_now : ℕ) → rest_then ≡ Some all → l.ended ≡ false → new ≡ written
      → AnswersSome all (record { rest = rest_then; read_faults = reads_then; written = written_then; write_faults = writes_then }) (record { rest = mid; read_faults = reads_now; written = new; write_faults = writes_now })
  some_of all mid new reads_now writes_now told going same =
      let later = told_later all so_far.bytes (coming (at l rest)) (sym told ∙ prepend_none rest_then ∙ so_far.took.read) in
      let cut : lines all ≡ so_far.taken ++ lines later.0 = ap lines later.2 ∙ so_far.took.cut later.0 (λ ended. absurd (both_ways l.ended going ended)) in
      record {
        count = length so_far.taken;
        written = same ∙ so_far.written_is ∙ ap (λ (ls : List (List ℕ)). append_known written_then (answers_to ls)) (sym (ap (take (length so_far.taken)) cut ∙ take-append_seam so_far.taken (lines later.0)));
      }

  -- the text of the whole script goes on with what was said
  goes_on_with : (all : List ℕ) (said : Said) (turn : Turn) (m : Cutter) (mid : Option (List ℕ)) → rest_then ≡ Some all → l.ended ≡ false → HearsTurn (state_at callers) said turn (at l rest) (at m mid) → (IsTrue m.ended → m.kept ≡ []) → (IsTrue m.ended → IsAtEnd mid)
      → (more : List ℕ) × (script_text all ≡ answers_to so_far.taken ++ (said_text (state_at callers) said ++ more))
  goes_on_with all said Going m mid told going says none end =
      let took = took_both so_far.taken says.taken so_far.bytes says.bytes (at first rest_then) (at l rest) (at m mid) going so_far.took says.took in
      let later = told_later all (so_far.bytes ++ says.bytes) (coming (at m mid)) (sym told ∙ prepend_none rest_then ∙ took.read) in
      let cut : lines all ≡ (so_far.taken ++ says.taken) ++ lines later.0 = ap lines later.2 ∙ took.cut later.0 (may_come m mid later.0 none end later.1) in
      let more : List ℕ = last_answers (after_lines beginning (so_far.taken ++ says.taken)) (lines later.0) in (
        more,
        script_text-is all ∙ ap (last_answers beginning) cut ∙ last-append beginning (so_far.taken ++ says.taken) (lines later.0)
            ∙ ap (λ (t : List ℕ). t ++ more) (more_answers so_far.taken says.taken (state_at callers) (said_text (state_at callers) said) so_far.then says.text)
            ∙ append_assoc (answers_to so_far.taken) (said_text (state_at callers) said) more,
      )
  goes_on_with all said Last m mid told going says none end =
      let took = took_both so_far.taken says.taken so_far.bytes says.bytes (at first rest_then) (at l rest) (at m mid) going so_far.took says.took in
      let later = told_later all (so_far.bytes ++ says.bytes) (coming (at m mid)) (sym told ∙ prepend_none rest_then ∙ took.read) in
      let nothing : later.0 ≡ [] = may_come m mid later.0 none end later.1 says.ended in
      let whole : all ≡ so_far.bytes ++ says.bytes = later.2 ∙ ap (λ (b : List ℕ). (so_far.bytes ++ says.bytes) ++ b) nothing ∙ append-nil (so_far.bytes ++ says.bytes) in (
        [],
        script_text-is all ∙ ap (λ (b : List ℕ). last_answers beginning (lines b)) whole
            ∙ ap (last_answers beginning) (lines-all (so_far.taken ++ says.taken) (so_far.bytes ++ says.bytes) (at first rest_then) (at m mid) took)
            ∙ more_last so_far.taken says.taken (state_at callers) (said_text (state_at callers) said) so_far.then says.text
            ∙ ap (λ (t : List ℕ). answers_to so_far.taken ++ t) (sym (append-nil (said_text (state_at callers) said))),
      )

  part_of : (all : List ℕ) (said : Said) (turn : Turn) (m : Cutter) (mid new : Option (List ℕ)) → rest_then ≡ Some all → l.ended ≡ false → HearsTurn (state_at callers) said turn (at l rest) (at m mid) → (IsTrue m.ended → m.kept ≡ []) → (IsTrue m.ended → IsAtEnd mid)
      → GrewByPart (said_text (state_at callers) said) written new → GrewByPart (script_text all) written_then new
  part_of all said turn m mid new told going says none end part =
      let more = goes_on_with all said turn m mid told going says none end in
      let text = said_text (state_at callers) said in
      let before = answers_to so_far.taken in
      let size : length (script_text all) ≡ length before + length (text ++ more.0) = ap length more.1 ∙ length-append before (text ++ more.0) in
      let front : take (length before + part.0) (script_text all) ≡ before ++ take part.0 text =
      ap (take (length before + part.0)) more.1 ∙ take-append-add before (text ++ more.0) part.0 ∙ ap (λ (t : List ℕ). before ++ t) (take-append-le part.0 text more.0 (omega (arith, part.1))) in
      (length before + part.0, omega (arith, size, part.1, length-append text more.0), written_on written_then written new before (take part.0 text) so_far.written_is part.2 ∙ ap (append_known written_then) (sym front))

-- ---- ends of a script

rose_since : (then before now : ℕ) → then ≤ before → Rose before now → Rose then now
rose_since then before now h rose = omega (arith, h, rose)

if_told : (told : Option (List ℕ)) (P : List ℕ → Type 0) → ((all : List ℕ) → told ≡ Some all → P all) → IfSome told P
if_told None P h = tt
if_told (Some all) P h = h all refl

-- nothing was taken
pub nothing_answered : (rest mid written : Option (List ℕ)) (reads reads_now writes writes_now : ℕ)
    → IfSome rest (λ all. AnswersSome all (record { rest = rest; read_faults = reads; written = written; write_faults = writes }) (record { rest = mid; read_faults = reads_now; written = written; write_faults = writes_now }))
nothing_answered rest mid written reads reads_now writes writes_now =
    if_told rest (λ all. AnswersSome all (record { rest = rest; read_faults = reads; written = written; write_faults = writes }) (record { rest = mid; read_faults = reads_now; written = written; write_faults = writes_now }))
    (λ all told. record { count = 0; written = append_none written ∙ ap (append_known written) (sym (answers-nothing beginning)) })

module _ (l : Cutter) (callers : Callers) (rest_then rest written_then written : Option (List ℕ)) (reads_then reads writes_then writes : ℕ) (read_aside_then read_aside write_aside_then write_aside : Aside)
    (so_far : ScriptSoFar l callers rest_then rest written_then written reads_then reads writes_then writes read_aside_then read_aside write_aside_then write_aside) where
  -- nothing was heard
  pub script_unheard : (end : ScriptEnd) (m : Cutter) (mid : Option (List ℕ)) (reads_now writes_now : ℕ) → l.ended ≡ false → Hears (state_at callers) (Err end) (at l rest) (at m mid)
      → (end ≡ ScriptFault.ReadFault → Rose reads reads_now)
      → LeavesBy (Err end) (record { rest = rest_then; read_faults = reads_then; written = written_then; write_faults = writes_then }) (record { rest = mid; read_faults = reads_now; written = written; write_faults = writes_now })
  script_unheard ScriptFault.Ended m mid reads_now writes_now going hears rose = elim hears [ ]
  script_unheard ScriptFault.ReadFault m mid reads_now writes_now going hears rose = (
    rose_since reads_then reads reads_now so_far.reads_counted (rose refl),
    script_read_fails l callers rest_then rest written_then written reads_then reads writes_then writes read_aside_then read_aside write_aside_then write_aside so_far m mid reads_now writes_now going hears,
  )
  script_unheard ScriptFault.WriteFault m mid reads_now writes_now going hears rose = elim hears [ ]
  script_unheard ScriptFault.TooLong m mid reads_now writes_now going hears rose =
      if_told rest_then (λ all. AnswersBefore all (record { rest = rest_then; read_faults = reads_then; written = written_then; write_faults = writes_then }) (record { rest = mid; read_faults = reads_now; written = written; write_faults = writes_now }))
      (λ all told. limit_of l callers rest_then rest written_then written reads_then reads writes_then writes read_aside_then read_aside write_aside_then write_aside so_far all m mid reads_now writes_now told going hears)
  script_unheard ScriptFault.NoMemory m mid reads_now writes_now going hears rose =
      if_told rest_then (λ all. AnswersSome all (record { rest = rest_then; read_faults = reads_then; written = written_then; write_faults = writes_then }) (record { rest = mid; read_faults = reads_now; written = written; write_faults = writes_now }))
      (λ all told. some_of l callers rest_then rest written_then written reads_then reads writes_then writes read_aside_then read_aside write_aside_then write_aside so_far all mid written reads_now writes_now told going refl)

  -- what was heard isn't answered
  pub script_unanswered : (end : ScriptEnd) (said : Said) (turn : Turn) (m : Cutter) (mid new : Option (List ℕ)) (reads_now writes_now : ℕ) → l.ended ≡ false → HearsTurn (state_at callers) said turn (at l rest) (at m mid)
      → (IsTrue m.ended → m.kept ≡ []) → (IsTrue m.ended → IsAtEnd mid)
      → Writes (said_text (state_at callers) said) (Err end) written new writes writes_now
      → LeavesBy (Err end) (record { rest = rest_then; read_faults = reads_then; written = written_then; write_faults = writes_then }) (record { rest = mid; read_faults = reads_now; written = new; write_faults = writes_now })
  script_unanswered ScriptFault.Ended said turn m mid new reads_now writes_now going hears none at_end writes_so = elim writes_so [ ]
  script_unanswered ScriptFault.ReadFault said turn m mid new reads_now writes_now going hears none at_end writes_so = elim writes_so [ ]
  script_unanswered ScriptFault.WriteFault said turn m mid new reads_now writes_now going hears none at_end writes_so = (
    rose_since writes_then writes writes_now so_far.writes_counted writes_so.0,
    if_told rest_then (λ all. GrewByPart (script_text all) written_then new)
        (λ all told. part_of l callers rest_then rest written_then written reads_then reads writes_then writes read_aside_then read_aside write_aside_then write_aside so_far all said turn m mid new told going hears none at_end writes_so.1),
  )
  script_unanswered ScriptFault.TooLong said turn m mid new reads_now writes_now going hears none at_end writes_so = elim writes_so [ ]
  script_unanswered ScriptFault.NoMemory said turn m mid new reads_now writes_now going hears none at_end writes_so =
      if_told rest_then (λ all. AnswersSome all (record { rest = rest_then; read_faults = reads_then; written = written_then; write_faults = writes_then }) (record { rest = mid; read_faults = reads_now; written = new; write_faults = writes_now }))
      (λ all told. some_of l callers rest_then rest written_then written reads_then reads writes_then writes read_aside_then read_aside write_aside_then write_aside so_far all mid new reads_now writes_now told going writes_so)
