-- What reading the text of a publish keeps from line to line.
use Rattle.std.proofs.Common.{◌≡◌, ℕ, ◌+◌, ◌<◌, ◌≤◌, Bool, true, false, List, [], ◌∷◌, ◌++◌, length, Option, Some, None, Ok, Err, IsTrue, IfSome, refl, sym, ap, ◌∙◌, subst, zero, arith, length-append, append_assoc}
use Rattle.std.specs.Io.KnownBytes.{IsAtEnd, prepend_known}
use Rattle.std.proofs.lemmas.Bool.{both_ways, false_from_ne_true}
use Rattle.std.proofs.lemmas.List.{append-nil}
use Rattle.pc_base.specs.Lines.{HasNoFeed}
use Rattle.pc_io.specs.declared.line_fault.LineFault.{LineFault}
use Rattle.pc_io.specs.declared.line_fault.LineFault.TheVariants.{ReadFault}
use Rattle.pc_io.specs.Aside.{Aside}
use Rattle.pc_io.specs.Cutter.{Cutter, left_to_give, stream}
use Rattle.pc_io.specs.NextLine.{answer_to, is_outside_fault, taken}
use Rattle.pc_io.specs.Took.{Moment, Took}
use Rattle.pc_io.proofs.TookLemmas.{took_nothing, took_line, took_both, stopped_at}
use Rattle.pc_file.specs.PrintedForm.{with_feed, text_of_lines}
use Rattle.pc_file.specs.Limits.{Contents}
use Rattle.pc_rules.specs.declared.kind.Kind.{Kind}
use Rattle.pc_text.specs.FirstFault.{first_fault, given_by}
use Rattle.pc_text.specs.Given.{contents_given}
use Rattle.pc_conn.specs.declared.body.Body.{Body}
use Rattle.pc_conn.specs.declared.body.Body.TheVariants.{File, Fault, Cut}
use Rattle.pc_conn.specs.BodyText.{body_of, body_by}
use Rattle.pc_conn.specs.Reading.{IsUnread, IsHalted, GivesBody, ReadsBody}

-- so far so many lines were taken, and with a line feed each they are the text
pub record BodySoFar (count n : ℕ) (text : List ℕ) (first : Cutter) (rest_then : Option (List ℕ)) (l : Cutter) (rest : Option (List ℕ)) (faults_then faults : ℕ) (aside_then aside : Aside) : Type 0 where
  pub lines : List (List ℕ)
  pub bytes : List ℕ
  pub took : Took lines bytes (record { cutter = first; rest = rest_then }) (record { cutter = l; rest = rest })
  pub size : length lines ≡ n
  pub below : n ≤ count
  pub text_is : text ≡ text_of_lines lines
  pub no_fault : first.fault ≡ None → l.fault ≡ None
  pub at_end : IsTrue l.ended → IsAtEnd rest
  pub none_kept : (IsTrue first.ended → first.kept ≡ []) → IsTrue l.ended → l.kept ≡ []
  pub within : first.given ≤ first.total_limit → l.given ≤ l.total_limit
  pub stays_ended : IsTrue first.ended → IsTrue l.ended
  pub calm : IsTrue first.ended → l.given ≡ first.given
  pub faultless : faults ≡ faults_then
  pub same_aside : aside ≡ aside_then

pub body_begins : (count : ℕ) (l : Cutter) (rest : Option (List ℕ)) (faults : ℕ) (aside : Aside) → (IsTrue l.ended → IsAtEnd rest) → BodySoFar count 0 [] l rest l rest faults faults aside aside
body_begins count l rest faults aside at_end = record {
  lines = [];
  bytes = [];
  took = took_nothing (record { cutter = l; rest = rest });
  size = refl;
  below = omega arith;
  text_is = refl;
  no_fault = λ h. h;
  at_end = at_end;
  none_kept = λ h. h;
  within = λ h. h;
  stays_ended = λ h. h;
  calm = λ h. refl;
  faultless = refl;
  same_aside = refl;
}

text-more : (lines : List (List ℕ)) (line : List ℕ) → text_of_lines (lines ++ line ∷ []) ≡ text_of_lines lines ++ (line ++ 10 ∷ [])
text-more [] line = append-nil (line ++ 10 ∷ [])
text-more (x ∷ xs) line = ap (λ (t : List ℕ). with_feed x ++ t) (text-more xs line) ∙ sym (append_assoc (with_feed x) (text_of_lines xs) (line ++ 10 ∷ []))

-- one more line
pub body_goes_on : (count n : ℕ) (text line : List ℕ) (first : Cutter) (rest_then : Option (List ℕ)) (l : Cutter) (rest : Option (List ℕ)) (m : Cutter) (mid : Option (List ℕ)) (faults_then faults counted : ℕ) (aside_then aside kept : Aside)
    → BodySoFar count n text first rest_then l rest faults_then faults aside_then aside
    → n < count
    → l.ended ≡ false
    → stream l rest ≡ prepend_known (taken (Ok (Some line)) m.ended) (stream m mid)
    → m.given ≡ l.given + length (taken (Ok (Some line)) m.ended)
    → HasNoFeed line × (length line ≤ l.line_limit)
    → l.given < m.given
    → m.given ≤ m.total_limit
    → (m.line_limit ≡ l.line_limit) × (m.total_limit ≡ l.total_limit)
    → (IsTrue m.ended → m.kept ≡ [])
    → (IsTrue m.ended → IsAtEnd mid)
    → m.fault ≡ None
    → counted ≡ faults → kept ≡ aside
    → BodySoFar count (n + 1) ((text ++ line) ++ 10 ∷ []) first rest_then m mid faults_then counted aside_then kept
body_goes_on count n text line first rest_then l rest m mid faults_then faults counted aside_then aside kept before room going read given fits rises within limits last at_end told count_ same = record {
  lines = before.lines ++ line ∷ [];
  bytes = before.bytes ++ taken (Ok (Some line)) m.ended;
  took = took_both before.lines (line ∷ []) before.bytes (taken (Ok (Some line)) m.ended) (record { cutter = first; rest = rest_then }) (record { cutter = l; rest = rest }) (record { cutter = m; rest = mid }) going before.took (took_line line l m rest mid read given fits rises within limits);
  size = omega (arith, before.size, length-append before.lines (line ∷ []));
  below = omega (arith, room);
  text_is = append_assoc text line (10 ∷ []) ∙ ap (λ (t : List ℕ). t ++ (line ++ 10 ∷ [])) before.text_is ∙ sym (text-more before.lines line);
  no_fault = λ h. told;
  at_end = at_end;
  none_kept = λ h. last;
  within = λ h. within;
  stays_ended = λ h. absurd (both_ways l.ended going (before.stays_ended h));
  calm = λ h. absurd (both_ways l.ended going (before.stays_ended h));
  faultless = count_ ∙ before.faultless;
  same_aside = same ∙ before.same_aside;
}

-- Where a fault was told before, no line has been taken since.
abbrev pub Unmoved : {X : Type 0} → ℕ → Cutter → Cutter → X → X → Type 0
Unmoved n first l source_then source = IfSome first.fault (λ fault. (n ≡ 0) × (l ≡ first) × (source ≡ source_then))

pub unmoved_begins : {X : Type 0} (l : Cutter) (source : X) → Unmoved 0 l l source source
unmoved_begins l source = by l.fault
  where
    by : (told : Option LineFault) → IfSome told (λ fault. (zero ≡ 0) × (l ≡ l) × (source ≡ source))
    by None = tt
    by (Some fault) = (refl, refl, refl)

ok_is_no_err : (line : Option (List ℕ)) (fault : LineFault) → Ok line ≡ Err fault → ⊥
ok_is_no_err line fault is = cc

-- so none is taken then
pub unmoved_goes_on : {X : Type 0} (n : ℕ) (line : List ℕ) (first l m : Cutter) (source_then source after : X)
    → Unmoved n first l source_then source
    → IfSome l.fault (λ fault. (Ok (Some line) ≡ Err fault) × (m ≡ l) × (after ≡ source))
    → Unmoved (n + 1) first m source_then after
unmoved_goes_on n line first l m source_then source after before again = by first.fault refl before
  where
    by : (told : Option LineFault) → first.fault ≡ told → IfSome told (λ fault. (n ≡ 0) × (l ≡ first) × (source ≡ source_then)) → IfSome told (λ fault. (n + 1 ≡ 0) × (m ≡ first) × (after ≡ source_then))
    by None is h = tt
    by (Some fault) is h =
        let told : l.fault ≡ Some fault = ap (λ (c : Cutter). c.fault) h.1 ∙ is in
        let clash = subst (λ t. IfSome t (λ f. (Ok (Some line) ≡ Err f) × (m ≡ l) × (after ≡ source))) told again in
        absurd (ok_is_no_err (Some line) fault clash.0)

-- a text is never cut
by-not_cut : (fault : Option (ℕ × Kind)) (file : Contents) → Cut ≡ body_by fault file → ⊥
by-not_cut None file e = cc
by-not_cut (Some fault) file e = cc

not_cut : (text : List ℕ) → Cut ≡ body_of text → ⊥
unfolding body_of
not_cut text e = by-not_cut (first_fault text) (contents_given (given_by text)) e

reads_by : (count : ℕ) (body : Body) (text : List ℕ) (before after : Moment) → body ≡ body_of text → GivesBody count body before after → ReadsBody count (Ok body) before after
reads_by count (File file) text before after e gives = gives
reads_by count (Fault line kind) text before after e gives = gives
reads_by count Cut text before after e gives = absurd (not_cut text e)

-- all lines were taken, and their text was read
pub body_read : (count n : ℕ) (text : List ℕ) (first : Cutter) (rest_then : Option (List ℕ)) (l : Cutter) (rest : Option (List ℕ)) (faults_then faults : ℕ) (aside_then aside : Aside) (body : Body)
    → BodySoFar count n text first rest_then l rest faults_then faults aside_then aside → count ≤ n → body ≡ body_of text
    → ReadsBody count (Ok body) (record { cutter = first; rest = rest_then }) (record { cutter = l; rest = rest })
body_read count n text first rest_then l rest faults_then faults aside_then aside body so_far all is =
    reads_by count body text (record { cutter = first; rest = rest_then }) (record { cutter = l; rest = rest }) is
    (record { taken = so_far.lines; bytes = so_far.bytes; took = so_far.took; all = omega (arith, so_far.size, so_far.below, all); gives = is ∙ ap body_of so_far.text_is })

-- fewer lines were taken, and the next one can't be
pub body_stopped : (count n : ℕ) (text : List ℕ) (first : Cutter) (rest_then : Option (List ℕ)) (l : Cutter) (rest : Option (List ℕ)) (m : Cutter) (mid : Option (List ℕ)) (faults_then faults : ℕ) (aside_then aside : Aside) (fault : LineFault)
    → BodySoFar count n text first rest_then l rest faults_then faults aside_then aside → n < count
    → l.ended ≡ false
    → (l.fault ≡ None → is_outside_fault fault ≡ false → IfSome (stream l rest) (λ b. Err fault ≡ answer_to l.line_limit (left_to_give l) b))
    → stream l rest ≡ prepend_known [] (stream m mid)
    → (fault ≡ ReadFault → HasNoFeed m.kept)
    → IsUnread count fault (record { cutter = first; rest = rest_then }) (record { cutter = m; rest = mid })
body_stopped count n text first rest_then l rest m mid faults_then faults aside_then aside fault so_far room going exact read kept = record {
  some = omega (arith, room);
  going = open_then;
  stopped = λ sound. record {
    taken = so_far.lines;
    bytes = so_far.bytes;
    at = record { cutter = l; rest = rest };
    took = so_far.took;
    going = open_then;
    fewer = omega (arith, so_far.size, room);
    stopped = stopped_at fault l m rest mid going (exact (so_far.no_fault sound)) read kept;
  };
}
  where
    open_then : first.ended ≡ false
    open_then = false_from_ne_true first.ended (λ h. absurd (both_ways l.ended going (so_far.stays_ended h)))

-- so many lines were taken, and no memory is left
pub body_halted : (count n : ℕ) (text : List ℕ) (first : Cutter) (rest_then : Option (List ℕ)) (l : Cutter) (rest : Option (List ℕ)) (faults_then faults : ℕ) (aside_then aside : Aside)
    → BodySoFar count n text first rest_then l rest faults_then faults aside_then aside
    → IsHalted count (record { cutter = first; rest = rest_then }) (record { cutter = l; rest = rest })
body_halted count n text first rest_then l rest faults_then faults aside_then aside so_far = record {
  taken = so_far.lines;
  bytes = so_far.bytes;
  took = so_far.took;
  few = omega (arith, so_far.size, so_far.below);
}
