-- What reading the lines of a source keeps from line to line.
use Rattle.std.proofs.Common.{◌≡◌, ℕ, ◌+◌, ◌<◌, ◌≤◌, ◌||◌, true, false, List, [], ◌∷◌, ◌++◌, map, length, Option, Some, None, Ok, Err, IsTrue, IfSome, refl, sym, ap, ◌∙◌, subst, arith, length-append, append_assoc}
use Rattle.std.specs.List.{list_any, slice_split}
use Rattle.std.specs.Io.KnownBytes.{IsAtEnd, prepend_known}
use Rattle.std.proofs.lemmas.Bool.{both_ways}
use Rattle.std.proofs.lemmas.List.{append-nil, map-append, length-map}
use Rattle.pc_base.specs.Lines.{HasNoFeed, is_feed, lines}
use Rattle.pc_base.proofs.LineCuts.{lines-nil}
use Rattle.pc_io.specs.declared.line_fault.LineFault.{LineFault}
use Rattle.pc_io.specs.Aside.{Aside}
use Rattle.pc_io.specs.Cutter.{Cutter, stream}
use Rattle.pc_io.specs.Limits.{broken_limit, text_or, text_within}
use Rattle.pc_io.specs.NextLine.{taken}
use Rattle.pc_io.proofs.TookLemmas.{open_before, took_line}
use Rattle.pc_io.proofs.WholeRead.{ReadSoFar, all_read, kept_limits, read_on}
use Rattle.pc_dump.specs.declared.dump.Dump.{Dump}
use Rattle.pc_dump.specs.declared.reader.Reader.{Reader}
use Rattle.pc_dump.specs.Dump.{Words}
use Rattle.pc_dump.specs.Form.{IsDump, cut_lines}
use Rattle.pc_dump.specs.Judged.{HasTaken}
use Rattle.pc_dump.specs.Reading.{HasLines, Reads}
use Rattle.pc_names.specs.Spaces.{is_space}

-- a text was taken so far, and a reader has taken its lines
pub record ReadLines (line_limit total_limit : ℕ) (reader : Reader) (l : Cutter) (rest_then rest : Option (List ℕ)) (faults_then faults : ℕ) (aside_then aside : Aside) : Type 0 where
  pub text : List ℕ
  pub cut_so_far : List (List ℕ)
  pub so_far : ReadSoFar line_limit total_limit text l rest_then rest faults_then faults aside_then aside
  pub cut : (later : List ℕ) → (IsTrue l.ended → later ≡ []) → lines (text ++ later) ≡ cut_so_far ++ lines later
  pub rising : length cut_so_far ≤ length text
  pub taken_lines : HasTaken reader (map (slice_split is_space) cut_so_far)

pub nothing_read : (line_limit total_limit : ℕ) (reader : Reader) (l : Cutter) (rest_then rest : Option (List ℕ)) (faults_then faults : ℕ) (aside_then aside : Aside) → ReadSoFar line_limit total_limit [] l rest_then rest faults_then faults aside_then aside → HasTaken reader []
    → ReadLines line_limit total_limit reader l rest_then rest faults_then faults aside_then aside
nothing_read line_limit total_limit reader l rest_then rest faults_then faults aside_then aside so_far has = record {
  text = [];
  cut_so_far = [];
  so_far = so_far;
  cut = λ later may. refl;
  rising = omega arith;
  taken_lines = has;
}

pub few_read : (line_limit total_limit : ℕ) (reader : Reader) (l : Cutter) (rest_then rest : Option (List ℕ)) (faults_then faults : ℕ) (aside_then aside : Aside) → ReadLines line_limit total_limit reader l rest_then rest faults_then faults aside_then aside → reader.count ≤ total_limit
few_read line_limit total_limit reader l rest_then rest faults_then faults aside_then aside so =
    let count = so.taken_lines.count in
    let size : length (map (slice_split is_space) so.cut_so_far) ≡ length so.cut_so_far = length-map so.cut_so_far (slice_split is_space) in
    let within = so.so_far.within in
    let rising = so.rising in
    omega arith

pub lines_on : (line_limit total_limit : ℕ) (line : List ℕ) (before after : Reader) (l m : Cutter) (rest_then rest mid : Option (List ℕ)) (faults_then faults counted : ℕ) (aside_then aside kept : Aside) (Same : Type 0)
    → ReadLines line_limit total_limit before l rest_then rest faults_then faults aside_then aside
    → stream l rest ≡ prepend_known (taken (Ok (Some line)) m.ended) (stream m mid)
    → m.given ≡ l.given + length (taken (Ok (Some line)) m.ended)
    → HasNoFeed line × (length line ≤ l.line_limit)
    → l.given < m.given
    → m.given ≤ m.total_limit
    → (m.line_limit ≡ l.line_limit) × (m.total_limit ≡ l.total_limit)
    → (IsTrue m.ended → m.kept ≡ [])
    → (IsTrue m.ended → IsAtEnd mid)
    → m.fault ≡ None
    → ((list_any is_feed l.kept || l.ended) ≡ true → Same × (l.kept ≡ taken (Ok (Some line)) m.ended ++ m.kept))
    → counted ≡ faults → kept ≡ aside
    → ((words : List Words) → HasTaken before words → HasTaken after (words ++ slice_split is_space line ∷ []))
    → ReadLines line_limit total_limit after m rest_then mid faults_then counted aside_then kept
lines_on line_limit total_limit line before after l m rest_then rest mid faults_then faults counted aside_then aside kept Same so stream_is given fits rises within limits last at_end told unread count same takes =
    let bytes : List ℕ = taken (Ok (Some line)) m.ended in
    let text = so.text in
    let open_ : l.ended ≡ false = open_before l m line Same so.so_far.none_kept unread given rises in
    let one = took_line line l m rest mid stream_is given fits rises within limits in
    let some : 0 < length bytes = omega (arith, given) in
    record {
      text = text ++ bytes;
      cut_so_far = so.cut_so_far ++ line ∷ [];
      so_far = read_on line_limit total_limit text line l m rest_then rest mid faults_then faults counted aside_then aside kept Same so.so_far stream_is given fits rises within limits last at_end told unread count same;
      cut = λ later may.
          ap lines (append_assoc text bytes later)
          ∙ so.cut (bytes ++ later) (λ ended. absurd (both_ways l.ended open_ ended))
          ∙ ap (λ ls. so.cut_so_far ++ ls) (one.cut later may)
          ∙ sym (append_assoc so.cut_so_far (line ∷ []) (lines later));
      rising = omega (arith, so.rising, length-append so.cut_so_far (line ∷ []), length-append text bytes);
      taken_lines = subst (HasTaken after) (sym (map-append (slice_split is_space) so.cut_so_far (line ∷ []))) (takes (map (slice_split is_space) so.cut_so_far) so.taken_lines);
    }

-- at the end the lines are those of the text
pub all_cut : (line_limit total_limit : ℕ) (reader : Reader) (l : Cutter) (rest_then rest : Option (List ℕ)) (faults_then faults : ℕ) (aside_then aside : Aside)
    → (so : ReadLines line_limit total_limit reader l rest_then rest faults_then faults aside_then aside) → map (slice_split is_space) so.cut_so_far ≡ cut_lines so.text
all_cut line_limit total_limit reader l rest_then rest faults_then faults aside_then aside so =
    let same : so.cut_so_far ≡ lines so.text = sym (append-nil so.cut_so_far) ∙ ap (λ ls. so.cut_so_far ++ ls) (sym lines-nil) ∙ sym (so.cut [] (λ _. refl)) ∙ ap lines (append-nil so.text) in
    ap (map (slice_split is_space)) same

pub reads_all : (line_limit total_limit : ℕ) (reader : Reader) (dump : Dump) (l m : Cutter) (rest_then rest mid : Option (List ℕ)) (faults_then faults : ℕ) (aside_then aside : Aside)
    → ReadLines line_limit total_limit reader l rest_then rest faults_then faults aside_then aside → ((words : List Words) → HasTaken reader words → IsDump dump words)
    → stream l rest ≡ prepend_known [] (stream m mid) → m.kept ≡ [] → IsAtEnd mid → Reads line_limit total_limit dump rest_then mid
reads_all line_limit total_limit reader dump l m rest_then rest mid faults_then faults aside_then aside so finish stream_is none at_end = record {
  text = so.text;
  read = all_read so.text rest_then rest mid l m so.so_far.read stream_is none;
  at_end = at_end;
  within = kept_limits _ _ _ _ _ _ _ _ _ _ so.so_far;
  is_dump = subst (IsDump dump) (all_cut line_limit total_limit reader l rest_then rest faults_then faults aside_then aside so) (finish (map (slice_split is_space) so.cut_so_far) so.taken_lines);
}

some_same : (x y : List ℕ) → Some x ≡ Some y → x ≡ y
some_same x y e = cc

-- where the text is all that was told, it has these lines
pub told_lines : (line_limit total_limit : ℕ) (dump : Dump) (told mid : Option (List ℕ)) → Reads line_limit total_limit dump told mid → IfSome told (HasLines line_limit total_limit dump)
told_lines line_limit total_limit dump None mid r = tt
told_lines line_limit total_limit dump (Some b) None r = let e = r.read in absurd cc
told_lines line_limit total_limit dump (Some b) (Some later) r =
    let same : b ≡ r.text = some_same b (r.text ++ later) r.read ∙ ap (λ x. r.text ++ x) r.at_end ∙ append-nil r.text in
    subst (HasLines line_limit total_limit dump) (sym same) (record { within = r.within; is_dump = r.is_dump })

breaks : (o : Option LineFault) (b : List ℕ) (fault : LineFault) → Err fault ≡ text_or o b → o ≡ Some fault
breaks None b fault e = absurd cc
breaks (Some other) b fault e = cc

pub told_fault : (line_limit total_limit : ℕ) (told : Option (List ℕ)) (fault : LineFault) → IfSome told (λ b. Err fault ≡ text_within line_limit total_limit b) → IfSome told (λ b. broken_limit line_limit total_limit b ≡ Some fault)
told_fault line_limit total_limit None fault h = tt
told_fault line_limit total_limit (Some b) fault h = breaks (broken_limit line_limit total_limit b) b fault h
