-- The bytes of printed lines, one after the other.
use Rattle.std.proofs.Common.{◌≡◌, ℕ, suc, ◌+◌, ◌<◌, ◌≤◌, Bool, true, false, ◌&&◌, List, [], ◌∷◌, ◌++◌, length, get_or, map, take, drop, Option, None, Some, refl, sym, ap, ◌∙◌, arith}
use Rattle.std.specs.Prelude.{option_and_then, is_some, nat_le, if◌then◌else◌}
use Rattle.std.specs.List.{flat_map, list_all}
use Rattle.std.proofs.Math.Seq.{drop-cons}
use Rattle.std.proofs.lemmas.Bool.Decides.{nat_tests}
use Rattle.std.proofs.lemmas.Grind.{flat_map-append}
use Rattle.std.proofs.lemmas.List.{append-nil, length-append, take_more, take-append-drop}
use Rattle.std.proofs.lemmas.List.Concat.{flat_map_single}
use Rattle.pc_base.proofs.DistinctLemmas.{both_true_parts}
use Rattle.pc_file.specs.Contents.{Contents}
use Rattle.pc_file.specs.PrintedForm.{printed_lines, text_of_lines, with_feed}
use Rattle.pc_file.specs.PrintedSize.{counted, is_short, is_short_line, is_small, with_line, with_lines, IsPrintable}

-- a size is counted well enough for the limits
pub with_line-counted : (bytes size : ℕ) → with_line bytes (counted size) ≡ with_line bytes size
with_line-counted bytes size = grind (arith, nat_tests)

and_then_each : (lines later : List (List ℕ)) (o : Option ℕ) → ((more : ℕ) → with_lines more (lines ++ later) ≡ option_and_then (λ m. with_lines m later) (with_lines more lines)) →
    option_and_then (λ more. with_lines more (lines ++ later)) o ≡ option_and_then (λ more. with_lines more later) (option_and_then (λ more. with_lines more lines) o)
and_then_each lines later None each = refl
and_then_each lines later (Some more) each = each more

pub lines_append : (bytes : ℕ) (lines later : List (List ℕ)) → with_lines bytes (lines ++ later) ≡ option_and_then (λ more. with_lines more later) (with_lines bytes lines)
lines_append bytes [] later = refl
lines_append bytes (line ∷ lines) later = and_then_each lines later (with_line bytes (length line)) (λ more. lines_append more lines later)

and_then_same : (o : Option ℕ) → option_and_then (λ more. Some more) o ≡ o
and_then_same None = refl
and_then_same (Some more) = refl

-- one line alone
line_alone : (bytes : ℕ) (line : List ℕ) → with_lines bytes (line ∷ []) ≡ with_line bytes (length line)
line_alone bytes line = and_then_same (with_line bytes (length line))

module _ {X : Type 0} (lines : X → List (List ℕ)) (bytes : ℕ) (xs : List X) (i : ℕ) (x : X) (so_far : ℕ) where
  -- the lines of one item more
  pub items_next : i < length xs → x ≡ get_or xs i x → with_lines bytes (flat_map lines (take i xs)) ≡ Some so_far →
      with_lines bytes (flat_map lines (take (i + 1) xs)) ≡ with_lines so_far (lines x)
  items_next below is before =
      let front : take (i + 1) xs ≡ take i xs ++ x ∷ [] = take_more xs i x below ∙ ap (λ y. take i xs ++ y ∷ []) (sym is) in
      ap (λ ys. with_lines bytes (flat_map lines ys)) front
      ∙ ap (with_lines bytes) (flat_map-append lines (take i xs) (x ∷ []) ∙ ap (λ more. flat_map lines (take i xs) ++ more) (append-nil (lines x)))
      ∙ lines_append bytes (flat_map lines (take i xs)) (lines x) ∙ ap (option_and_then (λ more. with_lines more (lines x))) before

  -- a limit is broken in the lines of an item
  pub items_stop : i < length xs → x ≡ get_or xs i x → with_lines bytes (flat_map lines (take i xs)) ≡ Some so_far → with_lines so_far (lines x) ≡ None →
      with_lines bytes (flat_map lines xs) ≡ None
  items_stop below is before stops =
      let later = flat_map lines (drop (suc i) xs) in
      let rest : drop i xs ≡ x ∷ drop (suc i) xs = drop-cons xs i x below ∙ ap (λ y. y ∷ drop (suc i) xs) (sym is) in
      let whole : xs ≡ take i xs ++ x ∷ drop (suc i) xs = sym (take-append-drop i xs) ∙ ap (λ r. take i xs ++ r) rest in
      ap (λ ys. with_lines bytes (flat_map lines ys)) whole ∙ ap (with_lines bytes) (flat_map-append lines (take i xs) (x ∷ drop (suc i) xs))
      ∙ lines_append bytes (flat_map lines (take i xs)) (lines x ++ later) ∙ ap (option_and_then (λ more. with_lines more (lines x ++ later))) before
      ∙ lines_append so_far (lines x) later ∙ ap (option_and_then (λ more. with_lines more later)) stops

module _ {X : Type 0} (line : X → List ℕ) (bytes : ℕ) (xs : List X) (i : ℕ) (x : X) (so_far : ℕ) where
  as_items : (ys : List X) → with_lines bytes (map line ys) ≡ with_lines bytes (flat_map (λ y. line y ∷ []) ys)
  as_items ys = ap (with_lines bytes) (sym (flat_map_single line ys))

  -- one line more
  pub lines_next : i < length xs → x ≡ get_or xs i x → with_lines bytes (map line (take i xs)) ≡ Some so_far →
      with_lines bytes (map line (take (i + 1) xs)) ≡ with_line so_far (length (line x))
  lines_next below is before =
      as_items (take (i + 1) xs) ∙ items_next (λ y. line y ∷ []) bytes xs i x so_far below is (sym (as_items (take i xs)) ∙ before) ∙ line_alone so_far (line x)

  -- a limit is broken at a line
  pub lines_stop : i < length xs → x ≡ get_or xs i x → with_lines bytes (map line (take i xs)) ≡ Some so_far → with_line so_far (length (line x)) ≡ None →
      with_lines bytes (map line xs) ≡ None
  lines_stop below is before stops =
      as_items xs ∙ items_stop (λ y. line y ∷ []) bytes xs i x so_far below is (sym (as_items (take i xs)) ∙ before) (line_alone so_far (line x) ∙ stops)

-- the size of one line more
size_of_more : (line : List ℕ) (lines : List (List ℕ)) → length (text_of_lines (line ∷ lines)) ≡ length line + 1 + length (text_of_lines lines)
size_of_more line lines = omega (arith, length-append (with_feed line) (text_of_lines lines), length-append line (10 ∷ []))

and_false : (b : Bool) → false ≡ (b && false)
and_false true = refl
and_false false = refl

-- the limits are kept exactly where there is a size
pub keeps_limits : (bytes : ℕ) (lines : List (List ℕ)) → bytes ≤ 1048576 → is_some (with_lines bytes lines) ≡ (list_all is_short_line lines && nat_le (bytes + length (text_of_lines lines)) 1048576)
keeps_limits bytes [] small = grind (arith, nat_tests)
keeps_limits bytes (line ∷ lines) small =
    by (is_short (length line)) (is_small (bytes + length line + 1)) refl refl (λ more_small. keeps_limits (bytes + length line + 1) lines more_small)
  where
    by : (short small_so_far : Bool) → is_short (length line) ≡ short → is_small (bytes + length line + 1) ≡ small_so_far →
        (bytes + length line + 1 ≤ 1048576 → is_some (with_lines (bytes + length line + 1) lines) ≡ (list_all is_short_line lines && nat_le (bytes + length line + 1 + length (text_of_lines lines)) 1048576)) →
        is_some (option_and_then (λ more. with_lines more lines) (if short && small_so_far then Some (bytes + length line + 1) else None))
        ≡ ((is_short (length line) && list_all is_short_line lines) && nat_le (bytes + length (text_of_lines (line ∷ lines))) 1048576)
    by true true is_short is_small each =
        let so_far : bytes + length line + 1 ≤ 1048576 = grind (arith, nat_tests) in
        let same : bytes + length line + 1 + length (text_of_lines lines) ≡ bytes + length (text_of_lines (line ∷ lines)) = omega (arith, size_of_more line lines) in
        each so_far ∙ ap (λ n. list_all is_short_line lines && nat_le n 1048576) same
        ∙ ap (λ b. (b && list_all is_short_line lines) && nat_le (bytes + length (text_of_lines (line ∷ lines))) 1048576) (sym is_short)
    by true false is_short is_large each =
        let so_far : 1048576 < bytes + length line + 1 = grind (arith, nat_tests) in
        let more = size_of_more line lines in
        let over : nat_le (bytes + length (text_of_lines (line ∷ lines))) 1048576 ≡ false = grind (arith, nat_tests) in
        let first = is_short_line line && list_all is_short_line lines in
        and_false first ∙ ap (λ b. first && b) (sym over)
    by false small_so_far is_long is_small each =
        ap (λ b. (b && list_all is_short_line lines) && nat_le (bytes + length (text_of_lines (line ∷ lines))) 1048576) (sym is_long)

-- the bytes are those of the text of the lines
pub size_told : (bytes : ℕ) (lines : List (List ℕ)) (total : ℕ) → with_lines bytes lines ≡ Some total → total ≡ bytes + length (text_of_lines lines)
size_told bytes [] total told = let same : bytes ≡ total = cc in omega arith
size_told bytes (line ∷ lines) total told =
    by (is_short (length line) && is_small (bytes + length line + 1)) told (size_told (bytes + length line + 1) lines total)
  where
    by : (kept : Bool) → option_and_then (λ more. with_lines more lines) (if kept then Some (bytes + length line + 1) else None) ≡ Some total →
        (with_lines (bytes + length line + 1) lines ≡ Some total → total ≡ bytes + length line + 1 + length (text_of_lines lines)) →
        total ≡ bytes + length (text_of_lines (line ∷ lines))
    by true told later = omega (arith, later told, size_of_more line lines)
    by false told later = absurd cc

-- a file that has a size keeps the limits
pub printable : (file : Contents) (total : ℕ) → with_lines 0 (printed_lines file) ≡ Some total → IsPrintable file
printable file total told =
    let lines = printed_lines file in
    let both : (list_all is_short_line lines && nat_le (0 + length (text_of_lines lines)) 1048576) ≡ true = sym (keeps_limits 0 lines (omega arith)) ∙ ap is_some told in
    let parts = both_true_parts (list_all is_short_line lines) (nat_le (0 + length (text_of_lines lines)) 1048576) both in
    let small = parts.1 in
    record { each_line = parts.0; bytes_at_most = grind (arith, nat_tests) }
