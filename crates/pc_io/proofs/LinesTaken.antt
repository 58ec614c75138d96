-- What taking a line leaves of all lines.
use Rattle.std.proofs.Common.{◌≡◌, ℕ, ◌<◌, Bool, true, false, List, [], ◌∷◌, ◌++◌, length, Option, Some, None, Ok, IsTrue, refl, sym, ap, ◌∙◌, arith, append_assoc}
use Rattle.std.specs.Option.{option_map}
use Rattle.std.specs.Io.KnownBytes.{IsAtEnd, prepend_known}
use Rattle.std.proofs.lemmas.List.{append-nil}
use Rattle.pc_base.specs.Lines.{HasNoFeed, lines}
use Rattle.pc_io.specs.NextLine.{taken}
use Rattle.pc_base.proofs.LineCuts.{lines-feed_after, lines-last, lines-nil}

lines_at_end : (line : List ℕ) → HasNoFeed line → 0 < length line → lines line ≡ line ∷ lines []
lines_at_end [] h some = absurd (omega arith)
lines_at_end (x ∷ xs) h some = lines-last x xs h ∙ ap (λ (ls : List (List ℕ)). (x ∷ xs) ∷ ls) (sym lines-nil)

-- the lines of a stream are the line that was taken and those of what is left
pub lines_taken : (old new : Option (List ℕ)) (line : List ℕ) (ended : Bool) → HasNoFeed line → 0 < length (taken (Ok (Some line)) ended) → old ≡ prepend_known (taken (Ok (Some line)) ended) new
    → (IsTrue ended → IsAtEnd new) → option_map lines old ≡ option_map (λ later. line ∷ lines later) new
lines_taken old None line ended h some is at_end = ap (option_map lines) is
lines_taken old (Some later) line false h some is at_end =
    ap (option_map lines) is ∙ ap (λ (ls : List (List ℕ)). Some ls) (ap lines (append_assoc line (10 ∷ []) later) ∙ lines-feed_after line later h)
lines_taken old (Some later) line true h some is at_end =
    let no_more : later ≡ [] = at_end refl in
    ap (option_map lines) is ∙ ap (λ (ls : List (List ℕ)). Some ls) (rw (no_more, append-nil) (lines_at_end line h some))

-- nothing is kept, and nothing is left
pub at_end_of : (kept : List ℕ) (rest : Option (List ℕ)) → kept ≡ [] → IsAtEnd rest → IsAtEnd (prepend_known kept rest)
at_end_of kept None none end = end
at_end_of kept (Some xs) none end = ap (λ (x : List ℕ). x ++ xs) none ∙ end
