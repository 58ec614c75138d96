-- The definitions on small bytes: a line feed is 10.
use Rattle.std.proofs.Common.{◌≡◌, [], ◌∷◌, Some, None, Ok, Err, refl}
use Rattle.pc_io.specs.declared.line_fault.LineFault.TheVariants.{LineTooLong, TotalTooLong}
use Rattle.pc_io.specs.Calls.{failed_among}
use Rattle.pc_io.specs.Limits.{broken_limit}
use Rattle.pc_base.specs.Lines.{first_line, from_feed, lines}
use Rattle.pc_io.specs.NextLine.{answer_to}

two_lines : lines (1 ∷ 2 ∷ 10 ∷ 3 ∷ 10 ∷ []) ≡ (1 ∷ 2 ∷ []) ∷ (3 ∷ []) ∷ []
unfolding lines
two_lines = refl

last_without_feed : lines (10 ∷ 10 ∷ 3 ∷ []) ≡ [] ∷ [] ∷ (3 ∷ []) ∷ []
unfolding lines
last_without_feed = refl

within : answer_to 2 3 (1 ∷ 2 ∷ 10 ∷ 3 ∷ []) ≡ Ok (Some (1 ∷ 2 ∷ []))
unfolding answer_to first_line from_feed
within = refl

over_by_its_feed : answer_to 2 2 (1 ∷ 2 ∷ 10 ∷ []) ≡ Err TotalTooLong
unfolding answer_to first_line from_feed
over_by_its_feed = refl

long : answer_to 2 3 (1 ∷ 2 ∷ 3 ∷ 4 ∷ []) ≡ Err LineTooLong
unfolding answer_to first_line from_feed
long = refl

the_end : answer_to 2 0 [] ≡ Ok None
unfolding answer_to first_line from_feed
the_end = refl

cut_short : broken_limit 2 3 (1 ∷ 10 ∷ 2 ∷ 3 ∷ 4 ∷ []) ≡ Some TotalTooLong
unfolding broken_limit lines
cut_short = refl

second_long : broken_limit 2 5 (1 ∷ 10 ∷ 2 ∷ 3 ∷ 4 ∷ []) ≡ Some LineTooLong
unfolding broken_limit lines
second_long = refl

none_broken : broken_limit 2 5 (1 ∷ 10 ∷ 2 ∷ 3 ∷ 10 ∷ []) ≡ None
unfolding broken_limit lines
none_broken = refl

two_failed : failed_among (0 ∷ 2 ∷ 2 ∷ 5 ∷ []) 4 ≡ 2
unfolding failed_among
two_failed = refl
