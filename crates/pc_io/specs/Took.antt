-- What was taken off a source by cutting it into lines, between two moments.
use Rattle.std.specs.Prelude.{◌≡◌, ℕ, ◌+◌, ◌≤◌, false, List, [], ◌++◌, length, Option, Err, IfSome, IsTrue}
use Rattle.std.specs.Io.KnownBytes.{prepend_known}
use Rattle.pc_base.specs.Lines.{lines, HasNoFeed}
use Rattle.pc_io.specs.declared.line_fault.LineFault.{LineFault}
use Rattle.pc_io.specs.declared.line_fault.LineFault.TheVariants.{ReadFault}
use Rattle.pc_io.specs.Cutter.{Cutter, stream, left_to_give}
use Rattle.pc_io.specs.Limits.{broken_limit}
use Rattle.pc_io.specs.NextLine.{answer_to, is_outside_fault}

-- what cuts, and the rest of its source, where that is told
pub record Moment : Type 0 where
  pub cutter : Cutter
  pub rest : Option (List ℕ)

-- the bytes still to be cut
abbrev pub coming : Moment → Option (List ℕ)
coming m = stream m.cutter m.rest

-- Something may come after this moment: nothing does where the source has given its end.
abbrev pub MayCome : Moment → List ℕ → Type 0
MayCome m later = IsTrue m.cutter.ended → later ≡ []

-- These lines were taken off, in order, and these are their bytes, with their line feeds. Whatever comes later, the lines
-- of all are these and then those of what comes; and a limit is broken where what comes breaks what is left of it.
pub record Took (taken : List (List ℕ)) (text : List ℕ) (before after : Moment) : Type 0 where
  pub read : coming before ≡ prepend_known text (coming after)
  pub given : after.cutter.given ≡ before.cutter.given + length text
  pub rising : length taken ≤ length text
  pub cut : (later : List ℕ) → MayCome after later → lines (text ++ later) ≡ taken ++ lines later
  pub judged : (later : List ℕ) → MayCome after later
      → broken_limit before.cutter.line_limit (left_to_give before.cutter) (text ++ later) ≡ broken_limit before.cutter.line_limit (left_to_give after.cutter) later
  pub line_limit : after.cutter.line_limit ≡ before.cutter.line_limit
  pub total_limit : after.cutter.total_limit ≡ before.cutter.total_limit

-- The next line can't be cut, and nothing is taken. The first line of what comes breaks a limit, or a read failed, and then no line feed is kept.
pub record Stopped (fault : LineFault) (before after : Moment) : Type 0 where
  pub going : before.cutter.ended ≡ false
  pub same : coming before ≡ coming after
  pub breaks : is_outside_fault fault ≡ false → IfSome (coming before) (λ b. answer_to before.cutter.line_limit (left_to_give before.cutter) b ≡ Err fault)
  pub unread : fault ≡ ReadFault → HasNoFeed after.cutter.kept
