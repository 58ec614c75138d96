-- Where the reading of a line stops.
use Rattle.std.specs.Prelude.{◌≡◌, ℕ, ◌<◌, ◌≤◌, true, [], ◌∷◌, drop, length}
use Rattle.pc_io.specs.declared.reading.Reached.{Reached}
use Rattle.pc_io.specs.declared.reading.Reached.TheVariants.{LineFeed, End, Limit, Fault}
use Rattle.pc_io.specs.Held.{Held, held}
use Rattle.pc_base.specs.Lines.{first_line}

-- the part is a line of at most so many bytes, up to a line feed or the end; or the line has more bytes; or a read failed with nothing ahead
abbrev pub Reaches : Reached → ℕ → Held → Type 0
Reaches LineFeed most p = (length p.part ≤ most) × (p.ahead ≡ 10 ∷ drop 1 p.ahead)
Reaches End most p = (length p.part ≤ most) × (p.ahead ≡ []) × (p.ended ≡ true)
Reaches Limit most p = most < length (first_line (held p))
Reaches Fault most p = p.ahead ≡ []
