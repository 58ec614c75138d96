-- The spaces between the words of a line.
use Rattle.std.specs.Prelude.{ℕ, ◌==◌, Bool, false, not, List, [], ◌∷◌}

abbrev pub is_space : ℕ → Bool
is_space byte = byte == 32

-- a word goes on at the front of these bytes
abbrev pub goes_on : List ℕ → Bool
goes_on [] = false
goes_on (byte ∷ bytes) = not (is_space byte)
