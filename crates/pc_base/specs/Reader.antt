-- A parser as a function: from what is left to be read, a value and what is left after it, or a fault.
use Rattle.std.specs.Prelude.{Result, Ok, Err}

-- Gives a value and the rest that is left after it, or the fault at which reading ends.
abbrev pub Reader : Type 0 → Type 0 → Type 0 → Type 0
Reader Rest Fault A = Rest → Result (A × Rest) Fault

-- goes on with the value that was read, on the rest; a fault stays
abbrev pub and_then : {Rest Fault A B : Type 0} → Result (A × Rest) Fault → (A → Reader Rest Fault B) → Result (B × Rest) Fault
and_then (Ok found) next = next found.0 found.1
and_then (Err fault) next = Err fault

-- one reader and then another, which may depend on the first one's value
infixl 10 ◌>>=◌
abbrev pub ◌>>=◌ : {Rest Fault A B : Type 0} → Reader Rest Fault A → (A → Reader Rest Fault B) → Reader Rest Fault B
reader >>= next = λ rest. and_then (reader rest) next

-- one reader and then another; the first one's value is dropped
infixl 10 ◌>>◌
abbrev pub ◌>>◌ : {Rest Fault A B : Type 0} → Reader Rest Fault A → Reader Rest Fault B → Reader Rest Fault B
reader >> next = reader >>= (λ _. next)

-- a value, and nothing read
abbrev pub pure : {Rest Fault A : Type 0} → A → Reader Rest Fault A
pure value = λ rest. Ok (value, rest)
