-- What may be refused: it gives something, or the refusal that stands first.
use Rattle.std.specs.Prelude.{Bool, true, false, Option, Some, None, Result, Ok, Err, if◌then◌else◌}
use Rattle.pc_calls.specs.declared.outcome.Outcome.{Outcome}
use Rattle.pc_calls.specs.declared.outcome.Outcome.TheVariants.{Done}

-- the call is done, and not refused
abbrev pub is_done : Outcome → Bool
is_done Done = true
is_done refusal = false

abbrev pub Decision : Type 0 → Type 0
Decision A = Result A Outcome

-- one step and, if it isn't refused, another
infixl 10 ◌>>=◌
abbrev pub ◌>>=◌ : {A B : Type 0} → Decision A → (A → Decision B) → Decision B
(Ok x) >>= next = next x
(Err refusal) >>= next = Err refusal

infixl 10 ◌>>◌
abbrev pub ◌>>◌ : {A B : Type 0} → Decision A → Decision B → Decision B
first >> next = first >>= (λ _. next)

-- what is there; it is refused where nothing is
abbrev pub required : {A : Type 0} → Option A → Outcome → Decision A
required (Some x) refusal = Ok x
required None refusal = Err refusal

-- it is refused where this stands
abbrev pub refused_where : Bool → Outcome → Decision (Unit {0})
refused_where stands refusal = if stands then Err refusal else Ok tt

-- it is refused where something is there, as that tells
abbrev pub refused_by : {A : Type 0} → Option A → (A → Outcome) → Decision (Unit {0})
refused_by None refusal = Ok tt
refused_by (Some x) refusal = Err (refusal x)
