-- What reading gives: a value, or the kind of the first fault.
use Rattle.std.specs.Prelude.{◌≡◌, Bool, Result, Ok, Err, if◌then◌else◌}
use Rattle.pc_rules.specs.declared.kind.Kind.{Kind}
use Rattle.pc_rules.specs.declared.fault.RuleFault.{RuleFault}
use Rattle.pc_rules.specs.declared.fault.RuleFault.TheVariants.{Fault, NoMemory}

abbrev pub Parsed : Type 0 → Type 0
Parsed A = Result A Kind

-- one step and, if it gives a value, another
infixl 10 ◌>>=◌
abbrev pub ◌>>=◌ : {A B : Type 0} → Parsed A → (A → Parsed B) → Parsed B
(Ok x) >>= next = next x
(Err kind) >>= next = Err kind

infixl 10 ◌>>◌
abbrev pub ◌>>◌ : {A B : Type 0} → Parsed A → Parsed B → Parsed B
first >> next = first >>= (λ _. next)

-- goes on unless the fault stands
abbrev pub unless : Bool → Kind → Parsed (Unit {0})
unless fault kind = if fault then Err kind else Ok tt

-- What a function returned, seen by view, is what reading gives, unless memory ran out.
abbrev pub Fails : {Y : Type 0} → RuleFault → Parsed Y → Type 0
Fails (Fault kind) outcome = outcome ≡ Err kind
Fails NoMemory outcome = Unit {0}

abbrev pub Gives : {X Y : Type 0} → (X → Y) → Result X RuleFault → Parsed Y → Type 0
Gives view (Ok x) outcome = outcome ≡ Ok (view x)
Gives view (Err fault) outcome = Fails fault outcome

-- What a function returned is what reading gives, and the tokens that it left are those after it.
abbrev pub Reads : {X Left : Type 0} → Parsed (X × Left) → Result X RuleFault → Left → Type 0
Reads outcome (Ok x) left = outcome ≡ Ok (x, left)
Reads outcome (Err fault) left = Fails fault outcome
