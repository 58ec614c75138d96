-- What a function that reads tells, set beside what reading gives. Want of memory tells nothing.
use Rattle.std.specs.Prelude.{◌≡◌, ℕ, Option, Some, None, Result, Ok, Err}
use Rattle.pc_text.specs.declared.statement_fault.StatementFault.{StatementFault}
use Rattle.pc_text.specs.declared.statement_fault.StatementFault.TheVariants.{Fault, NoMemory}
use Rattle.pc_rules.specs.declared.fault.RuleFault.{RuleFault}
use Rattle.pc_rules.specs.declared.fault.RuleFault.TheVariants as rule
use Rattle.pc_rules.specs.declared.kind.Kind.{Kind}
use Rattle.pc_text.specs.declared.text_fault.TextFault.{TextFault}
use Rattle.pc_text.specs.declared.text_fault.TextFault.TheVariants.{At}
use Rattle.pc_text.specs.declared.text_fault.TextFault.TheVariants as text

-- the fault of a statement whose rule has this one
abbrev pub of_rule : RuleFault → StatementFault
of_rule (rule.Fault kind) = Fault kind
of_rule rule.NoMemory = NoMemory

-- no fault, and a value of which P holds; or the first fault of this kind
abbrev pub Tells : {X : Type 0} → Result X StatementFault → Option Kind → (X → Type 0) → Type 0
Tells (Ok x) fault P = (fault ≡ None) × P x
Tells (Err (Fault kind)) fault P = fault ≡ Some kind
Tells (Err NoMemory) fault P = Unit {0}

-- no fault, and a value of which P holds; or the first fault, told with the number of its line
abbrev pub TellsAt : {X : Type 0} → ℕ → Result X TextFault → Option Kind → (X → Type 0) → Type 0
TellsAt number (Ok x) fault P = (fault ≡ None) × P x
TellsAt number (Err (At line kind)) fault P = (line ≡ number) × (fault ≡ Some kind)
TellsAt number (Err text.NoMemory) fault P = Unit {0}

-- a value of which P holds, where the text has no fault; or its first fault
abbrev pub ReadsText : {X : Type 0} → (X → Type 0) → Result X TextFault → Option (ℕ × Kind) → Type 0
ReadsText P (Ok x) fault = (fault ≡ None) × P x
ReadsText P (Err (At line kind)) fault = fault ≡ Some (line, kind)
ReadsText P (Err text.NoMemory) fault = Unit {0}
