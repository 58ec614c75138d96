-- What a call for the next line answers, and what it takes.
use Rattle.std.specs.Prelude.{ℕ, Bool, true, false, List, [], ◌∷◌, ◌++◌, length, nat_lt, if◌then◌else◌, Option, None, Some, Result, Ok, Err, ⊤}
use Rattle.pc_io.specs.declared.line_fault.LineFault.{LineFault}
use Rattle.pc_io.specs.declared.line_fault.LineFault.TheVariants.{ReadFault, LineTooLong, TotalTooLong, NoMemory}
use Rattle.pc_base.specs.Lines.{first_line, is_long, is_over}

-- a line, the end, or a fault
abbrev pub LineAnswer : Type 0
LineAnswer = Result (Option (List ℕ)) LineFault

-- what the bytes still to be cut call for, with so many left to give: a fault of a limit, the first line, or the end
unfoldable pub answer_to : ℕ → ℕ → List ℕ → LineAnswer
answer_to line_limit left b =
    if is_long line_limit left b then Err LineTooLong
    else (if is_over left b then Err TotalTooLong
    else (if nat_lt 0 (length b) then Ok (Some (first_line b)) else Ok None))

-- a read fault or want of memory, which no bytes call for
abbrev pub is_outside_fault : LineFault → Bool
is_outside_fault ReadFault = true
is_outside_fault LineTooLong = false
is_outside_fault TotalTooLong = false
is_outside_fault NoMemory = true

-- such a fault is answered
abbrev pub is_from_outside : {X : Type 0} → Result X LineFault → Bool
is_from_outside (Ok x) = false
is_from_outside (Err fault) = is_outside_fault fault

-- the fault that each later call tells again
abbrev pub lasting : LineFault → Option LineFault
lasting ReadFault = Some ReadFault
lasting LineTooLong = Some LineTooLong
lasting TotalTooLong = Some TotalTooLong
lasting NoMemory = None

-- the fault that an answer leaves
abbrev pub fault_left : LineAnswer → Option LineFault
fault_left (Ok line) = None
fault_left (Err fault) = lasting fault

-- the bytes that an answer takes: a line with its line feed, or alone at the end
abbrev pub taken : LineAnswer → Bool → List ℕ
taken (Ok (Some line)) ended = if ended then line else line ++ 10 ∷ []
taken (Ok None) ended = []
taken (Err fault) ended = []

-- P of the line, if there is one
abbrev pub IfLine : LineAnswer → (List ℕ → Type 0) → Type 0
IfLine (Ok (Some line)) P = P line
IfLine (Ok None) P = ⊤
IfLine (Err fault) P = ⊤
