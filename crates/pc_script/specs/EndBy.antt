-- The end of a script by the fault that ends it.
use Rattle.pc_io.specs.declared.line_fault.LineFault.{LineFault}
use Rattle.pc_io.specs.declared.line_fault.LineFault.TheVariants as line
use Rattle.pc_conn.specs.declared.body_fault.BodyFault.{BodyFault}
use Rattle.pc_conn.specs.declared.body_fault.BodyFault.TheVariants as body
use Rattle.pc_script.specs.declared.script_end.ScriptEnd.{ScriptEnd}
use Rattle.pc_script.specs.declared.script_end.ScriptEnd.TheVariants.{ReadFault, TooLong, NoMemory}

abbrev pub end_by : LineFault → ScriptEnd
end_by line.ReadFault = ReadFault
end_by line.LineTooLong = TooLong
end_by line.TotalTooLong = TooLong
end_by line.NoMemory = NoMemory

abbrev pub end_by_body : BodyFault → ScriptEnd
end_by_body (body.Line fault) = end_by fault
end_by_body body.NoMemory = NoMemory
