-- The version that is made of a product text, or why it is refused.
use Rattle.std.specs.Prelude.{◌≡◌, Option, Some, None}
use Rattle.pc_diagram.specs.Diagram.{IsCanonical}
use Rattle.pc_file.specs.Contents.{Contents}
use Rattle.pc_top.specs.declared.building.Built.{Built}
use Rattle.pc_top.specs.declared.building.Built.TheVariants.{Version as version, Refused}
use Rattle.pc_top.specs.Output.{Output}
use Rattle.pc_top.specs.Response.{Is}

-- where nothing is refused the version of a file, with a canonical diagram; else what is refused
abbrev pub IsBuilt : Contents → Option Output → Built → Type 0
IsBuilt file refusal (version made) = (refusal ≡ None) × (made.file ≡ file) × IsCanonical made.diagram
IsBuilt file refusal (Refused reply) = (output : Output) × (refusal ≡ Some output) × Is reply output
