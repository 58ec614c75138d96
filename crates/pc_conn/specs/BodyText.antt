-- What the text of a publish gives.
use Rattle.std.specs.Prelude.{ℕ, List, Option, Some, None}
use Rattle.pc_file.specs.Limits.{Contents}
use Rattle.pc_rules.specs.declared.kind.Kind.{Kind}
use Rattle.pc_text.specs.FirstFault.{first_fault, given_by}
use Rattle.pc_text.specs.Given.{contents_given}
use Rattle.pc_conn.specs.declared.body.Body.{Body}
use Rattle.pc_conn.specs.declared.body.Body.TheVariants.{File, Fault}

-- a fault, or where there is none a file
abbrev pub body_by : Option (ℕ × Kind) → Contents → Body
body_by (Some fault) file = Fault fault.0 fault.1
body_by None file = File file

-- the first fault of a text, or where there is none the file that it spells
unfoldable pub body_of : List ℕ → Body
body_of text = body_by (first_fault text) (contents_given (given_by text))
