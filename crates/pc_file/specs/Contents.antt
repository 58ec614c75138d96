-- What a file says.
use Rattle.std.specs.Prelude.{ℕ, List}
use Rattle.pc_file.specs.declared.variable.Variable.{Variable}
use Rattle.pc_file.specs.declared.rule.Rule.{Rule}

-- the names of its costs, its variables with their values, and its rules
pub record Contents : Type 0 where
  pub costs : List (List ℕ)
  pub variables : List Variable
  pub rules : List Rule
