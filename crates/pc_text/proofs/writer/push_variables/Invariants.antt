use Rattle.std.proofs.Common.{◌≡◌, true, ◌++◌, take}
use Rattle.std.specs.List.{flat_map, list_all}
use Rattle.pc_file.specs.PrintedForm.{value_line, variable_line, with_feed}
use Rattle.pc_print.specs.Nameable.{is_named}
use Rattle.pc_text.proofs.writer.push_variables.Given as goal

abbrev pub invariant-loop-variable : goal.invariant-loop-variable
invariant-loop-variable l = record {
  text : l.text ≡ l.initial.text ++ flat_map (λ variable. with_feed (variable_line variable.name) ++ flat_map (λ value. with_feed (value_line l.costs value)) variable.values) (take l.variable-index l.variables);
  names : list_all is_named (take l.variable-index l.variables) ≡ true;
}
