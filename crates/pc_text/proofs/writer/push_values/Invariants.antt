use Rattle.std.proofs.Common.{◌≡◌, true, ◌++◌, take}
use Rattle.std.specs.List.{flat_map, list_all}
use Rattle.pc_names.specs.Name.{is_name}
use Rattle.pc_file.specs.PrintedForm.{value_line, with_feed}
use Rattle.pc_text.proofs.writer.push_values.Given as goal

abbrev pub invariant-loop-value : goal.invariant-loop-value
invariant-loop-value l = record {
  text : l.text ≡ l.initial.text ++ flat_map (λ value. with_feed (value_line l.costs value)) (take l.value-index l.values);
  names : list_all (λ value. is_name value.name) (take l.value-index l.values) ≡ true;
}
