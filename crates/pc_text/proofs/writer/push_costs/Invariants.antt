use Rattle.std.proofs.Common.{◌≡◌, true, ◌++◌, take}
use Rattle.std.specs.List.{flat_map, list_all}
use Rattle.pc_names.specs.Name.{is_name}
use Rattle.pc_file.specs.PrintedForm.{cost_line, with_feed}
use Rattle.pc_text.proofs.writer.push_costs.Given as goal

abbrev pub invariant-loop-cost : goal.invariant-loop-cost
invariant-loop-cost l = record {
  text : l.text ≡ l.initial.text ++ flat_map (λ name. with_feed (cost_line name)) (take l.cost-index l.costs);
  names : list_all is_name (take l.cost-index l.costs) ≡ true;
}
