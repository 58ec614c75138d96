use Rattle.std.proofs.Common.{◌≡◌, take, true}
use Rattle.pc_base.specs.Distinct.{all_differ}
use Rattle.pc_names.specs.Spelling.{same_spelling}
use Rattle.pc_names.proofs.names.Names.of.Given as goal

abbrev pub invariant-loop-name : goal.invariant-loop-name
invariant-loop-name l = record {
  read : l.names ≡ take l.name-index l.list;
  differ : all_differ same_spelling (take l.name-index l.list) ≡ true;
}
