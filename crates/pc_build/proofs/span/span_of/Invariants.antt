use Rattle.std.proofs.Common.{◌≤◌, ◌<◌, All, take}
use Rattle.pc_build.proofs.span.span_of.Given as goal

abbrev pub invariant-loop-variable : goal.invariant-loop-variable
invariant-loop-variable l = record {
  first : All (λ variable. l.first ≤ variable) (take l.variable-index l.variables);
  last : All (λ variable. variable ≤ l.last) (take l.variable-index l.variables);
  order : l.first ≤ l.last;
  inside : l.last < l.count;
}
