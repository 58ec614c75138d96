use Rattle.std.proofs.Common.{◌≡◌, ◌+◌, ◌∷◌}
use Rattle.pc_store.specs.Sets.{has}
use Rattle.pc_conjunction.specs.Meets.{CutColumn}
use Rattle.pc_conjunction.proofs.LayerLemmas.{Changing}
use Rattle.pc_conjunction.proofs.layer.Layer.cut.Given as goal

abbrev pub invariant-loop-value : goal.invariant-loop-value
invariant-loop-value l = record {
  count : l.self.count ≡ l.fn.self.count;
  changing : Changing l.store l.layer l.count (λ layers value next old new. CutColumn l.store (l.layer + 1) layers (λ word. has l.store l.set (value ∷ word)) next old new) l.value l.fn.next.keys l.next.keys l.fn.self.columns.items l.self.columns.items;
}
