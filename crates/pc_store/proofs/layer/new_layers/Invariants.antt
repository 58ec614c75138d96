use Rattle.std.proofs.Common.{◌≡◌, map, take}
use Rattle.pc_store.specs.Layered.{new_layer}
use Rattle.pc_store.proofs.layer.new_layers.Given as goal

abbrev pub invariant-loop-domain : goal.invariant-loop-domain
invariant-loop-domain l = l.layers.items ≡ map new_layer (take l.domain-index l.domains)
