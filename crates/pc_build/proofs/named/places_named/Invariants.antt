use Rattle.pc_build.proofs.NamedLemmas.{Placed}
use Rattle.pc_build.proofs.named.places_named.Given as goal

abbrev pub invariant-loop-place : goal.invariant-loop-place
invariant-loop-place l = Placed l.values l.name l.place l.places.items
