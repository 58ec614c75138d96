use Rattle.std.proofs.Common.{sym, ap}
use Rattle.pc_store.specs.declared.id.Id.{Id}
use Rattle.pc_store.specs.Sets.{has}
use Rattle.pc_store.proofs.SetLemmas.{one_set}
use Rattle.pc_store.proofs.laws.sets_stand_once.Goals as goal

pub returns : goal.returns
returns c store a b is_a is_b = (λ e word. ap (λ (id : Id). has store id word) e, λ same. sym (one_set store a b is_a is_b same))
