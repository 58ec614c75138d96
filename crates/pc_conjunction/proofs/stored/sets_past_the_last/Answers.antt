use Rattle.std.proofs.Common.{◌≡◌, ◌∷◌, [], List, Ok, Err, IfOk, Result, Bool, subst, sym}
use Rattle.pc_base.specs.declared.memory.NoMemory.{NoMemory}
use Rattle.pc_store.specs.declared.id.Id.{Id}
use Rattle.pc_conjunction.specs.Stores.{ArePlaces}
use Rattle.pc_conjunction.proofs.StoredLemmas.{places_past}
use Rattle.pc_conjunction.proofs.stored.sets_past_the_last.Goals as goal

pub returns : goal.returns
returns c =
    by c.from_slice.result c.from_slice.ensures
  where
    by : (r : Result (List Id) NoMemory) → IfOk r (λ s. s ≡ c.empty.result ∷ c.full.result ∷ []) → IfOk r (λ sets. (marks : List Bool) → ArePlaces c.args.store.now c.args.layer [] marks sets)
    by (Err e) h = tt
    by (Ok sets) h = λ marks. subst (ArePlaces c.args.store.now c.args.layer [] marks) (sym {A = List Id} h) (places_past c.args.store.now c.args.layer c.empty.result c.full.result marks c.requires c.empty.ensures.is_id c.empty.ensures.set c.full.ensures.is_id c.full.ensures.set)
