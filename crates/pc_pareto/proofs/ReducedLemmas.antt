-- Items that are reduced on the way have the front of all.
use Rattle.std.proofs.Common.{◌≡◌, ℕ, List, [], ◌++◌, get_or, true, All, Contains, subst}
use Rattle.std.specs.Prelude.{Result, Ok, Err, IfOk}
use Rattle.std.proofs.lemmas.List.Elements.{All-append, All-contains, All-contains_itself, All-nil, Contains-append_left, Contains-append_right}
use Rattle.pc_pareto.specs.declared.front_item.FrontItem.{FrontItem}
use Rattle.pc_pareto.specs.Items.{covers, IsCovered, IsFrontOf, IsReduced}
use Rattle.pc_pareto.proofs.ItemLemmas.{covers_itself, covers_trans, front_through}

each : {X : Type 0} (P Q : X → Type 0) → ((x : X) → P x → Q x) → (xs : List X) → All P xs → All Q xs
each P Q f xs h = λ i d l. f (get_or xs i d) (h i d l)

-- nothing is reduced to nothing
pub none_reduced : IsReduced [] []
none_reduced = record { among = All-nil (Contains []); covered = All-nil (IsCovered []) }

-- items are reduced to themselves
pub same_reduced : (items : List FrontItem) → IsReduced items items
same_reduced items = record { among = All-contains_itself items; covered = each (Contains items) (IsCovered items) (λ x here. (x, here, covers_itself x)) items (All-contains_itself items) }

-- a front reduces its items
pub front_reduced : (items kept : List FrontItem) → IsFrontOf items kept → IsReduced items kept
front_reduced items kept f = record { among = f.among; covered = f.covered }

-- the same items beside both
pub more_reduced : (items left more : List FrontItem) → IsReduced items left → IsReduced (items ++ more) (left ++ more)
more_reduced items left more r = record {
  among = All-append (Contains (items ++ more)) left more
      (each (Contains items) (Contains (items ++ more)) (λ x here. Contains-append_left items more x here) left r.among)
      (each (Contains more) (Contains (items ++ more)) (λ x here. Contains-append_right items more x here) more (All-contains_itself more));
  covered = All-append (IsCovered (left ++ more)) items more
      (each (IsCovered left) (IsCovered (left ++ more)) (λ x c. (c.0, Contains-append_left left more c.0 c.1, c.2)) items r.covered)
      (each (Contains more) (IsCovered (left ++ more)) (λ x here. (x, Contains-append_right left more x here, covers_itself x)) more (All-contains_itself more));
}

-- what is reduced again is reduced
pub again_reduced : (items left last : List FrontItem) → IsReduced items left → IsReduced left last → IsReduced items last
again_reduced items left last r s = record {
  among = each (Contains left) (Contains items) (λ x here. All-contains (Contains items) left x r.among here) last s.among;
  covered = each (IsCovered left) (IsCovered last) (λ x c. let d = All-contains (IsCovered last) left c.0 s.covered c.1 in (d.0, d.1, covers_trans d.0 c.0 x d.2 c.2)) items r.covered;
}

-- the front of what is left is that of all
front_of_reduced : (items left kept : List FrontItem) → IsReduced items left → IsFrontOf left kept → IsFrontOf items kept
front_of_reduced items left kept r f = front_through items left kept r.among r.covered f

pub front_if_reduced : {E : Type 0} (items left : List FrontItem) (result : Result (List FrontItem) E) → IsReduced items left → IfOk result (IsFrontOf left) → IfOk result (IsFrontOf items)
front_if_reduced items left (Ok kept) r f = front_of_reduced items left kept r f
front_if_reduced items left (Err e) r f = tt
