-- Lists of arrivals that grow.
use Rattle.std.proofs.Common.{◌≡◌, ℕ, zero, suc, ◌+◌, ◌<◌, List, [], ◌∷◌, ◌++◌, length, get_or, set, replicate, Option, Some, None, true, Contains, ◌↔◌, ◌⊎◌, inl, inr, refl, sym, ◌∙◌, ap, subst, arith}
use Rattle.std.proofs.lemmas.Bool.{cases_order}
use Rattle.std.proofs.lemmas.Bool.Decides.{nat_tests}
use Rattle.std.proofs.lemmas.List.{length-set, length-replicate, get_or-set_same, get_or-set_other}
use Rattle.std.proofs.lemmas.List.Elements.{Contains-push, Contains-push_cases, Contains-append_left}
use Rattle.pc_diagram.specs.declared.side.Side.{Side}
use Rattle.pc_diagram.specs.declared.side.Side.TheVariants.{Heads, Tails}
use Rattle.pc_diagram.specs.Levels.{Level, edge}
use Rattle.pc_diagram.specs.NodePaths.{is_allowed}
use Rattle.pc_pareto.specs.declared.arrival.Arrival.{Arrival}
use Rattle.pc_pareto.specs.Arrivals.{IsEdgeOf, owner, IsSlot, IsOwned, IsArrival, HasAlso}

-- an arrival of this node and value
abbrev pub arrival : ℕ → ℕ → Arrival
arrival node value = record { node = node; value = value }

pub also_nothing : (P : ℕ → Arrival → Type 0) (lists : List (List Arrival)) → ((node : ℕ) (a : Arrival) → P node a → ⊥) → HasAlso P lists lists
also_nothing P lists none = (refl, λ node a l. (λ c. inl c, λ e. keep node a e))
  where
    keep : (node : ℕ) (a : Arrival) → Contains (get_or lists node []) a ⊎ P node a → Contains (get_or lists node []) a
    keep node a (inl c) = c
    keep node a (inr p) = absurd (none node a p)

pub also_then : (P Q R : ℕ → Arrival → Type 0) (before between after : List (List Arrival)) → HasAlso P before between → HasAlso Q between after → ((node : ℕ) (a : Arrival) → R node a ↔ (P node a ⊎ Q node a)) → HasAlso R before after
also_then P Q R before between after h k r = (k.0 ∙ h.0, λ node a l. (to node a l, from node a l))
  where
    to : (node : ℕ) (a : Arrival) → node < length before → Contains (get_or after node []) a → Contains (get_or before node []) a ⊎ R node a
    to node a l c = by ((k.1 node a (let e = h.0 in omega arith)).0 c)
      where
        by_first : Contains (get_or before node []) a ⊎ P node a → Contains (get_or before node []) a ⊎ R node a
        by_first (inl c) = inl c
        by_first (inr p) = inr ((r node a).1 (inl p))

        by : Contains (get_or between node []) a ⊎ Q node a → Contains (get_or before node []) a ⊎ R node a
        by (inl c) = by_first ((h.1 node a l).0 c)
        by (inr q) = inr ((r node a).1 (inr q))

    from : (node : ℕ) (a : Arrival) → node < length before → Contains (get_or before node []) a ⊎ R node a → Contains (get_or after node []) a
    from node a l e = by e
      where
        there : node < length between
        there = let e = h.0 in omega arith

        by_r : P node a ⊎ Q node a → Contains (get_or after node []) a
        by_r (inl p) = (k.1 node a there).1 (inl ((h.1 node a l).1 (inr p)))
        by_r (inr q) = (k.1 node a there).1 (inr q)

        by : Contains (get_or before node []) a ⊎ R node a → Contains (get_or after node []) a
        by (inl c) = (k.1 node a there).1 (inl ((h.1 node a l).1 (inl c)))
        by (inr p) = by_r ((r node a).0 p)

pub also_same : (P Q : ℕ → Arrival → Type 0) (before after : List (List Arrival)) → HasAlso P before after → ((node : ℕ) (a : Arrival) → Q node a ↔ P node a) → HasAlso Q before after
also_same P Q before after h f = (h.0, λ node a l. (to node a l, from node a l))
  where
    to : (node : ℕ) (a : Arrival) → node < length before → Contains (get_or after node []) a → Contains (get_or before node []) a ⊎ Q node a
    to node a l c = by ((h.1 node a l).0 c)
      where
        by : Contains (get_or before node []) a ⊎ P node a → Contains (get_or before node []) a ⊎ Q node a
        by (inl c) = inl c
        by (inr p) = inr ((f node a).1 p)

    from : (node : ℕ) (a : Arrival) → node < length before → Contains (get_or before node []) a ⊎ Q node a → Contains (get_or after node []) a
    from node a l (inl c) = (h.1 node a l).1 (inl c)
    from node a l (inr q) = (h.1 node a l).1 (inr ((f node a).0 q))

pub also_pushed : (P : ℕ → Arrival → Type 0) (lists : List (List Arrival)) (place : ℕ) (new : Arrival) → place < length lists → ((node : ℕ) (a : Arrival) → P node a ↔ ((node ≡ place) × (a ≡ new)))
    → HasAlso P lists (set lists place (get_or lists place [] ++ new ∷ []))
also_pushed P lists place new inside f =
    (length-set lists place (get_or lists place [] ++ new ∷ []), λ node a l. by node a (f node a) (cases_order node place))
  where
    more : List Arrival
    more = get_or lists place [] ++ new ∷ []

    other : (node : ℕ) (a : Arrival) → (P node a ↔ ((node ≡ place) × (a ≡ new))) → (node ≡ place → ⊥) → Contains (get_or (set lists place (get_or lists place [] ++ new ∷ [])) node []) a ↔ (Contains (get_or lists node []) a ⊎ P node a)
    other node a g ne =
        let same : get_or (set lists place (get_or lists place [] ++ new ∷ [])) node [] ≡ get_or lists node [] = rw get_or-set_other in
        (λ c. inl (subst (λ (xs : List Arrival). Contains xs a) same c), λ e. back same e)
      where
        back : get_or (set lists place (get_or lists place [] ++ new ∷ [])) node [] ≡ get_or lists node [] → Contains (get_or lists node []) a ⊎ P node a → Contains (get_or (set lists place (get_or lists place [] ++ new ∷ [])) node []) a
        back same (inl c) = subst (λ (xs : List Arrival). Contains xs a) (sym same) c
        back same (inr p) = absurd (ne (g.0 p).0)

    here : (node : ℕ) (a : Arrival) → (P node a ↔ ((node ≡ place) × (a ≡ new))) → node ≡ place → Contains (get_or (set lists place (get_or lists place [] ++ new ∷ [])) node []) a ↔ (Contains (get_or lists node []) a ⊎ P node a)
    here node a g e =
        let same : get_or (set lists place (get_or lists place [] ++ new ∷ [])) node [] ≡ get_or lists node [] ++ new ∷ [] = subst (λ k. get_or (set lists place (get_or lists place [] ++ new ∷ [])) k [] ≡ get_or lists k [] ++ new ∷ []) (sym e) (rw get_or-set_same) in
        (λ c. to (Contains-push_cases (get_or lists node []) new a (subst (λ (xs : List Arrival). Contains xs a) same c)), λ d. subst (λ (xs : List Arrival). Contains xs a) (sym same) (back d))
      where
        to : Contains (get_or lists node []) a ⊎ (new ≡ a) → Contains (get_or lists node []) a ⊎ P node a
        to (inl c) = inl c
        to (inr q) = inr (g.1 (e, sym q))

        back : Contains (get_or lists node []) a ⊎ P node a → Contains (get_or lists node [] ++ new ∷ []) a
        back (inl c) = Contains-append_left (get_or lists node []) (new ∷ []) a c
        back (inr p) = subst (Contains (get_or lists node [] ++ new ∷ [])) (sym (g.0 p).1) (Contains-push (get_or lists node []) new)

    by : (node : ℕ) (a : Arrival) → (P node a ↔ ((node ≡ place) × (a ≡ new))) → (node ≡ place) ⊎ ((node < place) ⊎ (place < node)) → Contains (get_or (set lists place (get_or lists place [] ++ new ∷ [])) node []) a ↔ (Contains (get_or lists node []) a ⊎ P node a)
    by node a g (inl e) = here node a g e
    by node a g (inr (inl l)) = other node a g (λ e. omega arith)
    by node a g (inr (inr l)) = other node a g (λ e. omega arith)

some_same : (m n : ℕ) → Some m ≡ Some n → m ≡ n
some_same m n e = cc

pub heads_slot : (l : Level) (own value target : ℕ) → edge l own value ≡ Some target → (node : ℕ) (a : Arrival) → IsSlot Heads l own value node a ↔ ((node ≡ target) × (a ≡ arrival own value))
heads_slot l own value target e node a = (to, from)
  where
    to : IsSlot Heads l own value node a → (node ≡ target) × (a ≡ arrival own value)
    to s =
        let o : a.node ≡ own = s.owner_is in
        let v : a.value ≡ value = s.value_is in
        let led : edge l a.node a.value ≡ Some node = s.leads in
        (some_same node target (sym led ∙ ap (λ k. edge l k a.value) o ∙ ap (edge l own) v ∙ e), λ i. record { node = o i; value = v i })

    from : (node ≡ target) × (a ≡ arrival own value) → IsSlot Heads l own value node a
    from h = record {
      owner_is = ap (λ x. x.node) h.1;
      value_is = ap (λ x. x.value) h.1;
      leads = ap (λ x. edge l x.node x.value) h.1 ∙ e ∙ ap Some (sym h.0);
    }

pub tails_slot : (l : Level) (own value target : ℕ) → edge l own value ≡ Some target → (node : ℕ) (a : Arrival) → IsSlot Tails l own value node a ↔ ((node ≡ own) × (a ≡ arrival target value))
tails_slot l own value target e node a = (to, from)
  where
    to : IsSlot Tails l own value node a → (node ≡ own) × (a ≡ arrival target value)
    to s =
        let o : node ≡ own = s.owner_is in
        let v : a.value ≡ value = s.value_is in
        let led : edge l node a.value ≡ Some a.node = s.leads in
        let n : a.node ≡ target = some_same a.node target (sym led ∙ ap (λ k. edge l k a.value) o ∙ ap (edge l own) v ∙ e) in
        (o, λ i. record { node = n i; value = v i })

    from : (node ≡ own) × (a ≡ arrival target value) → IsSlot Tails l own value node a
    from h = record {
      owner_is = h.0;
      value_is = ap (λ x. x.value) h.1;
      leads = ap (λ k. edge l k a.value) h.0 ∙ ap (λ x. edge l own x.value) h.1 ∙ e ∙ ap (λ x. Some x.node) (sym h.1);
    }

-- the edges of one node for the first so many values
pub record IsOwnedBelow (side : Side) (l : Level) (own values node : ℕ) (a : Arrival) : Type 0 where
  pub owner_is : owner side node a ≡ own
  pub below : a.value < values
  pub leads : IsEdgeOf side l node a

pub no_values : (side : Side) (l : Level) (own node : ℕ) (a : Arrival) → IsOwnedBelow side l own 0 node a → ⊥
no_values side l own node a h = let b = h.below in omega arith

pub value_more : (side : Side) (l : Level) (own value node : ℕ) (a : Arrival) → IsOwnedBelow side l own (value + 1) node a ↔ (IsOwnedBelow side l own value node a ⊎ IsSlot side l own value node a)
value_more side l own value node a = (to, from)
  where
    to : IsOwnedBelow side l own (value + 1) node a → IsOwnedBelow side l own value node a ⊎ IsSlot side l own value node a
    to h = by (cases_order a.value value)
      where
        by : (a.value ≡ value) ⊎ ((a.value < value) ⊎ (value < a.value)) → IsOwnedBelow side l own value node a ⊎ IsSlot side l own value node a
        by (inl e) = inr (record { owner_is = h.owner_is; value_is = e; leads = h.leads })
        by (inr (inl b)) = inl (record { owner_is = h.owner_is; below = b; leads = h.leads })
        by (inr (inr b)) = let c = h.below in absurd (omega arith)

    from : IsOwnedBelow side l own value node a ⊎ IsSlot side l own value node a → IsOwnedBelow side l own (value + 1) node a
    from (inl h) = let b = h.below in record { owner_is = h.owner_is; below = omega arith; leads = h.leads }
    from (inr h) = let b = h.value_is in record { owner_is = h.owner_is; below = omega arith; leads = h.leads }

pub all_values : (side : Side) (l : Level) (own node : ℕ) (a : Arrival) → IsOwned side l None own node a ↔ IsOwnedBelow side l own l.domain node a
all_values side l own node a =
    (λ h. record { owner_is = h.owner_is; below = h.in_domain; leads = h.leads }, λ h. record { owner_is = h.owner_is; in_domain = h.below; allowed = refl; leads = h.leads })

pub one_value : (side : Side) (l : Level) (value own node : ℕ) (a : Arrival) → value < l.domain → IsOwned side l (Some value) own node a ↔ IsSlot side l own value node a
one_value side l value own node a lt = (
  λ h. record { owner_is = h.owner_is; value_is = same value a.value h.allowed; leads = h.leads },
  λ h. let e = h.value_is in record { owner_is = h.owner_is; in_domain = omega arith; allowed = back value a.value e; leads = h.leads },
)
  where
    same : (v w : ℕ) → is_allowed (Some v) w ≡ true → w ≡ v
    same v w h = grind (arith, nat_tests)

    back : (v w : ℕ) → w ≡ v → is_allowed (Some v) w ≡ true
    back v w h = grind (arith, nat_tests)

pub no_nodes : (side : Side) (l : Level) (chosen : Option ℕ) (node : ℕ) (a : Arrival) → IsArrival side l chosen 0 node a → ⊥
no_nodes side l chosen node a h = let b = h.owned in omega arith

pub node_more : (side : Side) (l : Level) (chosen : Option ℕ) (own node : ℕ) (a : Arrival) → IsArrival side l chosen (own + 1) node a ↔ (IsArrival side l chosen own node a ⊎ IsOwned side l chosen own node a)
node_more side l chosen own node a = (to, from)
  where
    to : IsArrival side l chosen (own + 1) node a → IsArrival side l chosen own node a ⊎ IsOwned side l chosen own node a
    to h = by (cases_order (owner side node a) own)
      where
        by : (owner side node a ≡ own) ⊎ ((owner side node a < own) ⊎ (own < owner side node a)) → IsArrival side l chosen own node a ⊎ IsOwned side l chosen own node a
        by (inl e) = inr (record { owner_is = e; in_domain = h.in_domain; allowed = h.allowed; leads = h.leads })
        by (inr (inl b)) = inl (record { owned = b; in_domain = h.in_domain; allowed = h.allowed; leads = h.leads })
        by (inr (inr b)) = let c = h.owned in absurd (omega arith)

    from : IsArrival side l chosen own node a ⊎ IsOwned side l chosen own node a → IsArrival side l chosen (own + 1) node a
    from (inl h) = let b = h.owned in record { owned = omega arith; in_domain = h.in_domain; allowed = h.allowed; leads = h.leads }
    from (inr h) = let b = h.owner_is in record { owned = omega arith; in_domain = h.in_domain; allowed = h.allowed; leads = h.leads }

-- what was added to empty lists is what is there
pub also_all : (P : ℕ → Arrival → Type 0) (count : ℕ) (after : List (List Arrival)) → HasAlso P (replicate count []) after → (length after ≡ count) × ((node : ℕ) (a : Arrival) → node < length after → Contains (get_or after node []) a ↔ P node a)
also_all P count after h = (h.0 ∙ length-replicate count [], λ node a l. (to node a l, λ p. (h.1 node a (let e = h.0 in omega arith)).1 (inr p)))
  where
    none : (count node : ℕ) (a : Arrival) → Contains (get_or (replicate count []) node []) a → ⊥
    none zero node a (k, l, e) = omega (arith, l)
    none (suc count) zero a (k, l, e) = omega (arith, l)
    none (suc count) (suc node) a c = none count node a c

    to : (node : ℕ) (a : Arrival) → node < length after → Contains (get_or after node []) a → P node a
    to node a l c = by ((h.1 node a (let e = h.0 in omega arith)).0 c)
      where
        by : Contains (get_or (replicate count []) node []) a ⊎ P node a → P node a
        by (inl c) = absurd (none count node a c)
        by (inr p) = p
