-- The fronts of a layer, from those of the layer before it.
use Rattle.std.proofs.Common.{◌≡◌, ℕ, zero, suc, ◌+◌, ◌*◌, ◌<◌, ◌≤◌, nat_lt, List, [], ◌∷◌, ◌++◌, length, get_or, map, true, false, Bool, ◌&&◌, ◌||◌, not, All, Contains, ◌⊎◌, inl, inr, refl, sym, ◌∙◌, ap, subst, arith, ◌==◌, suc-mul, mul-le-mul_right, mul_comm}
use Rattle.std.specs.List.{flat_map}
use Rattle.std.proofs.lemmas.Bool.{cases_order}
use Rattle.std.proofs.lemmas.Bool.Decides.{nat_tests}
use Rattle.std.proofs.lemmas.Int.{ints}
use Rattle.std.proofs.lemmas.List.{get_or_default, get_or_past, get_or_push, get_or_append_left}
use Rattle.std.proofs.lemmas.List.Elements.{All-contains, All-map, All-weaker, Contains-get_or, Contains-append_left, Contains-append_right, Contains-append_cases}
use Rattle.pc_diagram.specs.declared.costs.CostPair.{CostPair}
use Rattle.pc_diagram.specs.declared.side.Side.{Side}
use Rattle.pc_diagram.specs.declared.side.Side.TheVariants.{Heads, Tails}
use Rattle.pc_diagram.specs.Costs.{pair_at}
use Rattle.pc_diagram.specs.NodePaths.{comes_before}
use Rattle.pc_pareto.specs.declared.arrival.Arrival.{Arrival}
use Rattle.pc_pareto.specs.declared.front_item.FrontItem.{FrontItem}
use Rattle.pc_pareto.specs.Front.{is_at_most, front, Falls, IsReached}
use Rattle.pc_pareto.specs.Fronts.{extended, no_item, IsFirstWith}
use Rattle.pc_pareto.specs.Items.{pair_of, covers, IsCovered, IsFrontOf}
use Rattle.pc_pareto.specs.Pass.{StageFacts}
use Rattle.pc_pareto.specs.Stages.{ranked, plus, stepped, run, candidates, front_size}
use Rattle.pc_pareto.proofs.ItemLemmas.{contains_head, contains_tail}
use Rattle.pc_pareto.proofs.PairLemmas.{at_most_itself, at_most_trans, one_front}
use Rattle.pc_pareto.proofs.FrontLemmas.{contains_map, front_is, pairs_are_front}
use Rattle.pc_pareto.proofs.OfferLemmas.{one_item}

-- the scale is above the last digit
abbrev pub IsScale : Side → ℕ → ℕ → ℕ → Type 0
IsScale Heads scale rank value = value < scale
IsScale Tails scale rank value = rank < scale

lex_chain : (a b c : ℕ) (p q r : Bool) → (p ≡ false → q ≡ false → r ≡ false) → (nat_lt a b || a == b && p) ≡ false → (nat_lt b c || b == c && q) ≡ false → (nat_lt a c || a == c && r) ≡ false
lex_chain a b c p q false f h k = grind (arith, nat_tests)
lex_chain a b c true q true f h k = grind (arith, nat_tests)
lex_chain a b c false true true f h k = grind (arith, nat_tests)
lex_chain a b c false false true f h k = absurd (let e = f refl refl in cc)

-- a word isn't before a third, where it isn't before another that isn't before that
pub before_chain : (x y z : List ℕ) → comes_before x y ≡ false → comes_before y z ≡ false → comes_before x z ≡ false
before_chain [] y [] h k = refl
before_chain [] [] (c ∷ z) h k = absurd cc
before_chain [] (b ∷ y) (c ∷ z) h k = absurd cc
before_chain (a ∷ x) y [] h k = refl
before_chain (a ∷ x) [] (c ∷ z) h k = absurd cc
before_chain (a ∷ x) (b ∷ y) (c ∷ z) h k =
    lex_chain a b c (comes_before x y) (comes_before y z) (comes_before x z) (before_chain x y z) h k

-- the order of two words with one value more, by that of the words and that of the values
abbrev pub later : Side → Bool → Bool → ℕ → ℕ → Bool
later Heads less more value other = less || (not more && nat_lt value other)
later Tails less more value other = nat_lt value other || value == other && less

last_decides : (a b : ℕ) (p q r : Bool) → (nat_lt a b || a == b && (p || (not q && r))) ≡ ((nat_lt a b || a == b && p) || (not (nat_lt b a || b == a && q) && r))
last_decides a b p q r = by (cases_order a b)
  where
    by : (a ≡ b) ⊎ ((a < b) ⊎ (b < a)) → (nat_lt a b || a == b && (p || (not q && r))) ≡ ((nat_lt a b || a == b && p) || (not (nat_lt b a || b == a && q) && r))
    by (inl e) = grind (arith, nat_tests)
    by (inr (inl l)) = grind (arith, nat_tests)
    by (inr (inr l)) = grind (arith, nat_tests)

before_heads : (x y : List ℕ) (v w : ℕ) → length x ≡ length y → comes_before (x ++ v ∷ []) (y ++ w ∷ []) ≡ later Heads (comes_before x y) (comes_before y x) v w
before_heads [] [] v w e = by (nat_lt v w) (v == w)
  where
    by : (a b : Bool) → (a || (b && false)) ≡ (false || (true && a))
    by true true = refl
    by true false = refl
    by false true = refl
    by false false = refl
before_heads [] (b ∷ y) v w e = absurd (omega arith)
before_heads (a ∷ x) [] v w e = absurd (omega arith)
before_heads (a ∷ x) (b ∷ y) v w e =
    ap (λ t. nat_lt a b || a == b && t) (before_heads x y v w (omega arith)) ∙ last_decides a b (comes_before x y) (comes_before y x) (nat_lt v w)

pub before_extended : (side : Side) (x y : List ℕ) (v w : ℕ) → length x ≡ length y → comes_before (extended side v x) (extended side w y) ≡ later side (comes_before x y) (comes_before y x) v w
before_extended Heads x y v w e = before_heads x y v w e
before_extended Tails x y v w e = refl

-- two numbers made of two digits compare as these do
digits : (s a b c d : ℕ) → b < s → d < s → nat_lt (a * s + b) (c * s + d) ≡ (nat_lt a c || a == c && nat_lt b d)
digits s a b c d h k = by (cases_order a c)
  where
    by : (a ≡ c) ⊎ ((a < c) ⊎ (c < a)) → nat_lt (a * s + b) (c * s + d) ≡ (nat_lt a c || a == c && nat_lt b d)
    by (inl e) = subst (λ z. nat_lt (a * s + b) (z * s + d) ≡ (nat_lt a z || a == z && nat_lt b d)) e (grind (arith, nat_tests))
    by (inr (inl l)) = let le : suc a ≤ c = omega arith in let m = mul-le-mul_right s le in grind (arith, nat_tests, suc-mul a s)
    by (inr (inr l)) = let le : suc c ≤ a = omega arith in let m = mul-le-mul_right s le in grind (arith, nat_tests, suc-mul c s)

heads_digits : (r t v w : ℕ) → (nat_lt r t || r == t && nat_lt v w) ≡ later Heads (nat_lt r t) (nat_lt t r) v w
heads_digits r t v w = grind (arith, nat_tests)

-- ranks of paths with one value more compare as the paths do
pub ranked_extended : (side : Side) (scale r t v w : ℕ) → IsScale side scale r v → IsScale side scale t w → nat_lt (ranked side scale r v) (ranked side scale t w) ≡ later side (nat_lt r t) (nat_lt t r) v w
ranked_extended Heads scale r t v w h k = digits scale r v t w h k ∙ heads_digits r t v w
ranked_extended Tails scale r t v w h k = digits scale v r w t h k

-- the runs along an edge, by place
in_run : (side : Side) (scale : ℕ) (row : List CostPair) (a : Arrival) (from k : ℕ) (items : List FrontItem) → k < length items → Contains (run side scale row a from items) (stepped side scale row a (from + k) (get_or items k no_item))
in_run side scale row a from k [] l = absurd (omega arith)
in_run side scale row a from zero (x ∷ items) l =
    let here : from ≡ from + 0 = omega arith in
    subst (λ place. Contains (run side scale row a from (x ∷ items)) (stepped side scale row a place x)) here (contains_head (stepped side scale row a from x) (run side scale row a (from + 1) items))
in_run side scale row a from (suc k) (x ∷ items) l =
    let there : (from + 1) + k ≡ from + suc k = omega arith in
    contains_tail (stepped side scale row a from x) (run side scale row a (from + 1) items) (stepped side scale row a (from + suc k) (get_or items k no_item))
    (subst (λ place. Contains (run side scale row a (from + 1) items) (stepped side scale row a place (get_or items k no_item))) there (in_run side scale row a (from + 1) k items (omega arith)))

of_run : (side : Side) (scale : ℕ) (row : List CostPair) (a : Arrival) (from : ℕ) (items : List FrontItem) (c : FrontItem) → Contains (run side scale row a from items) c → (k : ℕ) × (k < length items) × (c ≡ stepped side scale row a (from + k) (get_or items k no_item))
of_run side scale row a from [] c (k, l, e) = absurd (omega (arith, l))
of_run side scale row a from (x ∷ items) c (zero, l, e) =
    let here : from ≡ from + 0 = omega arith in
    (0, omega arith, sym e ∙ ap (λ place. stepped side scale row a place x) here)
of_run side scale row a from (x ∷ items) c (suc k, l, e) =
    let r = of_run side scale row a (from + 1) items c (k, omega arith, e) in
    let there : (from + 1) + r.0 ≡ from + suc r.0 = omega arith in
    (suc r.0, omega (arith, r.1), r.2 ∙ ap (λ place. stepped side scale row a place (get_or items r.0 no_item)) there)

pub in_flat : {X Y : Type 0} (f : X → List Y) (xs : List X) (x : X) (y : Y) → Contains xs x → Contains (f x) y → Contains (flat_map f xs) y
in_flat f [] x y (k, l, e) d = absurd (omega (arith, l))
in_flat f (z ∷ xs) x y (zero, l, e) d = Contains-append_left (f z) (flat_map f xs) y (subst (λ w. Contains (f w) y) (sym e) d)
in_flat f (z ∷ xs) x y (suc k, l, e) d = Contains-append_right (f z) (flat_map f xs) y (in_flat f xs x y (k, omega arith, e) d)

of_flat : {X Y : Type 0} (f : X → List Y) (xs : List X) (y : Y) → Contains (flat_map f xs) y → (x : X) × Contains xs x × Contains (f x) y
of_flat f [] y (k, l, e) = absurd (omega (arith, l))
of_flat {X} {Y} f (z ∷ xs) y c = by (of_flat f xs y) (Contains-append_cases (f z) (flat_map f xs) y c)
  where
    by : (Contains (flat_map f xs) y → (x : X) × Contains xs x × Contains (f x) y) → Contains (f z) y ⊎ Contains (flat_map f xs) y → (x : X) × Contains (z ∷ xs) x × Contains (f x) y
    by more (inl d) = (z, contains_head z xs, d)
    by more (inr d) = let r = more d in (r.0, contains_tail z xs r.0 r.1, r.2)

plus_most : (p q r : CostPair) → is_at_most p q ≡ true → is_at_most (plus p r) (plus q r) ≡ true
plus_most p q r h = grind (arith, ints)

plus_cancel : (p q r : CostPair) → is_at_most (plus p r) (plus q r) ≡ true → is_at_most p q ≡ true
plus_cancel p q r h = grind (arith, ints)

-- a node with a member is one of those that there are
pub in_range : {X : Type 0} (xss : List (List X)) (t : ℕ) (x : X) → Contains (get_or xss t []) x → t < length xss
in_range {X} xss t x c = by (cases_order t (length xss))
  where
    none : Contains [] x → ⊥
    none (k, l, e) = omega (arith, l)

    by : (t ≡ length xss) ⊎ ((t < length xss) ⊎ (length xss < t)) → t < length xss
    by (inl e) = absurd (none (subst (λ (xs : List X). Contains xs x) (get_or_past xss t [] (omega arith)) c))
    by (inr (inl l)) = l
    by (inr (inr l)) = absurd (none (subst (λ (xs : List X). Contains xs x) (get_or_past xss t [] (omega arith)) c))

pub in_map : {X Y : Type 0} (f : X → Y) (xs : List X) (x : X) → Contains xs x → Contains (map f xs) (f x)
in_map f [] x (k, l, e) = absurd (omega (arith, l))
in_map f (y ∷ xs) x (zero, l, e) = subst (λ z. Contains (map f (y ∷ xs)) (f z)) e (contains_head (f y) (map f xs))
in_map f (y ∷ xs) x (suc k, l, e) = contains_tail (f y) (map f xs) (f x) (in_map f xs x (k, omega arith, e))

pub of_map : {X Y : Type 0} (f : X → Y) (xs : List X) (y : Y) → Contains (map f xs) y → (x : X) × Contains xs x × (f x ≡ y)
of_map f [] y (k, l, e) = absurd (omega (arith, l))
of_map f (z ∷ xs) y (zero, l, e) = (z, contains_head z xs, e)
of_map f (z ∷ xs) y (suc k, l, e) = let r = of_map f xs y (k, omega arith, e) in (r.0, contains_tail z xs r.0 r.1, r.2)

-- what the step from one layer to the next rests on: the words of the new nodes are those of the old ones with one value more,
-- along their edges
pub record IsStep (side : Side) (scale : ℕ) (row : List CostPair) (before : List (List FrontItem)) (arrivals : List (List Arrival)) (Word Word' : ℕ → List ℕ → Type 0) (pairs pairs' : List ℕ → CostPair) (size : ℕ) : Type 0 where
  pub into : (t : ℕ) (a : Arrival) (w : List ℕ) → Contains (get_or arrivals t []) a → Word a.node w → Word' t (extended side a.value w)
  pub from : (t : ℕ) (w' : List ℕ) → t < length arrivals → Word' t w' → (a : Arrival) × Contains (get_or arrivals t []) a × (w : List ℕ) × Word a.node w × (w' ≡ extended side a.value w)
  pub within : (t : ℕ) (a : Arrival) → Contains (get_or arrivals t []) a → a.node < length before
  pub values : (t : ℕ) (a : Arrival) → Contains (get_or arrivals t []) a → a.value < length row
  pub costs : (t : ℕ) (a : Arrival) (w : List ℕ) → Contains (get_or arrivals t []) a → Word a.node w → pairs' (extended side a.value w) ≡ plus (pairs w) (pair_at row a.value)
  pub sized : (u : ℕ) (w : List ℕ) → Word u w → length w ≡ size

-- a scale that fits the side
abbrev pub IsScaleFor : Side → ℕ → ℕ → ℕ → Type 0
IsScaleFor Heads scale limit domain = scale ≡ domain
IsScaleFor Tails scale limit domain = scale ≡ limit

scaled : (side : Side) (scale limit domain rank value : ℕ) → IsScaleFor side scale limit domain → rank < limit → value < domain → IsScale side scale rank value
scaled Heads scale limit domain rank value e r v = omega arith
scaled Tails scale limit domain rank value e r v = omega arith

rank_below : (side : Side) (scale limit domain rank value : ℕ) → IsScaleFor side scale limit domain → rank < limit → value < domain → ranked side scale rank value < limit * domain
rank_below Heads scale limit domain rank value e r v =
    let le : suc rank ≤ limit = omega arith in
    let m = mul-le-mul_right domain le in
    subst (λ z. rank * z + value < limit * domain) (sym e) (omega (arith, suc-mul rank domain))
rank_below Tails scale limit domain rank value e r v =
    let le : suc value ≤ domain = omega arith in
    let m = mul-le-mul_right limit le in
    subst (λ z. value * z + rank < limit * domain) (sym e) (omega (arith, suc-mul value limit, mul_comm limit domain))

module _ (side : Side) (scale limit : ℕ) (row : List CostPair) (before : List (List FrontItem)) (arrivals : List (List Arrival)) (Word Word' : ℕ → List ℕ → Type 0) (pairs pairs' : List ℕ → CostPair) (size : ℕ) (word : FrontItem → List ℕ)
    (step : IsStep side scale row before arrivals Word Word' pairs pairs' size) (facts : StageFacts Word pairs before word limit) (fits : IsScaleFor side scale limit (length row)) where
  -- the item that an item's step back names, and the word of an item
  abbrev pub back_of : FrontItem → FrontItem
  back_of c = get_or (get_or before c.back.node []) c.back.place no_item

  abbrev pub word_of : FrontItem → List ℕ
  word_of c = extended side c.back.value (word (back_of c))

  abbrev pub offered_to : ℕ → List FrontItem
  offered_to t = candidates side scale row before (get_or arrivals t [])

  -- where a candidate comes from
  record Source (t : ℕ) (c : FrontItem) : Type 0 where
    arrival : Arrival
    arrives : Contains (get_or arrivals t []) arrival
    place : ℕ
    inside : place < length (get_or before arrival.node [])
    is : c ≡ stepped side scale row arrival place (get_or (get_or before arrival.node []) place no_item)

  source : (t : ℕ) (c : FrontItem) → Contains (offered_to t) c → Source t c
  source t c h =
      let a = of_flat (λ a. run side scale row a 0 (get_or before a.node [])) (get_or arrivals t []) c h in
      let r = of_run side scale row a.0 0 (get_or before a.0.node []) c a.2 in
      let none : 0 + r.0 ≡ r.0 = omega arith in
      record { arrival = a.0; arrives = a.1; place = r.0; inside = r.1; is = r.2 ∙ ap (λ k. stepped side scale row a.0 k (get_or (get_or before a.0.node []) r.0 no_item)) none }

  abbrev item : (t : ℕ) (c : FrontItem) → Source t c → FrontItem
  item t c s = get_or (get_or before s.arrival.node []) s.place no_item

  placed : (t : ℕ) (c : FrontItem) (s : Source t c) → Contains (get_or before s.arrival.node []) (item t c s)
  placed t c s = Contains-get_or (get_or before s.arrival.node []) s.place no_item s.inside

  c1 : (t : ℕ) (c : FrontItem) → Source t c → Word' t (word_of c) × (pairs' (word_of c) ≡ pair_of c)
  c1 t c s =
      let x = item t c s in
      let f = facts.among s.arrival.node x (placed t c s) in
      let made = stepped side scale row s.arrival s.place x in
      subst (λ z. Word' t (word_of z) × (pairs' (word_of z) ≡ pair_of z)) (sym s.is)
      (step.into t s.arrival (word x) s.arrives f.0, step.costs t s.arrival (word x) s.arrives f.0 ∙ ap (λ p. plus p (pair_at row s.arrival.value)) f.1)

  later_same : (side : Side) (more : Bool) (v : ℕ) → later side false more v v ≡ false
  later_same Heads more v = grind (arith, nat_tests)
  later_same Tails more v = grind (arith, nat_tests)

  c2 : (t : ℕ) (w' : List ℕ) → t < length arrivals → Word' t w' → (c : FrontItem) × Contains (offered_to t) c × (is_at_most (pair_of c) (pairs' w') ≡ true) × (is_at_most (pairs' w') (pair_of c) ≡ true → comes_before w' (word_of c) ≡ false)
  c2 t w' lt h = by (step.from t w' lt h)
    where
      by : (a : Arrival) × Contains (get_or arrivals t []) a × (w : List ℕ) × Word a.node w × (w' ≡ extended side a.value w) → (c : FrontItem) × Contains (offered_to t) c × (is_at_most (pair_of c) (pairs' w') ≡ true) × (is_at_most (pairs' w') (pair_of c) ≡ true → comes_before w' (word_of c) ≡ false)
      by (a, ca, w, wa, e) =
          let g = facts.covered a.node w (step.within t a ca) wa in
          let items = get_or before a.node [] in
          let k = g.1.0 in
          let same : g.0 ≡ get_or items k no_item = sym g.1.2 ∙ get_or_default items k g.0 no_item g.1.1 in
          let y = get_or items k no_item in
          let p = pair_at row a.value in
          let c = stepped side scale row a k y in
          let none : 0 + k ≡ k = omega arith in
          let there : Contains (offered_to t) c =
          in_flat (λ a. run side scale row a 0 (get_or before a.node [])) (get_or arrivals t []) a c ca
          (subst (λ place. Contains (run side scale row a 0 items) (stepped side scale row a place y)) none (in_run side scale row a 0 k items g.1.1)) in
          let cost : pairs' w' ≡ plus (pairs w) p = ap pairs' e ∙ step.costs t a w ca wa in
          let most : is_at_most (pair_of y) (pairs w) ≡ true = subst (λ z. is_at_most (pair_of z) (pairs w) ≡ true) same g.2 in
          let mine : Contains items y = Contains-get_or items k no_item g.1.1 in
          let lengths : length w ≡ length (word y) = step.sized a.node w wa ∙ sym (step.sized a.node (word y) (facts.among a.node y mine).0) in (
            c,
            there,
            subst (λ q. is_at_most (plus (pair_of y) p) q ≡ true) (sym cost) (plus_most (pair_of y) (pairs w) p most),
            λ back.
                let less = plus_cancel (pairs w) (pair_of y) p (subst (λ q. is_at_most q (plus (pair_of y) p) ≡ true) cost back) in
                let not_before : comes_before w (word y) ≡ false = subst (λ z. is_at_most (pairs w) (pair_of z) ≡ true → comes_before w (word z) ≡ false) same g.3 less in
                ap (λ z. comes_before z (word_of c)) e ∙ before_extended side w (word y) a.value a.value lengths
                ∙ ap (λ b. later side b (comes_before (word y) w) a.value a.value) not_before ∙ later_same side (comes_before (word y) w) a.value,
          )

  c3 : (t u : ℕ) (c d : FrontItem) → Source t c → Source u d → nat_lt c.back.rank d.back.rank ≡ comes_before (word_of c) (word_of d)
  c3 t u c d s r =
      let x = item t c s in
      let y = item u d r in
      let a = s.arrival in
      let b = r.arrival in
      let fx = facts.among a.node x (placed t c s) in
      let fy = facts.among b.node y (placed u d r) in
      let lengths : length (word x) ≡ length (word y) = step.sized a.node (word x) fx.0 ∙ sym (step.sized b.node (word y) fy.0) in
      let made = stepped side scale row a s.place x in
      let other = stepped side scale row b r.place y in
      let same : nat_lt made.back.rank other.back.rank ≡ comes_before (word_of made) (word_of other) =
      ranked_extended side scale x.back.rank y.back.rank a.value b.value
      (scaled side scale limit (length row) x.back.rank a.value fits (facts.below a.node x (placed t c s)) (step.values t a s.arrives))
      (scaled side scale limit (length row) y.back.rank b.value fits (facts.below b.node y (placed u d r)) (step.values u b r.arrives))
      ∙ ap (λ p. later side p (nat_lt y.back.rank x.back.rank) a.value b.value) (facts.ranks a.node b.node x y (placed t c s) (placed u d r))
      ∙ ap (λ p. later side (comes_before (word x) (word y)) p a.value b.value) (facts.ranks b.node a.node y x (placed u d r) (placed t c s))
      ∙ sym (before_extended side (word x) (word y) a.value b.value lengths) in
      subst (λ z. nat_lt z.back.rank d.back.rank ≡ comes_before (word_of z) (word_of d)) (sym s.is)
      (subst (λ z. nat_lt made.back.rank z.back.rank ≡ comes_before (word_of made) (word_of z)) (sym r.is) same)

  c4 : (t : ℕ) (c : FrontItem) → Source t c → c.back.rank < limit * length row
  c4 t c s =
      let x = item t c s in
      subst (λ z. z.back.rank < limit * length row) (sym s.is)
      (rank_below side scale limit (length row) x.back.rank s.arrival.value fits (facts.below s.arrival.node x (placed t c s)) (step.values t s.arrival s.arrives))

  covers_most : (x y : FrontItem) → covers x y ≡ true → is_at_most (pair_of x) (pair_of y) ≡ true
  covers_most x y h = grind (arith, ints, nat_tests)

  covers_tie : (x y : FrontItem) → covers x y ≡ true → is_at_most (pair_of y) (pair_of x) ≡ true → nat_lt y.back.rank x.back.rank ≡ false
  covers_tie x y h k = grind (arith, ints, nat_tests)

  -- the fronts of the new nodes
  module _ (kept : List (List FrontItem)) (lengths : length kept ≡ length arrivals) (are : (t : ℕ) → t < length arrivals → IsFrontOf (offered_to t) (get_or kept t [])) where
    inside_of : (t : ℕ) (x : FrontItem) → Contains (get_or kept t []) x → t < length arrivals
    inside_of t x h = by (cases_lt t (length kept))
      where
        cases_lt : (a b : ℕ) → (a < b) ⊎ (b ≤ a)
        cases_lt a b = two (cases_order a b)
          where
            two : (a ≡ b) ⊎ ((a < b) ⊎ (b < a)) → (a < b) ⊎ (b ≤ a)
            two (inl e) = inr (omega arith)
            two (inr (inl l)) = inl l
            two (inr (inr l)) = inr (omega arith)

        none : Contains [] x → ⊥
        none (k, l, e) = omega (arith, l)

        by : (t < length kept) ⊎ (length kept ≤ t) → t < length arrivals
        by (inl l) = omega arith
        by (inr l) = absurd (none (subst (λ (xs : List FrontItem). Contains xs x) (get_or_past kept t [] l) h))

    member : (t : ℕ) (x : FrontItem) → Contains (get_or kept t []) x → Source t x
    member t x h = source t x (All-contains (Contains (offered_to t)) (get_or kept t []) x (are t (inside_of t x h)).among h)

    falls_all : (t : ℕ) → Falls (map pair_of (get_or kept t []))
    falls_all t = by (get_or kept t []) refl
      where
        by : (xs : List FrontItem) → get_or kept t [] ≡ xs → Falls (map pair_of xs)
        by [] e = tt
        by (x ∷ xs) e =
            subst (λ ys. Falls (map pair_of ys)) e (are t (inside_of t x (subst (λ (ys : List FrontItem). Contains ys x) (sym e) (contains_head x xs)))).falls

    covered_all : (t : ℕ) (w' : List ℕ) → t < length kept → Word' t w'
        → (x : FrontItem) × Contains (get_or kept t []) x × (is_at_most (pair_of x) (pairs' w') ≡ true) × (is_at_most (pairs' w') (pair_of x) ≡ true → comes_before w' (word_of x) ≡ false)
    covered_all t w' l h =
        let lt : t < length arrivals = omega arith in
        let c = c2 t w' lt h in
        let y = All-contains (IsCovered (get_or kept t [])) (offered_to t) c.0 (are t lt).covered c.1 in
        let most = covers_most y.0 c.0 y.2 in (
          y.0,
          y.1,
          at_most_trans (pair_of y.0) (pair_of c.0) (pairs' w') most c.2,
          λ back.
              let first : comes_before w' (word_of c.0) ≡ false = c.3 (at_most_trans (pairs' w') (pair_of y.0) (pair_of c.0) back most) in
              let tie = covers_tie y.0 c.0 y.2 (at_most_trans (pair_of c.0) (pairs' w') (pair_of y.0) c.2 back) in
              let second : comes_before (word_of c.0) (word_of y.0) ≡ false = sym (c3 t t c.0 y.0 (source t c.0 c.1) (member t y.0 y.1)) ∙ tie in
              before_chain w' (word_of c.0) (word_of y.0) first second,
        )

    pub next_facts : StageFacts Word' pairs' kept word_of (limit * length row)
    next_facts = record {
      among = λ t x h. c1 t x (member t x h);
      falls = falls_all;
      covered = covered_all;
      ranks = λ t u x y h k. c3 t u x y (member t x h) (member u y k);
      below = λ t x h. c4 t x (member t x h);
    }

  -- what is offered to a node has the front of the pairs of its words
  pub offered_front : (t : ℕ) → t < length arrivals → (words : List (List ℕ)) → ((w : List ℕ) → Contains words w → Word' t w) → ((w : List ℕ) → Word' t w → Contains words w) → front (map pair_of (offered_to t)) ≡ front (map pairs' words)
  offered_front t lt words sound complete =
      let made = front_is (map pair_of (offered_to t)) in
      let kept = front (map pair_of (offered_to t)) in
      one_front (map pairs' words) kept (front (map pairs' words))
      record {
        falls = made.falls;
        among = All-weaker (Contains (map pair_of (offered_to t))) (Contains (map pairs' words)) below kept made.among;
        reached = All-map (IsReached kept) pairs' words (λ k d l. reach made.reached (get_or words k d) (Contains-get_or words k d l));
      }
      (front_is (map pairs' words))
    where
      below : (p : CostPair) → Contains (map pair_of (offered_to t)) p → Contains (map pairs' words) p
      below p h =
          let c = of_map pair_of (offered_to t) p h in
          let f = c1 t c.0 (source t c.0 c.1) in
          subst (Contains (map pairs' words)) (f.1 ∙ c.2) (in_map pairs' words (word_of c.0) (complete (word_of c.0) f.0))

      reach : All (IsReached (front (map pair_of (offered_to t)))) (map pair_of (offered_to t)) → (w : List ℕ) → Contains words w → IsReached (front (map pair_of (offered_to t))) (pairs' w)
      reach reached w h =
          let c = c2 t w lt (sound w h) in
          let r = All-contains (IsReached (front (map pair_of (offered_to t)))) (map pair_of (offered_to t)) (pair_of c.0) reached (in_map pair_of (offered_to t) c.0 c.1) in
          (r.0, r.1, at_most_trans r.0 (pair_of c.0) (pairs' w) r.2 c.2)

-- what a layer's facts say of one of its nodes, where its words are those of a list
module _ (Word : ℕ → List ℕ → Type 0) (pairs : List ℕ → CostPair) (stage : List (List FrontItem)) (word : FrontItem → List ℕ) (limit : ℕ) (facts : StageFacts Word pairs stage word limit)
    (node : ℕ) (inside : node < length stage) (words : List (List ℕ)) (sound : (w : List ℕ) → Contains words w → Word node w) (complete : (w : List ℕ) → Word node w → Contains words w) where
  abbrev mine : List FrontItem
  mine = get_or stage node []

  reach_mine : (w : List ℕ) → Contains words w → IsReached (map pair_of mine) (pairs w)
  reach_mine w h = let c = facts.covered node w inside (sound w h) in (pair_of c.0, contains_map mine c.0 c.1, c.2)

  among_mine : (x : FrontItem) → Contains mine x → Contains (map pairs words) (pair_of x)
  among_mine x h =
      let f = facts.among node x h in
      subst (Contains (map pairs words)) f.1 (in_map pairs words (word x) (complete (word x) f.0))

  pub stage_pairs : map pair_of mine ≡ front (map pairs words)
  stage_pairs =
      one_front (map pairs words) (map pair_of mine) (front (map pairs words))
      record {
        falls = facts.falls node;
        among = All-map (Contains (map pairs words)) pair_of mine (λ k d l. among_mine (get_or mine k d) (Contains-get_or mine k d l));
        reached = All-map (IsReached (map pair_of mine)) pairs words (λ k d l. reach_mine (get_or words k d) (Contains-get_or words k d l));
      }
      (front_is (map pairs words))

  at_most_same : (p q : CostPair) → p ≡ q → is_at_most p q ≡ true
  at_most_same p q e = subst (λ z. is_at_most p z ≡ true) e (at_most_itself p)

  first_mine : (x : FrontItem) → Contains mine x → (w : List ℕ) → Contains words w → pairs w ≡ pair_of x → comes_before w (word x) ≡ false
  first_mine x h w c e =
      let r = facts.covered node w inside (sound w c) in
      let one : r.0 ≡ x = one_item mine r.0 x (facts.falls node) r.1 h (at_most_trans (pair_of r.0) (pairs w) (pair_of x) r.2 (at_most_same (pairs w) (pair_of x) e)) in
      let back : is_at_most (pairs w) (pair_of r.0) ≡ true = at_most_same (pairs w) (pair_of r.0) (e ∙ ap pair_of (sym one)) in
      subst (λ z. comes_before w (word z) ≡ false) one (r.3 back)

  pub stage_paths : All (λ x. IsFirstWith pairs words (pair_of x) (word x)) mine
  stage_paths = λ k d l. one (get_or mine k d) (Contains-get_or mine k d l)
    where
      one : (x : FrontItem) → Contains mine x → IsFirstWith pairs words (pair_of x) (word x)
      one x h =
          let f = facts.among node x h in
          record {
            among = complete (word x) f.0;
            has = f.1;
            first = λ k d l. first_mine x h (get_or words k d) (Contains-get_or words k d l);
          }

length_pairs : (items : List FrontItem) → length (map pair_of items) ≡ length items
length_pairs [] = refl
length_pairs (x ∷ items) = ap suc (length_pairs items)

-- a front of candidates has as many items as the front of their pairs
pub size_is : (side : Side) (scale : ℕ) (row : List CostPair) (before : List (List FrontItem)) (arrivals : List Arrival) (items : List FrontItem) → IsFrontOf (candidates side scale row before arrivals) items → length items ≡ front_size side scale row before arrivals
size_is side scale row before arrivals items f = sym (length_pairs items) ∙ ap length (pairs_are_front (candidates side scale row before arrivals) items f)

-- what holds of each item of a list and of one more
pub each_more : {X : Type 0} (P : ℕ → X → Type 0) (xs : List X) (y d : X) (i : ℕ) → length xs ≡ i → ((n : ℕ) → n < i → P n (get_or xs n d)) → P i y → (n : ℕ) → n < i + 1 → P n (get_or (xs ++ y ∷ []) n d)
each_more P xs y d i e f p n l = by (cases_order n i)
  where
    by : (n ≡ i) ⊎ ((n < i) ⊎ (i < n)) → P n (get_or (xs ++ y ∷ []) n d)
    by (inl same) = subst (λ k. P k (get_or (xs ++ y ∷ []) k d)) (sym same) (subst (P i) (sym (get_or_push xs y d i e)) p)
    by (inr (inl less)) = subst (P n) (sym (get_or_append_left xs (y ∷ []) d n (omega arith))) (f n less)
    by (inr (inr more)) = absurd (omega arith)
