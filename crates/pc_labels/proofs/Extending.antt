-- From what is kept of one layer to what is kept of the next.
use Rattle.std.proofs.Common.{◌≡◌, ℕ, ◌<◌, nat_lt, ◌==◌, Bool, true, false, ◌||◌, ◌&&◌, not, List, [], ◌∷◌, length, filter, Option, Some, None, IfSome, option_map, unwrap_or, ℤ, ◌+ℤ◌, refl, sym, ap, ◌∙◌, subst, arith}
use Rattle.std.specs.Prelude.{slice_index_or, int_lt}
use Rattle.std.proofs.lemmas.Bool.{both_ways}
use Rattle.std.proofs.lemmas.Bool.Decides.{nat_tests}
use Rattle.std.proofs.lemmas.Int.{ints}
use Rattle.pc_diagram.specs.declared.costs.CostPair.{CostPair}
use Rattle.pc_diagram.specs.declared.weight.Ranked.{Ranked}
use Rattle.pc_diagram.specs.Best.{best, is_cheaper_word}
use Rattle.pc_diagram.specs.Costs.{cost_pair, pair_at, is_cheaper}
use Rattle.pc_diagram.specs.NodePaths.{comes_before, IsLeast}
use Rattle.pc_diagram.specs.Weight.{is_less, is_less_ranked, plus_pair}
use Rattle.pc_diagram.specs.Words.{is_word, all_words}
use Rattle.pc_diagram.proofs.LeastWords.{best-least, least-best, best-none, none-best}
use Rattle.pc_labels.specs.declared.step.Step.{Step}
use Rattle.pc_labels.specs.Kept.{Kept, path_of}
use Rattle.pc_labels.specs.Labels.{IsLabelled}
use Rattle.pc_labels.specs.Slots.{IsLeastOf}
use Rattle.pc_diagram.proofs.CheaperOrder.{is_cheaper_order}
use Rattle.pc_labels.proofs.LessOrder.{three}

-- what is kept of the nodes of a layer, as `IsLabelled` says it of a list
pub record AreKept (costs : List (List CostPair)) (paths : ℕ → List (List ℕ)) (size : ℕ) (kept : ℕ → Option Kept) : Type 0 where
  pub best_path : (node : ℕ) → node < size → option_map (λ k. k.path) (kept node) ≡ best costs (paths node)
  pub priced : (node : ℕ) → node < size → IfSome (kept node) (λ k. k.pair ≡ cost_pair costs k.path)
  pub ranked : (node other : ℕ) → node < size → other < size → IfSome (kept node) (λ k. IfSome (kept other) (λ b. nat_lt k.rank b.rank ≡ comes_before k.path b.path))

-- a path that is kept, as one that was weighed
abbrev pub weighed : Kept → Ranked
weighed kept = record { pair = kept.pair; rank = kept.rank }

-- a test by which a pair of tests, one of them turned round, tells that nothing comes before
lesser_parts : (a b c : Bool) → (a || (not b && c)) ≡ false → (a ≡ false) × (b ≡ false → c ≡ false)
lesser_parts true b c h = absurd cc
lesser_parts false true c h = (refl, λ e. absurd cc)
lesser_parts false false c h = (refl, λ e. h)

from_parts : (a b c : Bool) → a ≡ false → (b ≡ false → c ≡ false) → (a || (not b && c)) ≡ false
from_parts true b c h k = absurd cc
from_parts false true c h k = refl
from_parts false false c h k = k refl

-- adding the same to both leaves which is cheaper
pub cheaper-plus : (a b c : CostPair) → is_cheaper (plus_pair a c) (plus_pair b c) ≡ is_cheaper a b
cheaper-plus a b c = by a.first a.second b.first b.second c.first c.second
  where
    by : (p q r s t u : ℤ) → (int_lt (p +ℤ t) (r +ℤ t) || (not (int_lt (r +ℤ t) (p +ℤ t)) && int_lt (q +ℤ u) (s +ℤ u))) ≡ (int_lt p r || (not (int_lt r p) && int_lt q s))
    by p q r s t u = grind (arith, ints)

-- one word is less than another: cheaper, or no dearer and before it
abbrev pub precedes : List (List CostPair) → List ℕ → List ℕ → Bool
precedes costs word other = is_cheaper_word costs word other || not (is_cheaper_word costs other word) && comes_before word other

pub one_form : (a b : ℕ) (c : Bool) → (nat_lt a b || (a == b && c)) ≡ (nat_lt a b || (not (nat_lt b a) && c))
one_form a b c = by (nat_lt a b) refl (a == b) refl (nat_lt b a) refl
  where
    by : (p : Bool) → nat_lt a b ≡ p → (q : Bool) → (a == b) ≡ q → (r : Bool) → nat_lt b a ≡ r → (p || (q && c)) ≡ (p || (not r && c))
    by true e q f r g = refl
    by false e true f true g = absurd (grind (arith, nat_tests))
    by false e true f false g = refl
    by false e false f true g = refl
    by false e false f false g = absurd (grind (arith, nat_tests))

nat_chain : (a b c : ℕ) → nat_lt a b ≡ false → nat_lt b c ≡ false → nat_lt a c ≡ false
nat_chain a b c h k = grind (arith, nat_tests)

-- a word that comes before none comes before none that is no later
pub comes_before-chain : (x y z : List ℕ) → comes_before x y ≡ false → comes_before y z ≡ false → comes_before x z ≡ false
comes_before-chain [] [] z h k = k
comes_before-chain [] (b ∷ y) z h k = absurd cc
comes_before-chain (a ∷ x) [] [] h k = refl
comes_before-chain (a ∷ x) [] (c ∷ z) h k = absurd cc
comes_before-chain (a ∷ x) (b ∷ y) [] h k = refl
comes_before-chain (a ∷ x) (b ∷ y) (c ∷ z) h k =
    one_form a c (comes_before x z)
    ∙ three (nat_lt a b) (nat_lt b a) (nat_lt b c) (nat_lt c b) (nat_lt a c) (nat_lt c a) (comes_before x y) (comes_before y z) (comes_before x z)
    (nat_chain a b c) (nat_chain c b a) (nat_chain b a c) (nat_chain a c b) (nat_chain c a b) (nat_chain b c a)
    (comes_before-chain x y z) (sym (one_form a b (comes_before x y)) ∙ h) (sym (one_form b c (comes_before y z)) ∙ k)

pub precedes-chain : (costs : List (List CostPair)) (x y z : List ℕ) → precedes costs x y ≡ false → precedes costs y z ≡ false → precedes costs x z ≡ false
precedes-chain costs x y z h k =
    let chain = is_cheaper_order.chain in
    let p = cost_pair costs x in let q = cost_pair costs y in let r = cost_pair costs z in
    three (is_cheaper p q) (is_cheaper q p) (is_cheaper q r) (is_cheaper r q) (is_cheaper p r) (is_cheaper r p) (comes_before x y) (comes_before y z) (comes_before x z)
    (chain p q r) (chain r q p) (chain q p r) (chain p r q) (chain r p q) (chain q r p) (comes_before-chain x y z) h k

module _
    (costs far_costs : List (List CostPair)) (row : List CostPair)
    (near : ℕ → List ℕ → Bool) (far : ℕ → List ℕ → Bool) (near_domains far_domains : List ℕ)
    (Slot : ℕ → Step → Type 0) (extend : List ℕ → ℕ → List ℕ)
    -- a far word is a near one gone on by a slot, and the other way round
    (parts : (node : ℕ) (word : List ℕ) → is_word far_domains word ≡ true → far node word ≡ true →
    (step : Step) × (rest : List ℕ) × (word ≡ extend rest step.value) × Slot node step × (is_word near_domains rest ≡ true) × (near step.node rest ≡ true))
    (join : (node : ℕ) (step : Step) (rest : List ℕ) → Slot node step → is_word near_domains rest ≡ true → near step.node rest ≡ true →
    (is_word far_domains (extend rest step.value) ≡ true) × (far node (extend rest step.value) ≡ true))
    -- what it costs, and when it comes before another that goes on by the same value
    (priced : (rest : List ℕ) (value : ℕ) → is_word near_domains rest ≡ true → cost_pair far_costs (extend rest value) ≡ plus_pair (cost_pair costs rest) (pair_at row value))
    (same_order : (rest other : List ℕ) (value : ℕ) → is_word near_domains rest ≡ true → is_word near_domains other ≡ true → comes_before (extend rest value) (extend other value) ≡ comes_before rest other)
    -- what a slot makes of a path that was weighed, whose rank orders as the words do
    (make : ℕ → Ranked → Ranked)
    (make_pair : (value : ℕ) (r : Ranked) → (make value r).pair ≡ plus_pair r.pair (pair_at row value))
    (limit : ℕ)
    (make_order : (node other : ℕ) (s t : Step) (r q : Ranked) (rest beside : List ℕ) → Slot node s → Slot other t → r.rank < limit → q.rank < limit → is_word near_domains rest ≡ true → is_word near_domains beside ≡ true →
    nat_lt r.rank q.rank ≡ comes_before rest beside → nat_lt q.rank r.rank ≡ comes_before beside rest →
    nat_lt (make s.value r).rank (make t.value q).rank ≡ comes_before (extend rest s.value) (extend beside t.value))
  where
    module _ (size : ℕ) (before : ℕ → Option Kept) (labelled : AreKept costs (λ s. filter (near s) (all_words near_domains)) size before)
        (inside : (node : ℕ) (step : Step) → Slot node step → step.node < size) (below : (node : ℕ) (kept : Kept) → before node ≡ Some kept → kept.rank < limit) where
      -- what a step offers
      abbrev offer : Step → Option Ranked
      offer step = option_map (λ kept. make step.value (weighed kept)) (before step.node)

      -- what is kept of a near node is the least of its words, with its costs
      least_near : (node : ℕ) (kept : Kept) → node < size → before node ≡ Some kept → IsLeast costs (near node) near_domains kept.path
      least_near node kept lt e = best-least costs (near node) near_domains kept.path (sym (labelled.best_path node lt) ∙ ap (option_map (λ k. k.path)) e)

      priced_near : (node : ℕ) (kept : Kept) → node < size → before node ≡ Some kept → kept.pair ≡ cost_pair costs kept.path
      priced_near node kept lt e = subst (λ o. IfSome o (λ k. k.pair ≡ cost_pair costs k.path)) e (labelled.priced node lt)

      ranked_near : (node other : ℕ) (kept beside : Kept) → node < size → other < size → before node ≡ Some kept → before other ≡ Some beside → nat_lt kept.rank beside.rank ≡ comes_before kept.path beside.path
      ranked_near node other kept beside lt less e f =
          subst (λ o. IfSome o (λ b. nat_lt kept.rank b.rank ≡ comes_before kept.path b.path)) f
          (subst (λ o. IfSome o (λ k. IfSome (before other) (λ b. nat_lt k.rank b.rank ≡ comes_before k.path b.path))) e (labelled.ranked node other lt less))

      -- a near node with a word has one kept
      some_near : (node : ℕ) (word : List ℕ) → node < size → is_word near_domains word ≡ true → near node word ≡ true → (kept : Kept) × (before node ≡ Some kept)
      some_near node word lt over passes = by (before node) refl
        where
          by : (o : Option Kept) → before node ≡ o → (kept : Kept) × (before node ≡ Some kept)
          by (Some kept) e = (kept, e)
          by None e = absurd (both_ways (near node word) (best-none costs (near node) near_domains (sym (labelled.best_path node lt) ∙ ap (option_map (λ (k : Kept). k.path)) e) word over) passes)

      -- what a step makes of what is kept, and its word
      made : Step → Kept → Ranked
      made step kept = make step.value (weighed kept)

      word_of : Step → Kept → List ℕ
      word_of step kept = extend kept.path step.value

      made_pair : (node : ℕ) (step : Step) (kept : Kept) → Slot node step → before step.node ≡ Some kept → (make step.value (weighed kept)).pair ≡ cost_pair far_costs (extend kept.path step.value)
      made_pair node step kept slot e =
          let lt = inside node step slot in
          make_pair step.value (weighed kept) ∙ ap (λ p. plus_pair p (pair_at row step.value)) (priced_near step.node kept lt e) ∙ sym (priced kept.path step.value (least_near step.node kept lt e).over)

      made_rank : (node other : ℕ) (s t : Step) (kept beside : Kept) → Slot node s → Slot other t → before s.node ≡ Some kept → before t.node ≡ Some beside →
          nat_lt (make s.value (weighed kept)).rank (make t.value (weighed beside)).rank ≡ comes_before (extend kept.path s.value) (extend beside.path t.value)
      made_rank node other s t kept beside p q e f =
          let lt = inside node s p in let less = inside other t q in
          make_order node other s t (weighed kept) (weighed beside) kept.path beside.path p q (below s.node kept e) (below t.node beside f) (least_near s.node kept lt e).over (least_near t.node beside less f).over
          (ranked_near s.node t.node kept beside lt less e f) (ranked_near t.node s.node beside kept less lt f e)

      -- so the weights order as the words do
      made_order : (node other : ℕ) (s t : Step) (kept beside : Kept) → Slot node s → Slot other t → before s.node ≡ Some kept → before t.node ≡ Some beside →
          is_less_ranked (make s.value (weighed kept)) (make t.value (weighed beside)) ≡ precedes far_costs (extend kept.path s.value) (extend beside.path t.value)
      made_order node other s t kept beside p q e f =
          ap (λ x. is_cheaper x (make t.value (weighed beside)).pair || not (is_cheaper (make t.value (weighed beside)).pair x) && nat_lt (make s.value (weighed kept)).rank (make t.value (weighed beside)).rank) (made_pair node s kept p e)
          ∙ ap (λ y. is_cheaper (cost_pair far_costs (extend kept.path s.value)) y || not (is_cheaper y (cost_pair far_costs (extend kept.path s.value))) && nat_lt (make s.value (weighed kept)).rank (make t.value (weighed beside)).rank) (made_pair other t beside q f)
          ∙ ap (λ b. is_cheaper_word far_costs (extend kept.path s.value) (extend beside.path t.value) || not (is_cheaper_word far_costs (extend beside.path t.value) (extend kept.path s.value)) && b) (made_rank node other s t kept beside p q e f)

      -- a near word that goes on by a slot is no less than the kept one that does
      no_less : (step : Step) (kept : Kept) (rest : List ℕ) → step.node < size → before step.node ≡ Some kept → is_word near_domains rest ≡ true → near step.node rest ≡ true →
          precedes far_costs (extend rest step.value) (extend kept.path step.value) ≡ false
      no_less step kept rest lt e over passes =
          let least = least_near step.node kept lt e in
          let one = priced rest step.value over in let two = priced kept.path step.value least.over in
          let c = pair_at row step.value in
          let same : (a b : List ℕ) → is_word near_domains a ≡ true → is_word near_domains b ≡ true → is_cheaper_word far_costs (extend a step.value) (extend b step.value) ≡ is_cheaper_word costs a b =
          λ a b p q. ap (λ x. is_cheaper x (cost_pair far_costs (extend b step.value))) (priced a step.value p) ∙ ap (is_cheaper (plus_pair (cost_pair costs a) c)) (priced b step.value q) ∙ cheaper-plus (cost_pair costs a) (cost_pair costs b) c in
          from_parts (is_cheaper_word far_costs (extend rest step.value) (extend kept.path step.value)) (is_cheaper_word far_costs (extend kept.path step.value) (extend rest step.value)) (comes_before (extend rest step.value) (extend kept.path step.value))
          (same rest kept.path over least.over ∙ least.unbeaten rest over passes)
          (λ f. same_order rest kept.path step.value over least.over ∙ least.first rest over passes (sym (same kept.path rest least.over over) ∙ f))

      -- the least of what slots offer to a node is the weight of its least word
      pub least_far : (node : ℕ) (step : Step) (kept : Kept) → Slot node step → before step.node ≡ Some kept →
          ((other : Step) → Slot node other → is_less (offer other) (Some (make step.value (weighed kept))) ≡ false) → IsLeast far_costs (far node) far_domains (extend kept.path step.value)
      least_far node step kept slot e least =
          let lt = inside node step slot in
          let here = least_near step.node kept lt e in
          let both = join node step kept.path slot here.over here.passes in
          record {
            over = both.0;
            passes = both.1;
            unbeaten = λ other over passes. (lesser_parts (is_cheaper_word far_costs other (extend kept.path step.value)) (is_cheaper_word far_costs (extend kept.path step.value) other) (comes_before other (extend kept.path step.value)) (none_less other over passes)).0;
            first = λ other over passes. (lesser_parts (is_cheaper_word far_costs other (extend kept.path step.value)) (is_cheaper_word far_costs (extend kept.path step.value) other) (comes_before other (extend kept.path step.value)) (none_less other over passes)).1;
          }
        where
          none_less : (other : List ℕ) → is_word far_domains other ≡ true → far node other ≡ true → precedes far_costs other (extend kept.path step.value) ≡ false
          none_less other over passes =
              let p = parts node other over passes in
              let t = p.0 in let rest = p.1 in
              let less = inside node t p.3 in
              let q = some_near t.node rest less p.4 p.5 in
              let offered : is_less (Some (make t.value (weighed q.0))) (Some (make step.value (weighed kept))) ≡ false =
              ap (λ o. is_less (option_map (λ k. make t.value (weighed k)) o) (Some (make step.value (weighed kept)))) (sym q.1) ∙ least t p.3 in
              subst (λ w. precedes far_costs w (extend kept.path step.value) ≡ false) (sym p.2)
              (precedes-chain far_costs (extend rest t.value) (extend q.0.path t.value) (extend kept.path step.value)
              (no_less t q.0 rest less q.1 p.4 p.5) (sym (made_order node node t step q.0 kept p.3 slot q.1 e) ∙ offered))

      -- where no slot offers anything, a node has no word
      pub none_far : (node : ℕ) → ((other : Step) → Slot node other → is_less (offer other) None ≡ false) → (word : List ℕ) → is_word far_domains word ≡ true → far node word ≡ false
      none_far node least word over = by (far node word) refl
        where
          by : (b : Bool) → far node word ≡ b → b ≡ false
          by false f = refl
          by true f =
              let p = parts node word over f in
              let q = some_near p.0.node p.1 (inside node p.0 p.3) p.4 p.5 in
              absurd (both_ways true (ap (λ o. is_less (option_map (λ k. make p.0.value (weighed k)) o) None) (sym q.1) ∙ least p.0 p.3) refl)

      -- what is kept by a weight and a step
      abbrev kept_far : Option Ranked → Step → Option Kept
      kept_far weight step = option_map (λ r. record { pair = r.pair; rank = r.rank; path = extend (path_of (before step.node)) step.value }) weight

      -- where a node has a weight, its step comes from what is kept
      found : (node : ℕ) (weight : Option Ranked) (step : Step) (r : Ranked) → weight ≡ Some r → IsLeastOf (Slot node) offer weight step →
          (kept : Kept) × (before step.node ≡ Some kept) × Slot node step × (r ≡ make step.value (weighed kept))
      found node weight step r e h =
          let here = h.offered (λ none. let no : Some r ≡ None = sym e ∙ none in absurd cc) in
          by (before step.node) refl here.0 (here.1 ∙ e)
        where
          by : (o : Option Kept) → before step.node ≡ o → Slot node step → option_map (λ kept. make step.value (weighed kept)) (before step.node) ≡ Some r →
              (kept : Kept) × (before step.node ≡ Some kept) × Slot node step × (r ≡ make step.value (weighed kept))
          by None f slot g = let no : None ≡ Some r = sym (ap (option_map (λ (kept : Kept). make step.value (weighed kept))) f) ∙ g in absurd cc
          by (Some kept) f slot g =
              let same : Some r ≡ Some (make step.value (weighed kept)) = sym g ∙ ap (option_map (λ (k : Kept). make step.value (weighed k))) f in
              (kept, f, slot, ap (λ o. unwrap_or o r) same)

      -- what a weight and a step keep, told by what they come from
      kept_is : (node : ℕ) (weight : Option Ranked) (step : Step) (r : Ranked) (kept : Kept) → weight ≡ Some r → before step.node ≡ Some kept → r ≡ make step.value (weighed kept) →
          kept_far weight step ≡ Some (record { pair = (make step.value (weighed kept)).pair; rank = (make step.value (weighed kept)).rank; path = extend kept.path step.value })
      kept_is node weight step r kept e f g =
          ap (λ w. kept_far w step) (e ∙ ap Some g)
          ∙ ap (λ o. Some (record { pair = (make step.value (weighed kept)).pair; rank = (make step.value (weighed kept)).rank; path = extend (path_of o) step.value })) f

      -- the far layer is labelled too
      pub labelled-far : (far_size : ℕ) (weight : ℕ → Option Ranked) (step : ℕ → Step) (far_row : List (Option Kept)) → length far_row ≡ far_size →
          ((node : ℕ) → node < far_size → slice_index_or far_row node None ≡ kept_far (weight node) (step node)) →
          ((node : ℕ) → node < far_size → IsLeastOf (Slot node) offer (weight node) (step node)) →
          IsLabelled far_costs (λ node. filter (far node) (all_words far_domains)) far_size far_row
      labelled-far far_size weight step far_row nodes each least = record {
        nodes = nodes;
        best_path = λ node lt. ap (option_map (λ (k : Kept). k.path)) (each node lt) ∙ best_of node (weight node) (step node) (least node lt);
        priced = λ node lt. subst (λ o. IfSome o (λ k. k.pair ≡ cost_pair far_costs k.path)) (sym (each node lt)) (priced_of node (weight node) (step node) (least node lt));
        ranked = λ node other lt less.
            subst (λ o. IfSome o (λ k. IfSome (slice_index_or far_row other None) (λ b. nat_lt k.rank b.rank ≡ comes_before k.path b.path))) (sym (each node lt))
            (subst (λ p. IfSome (kept_far (weight node) (step node)) (λ k. IfSome p (λ b. nat_lt k.rank b.rank ≡ comes_before k.path b.path))) (sym (each other less))
            (ranked_of node other (weight node) (weight other) (step node) (step other) (least node lt) (least other less)));
      }
        where
          best_of : (node : ℕ) (w : Option Ranked) (s : Step) → IsLeastOf (Slot node) offer w s → option_map (λ (k : Kept). k.path) (kept_far w s) ≡ best far_costs (filter (far node) (all_words far_domains))
          best_of node None s h = sym (none-best far_costs (far node) far_domains (none_far node h.least))
          best_of node (Some r) s h =
              let q = found node (Some r) s r refl h in
              ap (option_map (λ (k : Kept). k.path)) (kept_is node (Some r) s r q.0 refl q.1 q.3)
              ∙ sym (least-best far_costs (far node) far_domains (extend q.0.path s.value) (least_far node s q.0 q.2 q.1 (λ o slot. ap (λ x. is_less (offer o) (Some x)) (sym q.3) ∙ h.least o slot)))

          priced_of : (node : ℕ) (w : Option Ranked) (s : Step) → IsLeastOf (Slot node) offer w s → IfSome (kept_far w s) (λ k. k.pair ≡ cost_pair far_costs k.path)
          priced_of node None s h = tt
          priced_of node (Some r) s h =
              let q = found node (Some r) s r refl h in
              subst (λ o. IfSome o (λ k. k.pair ≡ cost_pair far_costs k.path)) (sym (kept_is node (Some r) s r q.0 refl q.1 q.3)) (made_pair node s q.0 q.2 q.1)

          ranked_of : (node other : ℕ) (w v : Option Ranked) (s t : Step) → IsLeastOf (Slot node) offer w s → IsLeastOf (Slot other) offer v t →
              IfSome (kept_far w s) (λ k. IfSome (kept_far v t) (λ b. nat_lt k.rank b.rank ≡ comes_before k.path b.path))
          ranked_of node other None v s t h g = tt
          ranked_of node other (Some r) None s t h g = tt
          ranked_of node other (Some r) (Some q) s t h g =
              let a = found node (Some r) s r refl h in
              let b = found other (Some q) t q refl g in
              subst (λ o. IfSome o (λ k. IfSome (kept_far (Some q) t) (λ x. nat_lt k.rank x.rank ≡ comes_before k.path x.path))) (sym (kept_is node (Some r) s r a.0 refl a.1 a.3))
              (subst (λ p. IfSome p (λ x. nat_lt (make s.value (weighed a.0)).rank x.rank ≡ comes_before (extend a.0.path s.value) x.path)) (sym (kept_is other (Some q) t q b.0 refl b.1 b.3))
              (made_rank node other s t a.0 b.0 a.2 b.2 a.1 b.1))
