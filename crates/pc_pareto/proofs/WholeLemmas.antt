-- Whole passes.
use Rattle.std.proofs.Common.{◌≡◌, ℕ, zero, suc, ◌+◌, ◌-◌, ◌<◌, ◌≤◌, nat_lt, true, false, ◌&&◌, pos, List, [], ◌∷◌, length, get_or, map, sum, take, drop, Some, None, Contains, refl, sym, ◌∙◌, ap, subst, arith}
use Rattle.std.specs.List.{range_with_len}
use Rattle.std.proofs.lemmas.Bool.Decides.{nat_tests}
use Rattle.std.proofs.lemmas.List.{drop_all}
use Rattle.std.proofs.lemmas.List.FromFn.{get_or-map-range_with_len, length-map-range_with_len}
use Rattle.std.proofs.lemmas.List.Sums.{sum_by-cons, sum_by_more}
use Rattle.pc_diagram.specs.declared.choice.Choice.{Choice}
use Rattle.pc_diagram.specs.declared.costs.CostPair.{CostPair}
use Rattle.pc_diagram.specs.declared.raw_diagram.RawDiagram.{RawDiagram}
use Rattle.pc_diagram.specs.declared.side.Side.{Side}
use Rattle.pc_diagram.specs.declared.side.Side.TheVariants.{Heads, Tails}
use Rattle.pc_diagram.specs.declared.which.Which.{Which}
use Rattle.pc_diagram.specs.declared.which.Which.TheVariants.{First, Second}
use Rattle.pc_diagram.specs.Costs.{cost, cost_pair}
use Rattle.pc_diagram.specs.Diagram.{IsCanonical}
use Rattle.pc_diagram.specs.NodePaths.{is_head, is_tail, comes_before}
use Rattle.pc_diagram.specs.Paths.{accepts}
use Rattle.pc_diagram.specs.Words.{is_word}
use Rattle.pc_diagram.proofs.LevelLemmas.{drop-levels-end}
use Rattle.pc_diagram.proofs.FirstBelow.{first_below-is, first_below-none}
use Rattle.pc_pareto.specs.declared.front_item.FrontItem.{FrontItem}
use Rattle.pc_pareto.specs.declared.limits.TheConstants.{MOST_LABELS}
use Rattle.pc_pareto.specs.Fronts.{words_of, pair_of_word, front_of_node, no_item, word_at, layer_size, layer_at, sizes_from, limit_at, AreFronts}
use Rattle.pc_pareto.specs.Front.{is_at_most, Falls}
use Rattle.pc_pareto.specs.Items.{pair_of}
use Rattle.pc_pareto.specs.Pass.{StageFacts, WordAt, pairs_at, IsPass, IsWholePass}
use Rattle.pc_pareto.proofs.ItemLemmas.{contains_head}
use Rattle.pc_pareto.proofs.PairLemmas.{at_most_itself}
use Rattle.pc_pareto.proofs.SideLemmas.{words_in, in_words}
use Rattle.pc_pareto.proofs.StageLemmas.{stage_pairs, stage_paths}

sum_step : (n : ℕ) (ns : List ℕ) → sum (n ∷ ns) ≡ n + sum ns
sum_step n ns = sum_by-cons (λ x. x) n ns

-- a longer range has no smaller sum
pub range_le : (f : ℕ → ℕ) (a m k : ℕ) → m ≤ k → sum (map f (range_with_len a m)) ≤ sum (map f (range_with_len a k))
range_le f a zero k l = omega arith
range_le f a (suc m) zero l = absurd (omega arith)
range_le f a (suc m) (suc k) l =
    let rest = range_le f (a + 1) m k (omega arith) in
    let one = sum_step (f a) (map f (range_with_len (a + 1) m)) in
    let two = sum_step (f a) (map f (range_with_len (a + 1) k)) in
    omega arith

pub range_more : (f : ℕ → ℕ) (a m : ℕ) → sum (map f (range_with_len a (m + 1))) ≡ sum (map f (range_with_len a m)) + f (a + m)
range_more f a zero =
    let here : a ≡ a + 0 = omega arith in
    let one = sum_step (f a) [] in
    let at = ap f here in
    omega arith
range_more f a (suc m) =
    let rest = range_more f (a + 1) m in
    let one = sum_step (f a) (map f (range_with_len (a + 1) m)) in
    let two = sum_step (f a) (map f (range_with_len (a + 1) (m + 1))) in
    let there : (a + 1) + m ≡ a + suc m = omega arith in
    let at = ap f there in
    let long : suc m + 1 ≡ suc (m + 1) = omega arith in
    let same = ap (λ n. sum (map f (range_with_len a n))) long in
    omega arith

take_le : (xs : List ℕ) (i j : ℕ) → i ≤ j → sum (take i xs) ≤ sum (take j xs)
take_le xs zero j l = omega arith
take_le xs (suc i) zero l = absurd (omega arith)
take_le [] (suc i) (suc j) l = omega arith
take_le (x ∷ xs) (suc i) (suc j) l =
    let rest = take_le xs i j (omega arith) in
    let one = sum_step x (take i xs) in
    let two = sum_step x (take j xs) in
    omega arith

not_past : (most n : ℕ) → n ≤ most → nat_lt most n ≡ false
not_past most n l = grind (arith, nat_tests)

past : (most n : ℕ) → most < n → nat_lt most n ≡ true
past most n l = grind (arith, nat_tests)

module _ (side : Side) (raw : RawDiagram) (costs : List (List CostPair)) (choices : List Choice) where
  sizes_count : length (sizes_from side raw costs choices) ≡ length raw.domains + 1
  sizes_count = length-map-range_with_len (λ distance. layer_size side raw costs choices (layer_at side (length raw.domains) distance)) 0 (length raw.domains + 1)

  -- where the next layer passes the limit, it is the first
  pub limit_here : (d : ℕ) → d < length raw.domains → (stages : List (List (List FrontItem))) (limit total : ℕ) → IsPass side raw costs choices d stages limit total → MOST_LABELS < sum (take ((d + 1) + 1) (sizes_from side raw costs choices))
      → limit_at MOST_LABELS side raw costs choices ≡ Some (d + 1)
  limit_here d lt stages limit total pass over =
      let all = sizes_from side raw costs choices in
      first_below-is (λ k. nat_lt MOST_LABELS (sum (take (k + 1) all))) (length all) (d + 1) (let e = sizes_count in omega arith) (past MOST_LABELS (sum (take ((d + 1) + 1) all)) over)
      (λ j l. not_past MOST_LABELS (sum (take (j + 1) all)) (let m = take_le all (j + 1) (d + 1) (omega arith) in let t = pass.total_is in let w = pass.within in omega arith))

  pub no_limit : (stages : List (List (List FrontItem))) → IsWholePass side raw costs choices stages → limit_at MOST_LABELS side raw costs choices ≡ None
  no_limit stages (limit, total, pass) =
      let all = sizes_from side raw costs choices in
      first_below-none (λ k. nat_lt MOST_LABELS (sum (take (k + 1) all))) (length all)
      (λ j l. not_past MOST_LABELS (sum (take (j + 1) all)) (let e = sizes_count in let m = take_le all (j + 1) (length raw.domains + 1) (omega arith) in let t = pass.total_is in let w = pass.within in omega arith))

  pub whole_fronts : (stages : List (List (List FrontItem))) → IsWholePass side raw costs choices stages → AreFronts side raw costs choices stages
  whole_fronts stages (limit, total, pass) = record {
    layers = pass.count;
    nodes = pass.sizes;
    pairs = λ d node l inside. let f = pass.facts d l in
        stage_pairs (λ node w. Contains (words_of side raw choices (layer_at side (length raw.domains) d) node) w) _ (get_or stages d []) _ f.0 f.1 node (let e = pass.sizes d l in omega arith) (words_of side raw choices (layer_at side (length raw.domains) d) node) (λ w h. h) (λ w h. h);
    paths = λ d node l inside. let f = pass.facts d l in
        stage_paths (λ node w. Contains (words_of side raw choices (layer_at side (length raw.domains) d) node) w) _ (get_or stages d []) _ f.0 f.1 node (let e = pass.sizes d l in omega arith) (words_of side raw choices (layer_at side (length raw.domains) d) node) (λ w h. h) (λ w h. h);
    ranks = λ d node other x y l c k. (pass.facts d l).1.ranks node other x y c k;
  }

word_zero : (w : List ℕ) → is_word [] w ≡ true → w ≡ []
word_zero [] h = refl
word_zero (v ∷ w) h = absurd cc

cost_zero : (costs : List (List CostPair)) → cost_pair costs [] ≡ pair_of no_item
cost_zero costs = λ i. record { first = none costs First i; second = none costs Second i }
  where
    none : (costs : List (List CostPair)) (which : Which) → cost costs which [] ≡ pos 0
    none [] which = refl
    none (row ∷ rows) which = refl

module _ (side : Side) (raw : RawDiagram) (can : IsCanonical raw) (costs : List (List CostPair)) (choices : List Choice) where
  abbrev end_layer : ℕ
  end_layer = layer_at side (length raw.domains) 0

  end_word : (side : Side) (node : ℕ) (w : List ℕ) → Contains (words_of side raw choices (layer_at side (length raw.domains) 0) node) w → w ≡ []
  end_word Heads node w c = word_zero w (words_in (is_head raw choices 0 node) (take 0 raw.domains) w c).0
  end_word Tails node w c =
      let n = length raw.domains - 0 in
      word_zero w (subst (λ ds. is_word ds w ≡ true) (drop_all n raw.domains (omega arith)) (words_in (is_tail raw choices n node) (drop n raw.domains) w c).0)

  end_there : (side : Side) → Contains (words_of side raw choices (layer_at side (length raw.domains) 0) 0) []
  end_there Heads = in_words (is_head raw choices 0 0) [] [] refl refl
  end_there Tails =
      let n = length raw.domains - 0 in
      in_words (is_tail raw choices n 0) (drop n raw.domains) [] (ap (λ ds. is_word ds []) (drop_all n raw.domains (omega arith)))
      (ap (λ ls. accepts ls (Some 0) [] && true) (drop-levels-end raw n (omega arith)))

  end_cost : (side : Side) → pair_of_word side costs (layer_at side (length raw.domains) 0) [] ≡ pair_of no_item
  end_cost Heads = cost_zero costs
  end_cost Tails = cost_zero (drop (length raw.domains - 0) costs)

  end_nodes : (side : Side) → get_or raw.sizes (layer_at side (length raw.domains) 0) 0 ≡ 1
  end_nodes Heads = can.shape.root
  end_nodes Tails = let e : length raw.domains - 0 ≡ length raw.domains = omega arith in ap (λ k. get_or raw.sizes k 0) e ∙ can.shape.terminal

  first_stage : List (List FrontItem)
  first_stage = (no_item ∷ []) ∷ []

  one_item_there : (node : ℕ) (x : FrontItem) → Contains (get_or ((no_item ∷ []) ∷ []) node []) x → (node ≡ 0) × (no_item ≡ x)
  one_item_there zero x (zero, l, e) = (refl, e)
  one_item_there zero x (suc k, l, e) = absurd (omega (arith, l))
  one_item_there (suc node) x (k, l, e) = absurd (omega (arith, l))

  at_most_one : (p q : CostPair) → p ≡ q → is_at_most p q ≡ true
  at_most_one p q e = subst (λ z. is_at_most p z ≡ true) e (at_most_itself p)

  first_facts : StageFacts (WordAt side raw choices 0) (pairs_at side raw costs 0) ((no_item ∷ []) ∷ []) (λ x. []) 1
  first_facts = record {
    among = λ node x c. let o = one_item_there node x c in
        (subst (λ k. Contains (words_of side raw choices end_layer k) []) (sym o.0) (end_there side), end_cost side ∙ ap pair_of o.1);
    falls = falls;
    covered = λ node w l h. let e : node ≡ 0 = omega arith in (
      no_item,
      subst (λ k. Contains (get_or ((no_item ∷ []) ∷ []) k []) no_item) (sym e) (contains_head no_item []),
      at_most_one (pair_of no_item) (pair_of_word side costs end_layer w) (sym (ap (pair_of_word side costs end_layer) (end_word side node w h) ∙ end_cost side)),
      λ _. ap (λ z. comes_before z []) (end_word side node w h),
    );
    ranks = λ node other x y c k. let a = one_item_there node x c in let b = one_item_there other y k in
        subst (λ z. nat_lt z.back.rank y.back.rank ≡ false) a.1 (subst (λ z. nat_lt 0 z.back.rank ≡ false) b.1 refl);
    below = λ node x c. subst (λ z. z.back.rank < 1) (one_item_there node x c).1 (omega arith);
  }
    where
      falls : (node : ℕ) → Falls (map pair_of (get_or ((no_item ∷ []) ∷ []) node []))
      falls zero = (tt, tt)
      falls (suc node) = tt

  first_size : layer_size side raw costs choices end_layer ≡ 1
  first_size =
      let one = ap length (stage_pairs (WordAt side raw choices 0) (pairs_at side raw costs 0) ((no_item ∷ []) ∷ []) (λ x. []) 1 first_facts 0 (omega arith) (words_of side raw choices end_layer 0) (λ w h. h) (λ w h. h)) in
      ap (λ n. sum (map (λ node. length (front_of_node side raw costs choices end_layer node)) (range_with_len 0 n))) (end_nodes side)
      ∙ sum_step (length (front_of_node side raw costs choices end_layer 0)) [] ∙ ap (λ n. n + 0) (sym one)

  pub first_pass : IsPass side raw costs choices 0 (((no_item ∷ []) ∷ []) ∷ []) 1 1
  first_pass = record {
    count = refl;
    sizes = λ d l. let e : d ≡ 0 = omega arith in subst (λ k. length (get_or (((no_item ∷ []) ∷ []) ∷ []) k []) ≡ get_or raw.sizes (layer_at side (length raw.domains) k) 0) (sym e) (sym (end_nodes side));
    facts = λ d l. let e : d ≡ 0 = omega arith in
        subst (λ k. (bound : ℕ) × StageFacts (WordAt side raw choices k) (pairs_at side raw costs k) (get_or (((no_item ∷ []) ∷ []) ∷ []) k []) (word_at side (((no_item ∷ []) ∷ []) ∷ []) k) bound) (sym e) (1, first_facts);
    last = first_facts;
    few = few;
    ranks = omega arith;
    total_is = total_is;
    within = omega arith;
  }
    where
      few : (node : ℕ) → length (get_or ((no_item ∷ []) ∷ []) node []) ≤ MOST_LABELS
      few zero = omega arith
      few (suc node) = omega arith

      total_is : 1 ≡ sum (take (0 + 1) (sizes_from side raw costs choices))
      total_is =
          let all = sizes_from side raw costs choices in
          let g = λ (distance : ℕ). layer_size side raw costs choices (layer_at side (length raw.domains) distance) in
          let l : 0 < length all = omega (arith, length-map-range_with_len g 0 (length raw.domains + 1)) in
          let at : get_or all 0 0 ≡ g 0 = get_or-map-range_with_len g 0 (length raw.domains + 1) 0 0 0 (omega arith) (omega arith) in
          sym (sum_by_more (λ x. x) all 0 0 l ∙ ap (λ n. 0 + n) (at ∙ first_size))
