-- The layers that stay where a choice changes.
use Rattle.std.proofs.Common.{◌≡◌, ℕ, zero, suc, ◌+◌, ◌-◌, ◌<◌, ◌≤◌, nat_lt, Bool, true, false, cond, ◌&&◌, List, [], ◌∷◌, length, get_or, map, sum, sum_by, take, drop, filter, Some, None, Contains, ◌⊎◌, inl, inr, refl, sym, ◌∙◌, ap, subst, arith}
use Rattle.std.specs.List.{range_with_len}
use Rattle.std.proofs.lemmas.Bool.{cases_order}
use Rattle.std.proofs.lemmas.Bool.Decides.{nat_tests}
use Rattle.std.proofs.lemmas.List.{get_or-take, get_or_append_left, get_or_past, get_or_push, length-take, length-take-le, length_push}
use Rattle.std.proofs.lemmas.List.Elements.{All-contains}
use Rattle.std.proofs.lemmas.List.FromFn.{get_or-map-range_with_len, length-map-range_with_len}
use Rattle.std.proofs.lemmas.List.Sums.{sum_by-cons, sum_by_more}
use Rattle.pc_diagram.specs.declared.choice.Choice.{Choice}
use Rattle.pc_diagram.specs.declared.costs.CostPair.{CostPair}
use Rattle.pc_diagram.specs.declared.raw_diagram.RawDiagram.{RawDiagram}
use Rattle.pc_diagram.specs.declared.side.Side.{Side}
use Rattle.pc_diagram.specs.declared.side.Side.TheVariants.{Heads, Tails}
use Rattle.pc_diagram.specs.Choices.{value_of, AgreeBeside}
use Rattle.pc_diagram.specs.Fitting.{is_number}
use Rattle.pc_diagram.specs.Levels.{levels}
use Rattle.pc_diagram.specs.NodePaths.{leads_to, is_allowed, agrees, is_head, is_tail, heads, tails, comes_before}
use Rattle.pc_diagram.specs.Paths.{accepts}
use Rattle.pc_diagram.specs.Words.{all_words}
use Rattle.pc_diagram.proofs.FirstBelow.{none_below}
use Rattle.pc_diagram.proofs.PathLemmas.{length-word}
use Rattle.pc_pareto.specs.declared.front_item.FrontItem.{FrontItem}
use Rattle.pc_pareto.specs.declared.limits.TheConstants.{MOST_LABELS}
use Rattle.pc_pareto.specs.Arrivals.{variable_at}
use Rattle.pc_pareto.specs.Front.{is_at_most, front, Falls, IsReached}
use Rattle.pc_pareto.specs.Fronts.{words_of, pair_of_word, front_of_node, layer_size, layer_at, sizes_from, limit_at, item_at, word_at, extended, no_item, IsFirstWith, AreFronts}
use Rattle.pc_pareto.specs.Items.{pair_of}
use Rattle.pc_pareto.specs.Kept.{IsKept}
use Rattle.pc_pareto.specs.Numbered.{with_rank}
use Rattle.pc_pareto.specs.Pass.{StageFacts, WordAt, pairs_at, IsPass}
use Rattle.pc_pareto.proofs.FrontLemmas.{front_is, in_filter}
use Rattle.pc_pareto.proofs.ItemLemmas.{contains_head, contains_tail}
use Rattle.pc_pareto.proofs.PairLemmas.{same_pairs}
use Rattle.pc_pareto.proofs.PassLemmas.{numbered_facts}
use Rattle.pc_pareto.proofs.SideLemmas.{words_in}
use Rattle.pc_pareto.proofs.StageLemmas.{in_range, in_map, of_map}

-- values agree with choices alike, where these choose alike for their variables
agrees_alike : (before choices : List Choice) (start : ℕ) (word : List ℕ) → ((k : ℕ) → k < length word → value_of before (start + k) ≡ value_of choices (start + k)) → agrees before start word ≡ agrees choices start word
agrees_alike before choices start [] same = refl
agrees_alike before choices start (value ∷ word) same =
    let here : start + 0 ≡ start = omega arith in
    let one = subst (λ k. value_of before k ≡ value_of choices k) here (same 0 (omega arith)) in
    let rest = agrees_alike before choices (start + 1) word (λ k l. let e : start + suc k ≡ (start + 1) + k = omega arith in subst (λ j. value_of before j ≡ value_of choices j) e (same (suc k) (omega arith))) in
    ap (λ o. is_allowed o value && agrees before (start + 1) word) one ∙ ap (λ b. is_allowed (value_of choices start) value && b) rest

filter_alike : {X : Type 0} (p q : X → Bool) (xs : List X) → ((x : X) → Contains xs x → p x ≡ q x) → filter p xs ≡ filter q xs
filter_alike p q [] same = refl
filter_alike p q (x ∷ xs) same =
    ap (λ b. cond b (x ∷ filter p xs) (filter p xs)) (same x (contains_head x xs)) ∙ ap (λ ys. cond (q x) (x ∷ ys) ys) (filter_alike p q xs (λ y c. same y (contains_tail x xs y c)))

word_length : (ds w : List ℕ) → Contains (all_words ds) w → length w ≡ length ds
word_length ds w c = length-word ds w (words_in (λ v. true) ds w (in_filter (λ v. true) (all_words ds) w c refl)).0

module _ (raw : RawDiagram) (before choices : List Choice) (variable : ℕ) (agree : AgreeBeside variable before choices) where
  heads_alike : (layer node : ℕ) → layer ≤ variable → heads raw before layer node ≡ heads raw choices layer node
  heads_alike layer node l =
      filter_alike (is_head raw before layer node) (is_head raw choices layer node) (all_words (take layer raw.domains))
      (λ w c. ap (λ b. is_number (leads_to (take layer (levels raw)) (Some 0) w) node && b)
      (agrees_alike before choices 0 w (λ k m. agree (0 + k) (λ e. omega (arith, word_length (take layer raw.domains) w c, length-take layer raw.domains)))))

  tails_alike : (layer node : ℕ) → variable < layer → tails raw before layer node ≡ tails raw choices layer node
  tails_alike layer node l =
      filter_alike (is_tail raw before layer node) (is_tail raw choices layer node) (all_words (drop layer raw.domains))
      (λ w c. ap (λ b. accepts (drop layer (levels raw)) (Some node) w && b) (agrees_alike before choices layer w (λ k m. agree (layer + k) (λ e. omega arith))))

  -- the words of the nodes up to the changed variable are as before
  pub words_alike : (side : Side) (d node : ℕ) → variable < length raw.domains → d ≤ variable_at side (length raw.domains) variable
      → words_of side raw before (layer_at side (length raw.domains) d) node ≡ words_of side raw choices (layer_at side (length raw.domains) d) node
  words_alike Heads d node lt l = heads_alike d node l
  words_alike Tails d node lt l = tails_alike (length raw.domains - d) node (omega arith)

-- ranks of a list have a bound
items_bound : (items : List FrontItem) → (bound : ℕ) × ((x : FrontItem) → Contains items x → x.back.rank < bound)
items_bound [] = (0, λ x c. absurd (nothing x c))
  where
    nothing : (x : FrontItem) → Contains [] x → ⊥
    nothing x (k, l, e) = omega (arith, l)
items_bound (y ∷ items) = (suc (y.back.rank + (items_bound items).0), by (items_bound items).0 (items_bound items).1)
  where
    by : (bound : ℕ) → ((x : FrontItem) → Contains items x → x.back.rank < bound) → (x : FrontItem) → Contains (y ∷ items) x → x.back.rank < suc (y.back.rank + bound)
    by bound rest x (zero, l, e) = let same : y.back.rank ≡ x.back.rank = ap (λ (z : FrontItem). z.back.rank) e in omega arith
    by bound rest x (suc k, l, e) = let less = rest x (k, omega arith, e) in omega arith

stage_bound : (stage : List (List FrontItem)) → (bound : ℕ) × ((node : ℕ) (x : FrontItem) → Contains (get_or stage node []) x → x.back.rank < bound)
stage_bound [] = (0, λ node x c. absurd (nothing x c))
  where
    nothing : (x : FrontItem) → Contains [] x → ⊥
    nothing x (k, l, e) = omega (arith, l)
stage_bound (items ∷ stage) = ((items_bound items).0 + (stage_bound stage).0, by (stage_bound stage).0 (stage_bound stage).1)
  where
    by : (bound : ℕ) → ((node : ℕ) (x : FrontItem) → Contains (get_or stage node []) x → x.back.rank < bound) → (node : ℕ) (x : FrontItem) → Contains (get_or (items ∷ stage) node []) x → x.back.rank < (items_bound items).0 + bound
    by bound rest zero x c = let less = (items_bound items).1 x c in omega arith
    by bound rest (suc node) x c = let less = rest node x c in omega arith

-- what the fronts of a side tell of one of their layers
module _ (side : Side) (raw : RawDiagram) (costs : List (List CostPair)) (choices : List Choice) (stages : List (List (List FrontItem))) (are : AreFronts side raw costs choices stages)
    (d : ℕ) (le : d ≤ length raw.domains) where
  abbrev here : ℕ
  here = layer_at side (length raw.domains) d

  abbrev stage_here : List (List FrontItem)
  stage_here = get_or stages d []

  abbrev words_here : ℕ → List (List ℕ)
  words_here node = words_of side raw choices here node

  node_inside : (node : ℕ) → node < length stage_here → node < get_or raw.sizes here 0
  node_inside node l = let e = are.nodes d le in omega arith

  first_here : (node : ℕ) (x : FrontItem) → Contains (get_or stage_here node []) x → IsFirstWith (pair_of_word side costs here) (words_here node) (pair_of x) (word_at side stages d x)
  first_here node x c =
      All-contains (λ item. IsFirstWith (pair_of_word side costs here) (words_here node) (pair_of item) (word_at side stages d item)) (get_or stage_here node []) x
      (are.paths d node le (node_inside node (in_range stage_here node x c))) c

  falls_here : (node : ℕ) → Falls (map pair_of (get_or stage_here node []))
  falls_here node = by (cases_order node (length stage_here))
    where
      out : length stage_here ≤ node → Falls (map pair_of (get_or stage_here node []))
      out past = subst (λ (xs : List FrontItem). Falls (map pair_of xs)) (sym (get_or_past stage_here node [] past)) tt

      by : (node ≡ length stage_here) ⊎ ((node < length stage_here) ⊎ (length stage_here < node)) → Falls (map pair_of (get_or stage_here node []))
      by (inl e) = out (omega arith)
      by (inr (inl l)) = subst Falls (sym (are.pairs d node le (node_inside node l))) (front_is (map (pair_of_word side costs here) (words_here node))).falls
      by (inr (inr l)) = out (omega arith)

  covered_here : (node : ℕ) (w : List ℕ) → node < length stage_here → Contains (words_here node) w
      → (x : FrontItem) × Contains (get_or stage_here node []) x × (is_at_most (pair_of x) (pair_of_word side costs here w) ≡ true)
      × (is_at_most (pair_of_word side costs here w) (pair_of x) ≡ true → comes_before w (word_at side stages d x) ≡ false)
  covered_here node w l c =
      let pairs = map (pair_of_word side costs here) (words_here node) in
      let r = All-contains (IsReached (front pairs)) pairs (pair_of_word side costs here w) (front_is pairs).reached (in_map (pair_of_word side costs here) (words_here node) w c) in
      let x = of_map pair_of (get_or stage_here node []) r.0 (subst (λ (ps : List CostPair). Contains ps r.0) (sym (are.pairs d node le (node_inside node l))) r.1) in
      let under : is_at_most (pair_of x.0) (pair_of_word side costs here w) ≡ true = subst (λ p. is_at_most p (pair_of_word side costs here w) ≡ true) (sym x.2) r.2 in (
        x.0,
        x.1,
        under,
        λ back. All-contains (λ other. pair_of_word side costs here other ≡ pair_of x.0 → comes_before other (word_at side stages d x.0) ≡ false) (words_here node) w (first_here node x.0 x.1).first c
            (same_pairs (pair_of_word side costs here w) (pair_of x.0) back under),
      )

  pub fronts_facts : (bound : ℕ) × StageFacts (WordAt side raw choices d) (pairs_at side raw costs d) (get_or stages d []) (word_at side stages d) bound
  fronts_facts = (
    (stage_bound stage_here).0,
    record {
      among = λ node x c. let f = first_here node x c in (f.among, f.has);
      falls = falls_here;
      covered = covered_here;
      ranks = λ node other x y c k. are.ranks d node other x y le c k;
      below = (stage_bound stage_here).1;
    },
  )

-- sums of lists, item by item
sum_alike : {X : Type 0} (f : X → ℕ) (xs : List X) (ys : List ℕ) (d : X) → length xs ≡ length ys → ((i : ℕ) → i < length xs → f (get_or xs i d) ≡ get_or ys i 0) → sum_by f xs ≡ sum ys
sum_alike f [] [] d e same = refl
sum_alike f [] (y ∷ ys) d e same = absurd (omega arith)
sum_alike f (x ∷ xs) [] d e same = absurd (omega arith)
sum_alike f (x ∷ xs) (y ∷ ys) d e same =
    let rest = sum_alike f xs ys d (omega arith) (λ i l. same (suc i) (omega arith)) in
    sum_by-cons f x xs ∙ ap (λ n. n + sum_by f xs) (same 0 (omega arith)) ∙ ap (λ n. y + n) rest ∙ sym (sum_by-cons (λ x. x) y ys)

sum_to : {X : Type 0} (f : X → ℕ) (xs : List X) (ys : List ℕ) (d : X) (k : ℕ) → k ≤ length xs → k ≤ length ys → ((i : ℕ) → i < k → f (get_or xs i d) ≡ get_or ys i 0) → sum_by f (take k xs) ≡ sum (take k ys)
sum_to f xs ys d zero l m same = refl
sum_to f [] ys d (suc k) l m same = absurd (omega arith)
sum_to f (x ∷ xs) [] d (suc k) l m same = absurd (omega arith)
sum_to f (x ∷ xs) (y ∷ ys) d (suc k) l m same =
    let rest = sum_to f xs ys d k (omega arith) (omega arith) (λ i l. same (suc i) (omega arith)) in
    sum_by-cons f x (take k xs) ∙ ap (λ n. n + sum_by f (take k xs)) (same 0 (omega arith)) ∙ ap (λ n. y + n) rest ∙ sym (sum_by-cons (λ x. x) y (take k ys))

length_pairs : (items : List FrontItem) → length (map pair_of items) ≡ length items
length_pairs [] = refl
length_pairs (x ∷ items) = ap suc (length_pairs items)

length_ranked : (f : ℕ → ℕ) (items : List FrontItem) → length (map (with_rank f) items) ≡ length items
length_ranked f [] = refl
length_ranked f (x ∷ items) = ap suc (length_ranked f items)

node_least : (stage : List (List FrontItem)) (node : ℕ) → length (get_or stage node []) ≤ sum_by length stage
node_least [] node = omega arith
node_least (items ∷ stage) zero = let s = sum_by-cons length items stage in omega arith
node_least (items ∷ stage) (suc node) = let s = sum_by-cons length items stage in let rest = node_least stage node in omega arith

not_more : (most n : ℕ) → nat_lt most n ≡ false → n ≤ most
not_more most n h = grind (arith, nat_tests)

-- the word of an item goes by the layers before its own, and not by its rank
word_alike : (side : Side) (stages others : List (List (List FrontItem))) (d : ℕ) → ((k : ℕ) → k < d → get_or stages k [] ≡ get_or others k []) → (x : FrontItem) → word_at side stages d x ≡ word_at side others d x
word_alike side stages others zero same x = refl
word_alike side stages others (suc d) same x =
    ap (extended side x.back.value) (word_alike side stages others d (λ k l. same k (omega arith)) (item_at stages d x.back.node x.back.place)
    ∙ ap (λ (stage : List (List FrontItem)). word_at side others d (get_or (get_or stage x.back.node []) x.back.place no_item)) (same d (omega arith)))

word_ranked : (side : Side) (stages : List (List (List FrontItem))) (number : ℕ → ℕ) (d : ℕ) (x : FrontItem) → word_at side stages d (with_rank number x) ≡ word_at side stages d x
word_ranked side stages number zero x = refl
word_ranked side stages number (suc d) x = refl

-- fronts that were made before a choice changed
module _ (side : Side) (raw : RawDiagram) (costs : List (List CostPair)) (before choices : List Choice) (variable : ℕ) (stages : List (List (List FrontItem)))
    (are : AreFronts side raw costs before stages) (none : limit_at MOST_LABELS side raw costs before ≡ None) (agree : AgreeBeside variable before choices) (lt : variable < length raw.domains) where
  abbrev from : ℕ
  from = variable_at side (length raw.domains) variable

  from_inside : from < length raw.domains
  from_inside = by side
    where
      by : (side : Side) → variable_at side (length raw.domains) variable < length raw.domains
      by Heads = lt
      by Tails = omega arith

  pub from_there : from < length stages
  from_there = let e = are.layers in let l = from_inside in omega arith

  alike : (d node : ℕ) → d ≤ from → words_of side raw before (layer_at side (length raw.domains) d) node ≡ words_of side raw choices (layer_at side (length raw.domains) d) node
  alike d node l = words_alike raw before choices variable agree side d node lt l

  module _ (some : List Choice) (words : (d node : ℕ) → d ≤ from → words_of side raw before (layer_at side (length raw.domains) d) node ≡ words_of side raw some (layer_at side (length raw.domains) d) node) where
    size_at : (d : ℕ) → d ≤ from → sum_by length (get_or stages d []) ≡ layer_size side raw costs some (layer_at side (length raw.domains) d)
    size_at d l =
        let layer = layer_at side (length raw.domains) d in
        let size = get_or raw.sizes layer 0 in
        let g = λ (node : ℕ). length (front_of_node side raw costs some layer node) in
        let le : d ≤ length raw.domains = let m = from_inside in omega arith in
        let count : length (get_or stages d []) ≡ size = are.nodes d le in
        sum_alike length (get_or stages d []) (map g (range_with_len 0 size)) [] (count ∙ sym (length-map-range_with_len g 0 size))
        (λ node m.
        let inside : node < size = omega arith in
        sym (length_pairs (get_or (get_or stages d []) node [])) ∙ ap length (are.pairs d node le inside)
        ∙ ap (λ (ws : List (List ℕ)). length (front (map (pair_of_word side costs layer) ws))) (words d node l)
        ∙ sym (get_or-map-range_with_len g 0 size node node 0 inside (omega arith)))

    total_for : sum_by (sum_by length) (take (from + 1) stages) ≡ sum (take (from + 1) (sizes_from side raw costs some))
    total_for =
        let g = λ (d : ℕ). layer_size side raw costs some (layer_at side (length raw.domains) d) in
        let n = length raw.domains + 1 in
        let inside = from_inside in
        let there = from_there in
        sum_to (sum_by length) stages (map g (range_with_len 0 n)) [] (from + 1) (omega arith) (omega (arith, length-map-range_with_len g 0 n))
        (λ d l. size_at d (omega arith) ∙ sym (get_or-map-range_with_len g 0 n d d 0 (omega arith) (omega arith)))

  pub kept_few : sum_by (sum_by length) (take (from + 1) stages) ≤ MOST_LABELS
  kept_few =
      let all = sizes_from side raw costs before in
      let g = λ (d : ℕ). layer_size side raw costs before (layer_at side (length raw.domains) d) in
      let same = total_for before (λ d node l. refl) in
      let inside = from_inside in
      let most = not_more MOST_LABELS (sum (take (from + 1) all)) (none_below (λ k. nat_lt MOST_LABELS (sum (take (k + 1) all))) (length all) none from (omega (arith, length-map-range_with_len g 0 (length raw.domains + 1)))) in
      omega arith

  pub last_few : sum_by length (get_or stages from []) ≤ MOST_LABELS
  last_few = let more = sum_by_more (sum_by length) stages from [] from_there in let all = kept_few in omega arith

  module _ (kept : List (List (List FrontItem))) (limit total : ℕ) (is : IsKept stages from kept limit total) where
    taken : length (take from stages) ≡ from
    taken = let l = from_there in length-take-le from stages (omega arith)

    earlier : (k : ℕ) → k < from → get_or kept k [] ≡ get_or stages k []
    earlier k l = ap (λ (st : List (List (List FrontItem))). get_or st k []) is.layers ∙ get_or_append_left (take from stages) (is.last ∷ []) [] k (let e = taken in omega arith) ∙ get_or-take from stages k [] l

    newest : get_or kept from [] ≡ is.last
    newest = ap (λ (st : List (List (List FrontItem))). get_or st from []) is.layers ∙ get_or_push (take from stages) is.last [] from taken

    word_kept : (d : ℕ) → d ≤ from → (x : FrontItem) → word_at side stages d x ≡ word_at side kept d x
    word_kept d l x = word_alike side stages kept d (λ k m. sym (earlier k (omega arith))) x

    facts_at : (d : ℕ) → d ≤ from → (bound : ℕ) × StageFacts (WordAt side raw choices d) (pairs_at side raw costs d) (get_or stages d []) (word_at side stages d) bound
    facts_at d l =
        let f = fronts_facts side raw costs before stages are d (let m = from_inside in omega arith) in
        (f.0, subst (λ (Word : ℕ → List ℕ → Type 0). StageFacts Word (pairs_at side raw costs d) (get_or stages d []) (word_at side stages d) f.0) (λ i node w. Contains (alike d node l i) w) f.1)

    last_facts : StageFacts (WordAt side raw choices from) (pairs_at side raw costs from) (get_or kept from []) (word_at side kept from) limit
    last_facts =
        let f = facts_at from (omega arith) in
        subst (λ (st : List (List FrontItem)). StageFacts (WordAt side raw choices from) (pairs_at side raw costs from) st (word_at side kept from) limit) (sym newest)
        (subst (λ (word : FrontItem → List ℕ). StageFacts (WordAt side raw choices from) (pairs_at side raw costs from) is.last word limit) (λ i x. word_kept from (omega arith) x i)
        (numbered_facts (WordAt side raw choices from) (pairs_at side raw costs from) (get_or stages from []) is.last (word_at side stages from) f.0 limit f.1 is.numbered (word_ranked side stages is.numbered.number from)))

    facts_kept : (d : ℕ) → d ≤ from → (bound : ℕ) × StageFacts (WordAt side raw choices d) (pairs_at side raw costs d) (get_or kept d []) (word_at side kept d) bound
    facts_kept d l = by (cases_order d from)
      where
        old : d < from → (bound : ℕ) × StageFacts (WordAt side raw choices d) (pairs_at side raw costs d) (get_or kept d []) (word_at side kept d) bound
        old less =
            let f = facts_at d l in (
              f.0,
              subst (λ (st : List (List FrontItem)). StageFacts (WordAt side raw choices d) (pairs_at side raw costs d) st (word_at side kept d) f.0) (sym (earlier d less))
                  (subst (λ (word : FrontItem → List ℕ). StageFacts (WordAt side raw choices d) (pairs_at side raw costs d) (get_or stages d []) word f.0) (λ i x. word_kept d l x i) f.1),
            )

        by : (d ≡ from) ⊎ ((d < from) ⊎ (from < d)) → (bound : ℕ) × StageFacts (WordAt side raw choices d) (pairs_at side raw costs d) (get_or kept d []) (word_at side kept d) bound
        by (inl e) = subst (λ k. (bound : ℕ) × StageFacts (WordAt side raw choices k) (pairs_at side raw costs k) (get_or kept k []) (word_at side kept k) bound) (sym e) (limit, last_facts)
        by (inr (inl less)) = old less
        by (inr (inr more)) = absurd (omega arith)

    sizes_kept : (d : ℕ) → d ≤ from → length (get_or kept d []) ≡ get_or raw.sizes (layer_at side (length raw.domains) d) 0
    sizes_kept d l = by (cases_order d from)
      where
        made : length (get_or stages d []) ≡ get_or raw.sizes (layer_at side (length raw.domains) d) 0
        made = are.nodes d (let m = from_inside in omega arith)

        by : (d ≡ from) ⊎ ((d < from) ⊎ (from < d)) → length (get_or kept d []) ≡ get_or raw.sizes (layer_at side (length raw.domains) d) 0
        by (inl e) =
            ap (λ k. length (get_or kept k [])) e ∙ ap length newest ∙ is.numbered.count ∙ ap (λ k. length (get_or stages k [])) (sym e) ∙ made
        by (inr (inl less)) = ap length (earlier d less) ∙ made
        by (inr (inr more)) = absurd (omega arith)

    few_kept : (node : ℕ) → length (get_or (get_or kept from []) node []) ≤ MOST_LABELS
    few_kept node =
        let size : length (get_or (get_or kept from []) node []) ≡ length (get_or (get_or stages from []) node []) =
        ap (λ (st : List (List FrontItem)). length (get_or st node [])) newest ∙ ap length (is.numbered.items node) ∙ length_ranked is.numbered.number (get_or (get_or stages from []) node []) in
        let least = node_least (get_or stages from []) node in
        let all = last_few in
        omega arith

    pub kept_pass : IsPass side raw costs choices from kept limit total
    kept_pass = record {
      count = ap length is.layers ∙ length_push (take from stages) is.last ∙ ap (λ n. n + 1) taken;
      sizes = sizes_kept;
      facts = facts_kept;
      last = last_facts;
      few = few_kept;
      ranks = is.numbered.small;
      total_is = is.total_is ∙ total_for choices alike;
      within = subst (λ n. n ≤ MOST_LABELS) (sym is.total_is) kept_few;
    }
