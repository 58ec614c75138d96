-- The least word that takes a value is that of the least way through an edge of it.
use Rattle.std.proofs.Common.{◌≡◌, ℕ, suc, ◌+◌, ◌<◌, nat_lt, Bool, true, false, not, ◌&&◌, ◌||◌, List, [], ◌∷◌, ◌++◌, length, take, drop, get_or, drop-cons, add-one, Option, Some, refl, sym, ap, subst, ◌∙◌, arith}
use Rattle.std.proofs.lemmas.Bool.Decides.{nat_tests}
use Rattle.std.proofs.lemmas.Int.{ints}
use Rattle.std.proofs.lemmas.List.{length-map, length-take, take-append-drop}
use Rattle.pc_diagram.specs.declared.choice.Choice.{Choice}
use Rattle.pc_diagram.specs.declared.costs.CostPair.{CostPair}
use Rattle.pc_diagram.specs.declared.raw_diagram.RawDiagram.{RawDiagram}
use Rattle.pc_diagram.specs.Choices.{value_of}
use Rattle.pc_diagram.specs.Costs.{cost_pair, is_cheaper, pair_at}
use Rattle.pc_diagram.specs.Diagram.{IsCanonical}
use Rattle.pc_diagram.specs.Fitting.{is_number, takes}
use Rattle.pc_diagram.specs.Levels.{edge, level, levels}
use Rattle.pc_diagram.specs.NodePaths.{AreCostsOf, IsLeast, agrees, comes_before, is_allowed, is_head, is_tail, leads_to}
use Rattle.pc_diagram.specs.Weight.{plus_pair}
use Rattle.pc_diagram.specs.Words.{is_word}
use Rattle.pc_diagram.proofs.CheaperOrder.{is_cheaper_order}
use Rattle.pc_diagram.proofs.LeastWords.{comes_before-one_way, comes_before-tells}
use Rattle.pc_diagram.proofs.PathLemmas.{is_number-is, is_word-append, length-word}
use Rattle.pc_diagram.proofs.ShapeLemmas.{both, together}
use Rattle.pc_domains.specs.Ways.{Keeps, Kept, Way, is_less_join, joined_pair, joined_word}
use Rattle.pc_domains.proofs.PartLemmas.{before_chain, before_first, first_no_dearer, not_before_itself, pair-append, parts_before, parts_over, second_no_dearer, sum_no_cheaper}
use Rattle.pc_domains.proofs.RangeLemmas.{edge_inside, head_inside}
use Rattle.pc_domains.proofs.ThroughLemmas.{Passage, edge_opens, is_open, open_passage}

-- an order of pairs that adds up, and keeps to that by first and then by second costs
pub record AddsUp (no_more : CostPair → CostPair → Type 0) : Type 0 where
  pub itself : (a : CostPair) → no_more a a
  pub sums : (a b c d : CostPair) → no_more a b → no_more c d → no_more (plus_pair a c) (plus_pair b d)
  pub no_cheaper : (a b : CostPair) → no_more a b → is_cheaper b a ≡ false

-- a test of pairs that what costs no more passes too
abbrev pub IsDownward : (CostPair → CostPair → Type 0) → (CostPair → Bool) → Type 0
IsDownward no_more allows = (a b : CostPair) → no_more a b → allows b ≡ true → allows a ≡ true

module _ (no_more : CostPair → CostPair → Type 0) (order : AddsUp no_more) (allows : CostPair → Bool) (downward : IsDownward no_more allows)
    (raw : RawDiagram) (canonical : IsCanonical raw) (choices : List Choice) (costs : List (List CostPair)) (priced : AreCostsOf raw.domains costs) (variable value : ℕ)
    (inside : variable < length raw.domains) (small : value < get_or raw.domains variable 0) (allowed : is_allowed (value_of choices variable) value ≡ true)
    (head_at tail_at : ℕ → ℕ → Option Kept)
    (heads : Keeps no_more costs (is_head raw choices variable) (take variable raw.domains) (get_or raw.sizes variable 0) head_at)
    (tails : Keeps no_more (drop (variable + 1) costs) (is_tail raw choices (variable + 1)) (drop (variable + 1) raw.domains) (get_or raw.sizes (variable + 1) 0) tail_at) where
  abbrev AWay : Type 0
  AWay = Way raw variable value head_at tail_at

  -- the costs of the value
  abbrev price : CostPair
  price = pair_at (get_or costs variable []) value

  abbrev way_word : AWay → List ℕ
  way_word way = joined_word value way.head way.tail

  abbrev way_pair : AWay → CostPair
  way_pair way = joined_pair price way.head way.tail

  abbrev is_less_way : AWay → AWay → Bool
  is_less_way a b = is_less_join price a.head a.tail b.head b.tail

  target_inside : (way : AWay) → way.target < get_or raw.sizes (variable + 1) 0
  target_inside way = edge_inside raw canonical variable way.node value way.target inside way.leads

  as_many : length costs ≡ length raw.domains
  as_many = sym (length-map costs length) ∙ ap length priced.pairs

  length_head : (way : AWay) → length way.head.path ≡ variable
  length_head way =
      omega (arith, length-word (take variable raw.domains) way.head.path (heads.over way.node way.head_place way.inside way.head way.head_is), length-take variable raw.domains)

  -- what a word of a head, the value and a tail costs
  three_parts : (head tail : List ℕ) → length head ≡ variable → cost_pair costs (head ++ value ∷ tail) ≡ plus_pair (cost_pair costs head) (plus_pair price (cost_pair (drop (variable + 1) costs) tail))
  three_parts head tail long =
      let row : drop variable costs ≡ get_or costs variable [] ∷ drop (suc variable) costs = drop-cons costs variable [] (omega (arith, as_many)) in
      pair-append costs head (value ∷ tail)
      ∙ ap (λ n. plus_pair (cost_pair costs head) (cost_pair (drop n costs) (value ∷ tail))) long
      ∙ ap (λ cs. plus_pair (cost_pair costs head) (cost_pair cs (value ∷ tail))) row
      ∙ ap (λ n. plus_pair (cost_pair costs head) (plus_pair price (cost_pair (drop n costs) tail))) (sym (add-one variable))

  -- the word of a way costs what its parts cost
  pub way_costs : (way : AWay) → cost_pair costs (way_word way) ≡ way_pair way
  way_costs way =
      three_parts way.head.path way.tail.path (length_head way)
      ∙ ap (λ p. plus_pair p (plus_pair price (cost_pair (drop (variable + 1) costs) way.tail.path))) (sym (heads.priced way.node way.head_place way.inside way.head way.head_is))
      ∙ ap (λ p. plus_pair way.head.pair (plus_pair price p)) (sym (tails.priced way.target way.tail_place (target_inside way) way.tail way.tail_is))

  -- a word that takes the value, and a way that covers it
  record Covered (word : List ℕ) : Type 0 where
    way : AWay
    no_dearer : no_more (way_pair way) (cost_pair costs word)
    no_later : is_cheaper (way_pair way) (cost_pair costs word) ≡ false → comes_before word (way_word way) ≡ false

  covered : (word : List ℕ) → is_word raw.domains word ≡ true → Passage raw choices variable value word → Covered word
  covered word over passage =
      let first = take variable word in
      let rest = drop (variable + 1) word in
      let long : length first ≡ variable = omega (arith, length-take variable word, length-word raw.domains word over) in
      let node_inside = head_inside raw canonical choices variable passage.node first (omega arith) passage.head in
      let next_inside = edge_inside raw canonical variable passage.node value passage.target inside passage.leads in
      let h = heads.covers passage.node node_inside first (parts_over raw.domains variable word over).0 passage.head in
      let t = tails.covers passage.target next_inside rest (parts_over raw.domains (variable + 1) word over).1 passage.tail in
      let way : AWay = record {
        node = passage.node;
        target = passage.target;
        head_place = h.place;
        tail_place = t.place;
        head = h.path;
        tail = t.path;
        inside = node_inside;
        leads = passage.leads;
        head_is = h.is;
        tail_is = t.is;
      } in
      let costs_word : cost_pair costs word ≡ plus_pair (cost_pair costs first) (plus_pair price (cost_pair (drop (variable + 1) costs) rest)) = ap (cost_pair costs) passage.split ∙ three_parts first rest long in
      let head_no = order.no_cheaper h.path.pair (cost_pair costs first) h.no_dearer in
      let tail_no = order.no_cheaper t.path.pair (cost_pair (drop (variable + 1) costs) rest) t.no_dearer in
      let same = order.no_cheaper price price (order.itself price) in
      let after_no = sum_no_cheaper price price (cost_pair (drop (variable + 1) costs) rest) t.path.pair same tail_no in
      record {
        way = way;
        no_dearer = subst (λ p. no_more (way_pair way) p) (sym costs_word)
            (order.sums h.path.pair (cost_pair costs first) (plus_pair price t.path.pair) (plus_pair price (cost_pair (drop (variable + 1) costs) rest)) h.no_dearer
            (order.sums price price t.path.pair (cost_pair (drop (variable + 1) costs) rest) (order.itself price) t.no_dearer));
        no_later = λ even.
            let sums = ap (is_cheaper (way_pair way)) (sym costs_word) ∙ even in
            let head_even = first_no_dearer (cost_pair costs first) h.path.pair (plus_pair price (cost_pair (drop (variable + 1) costs) rest)) (plus_pair price t.path.pair) head_no after_no sums in
            let after_even = second_no_dearer (cost_pair costs first) h.path.pair (plus_pair price (cost_pair (drop (variable + 1) costs) rest)) (plus_pair price t.path.pair) head_no after_no sums in
            let tail_even = second_no_dearer price price (cost_pair (drop (variable + 1) costs) rest) t.path.pair same tail_no after_even in
            ap (λ w. comes_before w (way_word way)) passage.split
            ∙ parts_before first h.path.path (value ∷ rest) (value ∷ t.path.path) (long ∙ sym (length_head way)) (h.no_later head_even)
            (parts_before (value ∷ []) (value ∷ []) rest t.path.path refl (not_before_itself (value ∷ [])) (t.no_later tail_even));
      }

  -- ---- the least way

  -- the words that are open and take the value
  abbrev pub taken : List ℕ → Bool
  taken word = is_open raw choices word && takes word variable value

  -- those of them whose costs are allowed
  abbrev pub allowed_ones : List ℕ → Bool
  allowed_ones word = taken word && allows (cost_pair costs word)

  no_cheaper_way : (a b : AWay) → is_less_way a b ≡ false → is_cheaper (way_pair a) (way_pair b) ≡ false
  no_cheaper_way a b h = by (is_cheaper (way_pair a) (way_pair b)) h
    where
      by : (p : Bool) → (p || (not (is_cheaper (way_pair b) (way_pair a)) && nat_lt a.head.rank b.head.rank)) ≡ false → p ≡ false
      by true e = absurd cc
      by false e = refl

  no_less_rank : (a b : AWay) → is_less_way a b ≡ false → is_cheaper (way_pair b) (way_pair a) ≡ false → nat_lt a.head.rank b.head.rank ≡ false
  no_less_rank a b h k = by (is_cheaper (way_pair a) (way_pair b)) (is_cheaper (way_pair b) (way_pair a)) (nat_lt a.head.rank b.head.rank) h k
    where
      by : (p q r : Bool) → (p || (not q && r)) ≡ false → q ≡ false → r ≡ false
      by true q r e f = absurd cc
      by false true r e f = absurd cc
      by false false r e f = e

  head_leads : (way : AWay) → leads_to (take variable (levels raw)) (Some 0) way.head.path ≡ Some way.node
  head_leads way =
      is_number-is (leads_to (take variable (levels raw)) (Some 0) way.head.path) way.node
      (both (is_number (leads_to (take variable (levels raw)) (Some 0) way.head.path) way.node) (agrees choices 0 way.head.path) (heads.is_path way.node way.head_place way.inside way.head way.head_is)).0

  some_same : (m n : ℕ) → Some m ≡ Some n → m ≡ n
  some_same m n is = cc

  -- costs that are the same with the same added are the same
  pair_same : (a b c d : CostPair) → a ≡ b → is_cheaper (plus_pair a (plus_pair price c)) (plus_pair b (plus_pair price d)) ≡ false → is_cheaper (plus_pair b (plus_pair price d)) (plus_pair a (plus_pair price c)) ≡ false → c ≡ d
  pair_same a b c d same h k =
      let first : c.first ≡ d.first = grind (arith, ints, ap (λ (p : CostPair). p.first) same, ap (λ (p : CostPair). p.second) same) in
      let second : c.second ≡ d.second = grind (arith, ints, ap (λ (p : CostPair). p.first) same, ap (λ (p : CostPair). p.second) same) in
      ap (λ z. record { first = z; second = c.second }) first ∙ ap (λ z. record { first = d.first; second = z }) second

  -- two ways that cost the same and have one head have one word
  same_word : (a b : AWay) → a.head.path ≡ b.head.path → is_cheaper (way_pair a) (way_pair b) ≡ false → is_cheaper (way_pair b) (way_pair a) ≡ false → way_word a ≡ way_word b
  same_word a b same h k =
      let node : a.node ≡ b.node = some_same a.node b.node (sym (head_leads a) ∙ ap (leads_to (take variable (levels raw)) (Some 0)) same ∙ head_leads b) in
      let target : a.target ≡ b.target = some_same a.target b.target (sym a.leads ∙ ap (λ n. edge (level raw variable) n value) node ∙ b.leads) in
      let head_pair : a.head.pair ≡ b.head.pair =
      heads.priced a.node a.head_place a.inside a.head a.head_is ∙ ap (cost_pair costs) same ∙ sym (heads.priced b.node b.head_place b.inside b.head b.head_is) in
      let tail_pair : a.tail.pair ≡ b.tail.pair = pair_same a.head.pair b.head.pair a.tail.pair b.tail.pair head_pair h k in
      let tail : a.tail.path ≡ b.tail.path =
      tails.differ b.target a.tail_place b.tail_place (target_inside b) a.tail b.tail (ap (λ n. tail_at n a.tail_place) (sym target) ∙ a.tail_is) b.tail_is tail_pair in
      ap (λ w. w ++ value ∷ a.tail.path) same ∙ ap (λ w. b.head.path ++ value ∷ w) tail

  no_before : (a b : AWay) → is_less_way a b ≡ false → is_cheaper (way_pair b) (way_pair a) ≡ false → comes_before (way_word a) (way_word b) ≡ false
  no_before a b h k =
      let behind : comes_before a.head.path b.head.path ≡ false =
      sym (heads.ranked a.node a.head_place b.node b.head_place a.inside b.inside a.head b.head a.head_is b.head_is) ∙ no_less_rank a b h k in
      by (comes_before b.head.path a.head.path) refl behind
    where
      by : (p : Bool) → comes_before b.head.path a.head.path ≡ p → comes_before a.head.path b.head.path ≡ false → comes_before (way_word a) (way_word b) ≡ false
      by true e f = comes_before-one_way (way_word b) (way_word a) (before_first b.head.path a.head.path (value ∷ b.tail.path) (value ∷ a.tail.path) (length_head b ∙ sym (length_head a)) e)
      by false e f =
          ap (λ w. comes_before w (way_word b)) (same_word a b (comes_before-tells a.head.path b.head.path f e) (no_cheaper_way a b h) k) ∙ not_before_itself (way_word b)

  way_over : (way : AWay) → is_word raw.domains (way_word way) ≡ true
  way_over way =
      let head_over = heads.over way.node way.head_place way.inside way.head way.head_is in
      let tail_over = tails.over way.target way.tail_place (target_inside way) way.tail way.tail_is in
      let fit : length way.head.path ≡ length (take variable raw.domains) = length-word (take variable raw.domains) way.head.path head_over in
      let ends : drop variable raw.domains ≡ get_or raw.domains variable 0 ∷ drop (variable + 1) raw.domains =
      drop-cons raw.domains variable 0 inside ∙ ap (λ k. get_or raw.domains variable 0 ∷ drop k raw.domains) (sym (add-one variable)) in
      let below : nat_lt value (get_or raw.domains variable 0) ≡ true = grind (arith, nat_tests) in
      ap (λ ds. is_word ds (way_word way)) (sym (take-append-drop variable raw.domains))
      ∙ is_word-append (take variable raw.domains) (drop variable raw.domains) way.head.path (value ∷ way.tail.path) fit
      ∙ together (is_word (take variable raw.domains) way.head.path) (is_word (drop variable raw.domains) (value ∷ way.tail.path)) head_over
      (ap (λ ds. is_word ds (value ∷ way.tail.path)) ends ∙ together (nat_lt value (get_or raw.domains variable 0)) (is_word (drop (variable + 1) raw.domains) way.tail.path) below tail_over)

  way_taken : (way : AWay) → taken (way_word way) ≡ true
  way_taken way =
      let two = edge_opens raw choices variable value inside way.node way.target way.head.path way.tail.path (length_head way) way.leads allowed
      (heads.is_path way.node way.head_place way.inside way.head way.head_is) (tails.is_path way.target way.tail_place (target_inside way) way.tail way.tail_is) in
      together (is_open raw choices (way_word way)) (takes (way_word way) variable value) two.0 two.1

  -- a word whose costs are allowed is covered by a way whose costs are
  record IsAllowedWay (word : List ℕ) : Type 0 where
    covers : Covered word
    allows_it : allows (way_pair covers.way) ≡ true

  allowed_way : (word : List ℕ) → is_word raw.domains word ≡ true → allowed_ones word ≡ true → IsAllowedWay word
  allowed_way word over passes =
      let two = both (taken word) (allows (cost_pair costs word)) passes in
      let more = both (is_open raw choices word) (takes word variable value) two.0 in
      let its = covered word over (open_passage raw choices variable value inside word over more.0 more.1) in
      record { covers = its; allows_it = downward (way_pair its.way) (cost_pair costs word) its.no_dearer two.1 }

  -- the word of an allowed way that no allowed way is less than is the least allowed word that takes the value
  pub least_way : (best : AWay) → allows (way_pair best) ≡ true → ((other : AWay) → allows (way_pair other) ≡ true → is_less_way other best ≡ false) → IsLeast costs allowed_ones raw.domains (way_word best)
  least_way best fits unbeaten = record {
    over = way_over best;
    passes = together (taken (way_word best)) (allows (cost_pair costs (way_word best))) (way_taken best) (ap allows (way_costs best) ∙ fits);
    unbeaten = λ word over passes.
        let its = allowed_way word over passes in
        let way = its.covers.way in
        ap (is_cheaper (cost_pair costs word)) (way_costs best)
        ∙ is_cheaper_order.chain (cost_pair costs word) (way_pair way) (way_pair best) (order.no_cheaper (way_pair way) (cost_pair costs word) its.covers.no_dearer) (no_cheaper_way way best (unbeaten way its.allows_it));
    first = λ word over passes no_dearer.
        let its = allowed_way word over passes in
        let way = its.covers.way in
        let lesser : is_cheaper (way_pair best) (cost_pair costs word) ≡ false = ap (λ p. is_cheaper p (cost_pair costs word)) (sym (way_costs best)) ∙ no_dearer in
        let behind = order.no_cheaper (way_pair way) (cost_pair costs word) its.covers.no_dearer in
        let least = unbeaten way its.allows_it in
        before_chain word (way_word way) (way_word best)
        (its.covers.no_later (is_cheaper_order.chain (way_pair way) (way_pair best) (cost_pair costs word) (no_cheaper_way way best least) lesser))
        (no_before way best least (is_cheaper_order.chain (way_pair best) (cost_pair costs word) (way_pair way) lesser behind));
  }

  -- where no way is allowed, no allowed word takes the value
  pub no_way : ((way : AWay) → allows (way_pair way) ≡ true → ⊥) → (word : List ℕ) → is_word raw.domains word ≡ true → allowed_ones word ≡ false
  no_way none word over = by (allowed_ones word) refl
    where
      by : (b : Bool) → allowed_ones word ≡ b → b ≡ false
      by false e = refl
      by true e = let its = allowed_way word over e in absurd (none its.covers.way its.allows_it)
