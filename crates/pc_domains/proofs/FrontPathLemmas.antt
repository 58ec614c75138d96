-- Fronts keep the paths of nodes.
use Rattle.std.proofs.Common.{◌≡◌, ℕ, zero, suc, ◌<◌, ◌≤◌, nat_eq, nat_lt, Bool, true, false, ◌||◌, List, [], ◌∷◌, length, map, filter, get_or, Contains, Option, Some, None, option_map, slice_get, refl, sym, ap, subst, ◌∙◌, arith}
use Rattle.std.specs.Cmp.Lexicographic.{pointwise}
use Rattle.std.specs.List.{list_any}
use Rattle.std.proofs.lemmas.Int.{ints}
use Rattle.std.proofs.lemmas.List.Elements.{All-contains}
use Rattle.std.proofs.lemmas.Slice.Eq.{bytes_eq-Decides}
use Rattle.pc_diagram.specs.declared.choice.Choice.{Choice}
use Rattle.pc_diagram.specs.declared.costs.CostPair.{CostPair}
use Rattle.pc_diagram.specs.declared.raw_diagram.RawDiagram.{RawDiagram}
use Rattle.pc_diagram.specs.declared.side.Side.{Side}
use Rattle.pc_diagram.specs.Costs.{cost_pair, is_cheaper}
use Rattle.pc_diagram.specs.NodePaths.{comes_before}
use Rattle.pc_diagram.specs.Words.{all_words, is_word}
use Rattle.pc_diagram.proofs.LeastWords.{comes_before-tells}
use Rattle.pc_diagram.proofs.ShapeLemmas.{both, together}
use Rattle.pc_diagram.proofs.WordLemmas.{kept_words-is}
use Rattle.pc_pareto.specs.declared.front_item.FrontItem.{FrontItem}
use Rattle.pc_pareto.specs.Front.{front, is_at_most}
use Rattle.pc_pareto.specs.Fronts.{AreFronts, IsFirstWith, front_of_node, items_at, layer_at, pair_of_word, word_at, words_of}
use Rattle.pc_pareto.specs.Items.{pair_of}
use Rattle.pc_pareto.proofs.FrontLemmas.{front_is}
use Rattle.pc_domains.specs.FrontPaths.{kept_by_fronts, kept_item}
use Rattle.pc_domains.specs.Orders.{IsAtMost}
use Rattle.pc_domains.specs.Ways.{IsCovered, Keeps, Kept}

-- ---- members of lists

among : (word : List ℕ) (all : List (List ℕ)) → Contains all word → list_any (pointwise nat_eq word) all ≡ true
among word [] is = absurd (omega (arith, is.1))
among word (other ∷ all) (zero, lt, e) = ap (λ b. b || list_any (pointwise nat_eq word) all) ((bytes_eq-Decides word other).1 (sym e))
among word (other ∷ all) (suc k, lt, e) = by (pointwise nat_eq word other) (among word all (k, omega (arith, lt), e))
  where
    by : (b : Bool) → list_any (pointwise nat_eq word) all ≡ true → (b || list_any (pointwise nat_eq word) all) ≡ true
    by true h = refl
    by false h = h

member : (word : List ℕ) (all : List (List ℕ)) → list_any (pointwise nat_eq word) all ≡ true → Contains all word
member word [] h = absurd cc
member word (other ∷ all) h = by (pointwise nat_eq word other) refl h (member word all)
  where
    by : (b : Bool) → pointwise nat_eq word other ≡ b → (b || list_any (pointwise nat_eq word) all) ≡ true → (list_any (pointwise nat_eq word) all ≡ true → Contains all word) → Contains (other ∷ all) word
    by true e k rest = (zero, omega arith, sym ((bytes_eq-Decides word other).0 e))
    by false e k rest = let its = rest k in (suc its.0, omega (arith, its.1), its.2)

-- the words of a list that pass a test
pub kept_word : (test : List ℕ → Bool) (domains word : List ℕ) → Contains (filter test (all_words domains)) word → (test word ≡ true) × (is_word domains word ≡ true)
kept_word test domains word is = both (test word) (is_word domains word) (sym (kept_words-is test domains word) ∙ among word (filter test (all_words domains)) is)

pub word_kept : (test : List ℕ → Bool) (domains word : List ℕ) → test word ≡ true → is_word domains word ≡ true → Contains (filter test (all_words domains)) word
word_kept test domains word passes over = member word (filter test (all_words domains)) (kept_words-is test domains word ∙ together (test word) (is_word domains word) passes over)

some_item : (items : List FrontItem) (place : ℕ) (item : FrontItem) → slice_get items place ≡ Some item → Contains items item
some_item [] place item is = absurd cc
some_item (first ∷ items) zero item is = let same : first ≡ item = cc in (zero, omega arith, same)
some_item (first ∷ items) (suc place) item is = let its = some_item items place item is in (suc its.0, omega (arith, its.1), its.2)

-- a pair among those of items is that of one of them
record HasPair (items : List FrontItem) (pair : CostPair) : Type 0 where
  place : ℕ
  item : FrontItem
  is : slice_get items place ≡ Some item
  pair_is : pair_of item ≡ pair

has_pair : (items : List FrontItem) (pair : CostPair) → Contains (map pair_of items) pair → HasPair items pair
has_pair [] pair is = absurd (omega (arith, is.1))
has_pair (item ∷ items) pair (zero, lt, e) = record { place = zero; item = item; is = refl; pair_is = e }
has_pair (item ∷ items) pair (suc k, lt, e) =
    let its = has_pair items pair (k, omega (arith, lt), e) in
    record { place = suc its.place; item = its.item; is = its.is; pair_is = its.pair_is }

word_pair : (f : List ℕ → CostPair) (all : List (List ℕ)) (word : List ℕ) → Contains all word → Contains (map f all) (f word)
word_pair f [] word is = absurd (omega (arith, is.1))
word_pair f (other ∷ all) word (zero, lt, e) = (zero, omega arith, ap f e)
word_pair f (other ∷ all) word (suc k, lt, e) = let its = word_pair f all word (k, omega (arith, lt), e) in (suc its.0, omega (arith, its.1), its.2)

pair_equal : (a b : CostPair) → is_at_most a b ≡ true → is_cheaper a b ≡ false → b ≡ a
pair_equal a b h k =
    let first : b.first ≡ a.first = grind (arith, ints) in
    let second : b.second ≡ a.second = grind (arith, ints) in
    ap (λ z. record { first = z; second = b.second }) first ∙ ap (λ z. record { first = a.first; second = z }) second

at_most_itself : (a : CostPair) → is_at_most a a ≡ true
at_most_itself a = grind (arith, ints)

-- ---- the fronts of a layer

-- a kept path is that of an item
record Origin (side : Side) (stages : List (List (List FrontItem))) (distance node place : ℕ) (k : Kept) : Type 0 where
  item : FrontItem
  among : Contains (items_at stages distance node) item
  is : kept_item side stages distance item ≡ k

origin : (side : Side) (stages : List (List (List FrontItem))) (distance node place : ℕ) (k : Kept) → kept_by_fronts side stages distance node place ≡ Some k → Origin side stages distance node place k
origin side stages distance node place k is = by (slice_get (items_at stages distance node) place) refl is
  where
    by : (o : Option FrontItem) → slice_get (items_at stages distance node) place ≡ o → option_map (kept_item side stages distance) o ≡ Some k → Origin side stages distance node place k
    by None e h = absurd cc
    by (Some item) e h = record { item = item; among = some_item (items_at stages distance node) place item e; is = cc }

module _ (side : Side) (raw : RawDiagram) (costs : List (List CostPair)) (choices : List Choice) (stages : List (List (List FrontItem))) (fronts : AreFronts side raw costs choices stages)
    (distance layer : ℕ) (inside : distance ≤ length raw.domains) (layer_is : layer_at side (length raw.domains) distance ≡ layer)
    (test : ℕ → List ℕ → Bool) (domains : List ℕ) (word_costs : List (List CostPair))
    (words_are : (node : ℕ) → words_of side raw choices layer node ≡ filter (test node) (all_words domains)) (costs_are : (word : List ℕ) → pair_of_word side costs layer word ≡ cost_pair word_costs word) where
  size : ℕ
  size = get_or raw.sizes layer 0

  -- an item's word is the first of its pair
  first_with : (node : ℕ) → node < size → (item : FrontItem) → Contains (items_at stages distance node) item → IsFirstWith (pair_of_word side costs layer) (words_of side raw choices layer node) (pair_of item) (word_at side stages distance item)
  unfolding size
  first_with node lt item among =
      subst (λ l. IsFirstWith (pair_of_word side costs l) (words_of side raw choices l node) (pair_of item) (word_at side stages distance item)) layer_is
      (All-contains (λ it. IsFirstWith (pair_of_word side costs (layer_at side (length raw.domains) distance)) (words_of side raw choices (layer_at side (length raw.domains) distance) node) (pair_of it) (word_at side stages distance it))
      (items_at stages distance node) item (fronts.paths distance node inside (subst (λ l. node < get_or raw.sizes l 0) (sym layer_is) lt)) among)

  kept_facts : (node place : ℕ) → node < size → (k : Kept) → kept_by_fronts side stages distance node place ≡ Some k → (test node k.path ≡ true) × (is_word domains k.path ≡ true) × (cost_pair word_costs k.path ≡ k.pair)
  kept_facts node place lt k is =
      let its = origin side stages distance node place k is in
      let first = first_with node lt its.item its.among in
      let word = word_at side stages distance its.item in
      let two = kept_word (test node) domains word (subst (λ ws. Contains ws word) (words_are node) first.among) in
      subst (λ (l : Kept). (test node l.path ≡ true) × (is_word domains l.path ≡ true) × (cost_pair word_costs l.path ≡ l.pair)) its.is
      (two.0, two.1, sym (costs_are word) ∙ first.has)

  covers : (node : ℕ) → node < size → (word : List ℕ) → is_word domains word ≡ true → test node word ≡ true → IsCovered IsAtMost word_costs (kept_by_fronts side stages distance node) word
  unfolding size
  covers node lt word over passes =
      let words = words_of side raw choices layer node in
      let pairs = map (pair_of_word side costs layer) words in
      let here : Contains words word = subst (λ ws. Contains ws word) (sym (words_are node)) (word_kept (test node) domains word passes over) in
      let reached = All-contains (λ p. (other : CostPair) × Contains (front pairs) other × (is_at_most other p ≡ true)) pairs (pair_of_word side costs layer word) ((front_is pairs).reached) (word_pair (pair_of_word side costs layer) words word here) in
      let kept : map pair_of (items_at stages distance node) ≡ front pairs =
      fronts.pairs distance node inside (subst (λ l. node < get_or raw.sizes l 0) (sym layer_is) lt) ∙ ap (λ l. front_of_node side raw costs choices l node) layer_is in
      let its = has_pair (items_at stages distance node) reached.0 (subst (λ ps. Contains ps reached.0) (sym kept) reached.1) in
      let at_most : is_at_most (pair_of its.item) (cost_pair word_costs word) ≡ true = ap (λ p. is_at_most p (cost_pair word_costs word)) its.pair_is ∙ ap (is_at_most reached.0) (sym (costs_are word)) ∙ reached.2 in
      record {
        place = its.place;
        path = kept_item side stages distance its.item;
        is = ap (option_map (kept_item side stages distance)) its.is;
        no_dearer = at_most;
        no_later = λ even.
            let first = first_with node lt its.item (some_item (items_at stages distance node) its.place its.item its.is) in
            All-contains (λ other. pair_of_word side costs layer other ≡ pair_of its.item → comes_before other (word_at side stages distance its.item) ≡ false) words word first.first here
            (costs_are word ∙ pair_equal (pair_of its.item) (cost_pair word_costs word) at_most even);
      }

  differ : (node place other : ℕ) → node < size → (k l : Kept) → kept_by_fronts side stages distance node place ≡ Some k → kept_by_fronts side stages distance node other ≡ Some l → k.pair ≡ l.pair → k.path ≡ l.path
  differ node place other lt k l is beside same =
      let a = origin side stages distance node place k is in
      let b = origin side stages distance node other l beside in
      let first = first_with node lt a.item a.among in
      let second = first_with node lt b.item b.among in
      let words = words_of side raw choices layer node in
      let wa = word_at side stages distance a.item in
      let wb = word_at side stages distance b.item in
      let pairs : pair_of a.item ≡ pair_of b.item = ap (λ (x : Kept). x.pair) a.is ∙ same ∙ ap (λ (x : Kept). x.pair) (sym b.is) in
      let no = All-contains (λ w. pair_of_word side costs layer w ≡ pair_of a.item → comes_before w wa ≡ false) words wb first.first second.among (second.has ∙ sym pairs) in
      let nor = All-contains (λ w. pair_of_word side costs layer w ≡ pair_of b.item → comes_before w wb ≡ false) words wa second.first first.among (first.has ∙ pairs) in
      sym (ap (λ (x : Kept). x.path) a.is) ∙ comes_before-tells wa wb nor no ∙ ap (λ (x : Kept). x.path) b.is

  ranked : (node place other beside : ℕ) → node < size → other < size → (k l : Kept) → kept_by_fronts side stages distance node place ≡ Some k → kept_by_fronts side stages distance other beside ≡ Some l → nat_lt k.rank l.rank ≡ comes_before k.path l.path
  ranked node place other beside lt within k l is also =
      let a = origin side stages distance node place k is in
      let b = origin side stages distance other beside l also in
      subst (λ (x : Kept). nat_lt x.rank l.rank ≡ comes_before x.path l.path) a.is
      (subst (λ (x : Kept). nat_lt a.item.back.rank x.rank ≡ comes_before (word_at side stages distance a.item) x.path) b.is
      (fronts.ranks distance node other a.item b.item inside a.among b.among))

  -- fronts keep the paths of their layer's nodes
  pub fronts_keep : Keeps IsAtMost word_costs test domains (get_or raw.sizes layer 0) (kept_by_fronts side stages distance)
  unfolding size
  fronts_keep = record {
    over = λ node place lt k is. (kept_facts node place lt k is).1;
    is_path = λ node place lt k is. (kept_facts node place lt k is).0;
    priced = λ node place lt k is. sym (kept_facts node place lt k is).2;
    covers = covers;
    differ = differ;
    ranked = ranked;
  }
