-- Tables without a fault are those of a canonical diagram.
use Rattle.std.proofs.Common.{◌≡◌, ℕ, zero, suc, ◌+◌, ◌*◌, ◌-◌, ◌<◌, ◌≤◌, ◌==◌, nat_lt, nat_le, nat_eq, Bool, true, false, ◌&&◌, ◌||◌, List, [], ◌∷◌, length, take, drop, get_or, is_some, sum, Option, Some, None, option_map, refl, sym, ap, ◌∙◌, arith, length-drop}
use Rattle.std.specs.Cmp.Lexicographic.{pointwise_decides}
use Rattle.std.specs.List.{list_any, range_with_len}
use Rattle.std.specs.Option.{option_eq, option_or}
use Rattle.std.proofs.lemmas.Bool.{both_ways}
use Rattle.std.proofs.lemmas.Bool.Decides.{nat_tests}
use Rattle.std.proofs.lemmas.List.{drop-drop, take-append-drop}
use Rattle.std.proofs.lemmas.List.Folds.{list_any-append}
use Rattle.std.proofs.lemmas.List.FromFn.{get_or-map-range_with_len}
use Rattle.std.proofs.lemmas.List.Sums.{get_or-le-sum_by}
use Rattle.pc_diagram.specs.declared.flaw.Flaw.{Flaw}
use Rattle.pc_diagram.specs.declared.flaw.Flaw.TheVariants.{EdgeOut, Dead, Unreached, Twin, Order}
use Rattle.pc_diagram.specs.declared.place.Place.{Place}
use Rattle.pc_diagram.specs.declared.raw_diagram.RawDiagram.{RawDiagram}
use Rattle.pc_diagram.specs.Diagram.{IsShapedLevel, IsShaped, IsCanonicalLevel, IsCanonical}
use Rattle.pc_diagram.specs.DiagramFaults.{is_outside, same_edges, leads_out, is_dead, is_unreached, is_twin, met, flawed_node, layer_of, place_or, flawed_place, fault_at, fault_among}
use Rattle.pc_diagram.specs.Fitting.{is_number}
use Rattle.pc_diagram.specs.Levels.{Level, level, levels, row}
use Rattle.pc_diagram.proofs.AnyLemmas.{none_weaker, none_of_range, among_range}
use Rattle.pc_diagram.proofs.FirstBelow.{none_below}
use Rattle.pc_diagram.proofs.LevelLemmas.{length-levels}
use Rattle.pc_diagram.proofs.ShapeLemmas.{both, together, straight}
use Rattle.pc_diagram.proofs.TurnLemmas.{in_turn, met-any}

-- none of these flaws stands: at no level is there such a node
none_told : (raw : RawDiagram) (flaw : Flaw) (flaws : List Flaw) → fault_among raw (flaw ∷ flaws) ≡ None → (flawed_place flaw 0 (levels raw) ≡ None) × (fault_among raw flaws ≡ None)
none_told raw flaw flaws h = by (flawed_place flaw 0 (levels raw)) h
  where
    by : (p : Option Place) → option_or (option_map (fault_at flaw) p) (fault_among raw flaws) ≡ None → (p ≡ None) × (fault_among raw flaws ≡ None)
    by None e = (refl, e)
    by (Some p) e = absurd cc

none_placed : (layer : ℕ) (node : Option ℕ) (later : Option Place) → place_or layer node later ≡ None → (node ≡ None) × (later ≡ None)
none_placed layer None later h = (refl, h)
none_placed layer (Some node) later h = absurd cc

none_from : (flaw : Flaw) (ls : List Level) (v i : ℕ) (d : Level) → flawed_place flaw v ls ≡ None → i < length ls → flawed_node flaw (get_or ls i d) ≡ None
none_from flaw [] v i d h lt = absurd (omega arith)
none_from flaw (l ∷ ls) v zero d h lt = (none_placed (layer_of flaw v) (flawed_node flaw l) (flawed_place flaw (v + 1) ls) h).0
none_from flaw (l ∷ ls) v (suc i) d h lt = none_from flaw ls (v + 1) i d (none_placed (layer_of flaw v) (flawed_node flaw l) (flawed_place flaw (v + 1) ls) h).1 (omega arith)

-- the row of a node
pub row-is : (l : Level) (node : ℕ) → row l node ≡ take l.domain (drop (node * l.domain) l.table)
row-is l node = let width : (node * l.domain + l.domain) - node * l.domain ≡ l.domain = omega arith in ap (λ n. take n (drop (node * l.domain) l.table)) width

-- where no row has an edge that passes, none does
none_in_rows : (test : Option ℕ → Bool) (d n : ℕ) (table : List (Option ℕ)) → length table ≡ n * d → ((node : ℕ) → node < n → list_any test (take d (drop (node * d) table)) ≡ false) → list_any test table ≡ false
none_in_rows test d zero table width none = by table width
  where
    by : (xs : List (Option ℕ)) → length xs ≡ 0 * d → list_any test xs ≡ false
    by [] w = refl
    by (x ∷ xs) w = absurd (omega arith)
none_in_rows test d (suc n) table width none =
    let left : length (drop d table) ≡ n * d = omega (arith, length-drop d table) in
    let first : take d (drop (0 * d) table) ≡ take d table = let nothing : 0 * d ≡ 0 = omega arith in ap (λ k. take d (drop k table)) nothing in
    let rest = none_in_rows test d n (drop d table) left (λ node lt. let next : d + node * d ≡ suc node * d = omega arith in ap (λ xs. list_any test (take d xs)) (drop-drop (node * d) d table ∙ ap (λ k. drop k table) next) ∙ none (suc node) (omega arith)) in
    ap (list_any test) (sym (take-append-drop d table)) ∙ list_any-append test (take d table) (drop d table)
    ∙ ap (λ b. b || list_any test (drop d table)) (ap (list_any test) (sym first) ∙ none 0 (omega arith)) ∙ rest

pub same_edges_decides : (xs ys : List (Option ℕ)) → (same_edges xs ys ≡ true → xs ≡ ys) × (xs ≡ ys → same_edges xs ys ≡ true)
same_edges_decides = pointwise_decides by
  where
    by : (x y : Option ℕ) → (option_eq nat_eq x y ≡ true → x ≡ y) × (x ≡ y → option_eq nat_eq x y ≡ true)
    by None None = (λ e. refl, λ e. refl)
    by None (Some y) = (λ e. absurd cc, λ e. absurd cc)
    by (Some x) None = (λ e. absurd cc, λ e. absurd cc)
    by (Some x) (Some y) = (λ e. let same : x ≡ y = grind (arith, nat_tests) in ap Some same, λ e. let same : x ≡ y = cc in grind (arith, nat_tests))

-- as many nodes are met as there are
met_count : (l : Level) (m : ℕ) → met l.table ≡ range_with_len 0 m → list_any (is_outside l.next) l.table ≡ false → ((node : ℕ) → node < l.next → list_any (λ target. is_number target node) l.table ≡ true) → m ≡ l.next
met_count l m is layered reached = by (nat_lt m l.next) refl (nat_lt l.next m) refl
  where
    there : (node : ℕ) → list_any (λ target. is_number target node) l.table ≡ (nat_le 0 node && nat_lt node (0 + m))
    there node = sym (met-any l.table node) ∙ ap (list_any (λ x. x == node)) is ∙ among_range node 0 m

    above : list_any (λ target. is_number target l.next) l.table ≡ false
    above = none_weaker (λ target. is_number target l.next) (is_outside l.next) past l.table layered
      where
        past : (x : Option ℕ) → is_outside l.next x ≡ false → is_number x l.next ≡ false
        past None h = refl
        past (Some t) h = grind (arith, nat_tests)

    by : (b : Bool) → nat_lt m l.next ≡ b → (c : Bool) → nat_lt l.next m ≡ c → m ≡ l.next
    by true e c f =
        let lt : m < l.next = grind (arith, nat_tests) in
        let yes : (nat_le 0 m && nat_lt m (0 + m)) ≡ true = sym (there m) ∙ reached m lt in
        absurd (both_ways (nat_lt m (0 + m)) (let same : 0 + m ≡ m = omega arith in grind (arith, nat_tests)) (both (nat_le 0 m) (nat_lt m (0 + m)) yes).1)
    by false e true f =
        let no : (nat_le 0 l.next && nat_lt l.next (0 + m)) ≡ false = sym (there l.next) ∙ above in
        let lt : l.next < 0 + m = grind (arith, nat_tests) in
        let ge : 0 ≤ l.next = omega arith in
        absurd (both_ways (nat_le 0 l.next && nat_lt l.next (0 + m)) no (together (nat_le 0 l.next) (nat_lt l.next (0 + m)) (grind (arith, nat_tests)) (grind (arith, nat_tests))))
    by false e false f = grind (arith, nat_tests)

-- a level at which no flaw stands
pub canonical_level : (l : Level) → IsShapedLevel l → ((flaw : Flaw) → flawed_node flaw l ≡ None) → IsCanonicalLevel l
canonical_level l s none =
    let layered : list_any (is_outside l.next) l.table ≡ false = none_in_rows (is_outside l.next) l.domain l.size l.table s.width (λ node lt. ap (list_any (is_outside l.next)) (sym (row-is l node)) ∙ none_below (leads_out l) l.size (none EdgeOut) node lt) in
    let reached : (node : ℕ) → node < l.next → list_any (λ target. is_number target node) l.table ≡ true = λ node lt. straight (list_any (λ target. is_number target node) l.table) (none_below (is_unreached l) l.next (none Unreached) node lt) in
    let met_is : met l.table ≡ range_with_len 0 (length (met l.table)) = in_turn (met l.table) 0 (none Order) in
    record {
      layered = layered;
      live = λ node lt. straight (list_any is_some (row l node)) (none_below (is_dead l) l.size (none Dead) node lt);
      reached = reached;
      reduced = λ node other before lt same. both_ways (same_edges (row l other) (row l node)) (none_of_range (same_edges (row l other)) (row l) 0 other node (none_below (is_twin l) l.size (none Twin) other lt) (omega arith) (omega arith)) ((same_edges_decides (row l other) (row l node)).1 (sym same));
      ordered = met_is ∙ ap (range_with_len 0) (met_count l (length (met l.table)) met_is layered reached);
    }

-- tables in which none of the flaws stands
pub none_flawed : (raw : RawDiagram) → IsShaped raw → fault_among raw (EdgeOut ∷ Dead ∷ Unreached ∷ Twin ∷ Order ∷ []) ≡ None → IsCanonical raw
none_flawed raw s h =
    let a = none_told raw EdgeOut (Dead ∷ Unreached ∷ Twin ∷ Order ∷ []) h in
    let b = none_told raw Dead (Unreached ∷ Twin ∷ Order ∷ []) a.1 in
    let c = none_told raw Unreached (Twin ∷ Order ∷ []) b.1 in
    let d = none_told raw Twin (Order ∷ []) c.1 in
    let e = none_told raw Order [] d.1 in
    record { shape = s; canonical = λ v lt. canonical_level (level raw v) (s.shaped v lt) (all a.0 b.0 c.0 d.0 e.0 v lt) }
  where
    at : (flaw : Flaw) → flawed_place flaw 0 (levels raw) ≡ None → (v : ℕ) → v < length raw.domains → flawed_node flaw (level raw v) ≡ None
    at flaw e v lt =
        ap (flawed_node flaw) (sym (get_or-map-range_with_len (level raw) 0 (length raw.domains) v v (level raw v) lt (omega arith))) ∙ none_from flaw (levels raw) 0 v (level raw v) e (omega (arith, length-levels raw))

    all : flawed_place EdgeOut 0 (levels raw) ≡ None → flawed_place Dead 0 (levels raw) ≡ None → flawed_place Unreached 0 (levels raw) ≡ None → flawed_place Twin 0 (levels raw) ≡ None → flawed_place Order 0 (levels raw) ≡ None →
        (v : ℕ) → v < length raw.domains → (flaw : Flaw) → flawed_node flaw (level raw v) ≡ None
    all a b c d e v lt EdgeOut = at EdgeOut a v lt
    all a b c d e v lt Dead = at Dead b v lt
    all a b c d e v lt Unreached = at Unreached c v lt
    all a b c d e v lt Twin = at Twin d v lt
    all a b c d e v lt Order = at Order e v lt

-- the numbers of nodes aren't the one that stands for no edge
pub packable : (raw : RawDiagram) → IsCanonical raw → (v : ℕ) → v < length raw.domains → list_any (is_outside 4294967295) (get_or raw.edges v []) ≡ false
packable raw h v lt =
    let layers = h.shape.layers in
    let few_nodes = h.shape.few_nodes in
    let most : get_or raw.sizes (v + 1) 0 ≤ sum raw.sizes = get_or-le-sum_by (λ x. x) raw.sizes (v + 1) 0 (omega arith) in
    none_weaker (is_outside 4294967295) (is_outside (get_or raw.sizes (v + 1) 0)) (past (get_or raw.sizes (v + 1) 0) (omega arith)) (get_or raw.edges v []) (h.canonical v lt).layered
  where
    past : (next : ℕ) → next ≤ 262144 → (x : Option ℕ) → is_outside next x ≡ false → is_outside 4294967295 x ≡ false
    past next few None e = refl
    past next few (Some t) e = let lt : t < next = grind (arith, nat_tests) in let below : t < 4294967295 = omega arith in grind (arith, nat_tests)
