-- Canonical tables over the same domains that have the same words are the same.
use Rattle.std.proofs.Common.{◌≡◌, ℕ, zero, suc, ◌+◌, ◌*◌, ◌<◌, ◌≤◌, nat_eq, nat_lt, Bool, true, false, ◌&&◌, List, [], ◌∷◌, map, length, get_or, drop, Option, Some, None, refl, sym, ap, ◌∙◌, subst, arith}
use Rattle.std.specs.Cmp.Lexicographic.{pointwise}
use Rattle.std.specs.List.{list_any}
use Rattle.std.proofs.lemmas.Bool.{both_ways}
use Rattle.std.proofs.lemmas.Bool.Decides.{nat_tests}
use Rattle.std.proofs.lemmas.List.{ext_get_or, get_or_past, get_or-map, length-map, length-take}
use Rattle.std.proofs.lemmas.List.FromFn.{get_or-map-range_with_len}
use Rattle.pc_diagram.specs.declared.raw_diagram.RawDiagram.{RawDiagram}
use Rattle.pc_diagram.specs.Diagram.{IsCanonical}
use Rattle.pc_diagram.specs.Levels.{Level, level, levels, row, edge}
use Rattle.pc_diagram.specs.Paths.{accepts, words}
use Rattle.pc_diagram.specs.Words.{is_word}
use Rattle.pc_diagram.proofs.DiagramLemmas.{row-is}
use Rattle.pc_diagram.proofs.LevelLemmas.{length-levels, drop-levels, drop-levels-end}
use Rattle.pc_diagram.proofs.PathLemmas.{accepts-none}
use Rattle.pc_diagram.proofs.ShapeLemmas.{together}
use Rattle.pc_diagram.proofs.UniqueLemmas.{IsChain, same_levels, some_word}
use Rattle.pc_diagram.proofs.WordLemmas.{kept_words-is}

-- the levels of canonical tables, from a variable on
pub chain_from : (raw : RawDiagram) → IsCanonical raw → (k v : ℕ) → v + k ≡ length raw.domains → IsChain (get_or raw.sizes v 0) (drop v (levels raw))
chain_from raw h zero v e =
    let end : v ≡ length raw.domains = omega arith in
    subst (IsChain (get_or raw.sizes v 0)) (sym (drop-levels-end raw v (omega arith))) (ap (λ i. get_or raw.sizes i 0) end ∙ h.shape.terminal)
chain_from raw h (suc k) v e =
    let lt : v < length raw.domains = omega arith in
    subst (IsChain (get_or raw.sizes v 0)) (sym (drop-levels raw v lt)) (refl, h.shape.shaped v lt, h.canonical v lt, chain_from raw h k (v + 1) (omega arith))

pub chain : (raw : RawDiagram) → IsCanonical raw → IsChain 1 (levels raw)
chain raw h = subst (λ n. IsChain n (levels raw)) h.shape.root (chain_from raw h (length raw.domains) 0 (omega arith))

pub domains-levels : (raw : RawDiagram) → map (λ l. l.domain) (levels raw) ≡ raw.domains
domains-levels raw =
    let count = length-map (levels raw) (λ (l : Level). l.domain) ∙ length-levels raw in
    ext_get_or 0 (map (λ l. l.domain) (levels raw)) raw.domains count
    (λ i lt.
    let small : i < length raw.domains = omega arith in
    let d : Level = level raw i in
    get_or-map (λ l. l.domain) (levels raw) i d 0 (omega (arith, length-levels raw)) ∙ ap (λ l. l.domain) (get_or-map-range_with_len (level raw) 0 (length raw.domains) i i d small (omega arith)))

no_edge : (l : Level) (node value : ℕ) → l.domain ≤ value → edge l node value ≡ None
no_edge l node value le = get_or_past (row l node) value None (let short = ap length (row-is l node) ∙ length-take l.domain (drop (node * l.domain) l.table) in omega arith)

-- what has an accepted word is a node
some_node : (ls : List Level) (x : Option ℕ) (word : List ℕ) → accepts ls x word ≡ true → x ≡ None → ⊥
some_node ls x word h e = both_ways (accepts ls x word) (ap (λ y. accepts ls y word) e ∙ accepts-none ls word) h

-- what is accepted is a word
pub accepts-is_word : (ls : List Level) (x : Option ℕ) (word : List ℕ) → accepts ls x word ≡ true → is_word (map (λ l. l.domain) ls) word ≡ true
accepts-is_word [] None word h = absurd cc
accepts-is_word [] (Some node) [] h = refl
accepts-is_word [] (Some node) (value ∷ word) h = absurd cc
accepts-is_word (l ∷ ls) None word h = absurd cc
accepts-is_word (l ∷ ls) (Some node) [] h = absurd cc
accepts-is_word (l ∷ ls) (Some node) (value ∷ word) h =
    together (nat_lt value l.domain) (is_word (map (λ l. l.domain) ls) word) (by (nat_lt value l.domain) refl) (accepts-is_word ls (edge l node value) word h)
  where
    by : (b : Bool) → nat_lt value l.domain ≡ b → nat_lt value l.domain ≡ true
    by true e = e
    by false e = let past : l.domain ≤ value = grind (arith, nat_tests) in absurd (some_node ls (edge l node value) word h (no_edge l node value past))

-- the words tell what is accepted
pub word_accepted : (raw : RawDiagram) (word : List ℕ) → list_any (pointwise nat_eq word) (words raw) ≡ accepts (levels raw) (Some 0) word
word_accepted raw word =
    kept_words-is (accepts (levels raw) (Some 0)) raw.domains word
    ∙ by (accepts (levels raw) (Some 0) word) (λ e. ap (λ d. is_word d word) (sym (domains-levels raw)) ∙ accepts-is_word (levels raw) (Some 0) word e)
  where
    by : (b : Bool) → (b ≡ true → is_word raw.domains word ≡ true) → (b && is_word raw.domains word) ≡ b
    by true f = f refl
    by false f = refl

-- tables of the same levels
same_raw : (a b : RawDiagram) → IsCanonical a → IsCanonical b → a.domains ≡ b.domains → levels a ≡ levels b → a ≡ b
same_raw a b h k d same = λ i. record { domains = d i; sizes = sizes i; edges = edges i }
  where
    at : (v : ℕ) → v < length a.domains → level a v ≡ level b v
    at v lt =
        let e : Level = level a v in
        let count : length a.domains ≡ length b.domains = ap length d in
        sym (get_or-map-range_with_len (level a) 0 (length a.domains) v v e lt (omega arith)) ∙ ap (λ ls. get_or ls v e) same ∙ get_or-map-range_with_len (level b) 0 (length b.domains) v v e (omega arith) (omega arith)

    size_at : (v : ℕ) (p : Bool) → nat_lt v (length a.domains) ≡ p → v < length a.sizes → get_or a.sizes v 0 ≡ get_or b.sizes v 0
    size_at v true e lt = ap (λ l. l.size) (at v (let small : v < length a.domains = grind (arith, nat_tests) in small))
    size_at v false e lt =
        let layers = h.shape.layers in
        let past : length a.domains ≤ v = grind (arith, nat_tests) in
        let end : v ≡ length a.domains = omega arith in
        let other : v ≡ length b.domains = end ∙ ap length d in
        ap (λ i. get_or a.sizes i 0) end ∙ h.shape.terminal ∙ sym (ap (λ i. get_or b.sizes i 0) other ∙ k.shape.terminal)

    sizes : a.sizes ≡ b.sizes
    sizes = ext_get_or 0 a.sizes b.sizes (h.shape.layers ∙ ap (λ n. n + 1) (ap length d) ∙ sym k.shape.layers) (λ v lt. size_at v (nat_lt v (length a.domains)) refl lt)

    edges : a.edges ≡ b.edges
    edges = ext_get_or [] a.edges b.edges (h.shape.tables ∙ ap length d ∙ sym k.shape.tables) (λ v lt. let tables = h.shape.tables in ap (λ l. l.table) (at v (omega arith)))

-- the same words make the same tables
pub equal_words : (a b : RawDiagram) → IsCanonical a → IsCanonical b → a.domains ≡ b.domains → words a ≡ words b → a ≡ b
equal_words a b h k d w =
    same_raw a b h k d (same_levels 1 (levels a) (levels b) (chain a h) (chain b k) (domains-levels a ∙ d ∙ sym (domains-levels b))
    (λ node lt word.
    let root : node ≡ 0 = omega arith in
    let same = sym (word_accepted a word) ∙ ap (list_any (pointwise nat_eq word)) w ∙ word_accepted b word in
    ap (λ n. accepts (levels a) (Some n) word) root ∙ same ∙ ap (λ n. accepts (levels b) (Some n) word) (sym root)))

-- a word of the tables is one over their domains
pub over_domains : (raw : RawDiagram) (word : List ℕ) → accepts (levels raw) (Some 0) word ≡ true → is_word raw.domains word ≡ true
over_domains raw word h = ap (λ d. is_word d word) (sym (domains-levels raw)) ∙ accepts-is_word (levels raw) (Some 0) word h

-- canonical tables have a word
pub some_words : (raw : RawDiagram) → IsCanonical raw → words raw ≡ [] → ⊥
some_words raw h none =
    let one = some_word 1 (levels raw) (chain raw h) 0 (omega arith) in
    both_ways (list_any (pointwise nat_eq one.0) (words raw)) (ap (list_any (pointwise nat_eq one.0)) none) (word_accepted raw one.0 ∙ one.1)
