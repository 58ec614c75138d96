-- Tables are told by their lines, and so is the line at which lines go wrong.
use Rattle.std.proofs.Common.{◌≡◌, ℕ, zero, suc, ◌+◌, ◌-◌, ◌*◌, ◌<◌, ◌≤◌, List, [], ◌∷◌, ◌++◌, map, take, drop, length, All, Option, codes, refl, sym, ap, ◌∙◌, subst, inl, inr, arith, append_assoc}
use Rattle.std.specs.Fmt.{decimal}
use Rattle.std.proofs.lemmas.Bool.{cases_lt}
use Rattle.std.proofs.lemmas.List.{length-drop, take-append-drop}
use Rattle.std.proofs.lemmas.List.Elements.{All-drop, All-take}
use Rattle.pc_diagram.specs.declared.raw_diagram.RawDiagram.{RawDiagram}
use Rattle.pc_dump.specs.Dump.{Words, domains_words, dump_words, edge_word, end_words, header_words, layer_words, layers, node_words, nodes}
use Rattle.pc_dump.specs.Form.{AreLayers, AreTables, Begins, IsEdge, IsFirstMisfit, IsNumber}
use Rattle.pc_dump.proofs.StepLemmas.{cons_head, cons_tail, same_raw, size_told}
use Rattle.pc_dump.proofs.WordLemmas.{edge_injective, map_injective, number_injective}

abbrev Table : Type 0
Table = List (Option ℕ)

no_items : {X : Type 0} (xs : List X) → length xs ≡ 0 → xs ≡ []
no_items [] e = refl
no_items (x ∷ xs) e = absurd (omega arith)

-- equal lines of as many nodes are of equal edges
nodes_one : (d n : ℕ) (t u : Table) (xs ys : List Words) → length t ≡ n * d → length u ≡ n * d → All IsEdge t → All IsEdge u → nodes d n t ++ xs ≡ nodes d n u ++ ys → (t ≡ u) × (xs ≡ ys)
nodes_one d zero t u xs ys a b p q e =
    let none_t : length t ≡ 0 = omega arith in
    let none_u : length u ≡ 0 = omega arith in
    (no_items t none_t ∙ sym (no_items u none_u), e)
nodes_one d (suc n) t u xs ys a b p q e =
    let rest_t = nodes d n (drop d t) ++ xs in
    let rest_u = nodes d n (drop d u) ++ ys in
    let head = cons_head (node_words (take d t)) (node_words (take d u)) rest_t rest_u e in
    let words = cons_tail (codes "n") (codes "n") (map edge_word (take d t)) (map edge_word (take d u)) head in
    let first : take d t ≡ take d u = map_injective edge_word IsEdge edge_injective (take d t) (take d u) (All-take IsEdge d t p) (All-take IsEdge d u q) words in
    let size_t : length (drop d t) ≡ n * d = omega (arith, length-drop d t, a) in
    let size_u : length (drop d u) ≡ n * d = omega (arith, length-drop d u, b) in
    let others = nodes_one d n (drop d t) (drop d u) xs ys size_t size_u (All-drop IsEdge d t p) (All-drop IsEdge d u q) (cons_tail (node_words (take d t)) (node_words (take d u)) rest_t rest_u e) in
    (sym (take-append-drop d t) ∙ ap (λ x. x ++ drop d t) first ∙ ap (λ x. take d u ++ x) others.0 ∙ take-append-drop d u, others.1)

record Same (ss rs : List ℕ) (ts us : List Table) : Type 0 where
  pub sizes : ss ≡ rs
  pub tables : ts ≡ us

layers_one : (k : ℕ) (ds ss rs : List ℕ) (ts us : List Table) → AreLayers ds ss ts → AreLayers ds rs us → layers k ds ss ts ≡ layers k ds rs us → Same ss rs ts us
layers_one k (d ∷ ds) (s ∷ ss) (r ∷ rs) (t ∷ ts) (u ∷ us) a b e =
    let rest_t = nodes d s t ++ layers (k + 1) ds ss ts in
    let rest_u = nodes d r u ++ layers (k + 1) ds rs us in
    let same : s ≡ r = number_injective s r a.0.small b.0.small (size_told k s r (cons_head (layer_words k s) (layer_words k r) rest_t rest_u e)) in
    let tail : rest_t ≡ nodes d s u ++ layers (k + 1) ds rs us = cons_tail (layer_words k s) (layer_words k r) rest_t rest_u e ∙ ap (λ n. nodes d n u ++ layers (k + 1) ds rs us) (sym same) in
    let width : length u ≡ s * d = b.0.width ∙ ap (λ n. n * d) (sym same) in
    let here = nodes_one d s t u (layers (k + 1) ds ss ts) (layers (k + 1) ds rs us) a.0.width width a.0.edges b.0.edges tail in
    let rest = layers_one (k + 1) ds ss rs ts us a.1 b.1 here.1 in
    record {
      sizes = ap (λ n. n ∷ ss) same ∙ ap (λ ns. r ∷ ns) rest.sizes;
      tables = ap (λ x. x ∷ ts) here.0 ∙ ap (λ xs. u ∷ xs) rest.tables;
    }
layers_one k (d ∷ ds) [] rs ts us a b e = elim a [ ]
layers_one k (d ∷ ds) (s ∷ ss) rs [] us a b e = elim a [ ]
layers_one k (d ∷ ds) (s ∷ ss) [] (t ∷ ts) us a b e = elim b [ ]
layers_one k (d ∷ ds) (s ∷ ss) (r ∷ rs) (t ∷ ts) [] a b e = elim b [ ]
layers_one k [] [] rs ts us a b e = elim a [ ]
layers_one k [] (s ∷ q ∷ ss) rs ts us a b e = elim a [ ]
layers_one k [] (s ∷ []) rs (t ∷ ts) us a b e = elim a [ ]
layers_one k [] (s ∷ []) [] [] us a b e = elim b [ ]
layers_one k [] (s ∷ []) (r ∷ q ∷ rs) [] us a b e = elim b [ ]
layers_one k [] (s ∷ []) (r ∷ []) [] (u ∷ us) a b e = elim b [ ]
layers_one k [] (s ∷ []) (r ∷ []) [] [] a b e =
    let same : s ≡ r = number_injective s r a b (size_told k s r (cons_head (layer_words k s) (layer_words k r) (end_words ∷ []) (end_words ∷ []) e)) in
    record { sizes = ap (λ n. n ∷ []) same; tables = refl }

pub told_apart : (a b : RawDiagram) → AreTables a → AreTables b → dump_words a ≡ dump_words b → a ≡ b
told_apart a b p q e =
    let rest_a = layers 0 a.domains a.sizes a.edges in
    let rest_b = layers 0 b.domains b.sizes b.edges in
    let tail = cons_tail header_words header_words (domains_words a.domains ∷ rest_a) (domains_words b.domains ∷ rest_b) e in
    let head = cons_head (domains_words a.domains) (domains_words b.domains) rest_a rest_b tail in
    let domains : a.domains ≡ b.domains = map_injective decimal IsNumber number_injective a.domains b.domains p.domains q.domains (cons_tail (codes "domains") (codes "domains") (map decimal a.domains) (map decimal b.domains) head) in
    let there : AreLayers a.domains b.sizes b.edges = subst (λ ds. AreLayers ds b.sizes b.edges) (sym domains) q.layers in
    let lines : rest_a ≡ layers 0 a.domains b.sizes b.edges = cons_tail (domains_words a.domains) (domains_words b.domains) rest_a rest_b tail ∙ ap (λ ds. layers 0 ds b.sizes b.edges) (sym domains) in
    let same = layers_one 0 a.domains a.sizes b.sizes a.edges b.edges p.layers there lines in
    same_raw a b domains same.sizes same.tables

-- fewer lines of those that begin the text of some tables begin it too
fewer : (m n : ℕ) (all : List Words) → m ≤ n → Begins (take n all) → Begins (take m all)
fewer m n all h b =
    let front : take n all ≡ take m (take n all) ++ drop m (take n all) = sym (take-append-drop m (take n all)) in
    let same : take m (take n all) ≡ take m all = take_take m n all h in
    record {
      raw = b.raw;
      later = drop m (take n all) ++ b.later;
      tables = b.tables;
      prints = b.prints ∙ ap (λ x. x ++ b.later) front ∙ append_assoc (take m (take n all)) (drop m (take n all)) b.later ∙ ap (λ x. x ++ (drop m (take n all) ++ b.later)) same;
    }
  where
    take_take : {X : Type 0} (m n : ℕ) (xs : List X) → m ≤ n → take m (take n xs) ≡ take m xs
    take_take zero n xs h = refl
    take_take (suc m) zero xs h = absurd (omega arith)
    take_take (suc m) (suc n) [] h = refl
    take_take (suc m) (suc n) (x ∷ xs) h = let less : m ≤ n = omega arith in ap (λ ys. x ∷ ys) (take_take m n xs less)

-- none goes wrong before another
not_before : (all : List Words) (m n : ℕ) → m < n → IsFirstMisfit m all → IsFirstMisfit n all → ⊥
not_before all m n h p q =
    let below : m ≤ n - 1 = omega arith in
    let within : m ≤ length all = omega (arith, q.within) in
    p.misfit within (fewer m (n - 1) all below q.begins)

pub wrong_once : (all : List Words) (m n : ℕ) → IsFirstMisfit m all → IsFirstMisfit n all → m ≡ n
wrong_once all m n p q =
    elim (cases_lt m n) [
      | inl h ↦ absurd (not_before all m n h p q)
      | inr h ↦ elim (cases_lt n m) [ inl g ↦ absurd (not_before all n m g q p) | inr g ↦ let same : m ≡ n = omega arith in same ]
    ]

pub never_wrong : (raw : RawDiagram) (n : ℕ) → AreTables raw → IsFirstMisfit n (dump_words raw) → ⊥
never_wrong raw n t p =
    let all = dump_words raw in
    elim (cases_lt (length all) n) [
      | inl h ↦ let e : n ≡ length all + 1 = omega (arith, p.within) in p.early e raw t refl
      | inr h ↦ p.misfit h (record { raw = raw; later = drop n all; tables = t; prints = sym (take-append-drop n all) })
    ]
