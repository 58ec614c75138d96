-- The pieces of a diagram's text, one after the other.
use Rattle.std.proofs.Common.{◌≡◌, ℕ, suc, ◌+◌, ◌-◌, ◌*◌, ◌<◌, ◌≤◌, List, [], ◌∷◌, ◌++◌, map, take, drop, length, get_or, Option, codes, refl, sym, ap, ◌∙◌, arith, append_assoc, add-one}
use Rattle.std.specs.Fmt.{decimal}
use Rattle.std.specs.List.{flat_map, join_with_byte, slice_range}
use Rattle.std.proofs.lemmas.List.{append-nil, drop-drop, drop_all}
use Rattle.std.proofs.lemmas.List.Concat.{flat_map-append}
use Rattle.std.proofs.Math.Seq.{drop-cons}
use Rattle.pc_dump.specs.Dump.{domains_words, edge_word, end_words, header_words, layer_words, layers, line_of, node_words, nodes}

-- words, each after a space
pub spaced : {X : Type 0} → (X → List ℕ) → List X → List ℕ
spaced f [] = []
spaced f (x ∷ xs) = 32 ∷ f x ++ spaced f xs

pub joined : {X : Type 0} (f : X → List ℕ) (w : List ℕ) (xs : List X) → join_with_byte 32 (w ∷ map f xs) ≡ w ++ spaced f xs
unfolding spaced
joined f w [] = sym (append-nil w)
joined f w (x ∷ xs) = ap (λ t. w ++ 32 ∷ t) (joined f (f x) xs)

pub spaced-push : {X : Type 0} (f : X → List ℕ) (xs : List X) (x : X) → spaced f (xs ++ x ∷ []) ≡ spaced f xs ++ 32 ∷ f x
unfolding spaced
spaced-push f [] x = ap (λ t. 32 ∷ t) (append-nil (f x))
spaced-push f (y ∷ xs) x = ap (λ t. 32 ∷ f y ++ t) (spaced-push f xs x) ∙ ap (λ t. 32 ∷ t) (sym (append_assoc (f y) (spaced f xs) (32 ∷ f x)))

pub spaced-none : {X : Type 0} (f : X → List ℕ) → spaced f [] ≡ []
unfolding spaced
spaced-none f = refl

-- the first two lines

pub domains_more : (start text first second : List ℕ) (ds : List ℕ) (i d : ℕ) → text ≡ start ++ spaced decimal (take i ds) → first ≡ text ++ 32 ∷ [] → second ≡ first ++ decimal d → take (i + 1) ds ≡ take i ds ++ d ∷ [] → second ≡ start ++ spaced decimal (take (i + 1) ds)
domains_more start text first second ds i d so_far a b more =
    b ∙ ap (λ t. t ++ decimal d) (a ∙ ap (λ t. t ++ 32 ∷ []) so_far) ∙ append_assoc (start ++ spaced decimal (take i ds)) (32 ∷ []) (decimal d)
    ∙ append_assoc start (spaced decimal (take i ds)) (32 ∷ decimal d) ∙ ap (λ t. start ++ t) (sym (spaced-push decimal (take i ds) d) ∙ ap (spaced decimal) (sym more))

pub domains_whole : (old start text last : List ℕ) (ds : List ℕ) → start ≡ old ++ codes "diagram 1\ndomains" → text ≡ start ++ spaced decimal ds → last ≡ text ++ 10 ∷ [] → last ≡ old ++ line_of header_words ++ line_of (domains_words ds)
domains_whole old start text last ds a b e =
    e ∙ ap (λ t. t ++ 10 ∷ []) (b ∙ ap (λ t. t ++ spaced decimal ds) a)
    ∙ append_assoc (old ++ codes "diagram 1\ndomains") (spaced decimal ds) (10 ∷ [])
    ∙ append_assoc old (codes "diagram 1\ndomains") (spaced decimal ds ++ 10 ∷ [])
    ∙ sym (append_assoc old (line_of header_words) ((codes "domains" ++ spaced decimal ds) ++ 10 ∷ []))
    ∙ ap (λ t. old ++ line_of header_words ++ (t ++ 10 ∷ [])) (sym (joined decimal (codes "domains") ds))

-- a node's line

pub node_more : (start text first second : List ℕ) (row : List (Option ℕ)) (i : ℕ) (edge : Option ℕ) → text ≡ start ++ spaced edge_word (take i row) → first ≡ text ++ 32 ∷ [] → second ≡ first ++ edge_word edge → take (i + 1) row ≡ take i row ++ edge ∷ [] → second ≡ start ++ spaced edge_word (take (i + 1) row)
node_more start text first second row i edge so_far a b more =
    b ∙ ap (λ t. t ++ edge_word edge) (a ∙ ap (λ t. t ++ 32 ∷ []) so_far) ∙ append_assoc (start ++ spaced edge_word (take i row)) (32 ∷ []) (edge_word edge)
    ∙ append_assoc start (spaced edge_word (take i row)) (32 ∷ edge_word edge) ∙ ap (λ t. start ++ t) (sym (spaced-push edge_word (take i row) edge) ∙ ap (spaced edge_word) (sym more))

pub node_whole : (old start text last : List ℕ) (row : List (Option ℕ)) → start ≡ old ++ 110 ∷ [] → text ≡ start ++ spaced edge_word row → last ≡ text ++ 10 ∷ [] → last ≡ old ++ line_of (node_words row)
node_whole old start text last row a b e =
    e ∙ ap (λ t. t ++ 10 ∷ []) (b ∙ ap (λ t. t ++ spaced edge_word row) a)
    ∙ append_assoc (old ++ 110 ∷ []) (spaced edge_word row) (10 ∷ [])
    ∙ append_assoc old (110 ∷ []) (spaced edge_word row ++ 10 ∷ [])
    ∙ ap (λ t. old ++ (t ++ 10 ∷ [])) (sym (joined edge_word (codes "n") row))

-- the nodes of a layer

pub nodes_more : (d size node : ℕ) (table : List (Option ℕ)) → node < size → nodes d (size - node) (drop (node * d) table) ≡ node_words (slice_range table (node * d) (node * d + d)) ∷ nodes d (size - (node + 1)) (drop ((node + 1) * d) table)
nodes_more d size node table h =
    let left : size - node ≡ suc (size - (node + 1)) = omega arith in
    let width : (node * d + d) - node * d ≡ d = omega arith in
    let further : node * d + d ≡ (node + 1) * d = omega arith in
    ap (λ n. nodes d n (drop (node * d) table)) left
    ∙ ap (λ n. node_words (take n (drop (node * d) table)) ∷ nodes d (size - (node + 1)) (drop d (drop (node * d) table))) (sym width)
    ∙ ap (λ t. node_words (slice_range table (node * d) (node * d + d)) ∷ nodes d (size - (node + 1)) t) (drop-drop d (node * d) table ∙ ap (λ n. drop n table) further)

pub nodes_on : (d size node : ℕ) (table : List (Option ℕ)) (all text more : List ℕ) → node < size → text ++ flat_map line_of (nodes d (size - node) (drop (node * d) table)) ≡ all → more ≡ text ++ line_of (node_words (slice_range table (node * d) (node * d + d)))
    → more ++ flat_map line_of (nodes d (size - (node + 1)) (drop ((node + 1) * d) table)) ≡ all
nodes_on d size node table all text more h so_far put =
    let line = line_of (node_words (slice_range table (node * d) (node * d + d))) in
    let rest = flat_map line_of (nodes d (size - (node + 1)) (drop ((node + 1) * d) table)) in
    ap (λ t. t ++ rest) put ∙ append_assoc text line rest ∙ ap (λ ls. text ++ flat_map line_of ls) (sym (nodes_more d size node table h)) ∙ so_far

pub nodes_end : (d size node : ℕ) (table : List (Option ℕ)) (all text : List ℕ) → size ≤ node → text ++ flat_map line_of (nodes d (size - node) (drop (node * d) table)) ≡ all → text ≡ all
nodes_end d size node table all text h so_far =
    let none : size - node ≡ 0 = omega arith in
    sym (append-nil text) ∙ ap (λ n. text ++ flat_map line_of (nodes d n (drop (node * d) table))) (sym none) ∙ so_far

-- the layers

module _ (domains sizes : List ℕ) (tables : List (List (Option ℕ))) (two : length sizes ≡ length domains + 1) (one : length tables ≡ length domains) where
  pub layers_more : (k : ℕ) → k < length domains → layers k (drop k domains) (drop k sizes) (drop k tables)
      ≡ layer_words k (get_or sizes k 0) ∷ nodes (get_or domains k 0) (get_or sizes k 0) (get_or tables k []) ++ layers (k + 1) (drop (k + 1) domains) (drop (k + 1) sizes) (drop (k + 1) tables)
  layers_more k h =
      let a : k < length sizes = omega arith in
      let b : k < length tables = omega arith in
      rw (drop-cons domains k 0, drop-cons sizes k 0, drop-cons tables k [], add-one)

  pub layers_end : (k : ℕ) → length domains ≤ k → k ≤ length domains → layers k (drop k domains) (drop k sizes) (drop k tables) ≡ layer_words k (get_or sizes k 0) ∷ end_words ∷ []
  layers_end k h g =
      let a : k < length sizes = omega arith in
      rw (drop_all k domains h, drop-cons sizes k 0)

  pub layers_on : (k : ℕ) (all text first second : List ℕ) → k < length domains → text ++ flat_map line_of (layers k (drop k domains) (drop k sizes) (drop k tables)) ≡ all
      → first ≡ text ++ line_of (layer_words k (get_or sizes k 0)) → second ≡ first ++ flat_map line_of (nodes (get_or domains k 0) (get_or sizes k 0) (get_or tables k []))
      → second ++ flat_map line_of (layers (k + 1) (drop (k + 1) domains) (drop (k + 1) sizes) (drop (k + 1) tables)) ≡ all
  layers_on k all text first second h so_far a b =
      let line = line_of (layer_words k (get_or sizes k 0)) in
      let ns = nodes (get_or domains k 0) (get_or sizes k 0) (get_or tables k []) in
      let rest = layers (k + 1) (drop (k + 1) domains) (drop (k + 1) sizes) (drop (k + 1) tables) in
      ap (λ t. t ++ flat_map line_of rest) (b ∙ ap (λ t. t ++ flat_map line_of ns) a)
      ∙ append_assoc (text ++ line) (flat_map line_of ns) (flat_map line_of rest) ∙ append_assoc text line (flat_map line_of ns ++ flat_map line_of rest)
      ∙ ap (λ t. text ++ (line ++ t)) (sym (flat_map-append line_of ns rest))
      ∙ ap (λ ls. text ++ flat_map line_of ls) (sym (layers_more k h)) ∙ so_far

  pub layers_whole : (k : ℕ) (all text first second : List ℕ) → length domains ≤ k → k ≤ length domains → text ++ flat_map line_of (layers k (drop k domains) (drop k sizes) (drop k tables)) ≡ all
      → first ≡ text ++ line_of (layer_words (length domains) (get_or sizes (length domains) 0)) → second ≡ first ++ codes "end\n" → second ≡ all
  layers_whole k all text first second h g so_far a b =
      let same : length domains ≡ k = omega arith in
      let line = line_of (layer_words k (get_or sizes k 0)) in
      b ∙ ap (λ t. t ++ codes "end\n") (a ∙ ap (λ n. text ++ line_of (layer_words n (get_or sizes n 0))) same) ∙ append_assoc text line (codes "end\n")
      ∙ ap (λ ls. text ++ flat_map line_of ls) (sym (layers_end k h g)) ∙ so_far
