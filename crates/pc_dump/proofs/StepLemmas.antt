-- What each kind of line does to a draft.
use Rattle.std.proofs.Common.{◌≡◌, ℕ, suc, ◌+◌, ◌*◌, ◌≤◌, List, [], ◌∷◌, ◌++◌, map, take, drop, length, All, Option, codes, refl, sym, ap, ◌∙◌, subst, arith, append_assoc, length-append, add-one, rules}
use Rattle.std.specs.Fmt.{decimal}
use Rattle.std.proofs.lemmas.List.{append-nil, take-append-drop, take-append-le, drop-append-le, take_all, drop_all, length-take-le}
use Rattle.std.proofs.lemmas.List.Elements.{All-append, All-take, All-tail}
use Rattle.pc_diagram.specs.declared.raw_diagram.RawDiagram.{RawDiagram}
use Rattle.pc_dump.specs.declared.draft.Awaited.{Awaited}
use Rattle.pc_dump.specs.declared.draft.Awaited.TheVariants.{Header, Domains, Layer, End, Nothing}
use Rattle.pc_dump.specs.declared.draft.Draft.{Draft}
use Rattle.pc_dump.specs.Dump.{Words, edge_word, header_words, domains_words, layer_words, node_words, end_words, nodes, layers}
use Rattle.pc_dump.specs.Form.{AreLayers, AreTables, IsEdge, IsLayer, IsNumber}
use Rattle.pc_dump.specs.Draft.{AreClosed, IsBegun, IsOpen, tables_of, IsDraftAt, GoesOn, FillsUp, RestAt, Rest, TakesLine, Settles, Refuses}
use Rattle.pc_dump.proofs.LayerLemmas.{closed_join, closed_split, closed_more, closed_within, drop_next}
use Rattle.pc_dump.proofs.WordLemmas.{edge_injective, map_injective, number_injective}

abbrev Table : Type 0
Table = List (Option ℕ)

pub cons_head : {X : Type 0} (x y : X) (xs ys : List X) → x ∷ xs ≡ y ∷ ys → x ≡ y
cons_head x y xs ys e = cc

pub cons_tail : {X : Type 0} (x y : X) (xs ys : List X) → x ∷ xs ≡ y ∷ ys → xs ≡ ys
cons_tail x y xs ys e = cc

-- a draft that awaits this

at : (draft : Draft) (a : Awaited) (raw : RawDiagram) (later : List Words) → draft.awaited ≡ a → RestAt a draft raw later → Rest draft raw later
at draft a raw later e h = subst (λ x. RestAt x draft raw later) (sym e) h

from : (draft : Draft) (a : Awaited) (raw : RawDiagram) (later : List Words) → draft.awaited ≡ a → Rest draft raw later → RestAt a draft raw later
from draft a raw later e h = subst (λ x. RestAt x draft raw later) e h

pub takes : (words : Words) (before after : Draft) (a b : Awaited) → before.awaited ≡ a → after.awaited ≡ b → IsDraftAt b after
    → ((raw : RawDiagram) (later : List Words) → AreTables raw → RestAt a before raw (words ∷ later) → RestAt b after raw later)
    → ((raw : RawDiagram) (later : List Words) → AreTables raw → RestAt b after raw later → RestAt a before raw (words ∷ later))
    → TakesLine words before after
takes words before after a b ea eb d on back = record {
  draft = subst (λ x. IsDraftAt x after) (sym eb) d;
  on = λ raw later t h. at after b raw later eb (on raw later t (from before a raw (words ∷ later) ea h));
  back = λ raw later t h. at before a raw (words ∷ later) ea (back raw later t (from after b raw later eb h));
}

pub takes_settled : (words : Words) (before mid after : Draft) (a b : Awaited) → before.awaited ≡ a → Settles b mid after
    → ((raw : RawDiagram) (later : List Words) → AreTables raw → RestAt a before raw (words ∷ later) → RestAt b mid raw later)
    → ((raw : RawDiagram) (later : List Words) → AreTables raw → RestAt b mid raw later → RestAt a before raw (words ∷ later))
    → TakesLine words before after
takes_settled words before mid after a b ea settles on back = record {
  draft = settles.draft;
  on = λ raw later t h. settles.on raw later t (on raw later t (from before a raw (words ∷ later) ea h));
  back = λ raw later t h. at before a raw (words ∷ later) ea (back raw later t (settles.back raw later t h));
}

pub refuses : (words : Words) (before : Draft) (a : Awaited) → before.awaited ≡ a
    → ((raw : RawDiagram) (later : List Words) → AreTables raw → RestAt a before raw (words ∷ later) → ⊥) → Refuses words before
refuses words before a ea none = λ raw later t h. none raw later t (from before a raw (words ∷ later) ea h)

-- the first line

pub header_taken : (before after : Draft) → before.awaited ≡ Header → after.awaited ≡ Domains → TakesLine header_words before after
header_taken before after ea eb =
    takes header_words before after Header Domains ea eb tt
    (λ raw later t e. cons_tail header_words header_words later (domains_words raw.domains ∷ layers 0 raw.domains raw.sizes raw.edges) e)
    (λ raw later t e. ap (λ l. header_words ∷ l) e)

-- the domains

module _ (before : Draft) (ds : List ℕ) (rows : Table) where
  begun : Draft
  begun = record { domains = ds; sizes = []; edges = []; rows = rows; awaited = Layer }

  domains_on : (raw : RawDiagram) (later : List Words) → All IsNumber ds → AreTables raw → domains_words ds ∷ later ≡ domains_words raw.domains ∷ layers 0 raw.domains raw.sizes raw.edges → GoesOn begun raw later
  unfolding begun
  domains_on raw later numbers t e =
      let rest = layers 0 raw.domains raw.sizes raw.edges in
      let head : codes "domains" ∷ map decimal ds ≡ codes "domains" ∷ map decimal raw.domains = cons_head (domains_words ds) (domains_words raw.domains) later rest e in
      let words : map decimal ds ≡ map decimal raw.domains = cons_tail (codes "domains") (codes "domains") (map decimal ds) (map decimal raw.domains) head in
      let same : ds ≡ raw.domains = map_injective decimal IsNumber number_injective ds raw.domains numbers t.domains words in
      record {
        sizes = raw.sizes;
        tables = raw.edges;
        same_domains = sym same;
        same_sizes = refl;
        same_tables = refl;
        lines = cons_tail (domains_words ds) (domains_words raw.domains) later rest e ∙ ap (λ d. layers 0 d raw.sizes raw.edges) (sym same);
      }

  domains_back : (raw : RawDiagram) (later : List Words) → GoesOn begun raw later → domains_words ds ∷ later ≡ domains_words raw.domains ∷ layers 0 raw.domains raw.sizes raw.edges
  unfolding begun
  domains_back raw later g =
      ap (λ l. domains_words ds ∷ l) g.lines
      ∙ ap (λ d. domains_words d ∷ layers 0 d g.sizes g.tables) (sym g.same_domains)
      ∙ ap (λ s. domains_words raw.domains ∷ layers 0 raw.domains s g.tables) (sym g.same_sizes)
      ∙ ap (λ t. domains_words raw.domains ∷ layers 0 raw.domains raw.sizes t) (sym g.same_tables)

  pub domains_taken : before.awaited ≡ Domains → IsNumber (length ds) → All IsNumber ds → TakesLine (domains_words ds) before (record { domains = ds; sizes = []; edges = []; rows = rows; awaited = Layer })
  unfolding begun
  domains_taken ea few numbers =
      takes (domains_words ds) before begun Domains Layer ea refl (record { few = few; numbers = numbers; closed = tt })
      (λ raw later t e. domains_on raw later numbers t e) (λ raw later t g. domains_back raw later g)

-- a layer

pub layers_at : (raw : RawDiagram) (domains sizes : List ℕ) (tables : List Table) → raw.domains ≡ domains → raw.sizes ≡ sizes → raw.edges ≡ tables → AreTables raw → AreLayers domains sizes tables
layers_at raw domains sizes tables a b c t =
    subst (λ x. AreLayers domains sizes x) c (subst (λ x. AreLayers domains x raw.edges) b (subst (λ x. AreLayers x raw.sizes raw.edges) a t.layers))

record Opened (k d x : ℕ) (ds ss : List ℕ) (ts : List Table) (later : List Words) : Type 0 where
  pub sizes : List ℕ
  pub table : Table
  pub tables : List Table
  pub same_sizes : ss ≡ x ∷ sizes
  pub same_tables : ts ≡ table ∷ tables
  pub lines : later ≡ nodes d x table ++ layers (k + 1) ds sizes tables

pub size_told : (k x s : ℕ) → layer_words k x ≡ layer_words k s → decimal x ≡ decimal s
size_told k x s e =
    let tail = cons_tail (codes "layer") (codes "layer") (decimal k ∷ decimal x ∷ []) (decimal k ∷ decimal s ∷ []) e in
    let last = cons_tail (decimal k) (decimal k) (decimal x ∷ []) (decimal s ∷ []) tail in
    cons_head (decimal x) (decimal s) [] [] last

opened : (k d x : ℕ) (ds ss : List ℕ) (ts : List Table) (later : List Words) → IsNumber x → AreLayers (d ∷ ds) ss ts → layer_words k x ∷ later ≡ layers k (d ∷ ds) ss ts → Opened k d x ds ss ts later
opened k d x ds [] ts later n l e = elim l [ ]
opened k d x ds (s ∷ ss) [] later n l e = elim l [ ]
opened k d x ds (s ∷ ss) (t ∷ ts) later n l e =
    let rest = nodes d s t ++ layers (k + 1) ds ss ts in
    let same : x ≡ s = number_injective x s n l.0.small (size_told k x s (cons_head (layer_words k x) (layer_words k s) later rest e)) in
    record {
      sizes = ss;
      table = t;
      tables = ts;
      same_sizes = ap (λ y. y ∷ ss) (sym same);
      same_tables = refl;
      lines = cons_tail (layer_words k x) (layer_words k s) later rest e ∙ ap (λ y. nodes d y t ++ layers (k + 1) ds ss ts) (sym same);
    }

-- the layers that go on from a draft
pub layers_left : (b : Draft) (raw : RawDiagram) (sizes : List ℕ) (tables : List Table) → AreClosed b.domains b.sizes b.edges → AreTables raw → raw.domains ≡ b.domains → raw.sizes ≡ b.sizes ++ sizes → raw.edges ≡ b.edges ++ tables
    → AreLayers (drop (length b.edges) b.domains) sizes tables
layers_left b raw sizes tables closed t d s e =
    closed_split b.domains b.sizes b.edges sizes tables closed (layers_at raw b.domains (b.sizes ++ sizes) (b.edges ++ tables) d s e t)

module _ (b : Draft) (d : ℕ) (ds : List ℕ) (stands : drop (length b.edges) b.domains ≡ d ∷ ds) (begun : IsBegun b) (x : ℕ) (small : IsNumber x) where
  pub layer_on : (raw : RawDiagram) (later : List Words) → AreTables raw → GoesOn b raw (layer_words (length b.edges) x ∷ later) → FillsUp x x (record b { rows = [] }) raw later
  layer_on raw later t g =
      let k = length b.edges in
      let rest = layers_left b raw g.sizes g.tables begun.closed t g.same_domains g.same_sizes g.same_tables in
      let o = opened k d x ds g.sizes g.tables later small (subst (λ y. AreLayers y g.sizes g.tables) stands rest) (g.lines ∙ ap (λ y. layers k y g.sizes g.tables) stands) in
      record {
        domain = d;
        domains = ds;
        edges = o.table;
        sizes = o.sizes;
        tables = o.tables;
        stands = stands;
        same_domains = g.same_domains;
        same_sizes = g.same_sizes ∙ ap (λ y. b.sizes ++ y) o.same_sizes;
        same_tables = g.same_tables ∙ ap (λ y. b.edges ++ y) o.same_tables;
        lines = o.lines;
      }

  pub layer_back : (raw : RawDiagram) (later : List Words) → AreTables raw → FillsUp x x (record b { rows = [] }) raw later → GoesOn b raw (layer_words (length b.edges) x ∷ later)
  layer_back raw later t f =
      let k = length b.edges in
      record {
        sizes = x ∷ f.sizes;
        tables = f.edges ∷ f.tables;
        same_domains = f.same_domains;
        same_sizes = f.same_sizes;
        same_tables = f.same_tables;
        lines = ap (λ l. layer_words k x ∷ l) f.lines ∙ ap (λ y. layers k y (x ∷ f.sizes) (f.edges ∷ f.tables)) (sym f.stands);
      }

  pub layer_open : IsOpen x x (record b { rows = [] })
  layer_open = record {
    begun = record { few = begun.few; numbers = begun.numbers; closed = begun.closed };
    domain = d;
    domains = ds;
    stands = stands;
    small = small;
    width = omega arith;
    edges = search rules;
  }

-- the line of a layer has its number and a size
pub record IsLayerLine (k : ℕ) (words : Words) : Type 0 where
  pub size : ℕ
  pub small : IsNumber size
  pub is : words ≡ layer_words k size

first_line : (k : ℕ) (ds ss : List ℕ) (ts : List Table) (words : Words) (later : List Words) → AreLayers ds ss ts → words ∷ later ≡ layers k ds ss ts → IsLayerLine k words
first_line k (d ∷ ds) (s ∷ ss) (t ∷ ts) words later l e =
    record { size = s; small = l.0.small; is = cons_head words (layer_words k s) later (nodes d s t ++ layers (k + 1) ds ss ts) e }
first_line k (d ∷ ds) (s ∷ ss) [] words later l e = elim l [ ]
first_line k (d ∷ ds) [] ts words later l e = elim l [ ]
first_line k [] [] ts words later l e = elim l [ ]
first_line k [] (s ∷ []) [] words later l e =
    record { size = s; small = l; is = cons_head words (layer_words k s) later (end_words ∷ []) e }
first_line k [] (s ∷ []) (t ∷ ts) words later l e = elim l [ ]
first_line k [] (s ∷ r ∷ ss) ts words later l e = elim l [ ]

pub layer_line : (b : Draft) → IsBegun b → (words : Words) (raw : RawDiagram) (later : List Words) → AreTables raw → GoesOn b raw (words ∷ later) → IsLayerLine (length b.edges) words
layer_line b begun words raw later t g =
    first_line (length b.edges) (drop (length b.edges) b.domains) g.sizes g.tables words later
    (layers_left b raw g.sizes g.tables begun.closed t g.same_domains g.same_sizes g.same_tables) g.lines

-- the last layer

record Last (k x : ℕ) (ss : List ℕ) (ts : List Table) (later : List Words) : Type 0 where
  pub same_sizes : ss ≡ x ∷ []
  pub same_tables : ts ≡ []
  pub lines : later ≡ end_words ∷ []

last_layer : (k x : ℕ) (ss : List ℕ) (ts : List Table) (later : List Words) → IsNumber x → AreLayers [] ss ts → layer_words k x ∷ later ≡ layers k [] ss ts → Last k x ss ts later
last_layer k x [] ts later n l e = elim l [ ]
last_layer k x (s ∷ []) [] later n l e =
    let same : x ≡ s = number_injective x s n l (size_told k x s (cons_head (layer_words k x) (layer_words k s) later (end_words ∷ []) e)) in
    record {
      same_sizes = ap (λ y. y ∷ []) (sym same);
      same_tables = refl;
      lines = cons_tail (layer_words k x) (layer_words k s) later (end_words ∷ []) e;
    }
last_layer k x (s ∷ []) (t ∷ ts) later n l e = elim l [ ]
last_layer k x (s ∷ r ∷ ss) ts later n l e = elim l [ ]

pub same_raw : (a b : RawDiagram) → a.domains ≡ b.domains → a.sizes ≡ b.sizes → a.edges ≡ b.edges → a ≡ b
same_raw a b p q r = λ i. record { domains = p i; sizes = q i; edges = r i }

module _ (b : Draft) (begun : IsBegun b) (is_end : length b.edges ≡ length b.domains) (x : ℕ) (small : IsNumber x) where
  none_left : drop (length b.edges) b.domains ≡ []
  none_left = drop_all (length b.edges) b.domains (omega arith)

  ended : Draft
  ended = record b { sizes = b.sizes ++ x ∷ []; awaited = End }

  pub ended_tables : AreTables (tables_of (record b { sizes = b.sizes ++ x ∷ []; awaited = End }))
  ended_tables = record {
    few = begun.few;
    domains = begun.numbers;
    layers = subst (λ y. AreLayers b.domains (b.sizes ++ x ∷ []) y) (append-nil b.edges)
        (closed_join b.domains b.sizes b.edges (x ∷ []) [] begun.closed (subst (λ y. AreLayers y (x ∷ []) []) (sym none_left) small));
  }

  pub last_on : (raw : RawDiagram) (later : List Words) → AreTables raw → GoesOn b raw (layer_words (length b.edges) x ∷ later)
      → (raw ≡ tables_of (record b { sizes = b.sizes ++ x ∷ []; awaited = End })) × (later ≡ end_words ∷ [])
  last_on raw later t g =
      let k = length b.edges in
      let rest = layers_left b raw g.sizes g.tables begun.closed t g.same_domains g.same_sizes g.same_tables in
      let o = last_layer k x g.sizes g.tables later small (subst (λ y. AreLayers y g.sizes g.tables) none_left rest) (g.lines ∙ ap (λ y. layers k y g.sizes g.tables) none_left) in (
        same_raw raw (tables_of (record b { sizes = b.sizes ++ x ∷ []; awaited = End })) g.same_domains
            (g.same_sizes ∙ ap (λ y. b.sizes ++ y) o.same_sizes) (g.same_tables ∙ ap (λ y. b.edges ++ y) o.same_tables ∙ append-nil b.edges),
        o.lines,
      )

  pub last_back : (raw : RawDiagram) (later : List Words) → AreTables raw → (raw ≡ tables_of (record b { sizes = b.sizes ++ x ∷ []; awaited = End })) × (later ≡ end_words ∷ [])
      → GoesOn b raw (layer_words (length b.edges) x ∷ later)
  last_back raw later t h =
      let k = length b.edges in
      record {
        sizes = x ∷ [];
        tables = [];
        same_domains = ap (λ (r : RawDiagram). r.domains) h.0;
        same_sizes = ap (λ (r : RawDiagram). r.sizes) h.0;
        same_tables = ap (λ (r : RawDiagram). r.edges) h.0 ∙ sym (append-nil b.edges);
        lines = ap (λ l. layer_words k x ∷ l) h.1 ∙ ap (λ y. layers k y (x ∷ []) []) (sym none_left);
      }

-- the last line

pub end_taken : (before after : Draft) → before.awaited ≡ End → after.awaited ≡ Nothing → AreTables (tables_of after) → tables_of before ≡ tables_of after → TakesLine end_words before after
end_taken before after ea eb tables same =
    takes end_words before after End Nothing ea eb tables
    (λ raw later t h. (h.0 ∙ same, cons_tail end_words end_words later [] h.1))
    (λ raw later t h. (h.0 ∙ sym same, ap (λ l. end_words ∷ l) h.1))

pub end_is : (before : Draft) (words : Words) → before.awaited ≡ End → (words ≡ end_words → ⊥) → Refuses words before
end_is before words ea other =
    refuses words before End ea (λ raw later t h. other (cons_head words end_words later [] h.1))

-- a node

all_right : {X : Type 0} (P : X → Type 0) (xs ys : List X) → All P (xs ++ ys) → All P ys
all_right P [] ys h = h
all_right P (x ∷ xs) ys h = all_right P xs ys (All-tail P x (xs ++ ys) h)

take_left : {X : Type 0} (n : ℕ) (xs ys : List X) → length xs ≡ n → take n (xs ++ ys) ≡ xs
take_left n xs ys e = take-append-le n xs ys (omega arith) ∙ take_all n xs (omega arith)

drop_left : {X : Type 0} (n : ℕ) (xs ys : List X) → length xs ≡ n → drop n (xs ++ ys) ≡ ys
drop_left n xs ys e = drop-append-le n xs ys (omega arith) ∙ ap (λ z. z ++ ys) (drop_all n xs (omega arith))

no_items : {X : Type 0} (xs : List X) → length xs ≡ 0 → xs ≡ []
no_items [] e = refl
no_items (x ∷ xs) e = absurd (omega arith)

-- what is known of an open layer that some tables fill up
pub record Fill (size left : ℕ) (b : Draft) (open_ : IsOpen size left b) (edges : List (Option ℕ)) (domain : ℕ) : Type 0 where
  pub same : domain ≡ open_.domain
  pub is_layer : IsLayer domain size (b.rows ++ edges)
  pub count : length edges ≡ left * domain

pub filled : (size left : ℕ) (b : Draft) (open_ : IsOpen size left b) (raw : RawDiagram) (later : List Words) → AreTables raw → (f : FillsUp size left b raw later) → Fill size left b open_ f.edges f.domain
filled size left b open_ raw later t f =
    let same : f.domain ≡ open_.domain = cons_head f.domain open_.domain f.domains open_.domains (sym f.stands ∙ open_.stands) in
    let rest = layers_left b raw (size ∷ f.sizes) ((b.rows ++ f.edges) ∷ f.tables) open_.begun.closed t f.same_domains f.same_sizes f.same_tables in
    let here : AreLayers (f.domain ∷ f.domains) (size ∷ f.sizes) ((b.rows ++ f.edges) ∷ f.tables) = subst (λ y. AreLayers y (size ∷ f.sizes) ((b.rows ++ f.edges) ∷ f.tables)) f.stands rest in
    let width : length b.rows + left * f.domain ≡ size * f.domain = subst (λ d. length b.rows + left * d ≡ size * d) (sym same) open_.width in
    record {
      same = same;
      is_layer = here.0;
      count = omega (arith, here.0.width, length-append b.rows f.edges, width);
    }

module _ (size m : ℕ) (b : Draft) (open_ : IsOpen size (suc m) b) where
  pub record IsNodeLine (words : Words) : Type 0 where
    pub edges : List (Option ℕ)
    pub count : length edges ≡ open_.domain
    pub numbers : All IsEdge edges
    pub is : words ≡ node_words edges

  pub node_line : (words : Words) (raw : RawDiagram) (later : List Words) → AreTables raw → FillsUp size (suc m) b raw (words ∷ later) → IsNodeLine words
  node_line words raw later t f =
      let fill = filled size (suc m) b open_ raw (words ∷ later) t f in
      let enough : f.domain ≤ length f.edges = omega (arith, fill.count) in
      let count : length (take f.domain f.edges) ≡ f.domain = length-take-le f.domain f.edges enough in
      record {
        edges = take f.domain f.edges;
        count = count ∙ fill.same;
        numbers = All-take IsEdge f.domain f.edges (all_right IsEdge b.rows f.edges fill.is_layer.edges);
        is = cons_head words (node_words (take f.domain f.edges)) later (nodes f.domain m (drop f.domain f.edges) ++ layers (length b.edges + 1) f.domains f.sizes f.tables) f.lines;
      }

  module _ (row : List (Option ℕ)) (count : length row ≡ open_.domain) (numbers : All IsEdge row) where
    pub node_open : IsOpen size m (record b { rows = b.rows ++ row })
    node_open = record {
      begun = record { few = open_.begun.few; numbers = open_.begun.numbers; closed = open_.begun.closed };
      domain = open_.domain;
      domains = open_.domains;
      stands = open_.stands;
      small = open_.small;
      width = omega (arith, open_.width, length-append b.rows row, count);
      edges = All-append IsEdge b.rows row open_.edges numbers;
    }

    pub node_on : (raw : RawDiagram) (later : List Words) → AreTables raw → FillsUp size (suc m) b raw (node_words row ∷ later) → FillsUp size m (record b { rows = b.rows ++ row }) raw later
    node_on raw later t f =
        let fill = filled size (suc m) b open_ raw (node_words row ∷ later) t f in
        let rest = nodes f.domain m (drop f.domain f.edges) ++ layers (length b.edges + 1) f.domains f.sizes f.tables in
        let words : map edge_word row ≡ map edge_word (take f.domain f.edges) =
        cons_tail (codes "n") (codes "n") (map edge_word row) (map edge_word (take f.domain f.edges)) (cons_head (node_words row) (node_words (take f.domain f.edges)) later rest f.lines) in
        let same : row ≡ take f.domain f.edges = map_injective edge_word IsEdge edge_injective row (take f.domain f.edges) numbers (All-take IsEdge f.domain f.edges (all_right IsEdge b.rows f.edges fill.is_layer.edges)) words in
        let split : b.rows ++ f.edges ≡ (b.rows ++ row) ++ drop f.domain f.edges =
        ap (λ y. b.rows ++ y) (sym (take-append-drop f.domain f.edges) ∙ ap (λ y. y ++ drop f.domain f.edges) (sym same)) ∙ sym (append_assoc b.rows row (drop f.domain f.edges)) in
        record {
          domain = f.domain;
          domains = f.domains;
          edges = drop f.domain f.edges;
          sizes = f.sizes;
          tables = f.tables;
          stands = f.stands;
          same_domains = f.same_domains;
          same_sizes = f.same_sizes;
          same_tables = f.same_tables ∙ ap (λ y. b.edges ++ y ∷ f.tables) split;
          lines = cons_tail (node_words row) (node_words (take f.domain f.edges)) later rest f.lines;
        }

    pub node_back : (raw : RawDiagram) (later : List Words) → AreTables raw → FillsUp size m (record b { rows = b.rows ++ row }) raw later → FillsUp size (suc m) b raw (node_words row ∷ later)
    node_back raw later t f =
        let same : f.domain ≡ open_.domain = cons_head f.domain open_.domain f.domains open_.domains (sym f.stands ∙ open_.stands) in
        let here : length row ≡ f.domain = count ∙ sym same in
        let after = layers (length b.edges + 1) f.domains f.sizes f.tables in
        record {
          domain = f.domain;
          domains = f.domains;
          edges = row ++ f.edges;
          sizes = f.sizes;
          tables = f.tables;
          stands = f.stands;
          same_domains = f.same_domains;
          same_sizes = f.same_sizes;
          same_tables = f.same_tables ∙ ap (λ y. b.edges ++ y ∷ f.tables) (append_assoc b.rows row f.edges);
          lines = ap (λ l. node_words row ∷ l) f.lines
              ∙ ap (λ y. node_words y ∷ nodes f.domain m f.edges ++ after) (sym (take_left f.domain row f.edges here))
              ∙ ap (λ y. node_words (take f.domain (row ++ f.edges)) ∷ nodes f.domain m y ++ after) (sym (drop_left f.domain row f.edges here));
        }

-- a layer that is full is closed

module _ (size : ℕ) (b : Draft) (open_ : IsOpen size 0 b) (rows : Table) where
  next : length (b.edges ++ b.rows ∷ []) ≡ length b.edges + 1
  next = length-append b.edges (b.rows ∷ [])

  next_left : drop (length (b.edges ++ b.rows ∷ [])) b.domains ≡ open_.domains
  next_left =
      ap (λ i. drop i b.domains) (next ∙ add-one (length b.edges)) ∙ drop_next (length b.edges) b.domains open_.domain open_.domains open_.stands

  closed_layer : IsLayer open_.domain size b.rows
  closed_layer = record { small = open_.small; width = omega (arith, open_.width); edges = open_.edges }

  pub closed_begun : IsBegun (record { domains = b.domains; sizes = b.sizes ++ size ∷ []; edges = b.edges ++ b.rows ∷ []; rows = rows; awaited = Layer })
  closed_begun = record {
    few = open_.begun.few;
    numbers = open_.begun.numbers;
    closed = closed_more b.domains b.sizes b.edges open_.domain open_.domains size b.rows open_.begun.closed open_.stands closed_layer;
  }

  pub closed_on : (raw : RawDiagram) (later : List Words) → AreTables raw → FillsUp size 0 b raw later
      → GoesOn (record { domains = b.domains; sizes = b.sizes ++ size ∷ []; edges = b.edges ++ b.rows ∷ []; rows = rows; awaited = Layer }) raw later
  closed_on raw later t f =
      let fill = filled size 0 b open_ raw later t f in
      let none : f.edges ≡ [] = no_items f.edges (omega (arith, fill.count)) in
      let others : f.domains ≡ open_.domains = cons_tail f.domain open_.domain f.domains open_.domains (sym f.stands ∙ open_.stands) in
      record {
        sizes = f.sizes;
        tables = f.tables;
        same_domains = f.same_domains;
        same_sizes = f.same_sizes ∙ sym (append_assoc b.sizes (size ∷ []) f.sizes);
        same_tables = f.same_tables ∙ ap (λ y. b.edges ++ y ∷ f.tables) (ap (λ y. b.rows ++ y) none ∙ append-nil b.rows) ∙ sym (append_assoc b.edges (b.rows ∷ []) f.tables);
        lines = f.lines ∙ ap (λ n. layers n f.domains f.sizes f.tables) (sym next) ∙ ap (λ y. layers (length (b.edges ++ b.rows ∷ [])) y f.sizes f.tables) (others ∙ sym next_left);
      }

  pub closed_back : (raw : RawDiagram) (later : List Words) → AreTables raw
      → GoesOn (record { domains = b.domains; sizes = b.sizes ++ size ∷ []; edges = b.edges ++ b.rows ∷ []; rows = rows; awaited = Layer }) raw later → FillsUp size 0 b raw later
  closed_back raw later t g = record {
    domain = open_.domain;
    domains = open_.domains;
    edges = [];
    sizes = g.sizes;
    tables = g.tables;
    stands = open_.stands;
    same_domains = g.same_domains;
    same_sizes = g.same_sizes ∙ append_assoc b.sizes (size ∷ []) g.sizes;
    same_tables = g.same_tables ∙ append_assoc b.edges (b.rows ∷ []) g.tables ∙ ap (λ y. b.edges ++ y ∷ g.tables) (sym (append-nil b.rows));
    lines = g.lines ∙ ap (λ n. layers n (drop (length (b.edges ++ b.rows ∷ [])) b.domains) g.sizes g.tables) next ∙ ap (λ y. layers (length b.edges + 1) y g.sizes g.tables) next_left;
  }

pub small_place : (b : Draft) → IsBegun b → IsNumber (length b.edges)
small_place b begun =
    let within = closed_within b.domains b.sizes b.edges begun.closed in
    let few = begun.few in
    omega arith

pub number_told : (k n x s : ℕ) → IsNumber k → IsNumber n → layer_words k x ≡ layer_words n s → k ≡ n
number_told k n x s small other e =
    let tail = cons_tail (codes "layer") (codes "layer") (decimal k ∷ decimal x ∷ []) (decimal n ∷ decimal s ∷ []) e in
    number_injective k n small other (cons_head (decimal k) (decimal n) (decimal x ∷ []) (decimal s ∷ []) tail)
