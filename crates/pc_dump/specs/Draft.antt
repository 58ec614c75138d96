-- Tables that are read line by line.
use Rattle.std.specs.Prelude.{◌≡◌, ℕ, ◌+◌, ◌*◌, ◌<◌, List, [], ◌∷◌, ◌++◌, length, drop, All, Option, ⊤}
use Rattle.pc_diagram.specs.declared.raw_diagram.RawDiagram.{RawDiagram}
use Rattle.pc_dump.specs.declared.draft.Awaited.{Awaited}
use Rattle.pc_dump.specs.declared.draft.Awaited.TheVariants.{Header, Domains, Layer, Node, End, Nothing}
use Rattle.pc_dump.specs.declared.draft.Draft.{Draft}
use Rattle.pc_dump.specs.Dump.{Words, domains_words, dump_words, end_words, layers, nodes}
use Rattle.pc_dump.specs.Form.{AreTables, IsEdge, IsLayer, IsNumber}

-- the first layers are whole
abbrev pub AreClosed : List ℕ → List ℕ → List (List (Option ℕ)) → Type 0
AreClosed domains [] [] = ⊤
AreClosed domains [] (table ∷ tables) = ⊥
AreClosed domains (size ∷ sizes) [] = ⊥
AreClosed [] (size ∷ sizes) (table ∷ tables) = ⊥
AreClosed (domain ∷ domains) (size ∷ sizes) (table ∷ tables) = IsLayer domain size table × AreClosed domains sizes tables

-- the domains are there, and the first layers are whole
pub record IsBegun (draft : Draft) : Type 0 where
  pub few : IsNumber (length draft.domains)
  pub numbers : All IsNumber draft.domains
  pub closed : AreClosed draft.domains draft.sizes draft.edges

-- a layer of so many nodes is open: of so many of them the edges are still to come
pub record IsOpen (size left : ℕ) (draft : Draft) : Type 0 where
  pub begun : IsBegun draft
  pub domain : ℕ
  pub domains : List ℕ
  pub stands : drop (length draft.edges) draft.domains ≡ domain ∷ domains
  pub small : IsNumber size
  pub width : length draft.rows + left * domain ≡ size * domain
  pub edges : All IsEdge draft.rows

-- the tables that a draft has
abbrev pub tables_of : Draft → RawDiagram
tables_of draft = record { domains = draft.domains; sizes = draft.sizes; edges = draft.edges }

-- a draft of lists that are as long as its domains and sizes say
abbrev pub IsDraftAt : Awaited → Draft → Type 0
IsDraftAt Header draft = ⊤
IsDraftAt Domains draft = ⊤
IsDraftAt Layer draft = IsBegun draft
IsDraftAt (Node size left) draft = (0 < left) × IsOpen size left draft
IsDraftAt End draft = AreTables (tables_of draft)
IsDraftAt Nothing draft = AreTables (tables_of draft)

abbrev pub IsDraft : Draft → Type 0
IsDraft draft = IsDraftAt draft.awaited draft

-- tables that go on from a draft whose layers are whole, with these lines
pub record GoesOn (draft : Draft) (raw : RawDiagram) (later : List Words) : Type 0 where
  pub sizes : List ℕ
  pub tables : List (List (Option ℕ))
  pub same_domains : raw.domains ≡ draft.domains
  pub same_sizes : raw.sizes ≡ draft.sizes ++ sizes
  pub same_tables : raw.edges ≡ draft.edges ++ tables
  pub lines : later ≡ layers (length draft.edges) (drop (length draft.edges) draft.domains) sizes tables

-- tables that go on from a draft with an open layer
pub record FillsUp (size left : ℕ) (draft : Draft) (raw : RawDiagram) (later : List Words) : Type 0 where
  pub domain : ℕ
  pub domains : List ℕ
  pub edges : List (Option ℕ)
  pub sizes : List ℕ
  pub tables : List (List (Option ℕ))
  pub stands : drop (length draft.edges) draft.domains ≡ domain ∷ domains
  pub same_domains : raw.domains ≡ draft.domains
  pub same_sizes : raw.sizes ≡ draft.sizes ++ size ∷ sizes
  pub same_tables : raw.edges ≡ draft.edges ++ (draft.rows ++ edges) ∷ tables
  pub lines : later ≡ nodes domain left edges ++ layers (length draft.edges + 1) domains sizes tables

-- the tables agree with a draft, and these of their lines are still to come
abbrev pub RestAt : Awaited → Draft → RawDiagram → List Words → Type 0
RestAt Header draft raw later = later ≡ dump_words raw
RestAt Domains draft raw later = later ≡ domains_words raw.domains ∷ layers 0 raw.domains raw.sizes raw.edges
RestAt Layer draft raw later = GoesOn draft raw later
RestAt (Node size left) draft raw later = FillsUp size left draft raw later
RestAt End draft raw later = (raw ≡ tables_of draft) × (later ≡ end_words ∷ [])
RestAt Nothing draft raw later = (raw ≡ tables_of draft) × (later ≡ [])

abbrev pub Rest : Draft → RawDiagram → List Words → Type 0
Rest draft = RestAt draft.awaited draft

-- a line was taken: what is still to come of any tables is what comes after it
pub record TakesLine (words : Words) (before after : Draft) : Type 0 where
  pub draft : IsDraft after
  pub on : (raw : RawDiagram) (later : List Words) → AreTables raw → Rest before raw (words ∷ later) → Rest after raw later
  pub back : (raw : RawDiagram) (later : List Words) → AreTables raw → Rest after raw later → Rest before raw (words ∷ later)

-- a draft that awaits what it did is settled: with no node left its layer is closed, and the same tables go on from it
pub record Settles (awaited : Awaited) (before after : Draft) : Type 0 where
  pub draft : IsDraft after
  pub on : (raw : RawDiagram) (later : List Words) → AreTables raw → RestAt awaited before raw later → Rest after raw later
  pub back : (raw : RawDiagram) (later : List Words) → AreTables raw → Rest after raw later → RestAt awaited before raw later

-- no tables go on with this line
abbrev pub Refuses : Words → Draft → Type 0
Refuses words before = (raw : RawDiagram) (later : List Words) → AreTables raw → Rest before raw (words ∷ later) → ⊥
