-- Lines that are judged one after the other.
use Rattle.std.proofs.Common.{◌≡◌, ℕ, zero, suc, ◌+◌, ◌-◌, ◌*◌, ◌<◌, List, [], ◌∷◌, ◌++◌, take, drop, length, replicate, All, Option, None, refl, sym, ap, ◌∙◌, subst, arith, append_assoc, length-append}
use Rattle.std.proofs.lemmas.List.{append-nil, take-append-le, take_all, length-replicate}
use Rattle.std.proofs.lemmas.List.Elements.{All-append, All-nil, All-replicate}
use Rattle.pc_diagram.specs.declared.raw_diagram.RawDiagram.{RawDiagram}
use Rattle.pc_dump.specs.declared.draft.Awaited.{Awaited}
use Rattle.pc_dump.specs.declared.draft.Awaited.TheVariants.{Header, Domains, Layer, Node, End, Nothing}
use Rattle.pc_dump.specs.declared.draft.Draft.{Draft}
use Rattle.pc_dump.specs.declared.dump.Dump.TheVariants.{Tables}
use Rattle.pc_dump.specs.Draft.{IsDraftAt, Refuses, Rest, RestAt, TakesLine, tables_of}
use Rattle.pc_dump.specs.Dump.{Words, dump_words, domains_words, end_words, layers, nodes}
use Rattle.pc_dump.specs.Form.{AreLayers, AreTables, Begins, IsDump, IsEdge, IsFirstMisfit, IsLayer, IsNumber}
use Rattle.pc_dump.specs.Judged.{GoesWrong, IsRead}
use Rattle.pc_dump.proofs.LayerLemmas.{closed_join}
use Rattle.pc_dump.proofs.StepLemmas.{layers_left}

abbrev Table : Type 0
Table = List (Option ℕ)

-- some tables go on from any draft

blank_sizes : List ℕ → List ℕ
blank_sizes [] = 0 ∷ []
blank_sizes (d ∷ ds) = 0 ∷ blank_sizes ds

blank_tables : List ℕ → List Table
blank_tables [] = []
blank_tables (d ∷ ds) = [] ∷ blank_tables ds

blank_layers : (ds : List ℕ) → AreLayers ds (blank_sizes ds) (blank_tables ds)
unfolding blank_sizes blank_tables
blank_layers [] = omega arith
blank_layers (d ∷ ds) = (record { small = omega arith; width = omega arith; edges = All-nil IsEdge }, blank_layers ds)

record Completed (draft : Draft) : Type 0 where
  pub raw : RawDiagram
  pub later : List Words
  pub tables : AreTables raw
  pub rest : Rest draft raw later

record CompletedAt (a : Awaited) (draft : Draft) : Type 0 where
  pub raw : RawDiagram
  pub later : List Words
  pub tables : AreTables raw
  pub rest : RestAt a draft raw later

empty : RawDiagram
empty = record { domains = []; sizes = 0 ∷ []; edges = [] }

empty_tables : AreTables empty
unfolding empty
empty_tables = record { few = omega arith; domains = All-nil IsNumber; layers = omega arith }

completed_at : (a : Awaited) (draft : Draft) → IsDraftAt a draft → CompletedAt a draft
completed_at Header draft is = record { raw = empty; later = dump_words empty; tables = empty_tables; rest = refl }
completed_at Domains draft is =
    record { raw = empty; later = domains_words empty.domains ∷ layers 0 empty.domains empty.sizes empty.edges; tables = empty_tables; rest = refl }
completed_at Layer draft is =
    let ds = drop (length draft.edges) draft.domains in
    let ss = blank_sizes ds in
    let ts = blank_tables ds in
    record {
      raw = record { domains = draft.domains; sizes = draft.sizes ++ ss; edges = draft.edges ++ ts };
      later = layers (length draft.edges) ds ss ts;
      tables = record { few = is.few; domains = is.numbers; layers = closed_join draft.domains draft.sizes draft.edges ss ts is.closed (blank_layers ds) };
      rest = record { sizes = ss; tables = ts; same_domains = refl; same_sizes = refl; same_tables = refl; lines = refl };
    }
completed_at (Node size left) draft is =
    let open_ = is.1 in
    let ds = open_.domains in
    let none : Option ℕ = None in
    let more : Table = replicate (left * open_.domain) none in
    let ss = blank_sizes ds in
    let ts = blank_tables ds in
    let numbers : All IsEdge more = All-replicate IsEdge (left * open_.domain) none tt in
    let layer : IsLayer open_.domain size (draft.rows ++ more) = record {
      small = open_.small;
      width = omega (arith, length-append draft.rows more, length-replicate (left * open_.domain) none, open_.width);
      edges = All-append IsEdge draft.rows more open_.edges numbers;
    } in
    let here : AreLayers (drop (length draft.edges) draft.domains) (size ∷ ss) ((draft.rows ++ more) ∷ ts) =
    subst (λ y. AreLayers y (size ∷ ss) ((draft.rows ++ more) ∷ ts)) (sym open_.stands) (layer, blank_layers ds) in
    record {
      raw = record { domains = draft.domains; sizes = draft.sizes ++ size ∷ ss; edges = draft.edges ++ (draft.rows ++ more) ∷ ts };
      later = nodes open_.domain left more ++ layers (length draft.edges + 1) ds ss ts;
      tables = record { few = open_.begun.few; domains = open_.begun.numbers; layers = closed_join draft.domains draft.sizes draft.edges (size ∷ ss) ((draft.rows ++ more) ∷ ts) open_.begun.closed here };
      rest = record { domain = open_.domain; domains = ds; edges = more; sizes = ss; tables = ts; stands = open_.stands; same_domains = refl; same_sizes = refl; same_tables = refl; lines = refl };
    }
completed_at End draft is = record { raw = tables_of draft; later = end_words ∷ []; tables = is; rest = (refl, refl) }
completed_at Nothing draft is = record { raw = tables_of draft; later = []; tables = is; rest = (refl, refl) }

-- so lines that were read begin the text of some tables
pub begins : (draft : Draft) (taken : List Words) → IsRead draft taken → Begins taken
begins draft taken read =
    let done = completed_at draft.awaited draft read.is_draft in
    record { raw = done.raw; later = done.later; tables = done.tables; prints = read.back done.raw done.later done.tables done.rest }

-- before the first line
pub read_nothing : (draft : Draft) → draft.awaited ≡ Header → IsRead draft []
read_nothing draft e = record {
  is_draft = subst (λ a. IsDraftAt a draft) (sym e) tt;
  on = λ raw later t h. subst (λ a. RestAt a draft raw later) (sym e) (sym h);
  back = λ raw later t h. let here : RestAt Header draft raw later = subst (λ a. RestAt a draft raw later) e h in sym here;
}

-- one line more
pub read_on : (before after : Draft) (taken : List Words) (words : Words) → IsRead before taken → TakesLine words before after → IsRead after (taken ++ words ∷ [])
read_on before after taken words read takes = record {
  is_draft = takes.draft;
  on = λ raw later t h. takes.on raw later t (read.on raw (words ∷ later) t (h ∙ append_assoc taken (words ∷ []) later));
  back = λ raw later t h. read.back raw (words ∷ later) t (takes.back raw later t h) ∙ sym (append_assoc taken (words ∷ []) later);
}

pub wrong_here : (before : Draft) (taken : List Words) (words : Words) (line : ℕ) → IsRead before taken → Refuses words before → line ≡ length taken + 1 → GoesWrong line (taken ++ words ∷ [])
wrong_here before taken words line read refuses e =
    let all = taken ++ words ∷ [] in
    let size : length all ≡ length taken + 1 = length-append taken (words ∷ []) in
    let front : take (line - 1) all ≡ taken = ap (λ n. take n all) (let n : line - 1 ≡ length taken = omega arith in n) ∙ take-append-le (length taken) taken (words ∷ []) (omega arith) ∙ take_all (length taken) taken (omega arith) in
    let whole : take line all ≡ all = take_all line all (omega arith) in
    record {
      counted = omega arith;
      within = omega arith;
      begins = subst Begins (sym front) (begins before taken read);
      misfit = λ b. refuses b.raw b.later b.tables (read.on b.raw (words ∷ b.later) b.tables (b.prints ∙ ap (λ y. y ++ b.later) whole ∙ append_assoc taken (words ∷ []) b.later));
    }

pub wrong_still : (taken : List Words) (words : Words) (line : ℕ) → GoesWrong line taken → GoesWrong line (taken ++ words ∷ [])
wrong_still taken words line wrong =
    let all = taken ++ words ∷ [] in
    let within = wrong.within in
    let counted = wrong.counted in
    let before : take (line - 1) all ≡ take (line - 1) taken = take-append-le (line - 1) taken (words ∷ []) (omega arith) in
    let here : take line all ≡ take line taken = take-append-le line taken (words ∷ []) wrong.within in
    record {
      counted = wrong.counted;
      within = omega (arith, length-append taken (words ∷ []));
      begins = subst Begins (sym before) wrong.begins;
      misfit = λ b. wrong.misfit (subst Begins here b);
    }

-- at the end

pub wrong_at_end : (taken : List Words) (line : ℕ) → GoesWrong line taken → IsFirstMisfit line taken
wrong_at_end taken line wrong =
    let within = wrong.within in
    record {
      counted = wrong.counted;
      within = omega arith;
      begins = wrong.begins;
      misfit = λ _. wrong.misfit;
      early = λ e. absurd (omega arith);
    }

no_layers : (k : ℕ) (ds ss : List ℕ) (ts : List Table) → AreLayers ds ss ts → [] ≡ layers k ds ss ts → ⊥
no_layers k (d ∷ ds) (s ∷ ss) (t ∷ ts) l e = cc
no_layers k (d ∷ ds) (s ∷ ss) [] l e = elim l [ ]
no_layers k (d ∷ ds) [] ts l e = elim l [ ]
no_layers k [] [] ts l e = elim l [ ]
no_layers k [] (s ∷ ss) ts l e = cc

some_nodes : (d left : ℕ) (edges : Table) (rest : List Words) → 0 < left → [] ≡ nodes d left edges ++ rest → ⊥
some_nodes d zero edges rest h e = absurd (omega arith)
some_nodes d (suc left) edges rest h e = cc

-- something is still to come, unless all lines were read
more_comes : (a : Awaited) (draft : Draft) → IsDraftAt a draft → (a ≡ Nothing → ⊥) → (raw : RawDiagram) → AreTables raw → RestAt a draft raw [] → ⊥
more_comes Header draft is other raw t e = cc
more_comes Domains draft is other raw t e = cc
more_comes Layer draft is other raw t g =
    no_layers (length draft.edges) (drop (length draft.edges) draft.domains) g.sizes g.tables (layers_left draft raw g.sizes g.tables is.closed t g.same_domains g.same_sizes g.same_tables) g.lines
more_comes (Node size left) draft is other raw t f = some_nodes f.domain left f.edges (layers (length draft.edges + 1) f.domains f.sizes f.tables) is.0 f.lines
more_comes End draft is other raw t h = let e = h.1 in cc
more_comes Nothing draft is other raw t h = other refl

pub early_end : (draft : Draft) (taken : List Words) (line : ℕ) → IsRead draft taken → (draft.awaited ≡ Nothing → ⊥) → line ≡ length taken + 1 → IsFirstMisfit line taken
early_end draft taken line read other e =
    let front : take (line - 1) taken ≡ taken = take_all (line - 1) taken (omega arith) in
    record {
      counted = omega arith;
      within = omega arith;
      begins = subst Begins (sym front) (begins draft taken read);
      misfit = λ h. absurd (omega arith);
      early = λ _ raw t same. more_comes draft.awaited draft read.is_draft other raw t (read.on raw [] t (same ∙ sym (append-nil taken)));
    }

pub whole_end : (draft : Draft) (taken : List Words) → IsRead draft taken → draft.awaited ≡ Nothing → IsDump (Tables (tables_of draft)) taken
whole_end draft taken read e =
    let tables : AreTables (tables_of draft) = subst (λ a. IsDraftAt a draft) e read.is_draft in
    let rest : Rest draft (tables_of draft) [] = subst (λ a. RestAt a draft (tables_of draft) []) (sym e) (refl, refl) in
    (tables, sym (read.back (tables_of draft) [] tables rest ∙ append-nil taken))
