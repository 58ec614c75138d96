-- The text of tables is told by its lines, and tells them.
use Rattle.std.proofs.Common.{◌≡◌, ◌⊎◌, ℕ, zero, suc, ◌+◌, ◌<◌, ◌^◌, Bool, true, false, not, ◌&&◌, List, [], ◌∷◌, ◌++◌, length, map, take, drop, codes, All, Option, Some, None, refl, sym, ap, ◌∙◌, inl, inr, arith, append_assoc}
use Rattle.std.specs.Fmt.{decimal}
use Rattle.std.specs.Char.{digit_value}
use Rattle.std.specs.Str.Parse.{AllDigits}
use Rattle.std.specs.List.{flat_map, join_with_byte, list_all, onto_first, slice_split}
use Rattle.std.proofs.lemmas.Bool.{cases_Bool, and_parts, eqb-true, not-true}
use Rattle.std.proofs.lemmas.Bool.Decides.{nat_tests}
use Rattle.std.proofs.lemmas.Fmt.{decimal_digit, digits_decimal}
use Rattle.std.proofs.lemmas.List.Elements.{All-append, All-cons, All-drop, All-head, All-map, All-nil, All-tail, All-take, All-weaker}
use Rattle.std.proofs.lemmas.List.Folds.{list_any_none}
use Rattle.std.proofs.lemmas.List.Splits.{join_with_byte-slice_split, slice_split_at, slice_split_none}
use Rattle.std.proofs.lemmas.Str.Parse.{digit_from_value, numerals_by_value, tells_digits}
use Rattle.pc_base.specs.Lines.{HasNoFeed, is_feed, lines}
use Rattle.pc_base.proofs.LineCuts.{HasNoFeed-append, lines-byte, lines-feed, lines-feed_after, lines-nil}
use Rattle.pc_diagram.specs.BikeDiagram.{bike_diagram}
use Rattle.pc_diagram.specs.declared.raw_diagram.RawDiagram.{RawDiagram}
use Rattle.pc_dump.specs.Bike.{bike_text}
use Rattle.pc_dump.specs.Dump.{Words, domains_words, dump_text, dump_words, edge_word, end_words, header_words, layer_words, layers, line_of, node_words, nodes}
use Rattle.pc_dump.specs.Form.{AreLayers, AreTables, IsEdge, IsNumber, cut_lines}
use Rattle.pc_names.specs.Spaces.{is_space}

-- a byte of a word: it ends neither the word nor the line
record IsInner (byte : ℕ) : Type 0 where
  unspaced : is_space byte ≡ false
  unbroken : is_feed byte ≡ false

-- a word of such bytes
abbrev IsPlain : List ℕ → Type 0
IsPlain word = All IsInner word

-- a line has a word at least, and each is plain
abbrev IsWritten : Words → Type 0
IsWritten [] = ⊥
IsWritten (word ∷ more) = IsPlain word × All IsPlain more

-- ---- written lines are cut where they were put together

unspaced : (word : List ℕ) → IsPlain word → All (λ byte. is_space byte ≡ false) word
unspaced word plain = All-weaker IsInner (λ byte. is_space byte ≡ false) (λ byte inner. inner.unspaced) word plain

unbroken : (word : List ℕ) → IsPlain word → HasNoFeed word
unbroken word plain = list_any_none is_feed word (All-weaker IsInner (λ byte. is_feed byte ≡ false) (λ byte inner. inner.unbroken) word plain)

unbroken_line : (word : List ℕ) (more : Words) → IsPlain word → All IsPlain more → HasNoFeed (join_with_byte 32 (word ∷ more))
unbroken_line word [] plain others = unbroken word plain
unbroken_line word (next ∷ more) plain others =
    HasNoFeed-append word (32 ∷ join_with_byte 32 (next ∷ more)) (unbroken word plain)
    (unbroken_line next more (All-head IsPlain next more others) (All-tail IsPlain next more others))

cut_line : (word : List ℕ) (more : Words) → IsPlain word → All IsPlain more → slice_split is_space (join_with_byte 32 (word ∷ more)) ≡ word ∷ more
cut_line word [] plain others = slice_split_none is_space word (unspaced word plain)
cut_line word (next ∷ more) plain others =
    slice_split_at is_space word 32 (join_with_byte 32 (next ∷ more)) (unspaced word plain) refl
    ∙ ap (λ ws. word ∷ ws) (cut_line next more (All-head IsPlain next more others) (All-tail IsPlain next more others))

cut_written : (line : Words) (rest : List ℕ) → IsWritten line → cut_lines (line_of line ++ rest) ≡ line ∷ cut_lines rest
cut_written [] rest is = absurd is
cut_written (word ∷ more) rest is =
    let text = join_with_byte 32 (word ∷ more) in
    ap cut_lines (append_assoc text (10 ∷ []) rest)
    ∙ ap (map (slice_split is_space)) (lines-feed_after text rest (unbroken_line word more is.0 is.1))
    ∙ ap (λ l. l ∷ cut_lines rest) (cut_line word more is.0 is.1)

cut_text : (all : List Words) → All IsWritten all → cut_lines (flat_map line_of all) ≡ all
cut_text [] are = ap (map (slice_split is_space)) lines-nil
cut_text (line ∷ all) are =
    cut_written line (flat_map line_of all) (All-head IsWritten line all are)
    ∙ ap (λ ls. line ∷ ls) (cut_text all (All-tail IsWritten line all are))

-- ---- the lines of tables are written lines

is_inner : ℕ → Bool
is_inner byte = not (is_space byte) && not (is_feed byte)

plain_by : (bytes : List ℕ) → list_all is_inner bytes ≡ true → IsPlain bytes
unfolding is_inner
plain_by [] all = All-nil IsInner
plain_by (byte ∷ bytes) all =
    let two = and_parts (is_inner byte) (list_all is_inner bytes) all in
    let both = and_parts (not (is_space byte)) (not (is_feed byte)) two.0 in
    All-cons IsInner byte bytes
    (record { unspaced = not-true (is_space byte) both.0; unbroken = not-true (is_feed byte) both.1 })
    (plain_by bytes two.1)

inner_digit : (byte : ℕ) → digit_value byte < 10 → IsInner byte
inner_digit byte is =
    let range = digit_from_value byte is in
    record { unspaced = grind (arith, nat_tests); unbroken = grind (arith, nat_tests) }

plain_digits : (bytes : List ℕ) → AllDigits 10 bytes → IsPlain bytes
plain_digits [] all = All-nil IsInner
plain_digits (byte ∷ bytes) all = All-cons IsInner byte bytes (inner_digit byte all.0) (plain_digits bytes all.1)

plain_decimal : (n : ℕ) → n < 2 ^ 64 → IsPlain (decimal n)
plain_decimal n below = plain_digits (decimal n) (digits_decimal (numerals_by_value (AllDigits 10) tells_digits) n below)

plain_number : (n : ℕ) → IsNumber n → IsPlain (decimal n)
plain_number n is = plain_decimal n (omega arith)

plain_edge : (edge : Option ℕ) → IsEdge edge → IsPlain (edge_word edge)
unfolding is_inner
plain_edge None is = plain_by (45 ∷ []) refl
plain_edge (Some target) is = plain_number target is

written_header : IsWritten header_words
unfolding is_inner
written_header = (plain_by (codes "diagram") refl, All-cons IsPlain (codes "1") [] (plain_by (codes "1") refl) (All-nil IsPlain))

written_domains : (domains : List ℕ) → All IsNumber domains → IsWritten (domains_words domains)
unfolding is_inner
written_domains domains are =
    (plain_by (codes "domains") refl, All-map IsPlain decimal domains (All-weaker IsNumber (λ n. IsPlain (decimal n)) plain_number domains are))

written_layer : (layer size : ℕ) → layer < 2 ^ 64 → IsNumber size → IsWritten (layer_words layer size)
unfolding is_inner
written_layer layer size below is = (
  plain_by (codes "layer") refl,
  All-cons IsPlain (decimal layer) (decimal size ∷ []) (plain_decimal layer below)
      (All-cons IsPlain (decimal size) [] (plain_number size is) (All-nil IsPlain)),
)

written_node : (row : List (Option ℕ)) → All IsEdge row → IsWritten (node_words row)
unfolding is_inner
written_node row are = (plain_by (codes "n") refl, All-map IsPlain edge_word row (All-weaker IsEdge (λ e. IsPlain (edge_word e)) plain_edge row are))

written_end : IsWritten end_words
unfolding is_inner
written_end = (plain_by (codes "end") refl, All-nil IsPlain)

written_nodes : (domain count : ℕ) (table : List (Option ℕ)) → All IsEdge table → All IsWritten (nodes domain count table)
written_nodes domain zero table are = All-nil IsWritten
written_nodes domain (suc count) table are =
    All-cons IsWritten (node_words (take domain table)) (nodes domain count (drop domain table))
    (written_node (take domain table) (All-take IsEdge domain table are))
    (written_nodes domain count (drop domain table) (All-drop IsEdge domain table are))

written_layers : (layer : ℕ) (domains sizes : List ℕ) (tables : List (List (Option ℕ))) → AreLayers domains sizes tables → layer + length domains < 2 ^ 64 → All IsWritten (layers layer domains sizes tables)
written_layers layer (domain ∷ domains) (size ∷ sizes) (table ∷ tables) are below =
    All-cons IsWritten (layer_words layer size) (nodes domain size table ++ layers (layer + 1) domains sizes tables)
    (written_layer layer size (omega arith) are.0.small)
    (All-append IsWritten (nodes domain size table) (layers (layer + 1) domains sizes tables)
    (written_nodes domain size table are.0.edges)
    (written_layers (layer + 1) domains sizes tables are.1 (omega arith)))
written_layers layer (domain ∷ domains) (size ∷ sizes) [] are below = absurd are
written_layers layer (domain ∷ domains) [] tables are below = absurd are
written_layers layer [] [] tables are below = absurd are
written_layers layer [] (size ∷ []) [] are below =
    All-cons IsWritten (layer_words layer size) (end_words ∷ []) (written_layer layer size (omega arith) are)
    (All-cons IsWritten end_words [] written_end (All-nil IsWritten))
written_layers layer [] (size ∷ []) (table ∷ tables) are below = absurd are
written_layers layer [] (size ∷ other ∷ sizes) tables are below = absurd are

written_tables : (raw : RawDiagram) → AreTables raw → All IsWritten (dump_words raw)
written_tables raw are =
    let all = layers 0 raw.domains raw.sizes raw.edges in
    let few : length raw.domains < 2 ^ 32 = are.few in
    All-cons IsWritten header_words (domains_words raw.domains ∷ all) written_header
    (All-cons IsWritten (domains_words raw.domains) all (written_domains raw.domains are.domains)
    (written_layers 0 raw.domains raw.sizes raw.edges are.layers (omega arith)))

-- the lines of the text of tables are the lines of the tables
pub text_cut : (raw : RawDiagram) → AreTables raw → cut_lines (dump_text raw) ≡ dump_words raw
text_cut raw are = cut_text (dump_words raw) (written_tables raw are)

-- ---- a text is its lines, each with a line feed after it, the last with or without

abbrev fed : List ℕ → List ℕ
fed line = line ++ 10 ∷ []

-- a text is these bytes, or lacks their last line feed
abbrev Spells : List ℕ → List ℕ → Type 0
Spells text bytes = (text ≡ bytes) ⊎ (text ++ 10 ∷ [] ≡ bytes)

spells_more : (byte : ℕ) (text bytes : List ℕ) → Spells text bytes → Spells (byte ∷ text) (byte ∷ bytes)
spells_more byte text bytes (inl is) = inl (ap (λ l. byte ∷ l) is)
spells_more byte text bytes (inr is) = inr (ap (λ l. byte ∷ l) is)

spells_on : (byte : ℕ) (text : List ℕ) (all : List (List ℕ)) → Spells text (flat_map fed all) → Spells (byte ∷ text) (flat_map fed (onto_first byte all))
spells_on byte text [] (inl is) = inr (ap (λ l. byte ∷ l ++ 10 ∷ []) is)
spells_on byte [] [] (inr is) = absurd cc
spells_on byte (first ∷ text) [] (inr is) = absurd cc
spells_on byte text (line ∷ all) is = spells_more byte text (flat_map fed (line ∷ all)) is

spells_lines : (text : List ℕ) → Spells text (flat_map fed (lines text))
spells_lines [] = inl (rw lines-nil)
spells_lines (byte ∷ text) =
    elim (cases_Bool (is_feed byte)) [
      | inl is ↦ rw (lines-feed byte text is, eqb-true byte 10 is) (spells_more 10 text (flat_map fed (lines text)) (spells_lines text))
      | inr is ↦ rw (lines-byte byte text is) (spells_on byte text (lines text) (spells_lines text))
    ]

joined_again : (all : List (List ℕ)) → flat_map line_of (map (slice_split is_space) all) ≡ flat_map fed all
joined_again [] = refl
joined_again (line ∷ all) =
    ap (λ l. fed l ++ flat_map line_of (map (slice_split is_space) all)) (join_with_byte-slice_split 32 line)
    ∙ ap (λ t. fed line ++ t) (joined_again all)

-- a text with the lines of tables is the text of the tables, or lacks its last line feed alone
pub text_told : (raw : RawDiagram) (text : List ℕ) → cut_lines text ≡ dump_words raw → (text ≡ dump_text raw) ⊎ (text ++ 10 ∷ [] ≡ dump_text raw)
text_told raw text is =
    let bytes : flat_map fed (lines text) ≡ dump_text raw = sym (joined_again (lines text)) ∙ ap (flat_map line_of) is in
    rw (sym bytes) (spells_lines text)

-- ---- the diagram of the bikes

pub bike_told : dump_text bike_diagram ≡ bike_text
bike_told = rw (decimal_digit 0 (omega arith), decimal_digit 1 (omega arith), decimal_digit 2 (omega arith), decimal_digit 3 (omega arith))
