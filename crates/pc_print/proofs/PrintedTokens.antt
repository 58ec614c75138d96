-- Texts that are cut into tokens, whatever comes after them.
use Rattle.std.proofs.Common.{◌≡◌, ℕ, ◌≤◌, ◌==◌, nat_le, Bool, true, false, ◌&&◌, List, [], ◌∷◌, ◌++◌, length, slice_index, codes, decimal, drop, map, Some, None, Ok, Err, refl, sym, ap, ◌∙◌, append_assoc, arith}
use Rattle.std.specs.Fmt.{digits}
use Rattle.std.specs.List.{list_all, take_while, flat_map, join_by, AllZip}
use Rattle.std.proofs.lemmas.Bool.{and_parts, and_from}
use Rattle.std.proofs.lemmas.Bool.Decides.{nat_tests}
use Rattle.std.proofs.lemmas.List.{append-nil}
use Rattle.std.proofs.lemmas.List.Sums.{take_while-cons}
use Rattle.pc_names.specs.Name.{is_letter, is_name_byte, is_name}
use Rattle.pc_rules.specs.declared.token.Sign.TheVariants.{Arrow, NotEqual, Equal, Open, Close, OpenBrace, CloseBrace, Comma}
use Rattle.pc_rules.specs.declared.token.Token.{Token}
use Rattle.pc_rules.specs.declared.token.Token.TheVariants.{Mark, Word}
use Rattle.pc_rules.specs.Parsed.{Parsed, ◌>>=◌}
use Rattle.pc_rules.specs.Token.{sign_at, first_token, tokens_after}
use Rattle.pc_rules.specs.Counts.{spellings}
use Rattle.pc_rules.specs.Grammar.{parted, alone_word}
use Rattle.pc_rules.proofs.CountLemmas.{small_passes}
use Rattle.pc_rules.proofs.TokenLemmas.{tokens_after-first}

-- the tokens before what comes after them
abbrev pub behind : List Token → Parsed (List Token) → Parsed (List Token)
behind tokens later = later >>= λ more. Ok (tokens ++ more)

-- a word goes on at the front of these bytes
abbrev pub goes_on : List ℕ → Bool
goes_on [] = false
goes_on (byte ∷ bytes) = is_name_byte byte

-- the text is cut into the tokens, whatever comes after it
abbrev pub CutsAlways : List ℕ → List Token → Type 0
CutsAlways text tokens = (rest : List ℕ) → tokens_after 0 (text ++ rest) ≡ behind tokens (tokens_after 0 rest)

-- the same where no word goes on after it
abbrev pub Cuts : List ℕ → List Token → Type 0
Cuts text tokens = (rest : List ℕ) → goes_on rest ≡ false → tokens_after 0 (text ++ rest) ≡ behind tokens (tokens_after 0 rest)

-- no word goes on where this text comes after it
abbrev pub Ends : List ℕ → Type 0
Ends text = (rest : List ℕ) → goes_on (text ++ rest) ≡ false

behind-none : (later : Parsed (List Token)) → later ≡ behind [] later
behind-none (Ok tokens) = refl
behind-none (Err kind) = refl

behind-append : (first second : List Token) (later : Parsed (List Token)) → behind first (behind second later) ≡ behind (first ++ second) later
behind-append first second (Ok tokens) = ap Ok (sym (append_assoc first second tokens))
behind-append first second (Err kind) = refl

pub cuts-nothing : Cuts [] []
cuts-nothing rest ends = behind-none (tokens_after 0 rest)

pub cuts-always : (text : List ℕ) (tokens : List Token) → CutsAlways text tokens → Cuts text tokens
cuts-always text tokens cuts rest ends = cuts rest

-- a text, and another one that may come after it
pub always-cuts : (t u : List ℕ) (ts us : List Token) → CutsAlways t ts → Cuts u us → Cuts (t ++ u) (ts ++ us)
always-cuts t u ts us first second rest ends =
    ap (tokens_after 0) (append_assoc t u rest) ∙ first (u ++ rest) ∙ ap (behind ts) (second rest ends) ∙ behind-append ts us (tokens_after 0 rest)

pub cuts-always-cuts : (t u : List ℕ) (ts us : List Token) → Cuts t ts → CutsAlways u us → Ends u → CutsAlways (t ++ u) (ts ++ us)
cuts-always-cuts t u ts us first second end rest =
    ap (tokens_after 0) (append_assoc t u rest) ∙ first (u ++ rest) (end rest) ∙ ap (behind ts) (second rest) ∙ behind-append ts us (tokens_after 0 rest)

pub cuts-cuts : (t u : List ℕ) (ts us : List Token) → Cuts t ts → Cuts u us → Ends u → Cuts (t ++ u) (ts ++ us)
cuts-cuts t u ts us first second end rest ends =
    ap (tokens_after 0) (append_assoc t u rest) ∙ first (u ++ rest) (end rest) ∙ ap (behind ts) (second rest ends) ∙ behind-append ts us (tokens_after 0 rest)

pub always-always : (t u : List ℕ) (ts us : List Token) → CutsAlways t ts → CutsAlways u us → CutsAlways (t ++ u) (ts ++ us)
always-always t u ts us first second rest =
    ap (tokens_after 0) (append_assoc t u rest) ∙ first (u ++ rest) ∙ ap (behind ts) (second rest) ∙ behind-append ts us (tokens_after 0 rest)

-- ---- words

-- one or more bytes of a word
abbrev pub is_word : List ℕ → Bool
is_word [] = false
is_word (byte ∷ bytes) = is_name_byte byte && list_all is_name_byte bytes

apart_from : (byte other : ℕ) → is_name_byte byte ≡ true → is_name_byte other ≡ false → byte == other ≡ false
apart_from byte other in_word outside = by (byte == other) refl
  where
    by : (b : Bool) → byte == other ≡ b → b ≡ false
    by true same = let e : byte ≡ other = grind (arith, nat_tests) in let f = ap is_name_byte e in absurd cc
    by false differ = refl

no_sign : (byte second : ℕ) → is_name_byte byte ≡ true → sign_at byte second ≡ None
no_sign byte second in_word = rw (apart_from byte 61 in_word refl, apart_from byte 33 in_word refl, apart_from byte 40 in_word refl, apart_from byte 41 in_word refl, apart_from byte 123 in_word refl, apart_from byte 125 in_word refl, apart_from byte 44 in_word refl) refl

-- the bytes of a word before others
whole_word : (word rest : List ℕ) → list_all is_name_byte word ≡ true → goes_on rest ≡ false → take_while is_name_byte (word ++ rest) ≡ word
whole_word [] [] all ends = refl
whole_word [] (b ∷ rest) all ends = take_while-cons is_name_byte b rest ∙ rw ends refl
whole_word (b ∷ word) rest all ends =
    let two = and_parts (is_name_byte b) (list_all is_name_byte word) all in
    take_while-cons is_name_byte b (word ++ rest) ∙ rw two.0 (ap (λ l. b ∷ l) (whole_word word rest two.1 ends))

drop-front : (front back : List ℕ) → drop (length front) (front ++ back) ≡ back
drop-front [] back = refl
drop-front (x ∷ front) back = drop-front front back

word-first : (byte : ℕ) (bytes rest : List ℕ) → is_name_byte byte ≡ true → list_all is_name_byte bytes ≡ true → goes_on rest ≡ false → first_token (byte ∷ (bytes ++ rest)) ≡ Some (Word (byte ∷ bytes))
unfolding first_token
word-first byte bytes rest in_word all ends =
    rw (whole_word (byte ∷ bytes) rest (rw in_word all) ends, no_sign byte (slice_index (byte ∷ (bytes ++ rest)) 1) in_word) refl

pub cuts-word : (word : List ℕ) → is_word word ≡ true → Cuts word (Word word ∷ [])
cuts-word [] is rest ends = absurd cc
cuts-word (byte ∷ bytes) is rest ends =
    let two = and_parts (is_name_byte byte) (list_all is_name_byte bytes) is in
    tokens_after-first byte (bytes ++ rest) (Word (byte ∷ bytes)) (apart_from byte 32 two.0 refl) (word-first byte bytes rest two.0 two.1 ends) (omega arith)
    ∙ ap (λ l. tokens_after 0 l >>= λ tokens. Ok (Word (byte ∷ bytes) ∷ tokens)) (drop-front bytes rest)

-- ---- what stands between words

pub cuts-and : CutsAlways (codes " and ") (Word (codes "and") ∷ [])
unfolding first_token
cuts-and rest = refl

pub cuts-or : CutsAlways (codes " or ") (Word (codes "or") ∷ [])
unfolding first_token
cuts-or rest = refl

pub cuts-arrow : CutsAlways (codes " => ") (Mark Arrow ∷ [])
unfolding first_token
cuts-arrow rest = refl

pub cuts-not : CutsAlways (codes "not ") (Word (codes "not") ∷ [])
unfolding first_token
cuts-not rest = refl

pub cuts-comma : CutsAlways (codes ", ") (Mark Comma ∷ [])
unfolding first_token
cuts-comma rest = refl

pub cuts-open : CutsAlways (codes "(") (Mark Open ∷ [])
unfolding first_token
cuts-open rest = refl

pub cuts-close : CutsAlways (codes ")") (Mark Close ∷ [])
unfolding first_token
cuts-close rest = refl

pub cuts-in : CutsAlways (codes " in {") (Word (codes "in") ∷ Mark OpenBrace ∷ [])
unfolding first_token
cuts-in rest = behind-append (Word (codes "in") ∷ []) (Mark OpenBrace ∷ []) (tokens_after 0 rest)

pub cuts-close_brace : CutsAlways (codes "}") (Mark CloseBrace ∷ [])
unfolding first_token
cuts-close_brace rest = refl

pub cuts-same : CutsAlways (codes "same(") (Word (codes "same") ∷ Mark Open ∷ [])
unfolding first_token
cuts-same rest = behind-append (Word (codes "same") ∷ []) (Mark Open ∷ []) (tokens_after 0 rest)

pub cuts-at_most : CutsAlways (codes "atmost ") (Word (codes "atmost") ∷ [])
unfolding first_token
cuts-at_most rest = refl

pub cuts-members : CutsAlways (codes " (") (Mark Open ∷ [])
unfolding first_token
cuts-members rest = refl

pub cuts-table : CutsAlways (codes "table (") (Word (codes "table") ∷ Mark Open ∷ [])
unfolding first_token
cuts-table rest = behind-append (Word (codes "table") ∷ []) (Mark Open ∷ []) (tokens_after 0 rest)

pub cuts-rows : CutsAlways (codes ") {") (Mark Close ∷ Mark OpenBrace ∷ [])
unfolding first_token
cuts-rows rest = behind-append (Mark Close ∷ []) (Mark OpenBrace ∷ []) (tokens_after 0 rest)

pub cuts-not_equal : CutsAlways (codes "!=") (Mark NotEqual ∷ [])
unfolding first_token
cuts-not_equal rest = refl

-- an equals sign before a word
equal-first : (byte : ℕ) (bytes : List ℕ) → is_name_byte byte ≡ true → first_token (61 ∷ byte ∷ bytes) ≡ Some (Mark Equal)
unfolding first_token
equal-first byte bytes in_word = rw (apart_from byte 62 in_word refl) refl

pub cuts-equal : (word : List ℕ) → is_word word ≡ true → Cuts (codes "=" ++ word) (Mark Equal ∷ Word word ∷ [])
cuts-equal [] is rest ends = absurd cc
cuts-equal (byte ∷ bytes) is rest ends =
    let two = and_parts (is_name_byte byte) (list_all is_name_byte bytes) is in
    tokens_after-first 61 (byte ∷ (bytes ++ rest)) (Mark Equal) refl (equal-first byte (bytes ++ rest) two.0) (omega arith)
    ∙ ap (λ o. o >>= λ tokens. Ok (Mark Equal ∷ tokens)) (cuts-word (byte ∷ bytes) is rest ends)
    ∙ behind-append (Mark Equal ∷ []) (Word (byte ∷ bytes) ∷ []) (tokens_after 0 rest)

-- ---- texts with something between them

cuts-others : (between : List ℕ) (token : Token) → CutsAlways between (token ∷ []) → Ends between → (t : List ℕ) (ts : List (List ℕ)) (u : List Token) (us : List (List Token)) →
    Cuts t u → AllZip Cuts ts us → Cuts (t ++ flat_map (λ text. between ++ text) ts) (parted token (u ∷ us))
cuts-others between token cuts ends t [] u [] first each rest end = ap (λ l. tokens_after 0 (l ++ rest)) (append-nil t) ∙ first rest end
cuts-others between token cuts ends t [] u (v ∷ us) first each rest end = absurd each
cuts-others between token cuts ends t (s ∷ ts) u [] first each rest end = absurd each
cuts-others between token cuts ends t (s ∷ ts) u (v ∷ us) first each rest end =
    let later = flat_map (λ text. between ++ text) ts in
    let others = cuts-others between token cuts ends s ts v us each.0 each.1 in
    let front = cuts-always-cuts t between u (token ∷ []) first cuts ends in
    let whole = always-cuts (t ++ between) (s ++ later) (u ++ token ∷ []) (parted token (v ∷ us)) front others in
    let shape : t ++ ((between ++ s) ++ later) ≡ (t ++ between) ++ (s ++ later) =
    ap (λ l. t ++ l) (append_assoc between s later) ∙ sym (append_assoc t between (s ++ later)) in
    ap (λ l. tokens_after 0 (l ++ rest)) shape ∙ whole rest end ∙ ap (λ l. behind l (tokens_after 0 rest)) (append_assoc u (token ∷ []) (parted token (v ∷ us)))

-- one or more texts
pub cuts-joined : (between : List ℕ) (token : Token) → CutsAlways between (token ∷ []) → Ends between → (ts : List (List ℕ)) (us : List (List Token)) →
    AllZip Cuts ts us → Cuts (join_by (λ text. text) between ts) (parted token us)
cuts-joined between token cuts ends [] [] each = cuts-nothing
cuts-joined between token cuts ends [] (u ∷ us) each = absurd each
cuts-joined between token cuts ends (t ∷ ts) [] each = absurd each
cuts-joined between token cuts ends (t ∷ ts) (u ∷ us) each = cuts-others between token cuts ends t ts u us each.0 each.1

-- each word, as a text of its own
pub cuts-words : (words : List (List ℕ)) → list_all is_word words ≡ true → AllZip Cuts words (map alone_word words)
cuts-words [] all = tt
cuts-words (word ∷ words) all = let two = and_parts (is_word word) (list_all is_word words) all in (cuts-word word two.0, cuts-words words two.1)

-- ---- words in a row, and names

spaced : (words : List (List ℕ)) (word : List ℕ) → is_word word ≡ true → list_all is_word words ≡ true → Cuts (word ++ flat_map (λ w. codes " " ++ w) words) (Word word ∷ map Word words)
spaced [] word is all rest end = ap (λ l. tokens_after 0 (l ++ rest)) (append-nil word) ∙ cuts-word word is rest end
spaced (next ∷ words) word is all rest end =
    let two = and_parts (is_word next) (list_all is_word words) all in
    let later = flat_map (λ w. codes " " ++ w) words in
    let others : tokens_after 0 (32 ∷ ((next ++ later) ++ rest)) ≡ behind (Word next ∷ map Word words) (tokens_after 0 rest) = spaced words next two.0 two.1 rest end in
    ap (tokens_after 0) (append_assoc word (32 ∷ (next ++ later)) rest)
    ∙ cuts-word word is (32 ∷ ((next ++ later) ++ rest)) refl
    ∙ ap (behind (Word word ∷ [])) others ∙ behind-append (Word word ∷ []) (Word next ∷ map Word words) (tokens_after 0 rest)

-- words with a space between them
pub cuts-spaced : (words : List (List ℕ)) → list_all is_word words ≡ true → Cuts (join_by (λ w. w) (codes " ") words) (map Word words)
cuts-spaced [] all = cuts-nothing
cuts-spaced (word ∷ words) all = let two = and_parts (is_word word) (list_all is_word words) all in spaced words word two.0 two.1

letter-in_word : (byte : ℕ) → is_letter byte ≡ true → is_name_byte byte ≡ true
letter-in_word byte is = rw is refl

-- a name is a word
pub name-word : (name : List ℕ) → is_name name ≡ true → is_word name ≡ true
name-word [] is = absurd cc
name-word (byte ∷ bytes) is =
    let two = and_parts (is_letter byte) (nat_le (length bytes) 31 && list_all is_name_byte bytes) is in
    let more = and_parts (nat_le (length bytes) 31) (list_all is_name_byte bytes) two.1 in
    rw (letter-in_word byte two.0) more.1

pub names-words : (names : List (List ℕ)) → list_all is_name names ≡ true → list_all is_word names ≡ true
names-words [] all = refl
names-words (name ∷ names) all =
    let two = and_parts (is_name name) (list_all is_name names) all in
    and_from (is_word name) (list_all is_word names) (name-word name two.0) (names-words names two.1)

-- the spellings of small numbers are words
all_words : list_all is_word (spellings 65 0) ≡ true
unfolding digits
all_words = refl

pub number-word : (most : ℕ) → most ≤ 64 → is_word (decimal most) ≡ true
number-word most small = small_passes is_word most all_words small
