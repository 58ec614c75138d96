-- Words parted by one space are the words of that line.
use Rattle.std.proofs.Common.{◌≡◌, ℕ, suc, ◌<◌, ◌^◌, ◌==◌, ℤ, pos, negsuc, Bool, true, false, not, ◌&&◌, List, [], ◌∷◌, ◌++◌, length, codes, FitsSigned, w64, refl, ap, ◌∙◌, arith}
use Rattle.std.specs.List.{list_all, list_any, flat_map, onto_first}
use Rattle.std.specs.Fmt.{decimal, signed_decimal}
use Rattle.std.specs.Str.Parse.{AllDigits}
use Rattle.std.specs.Char.{digit_value}
use Rattle.std.proofs.lemmas.Bool.{and_parts, and_from, or_from, not-true}
use Rattle.std.proofs.lemmas.Bool.Decides.{nat_tests}
use Rattle.std.proofs.lemmas.Fmt.{digits_decimal, decimal_nonempty}
use Rattle.std.proofs.lemmas.Str.Parse.{numerals_by_value, tells_digits, digit_from_value}
use Rattle.pc_base.specs.Lines.{is_feed, HasNoFeed}
use Rattle.pc_base.proofs.LineCuts.{HasNoFeed-append}
use Rattle.pc_names.specs.Name.{is_name_byte, is_name}
use Rattle.pc_names.proofs.NumberText.{small}
use Rattle.pc_file.specs.PrintedForm.{line_of}
use Rattle.pc_print.proofs.PrintedTokens.{is_word, name-word}
use Rattle.pc_names.specs.Spaces.{is_space, goes_on}
use Rattle.pc_names.specs.LineWords.{words}
use Rattle.pc_names.proofs.LineWordLemmas.{words-nil, words-space, words-last, words-more}

-- a byte of a word of a line
abbrev is_inner : ℕ → Bool
is_inner byte = not (is_space byte) && not (is_feed byte)

-- one or more such bytes
abbrev pub is_line_word : List ℕ → Bool
is_line_word [] = false
is_line_word (byte ∷ bytes) = is_inner byte && list_all is_inner bytes

no_space : (byte : ℕ) → is_inner byte ≡ true → is_space byte ≡ false
no_space byte inner = not-true (is_space byte) (and_parts (not (is_space byte)) (not (is_feed byte)) inner).0

no_feed : (byte : ℕ) → is_inner byte ≡ true → is_feed byte ≡ false
no_feed byte inner = not-true (is_feed byte) (and_parts (not (is_space byte)) (not (is_feed byte)) inner).1

-- a word, and what comes after it
word_before : (byte : ℕ) (bytes rest : List ℕ) → is_inner byte ≡ true → list_all is_inner bytes ≡ true → goes_on rest ≡ false → words (byte ∷ (bytes ++ rest)) ≡ (byte ∷ bytes) ∷ words rest
word_before byte [] rest inner all ends = words-last byte rest (no_space byte inner) ends
word_before byte (next ∷ bytes) rest inner all ends =
    let two = and_parts (is_inner next) (list_all is_inner bytes) all in
    words-more byte (next ∷ (bytes ++ rest)) (no_space byte inner) (ap not (no_space next two.0)) ∙ ap (onto_first byte) (word_before next bytes rest two.0 two.1 ends)

word_first : (word rest : List ℕ) → is_line_word word ≡ true → goes_on rest ≡ false → words (word ++ rest) ≡ word ∷ words rest
word_first [] rest is ends = absurd cc
word_first (byte ∷ bytes) rest is ends = let two = and_parts (is_inner byte) (list_all is_inner bytes) is in word_before byte bytes rest two.0 two.1 ends

word_and_more : (word : List ℕ) (more : List (List ℕ)) → is_line_word word ≡ true → list_all is_line_word more ≡ true → words (word ++ flat_map (λ w. codes " " ++ w) more) ≡ word ∷ more
word_and_more word [] is all = word_first word [] is refl ∙ ap (λ l. word ∷ l) words-nil
word_and_more word (next ∷ more) is all =
    let two = and_parts (is_line_word next) (list_all is_line_word more) all in
    let rest = next ++ flat_map (λ w. codes " " ++ w) more in
    word_first word (32 ∷ rest) is refl ∙ ap (λ l. word ∷ l) (words-space 32 rest refl ∙ word_and_more next more two.0 two.1)

-- the words of a line are those that it was made of
pub words-line_of : (ws : List (List ℕ)) → list_all is_line_word ws ≡ true → words (line_of ws) ≡ ws
words-line_of [] all = words-nil
words-line_of (word ∷ more) all = let two = and_parts (is_line_word word) (list_all is_line_word more) all in word_and_more word more two.0 two.1

-- and it has no line feed
bytes-feedless : (bytes : List ℕ) → list_all is_inner bytes ≡ true → HasNoFeed bytes
bytes-feedless [] all = refl
bytes-feedless (byte ∷ bytes) all =
    let two = and_parts (is_inner byte) (list_all is_inner bytes) all in
    or_from (is_feed byte) (list_any is_feed bytes) (no_feed byte two.0) (bytes-feedless bytes two.1)

word-feedless : (word : List ℕ) → is_line_word word ≡ true → HasNoFeed word
word-feedless [] is = refl
word-feedless (byte ∷ bytes) is = bytes-feedless (byte ∷ bytes) is

more-feedless : (more : List (List ℕ)) → list_all is_line_word more ≡ true → HasNoFeed (flat_map (λ w. codes " " ++ w) more)
more-feedless [] all = refl
more-feedless (word ∷ more) all =
    let two = and_parts (is_line_word word) (list_all is_line_word more) all in
    HasNoFeed-append (codes " " ++ word) (flat_map (λ w. codes " " ++ w) more) (word-feedless word two.0) (more-feedless more two.1)

pub line_of-feedless : (ws : List (List ℕ)) → list_all is_line_word ws ≡ true → HasNoFeed (line_of ws)
line_of-feedless [] all = refl
line_of-feedless (word ∷ more) all =
    let two = and_parts (is_line_word word) (list_all is_line_word more) all in
    HasNoFeed-append word (flat_map (λ w. codes " " ++ w) more) (word-feedless word two.0) (more-feedless more two.1)

-- ---- names and numbers

name_byte-inner : (byte : ℕ) → is_name_byte byte ≡ true → is_inner byte ≡ true
name_byte-inner byte is = and_from (not (is_space byte)) (not (is_feed byte)) (ap not (apart 32 refl)) (ap not (apart 10 refl))
  where
    apart : (other : ℕ) → is_name_byte other ≡ false → byte == other ≡ false
    apart other outside = by (byte == other) refl
      where
        by : (b : Bool) → byte == other ≡ b → b ≡ false
        by true same = let e : byte ≡ other = grind (arith, nat_tests) in let f = ap is_name_byte e in absurd cc
        by false differ = refl

name_bytes-inner : (bytes : List ℕ) → list_all is_name_byte bytes ≡ true → list_all is_inner bytes ≡ true
name_bytes-inner [] all = refl
name_bytes-inner (byte ∷ bytes) all =
    let two = and_parts (is_name_byte byte) (list_all is_name_byte bytes) all in
    and_from (is_inner byte) (list_all is_inner bytes) (name_byte-inner byte two.0) (name_bytes-inner bytes two.1)

word-line_word : (word : List ℕ) → is_word word ≡ true → is_line_word word ≡ true
word-line_word [] is = absurd cc
word-line_word (byte ∷ bytes) is = name_bytes-inner (byte ∷ bytes) is

pub name-line_word : (name : List ℕ) → is_name name ≡ true → is_line_word name ≡ true
name-line_word name is = word-line_word name (name-word name is)

digit-inner : (byte : ℕ) → digit_value byte < 10 → is_inner byte ≡ true
digit-inner byte is = let range = digit_from_value byte is in grind (arith, nat_tests)

digits-inner : (bytes : List ℕ) → AllDigits 10 bytes → list_all is_inner bytes ≡ true
digits-inner [] all = refl
digits-inner (byte ∷ bytes) all = and_from (is_inner byte) (list_all is_inner bytes) (digit-inner byte all.0) (digits-inner bytes all.1)

decimal-inner : (n : ℕ) → n < 2 ^ 64 → list_all is_inner (decimal n) ≡ true
decimal-inner n below = let own = numerals_by_value (AllDigits 10) tells_digits in digits-inner (decimal n) (digits_decimal own n below)

some-line_word : (bytes : List ℕ) → 0 < length bytes → list_all is_inner bytes ≡ true → is_line_word bytes ≡ true
some-line_word [] some all = absurd (omega arith)
some-line_word (byte ∷ bytes) some all = all

pub number-line_word : (z : ℤ) → FitsSigned w64 z → is_line_word (signed_decimal z) ≡ true
number-line_word (pos n) fits =
    let below : n < 2 ^ 64 = omega (arith, small (pos n) fits) in
    some-line_word (decimal n) (decimal_nonempty n below) (decimal-inner n below)
number-line_word (negsuc n) fits = let below : suc n < 2 ^ 64 = omega (arith, small (negsuc n) fits) in decimal-inner (suc n) below
