-- What the readers of words, signs and lists make of the tokens that spell such.
use Rattle.std.proofs.Common.{◌≡◌, ℕ, zero, suc, ◌+◌, ◌≤◌, nat_le, Bool, true, false, not, cond, List, [], ◌∷◌, ◌++◌, length, map, Ok, refl, sym, ap, ◌∙◌, append_assoc, length-append, arith}
use Rattle.std.specs.List.{list_all}
use Rattle.std.proofs.lemmas.Bool.{and_parts, not-true, leb-true}
use Rattle.pc_file.specs.Limits.{is_reserved}
use Rattle.pc_rules.specs.declared.token.Sign.{Sign}
use Rattle.pc_rules.specs.declared.token.Sign.TheVariants.{Comma}
use Rattle.pc_rules.specs.declared.token.Token.{Token}
use Rattle.pc_rules.specs.declared.token.Token.TheVariants.{Mark, Word}
use Rattle.pc_base.specs.Reader.{and_then, ◌>>=◌, pure}
use Rattle.pc_rules.specs.Words.{TokenReader, refused, same_sign, sees, past, eat, expect, word, variable, several_from, several, listed, words_at, some, row}
use Rattle.pc_rules.specs.Grammar.{parted, alone_word, IsFree, AreFree, AreRows}

module _ {A : Type 0} (item : TokenReader A) (joint : TokenReader Bool) (between : Token) (Follows : List Token → Type 0) where
  -- the item reads this of the text, whatever follows
  pub record Reads (x : A) (text : List Token) : Type 0 where
    pub some : 1 ≤ length text
    pub gives : (rest : List Token) → Follows rest → item (text ++ rest) ≡ Ok (x, rest)

  pub data EachRead : List A → List (List Token) → Type 0 where
    nothing : EachRead [] []
    also : {x : A} {text : List Token} {xs : List A} {texts : List (List Token)} → Reads x text → EachRead xs texts → EachRead (x ∷ xs) (text ∷ texts)

module _ {A : Type 0} (item : TokenReader A) (joint : TokenReader Bool) (between : Token) (Follows : List Token → Type 0)
    (takes : (us : List Token) → joint (between ∷ us) ≡ Ok (true, us)) (follows : (us : List Token) → Follows (between ∷ us)) where
  several_from-reads : (turns : ℕ) (found : List A) (x : A) (text : List Token) (xs : List A) (texts : List (List Token)) (rest : List Token) → Reads item joint between Follows x text → EachRead item joint between Follows xs texts →
      suc (length texts) ≤ turns → Follows rest → joint rest ≡ Ok (false, rest) → several_from item joint turns found (parted between (text ∷ texts) ++ rest) ≡ Ok (found ++ x ∷ xs, rest)
  unfolding several_from
  several_from-reads zero found x text xs texts rest first each room end stops = absurd (omega arith)
  several_from-reads (suc turns) found x text [] [] rest first each room end stops =
      ap (λ o. and_then o (λ next. joint >>= λ more. cond more (several_from item joint turns (found ++ next ∷ [])) (pure (found ++ next ∷ [])))) (first.gives rest end)
      ∙ ap (λ o. and_then o (λ more. cond more (several_from item joint turns (found ++ x ∷ [])) (pure (found ++ x ∷ [])))) stops
  several_from-reads (suc turns) found x text [] (u ∷ us) rest first each room end stops = elim each [ ]
  several_from-reads (suc turns) found x text (y ∷ ys) [] rest first each room end stops = elim each [ ]
  several_from-reads (suc turns) found x text (y ∷ ys) (u ∷ us) rest first (also next each) room end stops =
      let others = parted between (u ∷ us) in
      let front : (text ++ between ∷ others) ++ rest ≡ text ++ between ∷ (others ++ rest) = append_assoc text (between ∷ others) rest in
      ap (several_from item joint (suc turns) found) front
      ∙ ap (λ o. and_then o (λ next. joint >>= λ more. cond more (several_from item joint turns (found ++ next ∷ [])) (pure (found ++ next ∷ [])))) (first.gives (between ∷ (others ++ rest)) (follows (others ++ rest)))
      ∙ ap (λ o. and_then o (λ more. cond more (several_from item joint turns (found ++ x ∷ [])) (pure (found ++ x ∷ [])))) (takes (others ++ rest))
      ∙ several_from-reads turns (found ++ x ∷ []) y u ys us rest next each (omega arith) end stops
      ∙ ap (λ l. Ok (l, rest)) (append_assoc found (x ∷ []) (y ∷ ys))

  as_many : (x : A) (text : List Token) (xs : List A) (texts : List (List Token)) → Reads item joint between Follows x text → EachRead item joint between Follows xs texts → suc (length texts) ≤ length (parted between (text ∷ texts))
  as_many x text [] [] first each = first.some
  as_many x text [] (u ∷ us) first each = elim each [ ]
  as_many x text (y ∷ ys) [] first each = elim each [ ]
  as_many x text (y ∷ ys) (u ∷ us) first (also next each) =
      let others = as_many y u ys us next each in
      let count : length (text ++ between ∷ parted between (u ∷ us)) ≡ length text + suc (length (parted between (u ∷ us))) = length-append text (between ∷ parted between (u ∷ us)) in
      omega (arith, others, count)

  pub several-reads : (x : A) (text : List Token) (xs : List A) (texts : List (List Token)) (rest : List Token) → Reads item joint between Follows x text → EachRead item joint between Follows xs texts →
      Follows rest → joint rest ≡ Ok (false, rest) → several item joint (parted between (text ∷ texts) ++ rest) ≡ Ok (x ∷ xs, rest)
  several-reads x text xs texts rest first each end stops =
      let whole = parted between (text ∷ texts) in
      let many = as_many x text xs texts first each in
      let count : length (whole ++ rest) ≡ length whole + length rest = length-append whole rest in
      several_from-reads (length (whole ++ rest)) [] x text xs texts rest first each (omega (arith, many, count)) end stops

-- ---- signs and words

pub expect-reads : (sign : Sign) (rest : List Token) → same_sign sign sign ≡ true → expect sign (Mark sign ∷ rest) ≡ Ok (tt, rest)
unfolding expect sees
expect-reads sign rest same = ap (λ b. and_then (Ok (b, past b (Mark sign ∷ rest))) (λ found. cond found (pure tt) refused)) same

pub word-reads : (text : List ℕ) (rest : List Token) → word (Word text ∷ rest) ≡ Ok (text, rest)
unfolding word
word-reads text rest = refl

pub variable-reads : (text : List ℕ) (rest : List Token) → IsFree text → variable (Word text ∷ rest) ≡ Ok (text, rest)
unfolding variable word
variable-reads text rest free = ap (λ b. (cond b refused (pure text)) rest) free

-- a sign comes first
pub record BeginsWithSign (rest : List Token) : Type 0 where
  pub sign : Sign
  pub after : List Token
  pub is : rest ≡ Mark sign ∷ after

words_at-reads : (words : List (List ℕ)) (sign : Sign) (after : List Token) → words_at (map Word words ++ Mark sign ∷ after) ≡ (words, Mark sign ∷ after)
words_at-reads [] sign after = refl
words_at-reads (w ∷ words) sign after = ap (λ p. (w ∷ p.0, p.1)) (words_at-reads words sign after)

pub row-reads : (words : List (List ℕ)) (rest : List Token) → 1 ≤ length words → BeginsWithSign rest → row (map Word words ++ rest) ≡ Ok (words, rest)
unfolding row
row-reads words rest many begins =
    ap (λ p. some p.0 p.1) (ap (λ r. words_at (map Word words ++ r)) begins.is ∙ words_at-reads words begins.sign begins.after) ∙ by words many ∙ ap (λ r. Ok (words, r)) (sym begins.is)
  where
    by : (words : List (List ℕ)) → 1 ≤ length words → some words (Mark begins.sign ∷ begins.after) ≡ Ok (words, Mark begins.sign ∷ begins.after)
    by [] many = absurd (omega arith)
    by (w ∷ words) many = refl

-- ---- lists with commas

abbrev Anything : List Token → Type 0
Anything rest = Unit {0}

comma : (us : List Token) → eat Comma (Mark Comma ∷ us) ≡ Ok (true, us)
unfolding sees same_sign
comma us = refl

-- no comma comes
abbrev pub NoComma : List Token → Type 0
NoComma rest = eat Comma rest ≡ Ok (false, rest)

each_word : (words : List (List ℕ)) → EachRead word (eat Comma) (Mark Comma) Anything words (map alone_word words)
each_word [] = nothing
each_word (w ∷ words) = also (record { some = omega arith; gives = λ rest _. word-reads w rest }) (each_word words)

each_variable : (words : List (List ℕ)) → AreFree words → EachRead variable (eat Comma) (Mark Comma) Anything words (map alone_word words)
each_variable [] free = nothing
each_variable (w ∷ words) free =
    let parts = and_parts (not (is_reserved w)) (list_all (λ word. not (is_reserved word)) words) free in
    also (record { some = omega arith; gives = λ rest _. variable-reads w rest (not-true (is_reserved w) parts.0) }) (each_variable words parts.1)

length-words : (words : List (List ℕ)) → length {A = Token} (map Word words) ≡ length words
length-words [] = refl
length-words (w ∷ words) = ap suc (length-words words)

each_row : (rows : List (List (List ℕ))) → AreRows rows → EachRead row (eat Comma) (Mark Comma) BeginsWithSign rows (map (map Word) rows)
each_row [] are = nothing
each_row (r ∷ rows) are =
    let parts = and_parts (nat_le 1 (length r)) (list_all (λ row. nat_le 1 (length row)) rows) are in
    let many : 1 ≤ length r = leb-true 1 (length r) parts.0 in
    also (record { some = omega (arith, many, length-words r); gives = λ rest begins. row-reads r rest many begins }) (each_row rows parts.1)

pub words-read : (words : List (List ℕ)) (rest : List Token) → 1 ≤ length words → NoComma rest → listed word (parted (Mark Comma) (map alone_word words) ++ rest) ≡ Ok (words, rest)
unfolding listed
words-read [] rest many end = absurd (omega arith)
words-read (w ∷ words) rest many end = several-reads word (eat Comma) (Mark Comma) Anything comma (λ us. tt) w (alone_word w) words (map alone_word words) rest (record { some = omega arith; gives = λ r _. word-reads w r }) (each_word words) tt end

pub variables-read : (words : List (List ℕ)) (rest : List Token) → 1 ≤ length words → AreFree words → NoComma rest → listed variable (parted (Mark Comma) (map alone_word words) ++ rest) ≡ Ok (words, rest)
unfolding listed
variables-read [] rest many free end = absurd (omega arith)
variables-read (w ∷ words) rest many free end =
    let parts = and_parts (not (is_reserved w)) (list_all (λ word. not (is_reserved word)) words) free in
    several-reads variable (eat Comma) (Mark Comma) Anything comma (λ us. tt) w (alone_word w) words (map alone_word words) rest
    (record { some = omega arith; gives = λ r _. variable-reads w r (not-true (is_reserved w) parts.0) }) (each_variable words parts.1) tt end

pub rows-read : (rows : List (List (List ℕ))) (rest : List Token) → 1 ≤ length rows → AreRows rows → BeginsWithSign rest → NoComma rest → listed row (parted (Mark Comma) (map (map Word) rows) ++ rest) ≡ Ok (rows, rest)
unfolding listed
rows-read [] rest many are begins end = absurd (omega arith)
rows-read (r ∷ rows) rest many are begins end =
    let parts = and_parts (nat_le 1 (length r)) (list_all (λ row. nat_le 1 (length row)) rows) are in
    let one : 1 ≤ length r = leb-true 1 (length r) parts.0 in
    several-reads row (eat Comma) (Mark Comma) BeginsWithSign comma (λ us. record { sign = Comma; after = us; is = refl }) r (map Word r) rows (map (map Word) rows) rest
    (record { some = omega (arith, one, length-words r); gives = λ s begins. row-reads r s one begins }) (each_row rows parts.1) begins end
