-- What is in the grammar is read.
use Rattle.std.proofs.Common.{◌≡◌, ℕ, zero, suc, ◌+◌, ◌≤◌, nat_lt, Bool, true, false, cond, List, [], ◌∷◌, ◌++◌, length, codes, map, Ok, refl, sym, ap, ◌∙◌, append_assoc, length-append, arith}
use Rattle.std.proofs.lemmas.Bool.{or_parts, or_from, le-ltb}
use Rattle.std.proofs.lemmas.List.{append-nil}
use Rattle.pc_file.specs.Limits.{is_reserved}
use Rattle.pc_names.specs.Spelling.{same_spelling}
use Rattle.pc_rules.specs.declared.phrase.Chain.TheVariants as chain
use Rattle.pc_rules.specs.declared.phrase.Phrase.{Phrase}
use Rattle.pc_rules.specs.declared.phrase.Phrase.TheVariants as phrase
use Rattle.pc_rules.specs.declared.token.Sign.TheVariants.{Arrow, NotEqual, Equal, Open, Close, OpenBrace, CloseBrace, Comma}
use Rattle.pc_rules.specs.declared.token.Token.{Token}
use Rattle.pc_rules.specs.declared.token.Token.TheVariants.{Mark, Word}
use Rattle.pc_rules.specs.Parsed.{Parsed}
use Rattle.pc_rules.specs.Token.{one_if_open, one_if_closed, is_deep_after, is_too_deep}
use Rattle.pc_base.specs.Reader.{and_then, ◌>>=◌, ◌>>◌, pure}
use Rattle.pc_rules.specs.Words.{TokenReader, refused, same_sign, sees, sees_word, past, eat, eat_word, expect, word, variable, several_from, several, listed, row}
use Rattle.pc_rules.specs.Reading.{one_of, comparison, same, are_as_long, table, chained, joined, parenthesized, at_most, named, atom, negation, member, implication, rule_at, only, phrase_of}
use Rattle.pc_rules.specs.Grammar.{parted, alone_word, IsFree, AreFree, AreRows, SpellsPhrase, SpellsPhrases}
use Rattle.pc_rules.specs.Grammar as grammar
use Rattle.pc_rules.proofs.Readers.{the_pair, same_word-true}
use Rattle.pc_rules.proofs.Spellers.{EachRead, nothing, also, several-reads, words-read, variables-read, rows-read}
use Rattle.pc_rules.proofs.Depth.{balanced}
use Rattle.pc_rules.proofs.Shallow.{parts, first_part, past_token, opened, split}

-- a phrase in such a place ends before this rest
pub record Ends (place : ℕ) (rest : List Token) : Type 0 where
  pub no_and : place ≤ 2 → sees_word (codes "and") rest ≡ false
  pub no_or : place ≤ 1 → sees_word (codes "or") rest ≡ false
  pub no_arrow : place ≤ 0 → sees Arrow rest ≡ false

-- the rest is what follows also in a higher place
ends_above : (place above : ℕ) (rest : List Token) → place ≤ above → Ends place rest → Ends above rest
ends_above place above rest le ends = record {
  no_and = λ at. ends.no_and (omega arith);
  no_or = λ at. ends.no_or (omega arith);
  no_arrow = λ at. ends.no_arrow (omega arith);
}

-- ---- forms without a rule inside

-- a name that is free is none of the words of the language
record IsOther (name : List ℕ) : Type 0 where
  no_same : same_spelling name (codes "same") ≡ false
  no_at_most : same_spelling name (codes "atmost") ≡ false
  no_table : same_spelling name (codes "table") ≡ false

other : (name : List ℕ) → IsFree name → IsOther name
other name free =
    let a = or_parts (same_spelling name (codes "and")) _ free in
    let b = or_parts (same_spelling name (codes "or")) _ a.1 in
    let c = or_parts (same_spelling name (codes "not")) _ b.1 in
    let d = or_parts (same_spelling name (codes "in")) _ c.1 in
    let e = or_parts (same_spelling name (codes "same")) _ d.1 in
    let f = or_parts (same_spelling name (codes "atmost")) _ e.1 in
    let g = or_parts (same_spelling name (codes "table")) _ f.1 in
    record { no_same = e.0; no_at_most = f.0; no_table = g.0 }

comparison-is : (v a : List ℕ) (rest : List Token) → comparison v (Mark Equal ∷ Word a ∷ rest) ≡ Ok (phrase.Is v a, rest)
unfolding comparison sees same_sign word
comparison-is v a rest = refl

comparison-is_not : (v a : List ℕ) (rest : List Token) → comparison v (Mark NotEqual ∷ Word a ∷ rest) ≡ Ok (phrase.IsNot v a, rest)
unfolding comparison sees same_sign word
comparison-is_not v a rest = refl

one_of-reads : (v : List ℕ) (values : List (List ℕ)) (rest : List Token) → 1 ≤ length values →
    one_of v (Word (codes "in") ∷ Mark OpenBrace ∷ (parted (Mark Comma) (map alone_word values) ++ Mark CloseBrace ∷ rest)) ≡ Ok (phrase.OneOf v values, rest)
unfolding one_of sees_word expect sees same_sign
one_of-reads v values rest many = ap (λ o. and_then o (λ these. expect CloseBrace >> pure (phrase.OneOf v these))) (words-read values (Mark CloseBrace ∷ rest) many refl)

comparison-in : (v : List ℕ) (values : List (List ℕ)) (rest : List Token) → 1 ≤ length values →
    comparison v (Word (codes "in") ∷ Mark OpenBrace ∷ (parted (Mark Comma) (map alone_word values) ++ Mark CloseBrace ∷ rest)) ≡ Ok (phrase.OneOf v values, rest)
unfolding comparison sees
comparison-in v values rest many = one_of-reads v values rest many

same-reads : (v w : List ℕ) (rest : List Token) → IsFree v → IsFree w → same (Mark Open ∷ Word v ∷ Mark Comma ∷ Word w ∷ Mark Close ∷ rest) ≡ Ok (phrase.Same v w, rest)
unfolding same expect sees same_sign variable word
same-reads v w rest free free_too =
    ap (λ b. and_then ((cond b refused (pure v)) (Mark Comma ∷ Word w ∷ Mark Close ∷ rest)) (λ first. expect Comma >> (variable >>= λ second. expect Close >> pure (phrase.Same first second)))) free
    ∙ ap (λ b. and_then ((cond b refused (pure w)) (Mark Close ∷ rest)) (λ second. expect Close >> pure (phrase.Same v second))) free_too

table-reads : (vs : List (List ℕ)) (rows : List (List (List ℕ))) (rest : List Token) → 1 ≤ length vs → AreFree vs → 1 ≤ length rows → AreRows rows → are_as_long vs rows ≡ true →
    table (Mark Open ∷ (parted (Mark Comma) (map alone_word vs) ++ (Mark Close ∷ Mark OpenBrace ∷ (parted (Mark Comma) (map (map Word) rows) ++ (Mark CloseBrace ∷ rest))))) ≡ Ok (phrase.Table vs rows, rest)
unfolding table expect sees same_sign
table-reads vs rows rest many free some are fit =
    let after = parted (Mark Comma) (map (map Word) rows) ++ (Mark CloseBrace ∷ rest) in
    let end : List (List ℕ) → List (List (List ℕ)) → TokenReader Phrase = λ these found. expect CloseBrace >> cond (are_as_long these found) (pure (phrase.Table these found)) refused in
    ap (λ o. and_then o (λ these. expect Close >> (expect OpenBrace >> (listed row >>= end these)))) (variables-read vs (Mark Close ∷ Mark OpenBrace ∷ after) many free refl)
    ∙ ap (λ o. and_then o (end vs)) (rows-read rows (Mark CloseBrace ∷ rest) some are (record { sign = CloseBrace; after = rest; is = refl }) refl)
    ∙ ap (λ b. (cond b (pure (phrase.Table vs rows)) refused) rest) fit

-- ---- forms with rules inside

-- a chain of one member
several-one : (item : TokenReader Phrase) (joint : List ℕ) (p : Phrase) (ts rest : List Token) → 1 ≤ length ts → item ts ≡ Ok (p, rest) → sees_word joint rest ≡ false → several item (eat_word joint) ts ≡ Ok (p ∷ [], rest)
unfolding several_from
several-one item joint p [] rest many e end = absurd (omega arith)
several-one item joint p (t ∷ ts) rest many e end =
    let on : List Phrase → TokenReader (List Phrase) = several_from item (eat_word joint) (length ts) in
    ap (λ o. and_then o (λ next. eat_word joint >>= λ more. cond more (on (next ∷ [])) (pure (next ∷ [])))) e
    ∙ ap (λ b. (cond b (on (p ∷ [])) (pure (p ∷ []))) (past b rest)) end

joined-and : (item : TokenReader Phrase) (p : Phrase) (ts rest : List Token) → 1 ≤ length ts → item ts ≡ Ok (p, rest) → sees_word (codes "and") rest ≡ false → joined chain.And item ts ≡ Ok (p, rest)
unfolding joined
joined-and item p ts rest many e end = ap (λ o. and_then o (λ members. pure (chained chain.And members))) (several-one item (codes "and") p ts rest many e end)

joined-or : (item : TokenReader Phrase) (p : Phrase) (ts rest : List Token) → 1 ≤ length ts → item ts ≡ Ok (p, rest) → sees_word (codes "or") rest ≡ false → joined chain.Or item ts ≡ Ok (p, rest)
unfolding joined
joined-or item p ts rest many e end = ap (λ o. and_then o (λ members. pure (chained chain.Or members))) (several-one item (codes "or") p ts rest many e end)

joined-all : (item : TokenReader Phrase) (p q : Phrase) (ps : List Phrase) (ts rest : List Token) → several item (eat_word (codes "and")) ts ≡ Ok (p ∷ q ∷ ps, rest) → joined chain.And item ts ≡ Ok (phrase.And (p ∷ q ∷ ps), rest)
unfolding joined
joined-all item p q ps ts rest e = ap (λ o. and_then o (λ members. pure (chained chain.And members))) e

joined-any : (item : TokenReader Phrase) (p q : Phrase) (ps : List Phrase) (ts rest : List Token) → several item (eat_word (codes "or")) ts ≡ Ok (p ∷ q ∷ ps, rest) → joined chain.Or item ts ≡ Ok (phrase.Or (p ∷ q ∷ ps), rest)
unfolding joined
joined-any item p q ps ts rest e = ap (λ o. and_then o (λ members. pure (chained chain.Or members))) e

module _ (rule : TokenReader Phrase) where
  named-other : (name : List ℕ) → IsFree name → (ts : List Token) → named rule name ts ≡ comparison name ts
  unfolding named
  named-other name free ts =
      let o = other name free in
      let last : TokenReader Phrase = cond (is_reserved name) refused (comparison name) in
      let third : TokenReader Phrase = cond (same_spelling name (codes "table")) table last in
      let second : TokenReader Phrase = cond (same_spelling name (codes "atmost")) (at_most rule) third in
      ap (λ b. (cond b same second) ts) o.no_same ∙ ap (λ b. (cond b (at_most rule) third) ts) o.no_at_most ∙ ap (λ b. (cond b table last) ts) o.no_table ∙ ap (λ b. (cond b refused (comparison name)) ts) free

  atom-word : (name : List ℕ) (ts : List Token) → atom rule (Word name ∷ ts) ≡ named rule name ts
  unfolding atom sees word
  atom-word name ts = refl

  atom-is : (v a : List ℕ) (rest : List Token) → IsFree v → atom rule (Word v ∷ Mark Equal ∷ Word a ∷ rest) ≡ Ok (phrase.Is v a, rest)
  atom-is v a rest free = atom-word v (Mark Equal ∷ Word a ∷ rest) ∙ named-other v free (Mark Equal ∷ Word a ∷ rest) ∙ comparison-is v a rest

  atom-is_not : (v a : List ℕ) (rest : List Token) → IsFree v → atom rule (Word v ∷ Mark NotEqual ∷ Word a ∷ rest) ≡ Ok (phrase.IsNot v a, rest)
  atom-is_not v a rest free = atom-word v (Mark NotEqual ∷ Word a ∷ rest) ∙ named-other v free (Mark NotEqual ∷ Word a ∷ rest) ∙ comparison-is_not v a rest

  atom-one_of : (v : List ℕ) (values : List (List ℕ)) (rest : List Token) → IsFree v → 1 ≤ length values →
      atom rule (Word v ∷ Word (codes "in") ∷ Mark OpenBrace ∷ (parted (Mark Comma) (map alone_word values) ++ Mark CloseBrace ∷ rest)) ≡ Ok (phrase.OneOf v values, rest)
  atom-one_of v values rest free many =
      let ts = Word (codes "in") ∷ Mark OpenBrace ∷ (parted (Mark Comma) (map alone_word values) ++ Mark CloseBrace ∷ rest) in
      atom-word v ts ∙ named-other v free ts ∙ comparison-in v values rest many

  named-same : (ts : List Token) → named rule (codes "same") ts ≡ same ts
  unfolding named
  named-same ts = refl

  named-table : (ts : List Token) → named rule (codes "table") ts ≡ table ts
  unfolding named
  named-table ts = refl

  named-at_most : (ts : List Token) → named rule (codes "atmost") ts ≡ at_most rule ts
  unfolding named
  named-at_most ts = refl

  atom-parentheses : (p : Phrase) (ts rest : List Token) → rule ts ≡ Ok (p, Mark Close ∷ rest) → atom rule (Mark Open ∷ ts) ≡ Ok (p, rest)
  unfolding atom parenthesized expect sees same_sign
  atom-parentheses p ts rest e = ap (λ o. and_then o (λ inner. expect Close >> pure inner)) e

  at_most-reads : (k : List ℕ) (members : List Phrase) (ts rest : List Token) → listed rule ts ≡ Ok (members, Mark Close ∷ rest) → at_most rule (Word k ∷ Mark Open ∷ ts) ≡ Ok (phrase.AtMost k members, rest)
  unfolding at_most expect sees same_sign word
  at_most-reads k members ts rest e = ap (λ o. and_then o (λ these. expect Close >> pure (phrase.AtMost k these))) e

  -- no atom begins with `not`
  no_atom : (p : Phrase) (ts rest : List Token) → atom rule (Word (codes "not") ∷ ts) ≡ Ok (p, rest) → ⊥
  unfolding atom sees word named
  no_atom p ts rest e = absurd cc

  negation-not : (p : Phrase) (ts rest : List Token) → atom rule ts ≡ Ok (p, rest) → negation rule (Word (codes "not") ∷ ts) ≡ Ok (phrase.Not p, rest)
  unfolding negation sees_word
  negation-not p ts rest e = ap (λ o. and_then o (λ inner. pure (phrase.Not inner))) e

  -- ---- what binds more than its place asks

  negation-atom : (p : Phrase) (ts rest : List Token) → atom rule ts ≡ Ok (p, rest) → negation rule ts ≡ Ok (p, rest)
  unfolding negation sees_word
  negation-atom p [] rest e = e
  negation-atom p (Mark sign ∷ ts) rest e = e
  negation-atom p (Word w ∷ ts) rest e = by (same_spelling w (codes "not")) refl
    where
      by : (b : Bool) → same_spelling w (codes "not") ≡ b → (cond b (atom rule >>= λ inner. pure (phrase.Not inner)) (atom rule)) (past b (Word w ∷ ts)) ≡ Ok (p, rest)
      by true is = absurd (no_atom p ts rest (ap (λ v. atom rule (Word v ∷ ts)) (sym (same_word-true w (codes "not") is)) ∙ e))
      by false is = e

  implication-or : (p : Phrase) (ts rest : List Token) → joined chain.Or (member rule chain.Or) ts ≡ Ok (p, rest) → sees Arrow rest ≡ false → implication rule ts ≡ Ok (p, rest)
  unfolding implication
  implication-or p ts rest e end =
      let conclude : Phrase → TokenReader Phrase = λ premise. joined chain.Or (member rule chain.Or) >>= λ conclusion. pure (phrase.Implies premise conclusion) in
      ap (λ o. and_then o (λ premise. eat Arrow >>= λ found. cond found (conclude premise) (pure premise))) e
      ∙ ap (λ b. (cond b (conclude p) (pure p)) (past b rest)) end

  implication-implies : (p q : Phrase) (ts us rest : List Token) → joined chain.Or (member rule chain.Or) ts ≡ Ok (p, Mark Arrow ∷ us) → joined chain.Or (member rule chain.Or) us ≡ Ok (q, rest) →
      implication rule ts ≡ Ok (phrase.Implies p q, rest)
  unfolding implication sees same_sign
  implication-implies p q ts us rest e f =
      let conclude : Phrase → TokenReader Phrase = λ premise. joined chain.Or (member rule chain.Or) >>= λ conclusion. pure (phrase.Implies premise conclusion) in
      ap (λ o. and_then o (λ premise. eat Arrow >>= λ found. cond found (conclude premise) (pure premise))) e
      ∙ ap (λ o. and_then o (λ conclusion. pure (phrase.Implies p conclusion))) f

  -- the reader of a place
  abbrev reader_at : ℕ → TokenReader Phrase
  reader_at zero = implication rule
  reader_at (suc zero) = joined chain.Or (member rule chain.Or)
  reader_at (suc (suc zero)) = joined chain.And (member rule chain.And)
  reader_at (suc (suc (suc zero))) = negation rule
  reader_at (suc (suc (suc (suc place)))) = atom rule

  and_of_negation : (p : Phrase) (ts rest : List Token) → 1 ≤ length ts → negation rule ts ≡ Ok (p, rest) → sees_word (codes "and") rest ≡ false → joined chain.And (member rule chain.And) ts ≡ Ok (p, rest)
  unfolding member
  and_of_negation p ts rest many e end = joined-and (negation rule) p ts rest many e end

  or_of_and : (p : Phrase) (ts rest : List Token) → 1 ≤ length ts → joined chain.And (member rule chain.And) ts ≡ Ok (p, rest) → sees_word (codes "or") rest ≡ false → joined chain.Or (member rule chain.Or) ts ≡ Ok (p, rest)
  unfolding member
  or_of_and p ts rest many e end = joined-or (joined chain.And (negation rule)) p ts rest many e end

  module _ (p : Phrase) (ts rest : List Token) (many : 1 ≤ length ts) where
    from_or : (place : ℕ) → place ≤ 1 → joined chain.Or (member rule chain.Or) ts ≡ Ok (p, rest) → Ends place rest → reader_at place ts ≡ Ok (p, rest)
    from_or zero low e ends = implication-or p ts rest e (ends.no_arrow (omega arith))
    from_or (suc zero) low e ends = e
    from_or (suc (suc place)) low e ends = absurd (omega arith)

    from_and : (place : ℕ) → place ≤ 2 → joined chain.And (member rule chain.And) ts ≡ Ok (p, rest) → Ends place rest → reader_at place ts ≡ Ok (p, rest)
    from_and zero low e ends = from_or zero (omega arith) (or_of_and p ts rest many e (ends.no_or (omega arith))) ends
    from_and (suc zero) low e ends = or_of_and p ts rest many e (ends.no_or (omega arith))
    from_and (suc (suc zero)) low e ends = e
    from_and (suc (suc (suc place))) low e ends = absurd (omega arith)

    from_negation : (place : ℕ) → place ≤ 3 → negation rule ts ≡ Ok (p, rest) → Ends place rest → reader_at place ts ≡ Ok (p, rest)
    from_negation zero low e ends = from_and zero (omega arith) (and_of_negation p ts rest many e (ends.no_and (omega arith))) ends
    from_negation (suc zero) low e ends = from_and (suc zero) (omega arith) (and_of_negation p ts rest many e (ends.no_and (omega arith))) ends
    from_negation (suc (suc zero)) low e ends = and_of_negation p ts rest many e (ends.no_and (omega arith))
    from_negation (suc (suc (suc zero))) low e ends = e
    from_negation (suc (suc (suc (suc place)))) low e ends = absurd (omega arith)

    from_atom : (place : ℕ) → atom rule ts ≡ Ok (p, rest) → Ends place rest → reader_at place ts ≡ Ok (p, rest)
    from_atom zero e ends = from_negation zero (omega arith) (negation-atom p ts rest e) ends
    from_atom (suc zero) e ends = from_negation (suc zero) (omega arith) (negation-atom p ts rest e) ends
    from_atom (suc (suc zero)) e ends = from_negation (suc (suc zero)) (omega arith) (negation-atom p ts rest e) ends
    from_atom (suc (suc (suc zero))) e ends = negation-atom p ts rest e
    from_atom (suc (suc (suc (suc place)))) e ends = e

-- ---- texts have tokens

mutual
  filled : {place : ℕ} {p : Phrase} {text : List Token} → SpellsPhrase place p text → 1 ≤ length text
  filled (grammar.parentheses place s) = omega arith
  filled (grammar.is place v a free) = omega arith
  filled (grammar.is_not place v a free) = omega arith
  filled (grammar.one_of place v values free some) = omega arith
  filled (grammar.not at s) = omega arith
  filled (grammar.and at two each) = filled_each each (omega arith) (Word (codes "and"))
  filled (grammar.or at two each) = filled_each each (omega arith) (Word (codes "or"))
  filled (grammar.implies {text = text} {next = next} at s t) = let e = filled s in let g = length-append text (Mark Arrow ∷ next) in omega (arith, e, g)
  filled (grammar.same place v w free other) = omega arith
  filled (grammar.at_most place most some each) = omega arith
  filled (grammar.table place variables rows some free some_rows are fit) = omega arith

  filled_each : {place : ℕ} {ps : List Phrase} {texts : List (List Token)} → SpellsPhrases place ps texts → 1 ≤ length ps → (between : Token) → 1 ≤ length (parted between texts)
  filled_each (grammar.none place) some between = absurd (omega arith)
  filled_each (grammar.more {text = text} {texts = texts} s each) some between = first texts (filled s)
    where
      first : (texts : List (List Token)) → 1 ≤ length text → 1 ≤ length (parted between (text ∷ texts))
      first [] e = e
      first (next ∷ texts) e = let g = length-append text (between ∷ parted between (next ∷ texts)) in omega (arith, e, g)

-- ---- what may follow

ends-comma : (us : List Token) → Ends 0 (Mark Comma ∷ us)
unfolding sees sees_word same_sign
ends-comma us = record { no_and = λ _. refl; no_or = λ _. refl; no_arrow = λ _. refl }

ends-close : (us : List Token) → Ends 0 (Mark Close ∷ us)
unfolding sees sees_word same_sign
ends-close us = record { no_and = λ _. refl; no_or = λ _. refl; no_arrow = λ _. refl }

ends-nothing : Ends 0 []
unfolding sees sees_word
ends-nothing = record { no_and = λ _. refl; no_or = λ _. refl; no_arrow = λ _. refl }

ends-arrow : (us : List Token) → Ends 1 (Mark Arrow ∷ us)
unfolding sees_word
ends-arrow us = record { no_and = λ _. refl; no_or = λ _. refl; no_arrow = λ at. absurd (omega arith) }

ends-or : (us : List Token) → Ends 2 (Word (codes "or") ∷ us)
unfolding sees_word
ends-or us = record { no_and = λ _. refl; no_or = λ at. absurd (omega arith); no_arrow = λ at. absurd (omega arith) }

ends-high : (place : ℕ) (us : List Token) → 3 ≤ place → Ends place us
ends-high place us high = record { no_and = λ at. absurd (omega arith); no_or = λ at. absurd (omega arith); no_arrow = λ at. absurd (omega arith) }

eat_word-takes : (joint : List ℕ) (us : List Token) → same_spelling joint joint ≡ true → eat_word joint (Word joint ∷ us) ≡ Ok (true, us)
unfolding sees_word
eat_word-takes joint us same = ap (λ b. Ok (b, past b (Word joint ∷ us))) same

eat_word-stops : (joint : List ℕ) (rest : List Token) → sees_word joint rest ≡ false → eat_word joint rest ≡ Ok (false, rest)
eat_word-stops joint rest e = ap (λ b. Ok (b, past b rest)) e

comma-takes : (us : List Token) → eat Comma (Mark Comma ∷ us) ≡ Ok (true, us)
unfolding sees same_sign
comma-takes us = refl

comma-stops : (rest : List Token) → eat Comma (Mark Close ∷ rest) ≡ Ok (false, Mark Close ∷ rest)
unfolding sees same_sign
comma-stops rest = refl

-- a chain that is read item by item
and-read : (item : TokenReader Phrase) (ps : List Phrase) (texts : List (List Token)) (rest : List Token) → 2 ≤ length ps → EachRead item (eat_word (codes "and")) (Word (codes "and")) (Ends 3) ps texts → sees_word (codes "and") rest ≡ false →
    joined chain.And item (parted (Word (codes "and")) texts ++ rest) ≡ Ok (phrase.And ps, rest)
and-read item [] texts rest two each end = absurd (omega arith)
and-read item (p ∷ []) texts rest two each end = absurd (omega arith)
and-read item (p ∷ q ∷ ps) [] rest two each end = elim each [ ]
and-read item (p ∷ q ∷ ps) (text ∷ texts) rest two (also first each) end =
    joined-all item p q ps (parted (Word (codes "and")) (text ∷ texts) ++ rest) rest
    (several-reads item (eat_word (codes "and")) (Word (codes "and")) (Ends 3) (λ us. eat_word-takes (codes "and") us refl) (λ us. ends-high 3 (Word (codes "and") ∷ us) (omega arith)) p text (q ∷ ps) texts rest first each
    (ends-high 3 rest (omega arith)) (eat_word-stops (codes "and") rest end))

or-read : (item : TokenReader Phrase) (ps : List Phrase) (texts : List (List Token)) (rest : List Token) → 2 ≤ length ps → EachRead item (eat_word (codes "or")) (Word (codes "or")) (Ends 2) ps texts → Ends 2 rest → sees_word (codes "or") rest ≡ false →
    joined chain.Or item (parted (Word (codes "or")) texts ++ rest) ≡ Ok (phrase.Or ps, rest)
or-read item [] texts rest two each ends end = absurd (omega arith)
or-read item (p ∷ []) texts rest two each ends end = absurd (omega arith)
or-read item (p ∷ q ∷ ps) [] rest two each ends end = elim each [ ]
or-read item (p ∷ q ∷ ps) (text ∷ texts) rest two (also first each) ends end =
    joined-any item p q ps (parted (Word (codes "or")) (text ∷ texts) ++ rest) rest
    (several-reads item (eat_word (codes "or")) (Word (codes "or")) (Ends 2) (λ us. eat_word-takes (codes "or") us refl) ends-or p text (q ∷ ps) texts rest first each ends (eat_word-stops (codes "or") rest end))

members-read : (item : TokenReader Phrase) (ps : List Phrase) (texts : List (List Token)) (rest : List Token) → 1 ≤ length ps → EachRead item (eat Comma) (Mark Comma) (Ends 0) ps texts →
    listed item (parted (Mark Comma) texts ++ Mark Close ∷ rest) ≡ Ok (ps, Mark Close ∷ rest)
unfolding listed
members-read item [] texts rest some each = absurd (omega arith)
members-read item (p ∷ ps) [] rest some each = elim each [ ]
members-read item (p ∷ ps) (text ∷ texts) rest some (also first each) =
    several-reads item (eat Comma) (Mark Comma) (Ends 0) comma-takes ends-comma p text ps texts (Mark Close ∷ rest) first each (ends-close rest) (comma-stops rest)

module _ (limit : ℕ) where
  mutual
    unfolding rule_at member

    -- the text of a phrase in a place is read, whatever follows that doesn't go on
    complete : {place : ℕ} {p : Phrase} {text : List Token} → SpellsPhrase place p text → (depth o c : ℕ) → depth + o ≡ c + limit → is_deep_after limit o c text ≡ false →
        (rest : List Token) → Ends place rest → reader_at (rule_at depth) place (text ++ rest) ≡ Ok (p, rest)
    complete (grammar.parentheses place {text = text} s) zero o c sum flat rest ends = let inside = opened limit (text ++ Mark Close ∷ []) o c flat in absurd (omega (arith, inside.0, sum))
    complete (grammar.parentheses place {rule = p} {text = text} s) (suc depth) o c sum flat rest ends =
        let inside = opened limit (text ++ Mark Close ∷ []) o c flat in
        let inner = parts limit text (Mark Close ∷ []) (suc o) c (balanced s) inside.1 in
        let front : (text ++ Mark Close ∷ []) ++ rest ≡ text ++ Mark Close ∷ rest = append_assoc text (Mark Close ∷ []) rest in
        let read = complete s depth (suc o) c (omega (arith, sum)) inner.0 (Mark Close ∷ rest) (ends-close rest) in
        let whole = atom-parentheses (rule_at (suc depth)) p ((text ++ Mark Close ∷ []) ++ rest) rest (ap (rule_at (suc depth)) front ∙ read) in
        from_atom (rule_at (suc depth)) p (Mark Open ∷ ((text ++ Mark Close ∷ []) ++ rest)) rest (omega arith) place whole ends
    complete (grammar.is place v a free) depth o c sum flat rest ends =
        from_atom (rule_at depth) (phrase.Is v a) (Word v ∷ Mark Equal ∷ Word a ∷ rest) rest (omega arith) place (atom-is (rule_at depth) v a rest free) ends
    complete (grammar.is_not place v a free) depth o c sum flat rest ends =
        from_atom (rule_at depth) (phrase.IsNot v a) (Word v ∷ Mark NotEqual ∷ Word a ∷ rest) rest (omega arith) place (atom-is_not (rule_at depth) v a rest free) ends
    complete (grammar.one_of place v values free some) depth o c sum flat rest ends =
        let text = parted (Mark Comma) (map alone_word values) in
        let front : (text ++ Mark CloseBrace ∷ []) ++ rest ≡ text ++ Mark CloseBrace ∷ rest = append_assoc text (Mark CloseBrace ∷ []) rest in
        let head : List Token → List Token = λ ts. Word v ∷ Word (codes "in") ∷ Mark OpenBrace ∷ ts in
        from_atom (rule_at depth) (phrase.OneOf v values) (head ((text ++ Mark CloseBrace ∷ []) ++ rest)) rest (omega arith) place (ap (λ ts. atom (rule_at depth) (head ts)) front ∙ atom-one_of (rule_at depth) v values rest free some) ends
    complete (grammar.not {place = place} {rule = p} {text = text} at s) depth o c sum flat rest ends =
        let inner = complete s depth o c sum (past_token limit (Word (codes "not")) text o c refl refl flat) rest (ends-high 4 rest (omega arith)) in
        from_negation (rule_at depth) (phrase.Not p) (Word (codes "not") ∷ (text ++ rest)) rest (omega arith) place at (negation-not (rule_at depth) p (text ++ rest) rest inner) ends
    complete (grammar.and {place = place} {rules = ps} {texts = texts} at two each) depth o c sum flat rest ends =
        let read = and-read (negation (rule_at depth)) ps texts rest two (complete_each each (eat_word (codes "and")) (Word (codes "and")) refl refl depth o c sum flat) (ends.no_and at) in
        let some = filled_each each (omega arith) (Word (codes "and")) in
        let count = length-append (parted (Word (codes "and")) texts) rest in
        from_and (rule_at depth) (phrase.And ps) (parted (Word (codes "and")) texts ++ rest) rest (omega (arith, some, count)) place at read ends
    complete (grammar.or {place = place} {rules = ps} {texts = texts} at two each) depth o c sum flat rest ends =
        let read = or-read (joined chain.And (negation (rule_at depth))) ps texts rest two (complete_each each (eat_word (codes "or")) (Word (codes "or")) refl refl depth o c sum flat) (ends_above place 2 rest (omega arith) ends) (ends.no_or at) in
        let some = filled_each each (omega arith) (Word (codes "or")) in
        let count = length-append (parted (Word (codes "or")) texts) rest in
        from_or (rule_at depth) (phrase.Or ps) (parted (Word (codes "or")) texts ++ rest) rest (omega (arith, some, count)) place at read ends
    complete (grammar.implies {place = suc place} at s t) depth o c sum flat rest ends = absurd (omega arith)
    complete (grammar.implies {place = zero} {premise = p} {conclusion = q} {text = text} {next = next} at s t) depth o c sum flat rest ends =
        let both = parts limit text (Mark Arrow ∷ next) o c (balanced s) flat in
        let first = complete s depth o c sum both.0 (Mark Arrow ∷ (next ++ rest)) (ends-arrow (next ++ rest)) in
        let second = complete t depth o c sum (past_token limit (Mark Arrow) next o c refl refl both.1) rest (ends_above 0 1 rest (omega arith) ends) in
        let front : (text ++ Mark Arrow ∷ next) ++ rest ≡ text ++ Mark Arrow ∷ (next ++ rest) = append_assoc text (Mark Arrow ∷ next) rest in
        ap (implication (rule_at depth)) front ∙ implication-implies (rule_at depth) p q (text ++ Mark Arrow ∷ (next ++ rest)) (next ++ rest) rest first second
    complete (grammar.same place v w free free_too) depth o c sum flat rest ends =
        let after = Mark Open ∷ Word v ∷ Mark Comma ∷ Word w ∷ Mark Close ∷ rest in
        from_atom (rule_at depth) (phrase.Same v w) (Word (codes "same") ∷ after) rest (omega arith) place (atom-word (rule_at depth) (codes "same") after ∙ named-same (rule_at depth) after ∙ same-reads v w rest free free_too) ends
    complete (grammar.at_most place k {texts = texts} some each) zero o c sum flat rest ends =
        let members = parted (Mark Comma) texts in
        let inside = opened limit (members ++ Mark Close ∷ []) o c (past_token limit (Word k) (Mark Open ∷ members ++ Mark Close ∷ []) o c refl refl (past_token limit (Word (codes "atmost")) (Word k ∷ Mark Open ∷ members ++ Mark Close ∷ []) o c refl refl flat)) in
        absurd (omega (arith, inside.0, sum))
    complete (grammar.at_most place k {rules = ps} {texts = texts} some each) (suc depth) o c sum flat rest ends =
        let members = parted (Mark Comma) texts in
        let inside = opened limit (members ++ Mark Close ∷ []) o c (past_token limit (Word k) (Mark Open ∷ members ++ Mark Close ∷ []) o c refl refl (past_token limit (Word (codes "atmost")) (Word k ∷ Mark Open ∷ members ++ Mark Close ∷ []) o c refl refl flat)) in
        let first = first_part limit members (Mark Close ∷ []) (suc o) c inside.1 in
        let read = members-read (rule_at (suc depth)) ps texts rest some (complete_each each (eat Comma) (Mark Comma) refl refl depth (suc o) c (omega (arith, sum)) first) in
        let front : (members ++ Mark Close ∷ []) ++ rest ≡ members ++ Mark Close ∷ rest = append_assoc members (Mark Close ∷ []) rest in
        let after = Word k ∷ Mark Open ∷ ((members ++ Mark Close ∷ []) ++ rest) in
        let whole = atom-word (rule_at (suc depth)) (codes "atmost") after ∙ named-at_most (rule_at (suc depth)) after
        ∙ at_most-reads (rule_at (suc depth)) k ps ((members ++ Mark Close ∷ []) ++ rest) rest (ap (listed (rule_at (suc depth))) front ∙ read) in
        from_atom (rule_at (suc depth)) (phrase.AtMost k ps) (Word (codes "atmost") ∷ after) rest (omega arith) place whole ends
    complete (grammar.table place vs rows some free some_rows are fit) depth o c sum flat rest ends =
        let vtext = parted (Mark Comma) (map alone_word vs) in
        let rtext = parted (Mark Comma) (map (map Word) rows) in
        let tail = (vtext ++ Mark Close ∷ Mark OpenBrace ∷ rtext ++ Mark CloseBrace ∷ []) ++ rest in
        let front : tail ≡ vtext ++ (Mark Close ∷ Mark OpenBrace ∷ (rtext ++ (Mark CloseBrace ∷ rest))) =
        append_assoc (vtext ++ Mark Close ∷ Mark OpenBrace ∷ rtext) (Mark CloseBrace ∷ []) rest ∙ append_assoc vtext (Mark Close ∷ Mark OpenBrace ∷ rtext) (Mark CloseBrace ∷ rest) in
        let whole = atom-word (rule_at depth) (codes "table") (Mark Open ∷ tail) ∙ named-table (rule_at depth) (Mark Open ∷ tail) ∙ ap (λ ts. table (Mark Open ∷ ts)) front ∙ table-reads vs rows rest some free some_rows are fit in
        from_atom (rule_at depth) (phrase.Table vs rows) (Word (codes "table") ∷ Mark Open ∷ tail) rest (omega arith) place whole ends

    complete_each : {place : ℕ} {ps : List Phrase} {texts : List (List Token)} → SpellsPhrases place ps texts → (joint : TokenReader Bool) (between : Token) → one_if_open between ≡ 0 → one_if_closed between ≡ 0 →
        (depth o c : ℕ) → depth + o ≡ c + limit → is_deep_after limit o c (parted between texts) ≡ false → EachRead (reader_at (rule_at depth) place) joint between (Ends place) ps texts
    complete_each (grammar.none place) joint between apart apart_too depth o c sum flat = nothing
    complete_each (grammar.more {place = place} {text = text} {texts = texts} s each) joint between apart apart_too depth o c sum flat =
        let two = split limit text texts between apart apart_too o c (balanced s) flat in
        also (record { some = filled s; gives = λ rest ends. complete s depth o c sum two.0 rest ends }) (complete_each each joint between apart apart_too depth o c sum two.1)

only-all : (outcome : Parsed (Phrase × List Token)) (p : Phrase) → outcome ≡ Ok (p, []) → only outcome ≡ Ok p
only-all outcome p e = ap only e

-- what is in the grammar is read
pub phrase_of-complete : (tokens : List Token) (p : Phrase) → is_too_deep tokens ≡ false → SpellsPhrase 0 p tokens → phrase_of tokens ≡ Ok p
unfolding phrase_of is_too_deep rule_at
phrase_of-complete tokens p flat s =
    only-all (rule_at 65 tokens) p (ap (rule_at 65) (sym (append-nil tokens)) ∙ complete 64 s 64 0 0 refl flat [] ends-nothing)

-- ---- no two phrases have one spelling

open_small : (token : Token) → one_if_open token ≤ 1
open_small (Mark Open) = omega arith
open_small _ = omega arith

flat_enough : (limit : ℕ) (ts : List Token) (o c : ℕ) → o + length ts ≤ c + limit → is_deep_after limit o c ts ≡ false
flat_enough limit [] o c room = refl
flat_enough limit (t ∷ ts) o c room =
    let one = open_small t in
    or_from (nat_lt (c + one_if_closed t + limit) (o + one_if_open t)) (is_deep_after limit (o + one_if_open t) (c + one_if_closed t) ts)
    (le-ltb (c + one_if_closed t + limit) (o + one_if_open t) (omega (arith, one, room)))
    (flat_enough limit ts (o + one_if_open t) (c + one_if_closed t) (omega (arith, one, room)))

pub one_spelling : (tokens : List Token) (p q : Phrase) → SpellsPhrase 0 p tokens → SpellsPhrase 0 q tokens → p ≡ q
one_spelling tokens p q s t =
    let limit = length tokens in
    let flat = flat_enough limit tokens 0 0 (omega arith) in
    let first = complete limit s limit 0 0 (omega arith) flat [] ends-nothing in
    let second = complete limit t limit 0 0 (omega arith) flat [] ends-nothing in
    (the_pair p q [] [] (sym first ∙ second)).0
