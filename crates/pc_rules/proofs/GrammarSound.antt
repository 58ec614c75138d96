-- What is read is in the grammar.
use Rattle.std.proofs.Common.{◌≡◌, ℕ, zero, suc, ◌≤◌, Bool, true, false, cond, ◌⊎◌, inl, inr, List, [], ◌∷◌, ◌++◌, length, codes, map, Ok, Err, refl, sym, ap, subst, ◌∙◌, append_assoc, arith}
use Rattle.std.proofs.lemmas.List.{append-nil}
use Rattle.pc_file.specs.Limits.{is_reserved}
use Rattle.pc_names.specs.Spelling.{same_spelling}
use Rattle.pc_rules.specs.declared.phrase.Chain.TheVariants as chain
use Rattle.pc_rules.specs.declared.phrase.Phrase.{Phrase}
use Rattle.pc_rules.specs.declared.phrase.Phrase.TheVariants as phrase
use Rattle.pc_rules.specs.declared.token.Sign.TheVariants.{Arrow, NotEqual, Equal, Open, Close, OpenBrace, CloseBrace, Comma}
use Rattle.pc_rules.specs.declared.token.Token.{Token}
use Rattle.pc_rules.specs.declared.token.Token.TheVariants.{Mark, Word}
use Rattle.pc_rules.specs.Parsed.{Parsed}
use Rattle.pc_base.specs.Reader.{◌>>=◌, ◌>>◌, pure}
use Rattle.pc_rules.specs.Words.{TokenReader, refused, eat, eat_word, expect, word, variable, several, listed, row}
use Rattle.pc_rules.specs.Reading.{one_of, comparison, same, are_as_long, table, chained, joined, parenthesized, at_most, named, atom, negation, member, implication, rule_at, only, phrase_of}
use Rattle.pc_rules.specs.Grammar.{parted, alone_word, IsFree, AreFree, AreRows, SpellsPhrase, SpellsPhrases}
use Rattle.pc_rules.specs.Grammar as grammar
use Rattle.pc_rules.proofs.Readers.{the_value, the_pair, then_ok, branch_ok, never, same_word-true, eat_or, eat_word_or, after_expected, with_word, with_variable, eat_word-took, eat_word-left, EachBy, empty, with_first, listed-took, several-took, words-took, variables-took, rows-took}

-- the tokens up to the rest spell the phrase in such a place
abbrev pub Front : ℕ → List Token → Phrase → List Token → Type 0
Front place ts p rest = (text : List Token) × (ts ≡ text ++ rest) × SpellsPhrase place p text

-- a phrase and a rest that were answered
again : (place : ℕ) (ts : List Token) (p q : Phrase) (left rest : List Token) → ◌≡◌ {A = Parsed (Phrase × List Token)} (Ok (p, left)) (Ok (q, rest)) → Front place ts p left → Front place ts q rest
again place ts p q left rest e f =
    let parts = the_pair p q left rest e in
    (f.0, f.1 ∙ ap (λ r. f.0 ++ r) parts.1, subst (λ r. SpellsPhrase place r f.0) parts.0 f.2)

-- ---- what follows a variable's name

abbrev one_of-end : List ℕ → List (List ℕ) → TokenReader Phrase
one_of-end name values = expect CloseBrace >> pure (phrase.OneOf name values)

abbrev one_of-inside : List ℕ → TokenReader Phrase
one_of-inside name = expect OpenBrace >> (listed word >>= one_of-end name)

one_of-took : (name : List ℕ) → IsFree name → (ts : List Token) (p : Phrase) (rest : List Token) → one_of name ts ≡ Ok (p, rest) → Front 4 (Word name ∷ ts) p rest
unfolding one_of
one_of-took name free ts p rest e = by (eat_word_or (codes "in") (one_of-inside name) refused ts p rest e)
  where
    by : ((left : List Token) × (ts ≡ Word (codes "in") ∷ left) × (one_of-inside name left ≡ Ok (p, rest))) ⊎ (refused {A = Phrase} ts ≡ Ok (p, rest)) → Front 4 (Word name ∷ ts) p rest
    by (inr e) = never ts p rest e
    by (inl s) =
        let opened = after_expected OpenBrace (listed word >>= one_of-end name) s.0 p rest s.2 in
        let list = then_ok (listed word opened.0) (one_of-end name) p rest opened.2 in
        let took = words-took list.0 opened.0 list.1 list.2 in
        let close = after_expected CloseBrace (pure (phrase.OneOf name list.0)) list.1 p rest list.3 in
        let values = parted (Mark Comma) (map alone_word list.0) in
        again 4 (Word name ∷ ts) (phrase.OneOf name list.0) p close.0 rest close.2 (
          Word name ∷ Word (codes "in") ∷ Mark OpenBrace ∷ values ++ Mark CloseBrace ∷ [],
          ap (λ r. Word name ∷ r) (s.1 ∙ ap (λ r. Word (codes "in") ∷ r) (opened.1 ∙ ap (λ r. Mark OpenBrace ∷ r) (took.0 ∙ ap (λ r. values ++ r) close.1 ∙ sym (append_assoc values (Mark CloseBrace ∷ []) close.0)))),
          grammar.one_of 4 name list.0 free took.1,
        )

abbrev is-end : List ℕ → TokenReader Phrase
is-end name = word >>= λ value. pure (phrase.Is name value)

abbrev is_not-end : List ℕ → TokenReader Phrase
is_not-end name = word >>= λ value. pure (phrase.IsNot name value)

comparison-took : (name : List ℕ) → IsFree name → (ts : List Token) (p : Phrase) (rest : List Token) → comparison name ts ≡ Ok (p, rest) → Front 4 (Word name ∷ ts) p rest
unfolding comparison
comparison-took name free ts p rest e = by (eat_or Equal (is-end name) (eat NotEqual >>= λ found. cond found (is_not-end name) (one_of name)) ts p rest e)
  where
    other : ((left : List Token) × (ts ≡ Mark NotEqual ∷ left) × (is_not-end name left ≡ Ok (p, rest))) ⊎ (one_of name ts ≡ Ok (p, rest)) → Front 4 (Word name ∷ ts) p rest
    other (inl s) =
        let w = with_word (λ value. pure (phrase.IsNot name value)) s.0 p rest s.2 in
        again 4 (Word name ∷ ts) (phrase.IsNot name w.0) p w.1 rest w.3
        (Word name ∷ Mark NotEqual ∷ Word w.0 ∷ [], ap (λ r. Word name ∷ r) (s.1 ∙ ap (λ r. Mark NotEqual ∷ r) w.2), grammar.is_not 4 name w.0 free)
    other (inr e) = one_of-took name free ts p rest e

    by : ((left : List Token) × (ts ≡ Mark Equal ∷ left) × (is-end name left ≡ Ok (p, rest))) ⊎ ((eat NotEqual >>= λ found. cond found (is_not-end name) (one_of name)) ts ≡ Ok (p, rest)) → Front 4 (Word name ∷ ts) p rest
    by (inl s) =
        let w = with_word (λ value. pure (phrase.Is name value)) s.0 p rest s.2 in
        again 4 (Word name ∷ ts) (phrase.Is name w.0) p w.1 rest w.3
        (Word name ∷ Mark Equal ∷ Word w.0 ∷ [], ap (λ r. Word name ∷ r) (s.1 ∙ ap (λ r. Mark Equal ∷ r) w.2), grammar.is 4 name w.0 free)
    by (inr e) = other (eat_or NotEqual (is_not-end name) (one_of name) ts p rest e)

-- ---- `same` and `table`

abbrev same-end : List ℕ → List ℕ → TokenReader Phrase
same-end first second = expect Close >> pure (phrase.Same first second)

abbrev same-second : List ℕ → TokenReader Phrase
same-second first = expect Comma >> (variable >>= same-end first)

same-took : (ts : List Token) (p : Phrase) (rest : List Token) → same ts ≡ Ok (p, rest) → Front 4 (Word (codes "same") ∷ ts) p rest
unfolding same
same-took ts p rest e =
    let opened = after_expected Open (variable >>= same-second) ts p rest e in
    let v = with_variable same-second opened.0 p rest opened.2 in
    let comma = after_expected Comma (variable >>= same-end v.0) v.1 p rest v.4 in
    let w = with_variable (same-end v.0) comma.0 p rest comma.2 in
    let close = after_expected Close (pure (phrase.Same v.0 w.0)) w.1 p rest w.4 in
    again 4 (Word (codes "same") ∷ ts) (phrase.Same v.0 w.0) p close.0 rest close.2 (
      Word (codes "same") ∷ Mark Open ∷ Word v.0 ∷ Mark Comma ∷ Word w.0 ∷ Mark Close ∷ [],
      ap (λ r. Word (codes "same") ∷ r) (opened.1 ∙ ap (λ r. Mark Open ∷ r) (v.2 ∙ ap (λ r. Word v.0 ∷ r) (comma.1 ∙ ap (λ r. Mark Comma ∷ r) (w.2 ∙ ap (λ r. Word w.0 ∷ r) close.1)))),
      grammar.same 4 v.0 w.0 v.3 w.3,
    )

abbrev table-end : List (List ℕ) → List (List (List ℕ)) → TokenReader Phrase
table-end variables rows = expect CloseBrace >> cond (are_as_long variables rows) (pure (phrase.Table variables rows)) refused

abbrev table-rows : List (List ℕ) → TokenReader Phrase
table-rows variables = expect Close >> (expect OpenBrace >> (listed row >>= table-end variables))

table-text : (variables rows ts inside left close brace more end : List Token) → ts ≡ Mark Open ∷ inside → inside ≡ variables ++ left → left ≡ Mark Close ∷ close →
    close ≡ Mark OpenBrace ∷ brace → brace ≡ rows ++ more → more ≡ Mark CloseBrace ∷ end →
    ts ≡ (Mark Open ∷ variables ++ Mark Close ∷ Mark OpenBrace ∷ rows ++ Mark CloseBrace ∷ []) ++ end
table-text variables rows ts inside left close brace more end e₀ e₁ e₂ e₃ e₄ e₅ =
    let back : left ≡ (Mark Close ∷ Mark OpenBrace ∷ rows) ++ Mark CloseBrace ∷ end =
    e₂ ∙ ap (λ r. Mark Close ∷ r) (e₃ ∙ ap (λ r. Mark OpenBrace ∷ r) (e₄ ∙ ap (λ r. rows ++ r) e₅)) in
    e₀ ∙ ap (λ r. Mark Open ∷ r) (e₁ ∙ ap (λ r. variables ++ r) back
    ∙ sym (append_assoc variables (Mark Close ∷ Mark OpenBrace ∷ rows) (Mark CloseBrace ∷ end))
    ∙ sym (append_assoc (variables ++ Mark Close ∷ Mark OpenBrace ∷ rows) (Mark CloseBrace ∷ []) end))

table-took : (ts : List Token) (p : Phrase) (rest : List Token) → table ts ≡ Ok (p, rest) → Front 4 (Word (codes "table") ∷ ts) p rest
unfolding table
table-took ts p rest e =
    let opened = after_expected Open (listed variable >>= table-rows) ts p rest e in
    let vs = then_ok (listed variable opened.0) table-rows p rest opened.2 in
    let variables = variables-took vs.0 opened.0 vs.1 vs.2 in
    let close = after_expected Close (expect OpenBrace >> (listed row >>= table-end vs.0)) vs.1 p rest vs.3 in
    let brace = after_expected OpenBrace (listed row >>= table-end vs.0) close.0 p rest close.2 in
    let rs = then_ok (listed row brace.0) (table-end vs.0) p rest brace.2 in
    let rows = rows-took rs.0 brace.0 rs.1 rs.2 in
    let end = after_expected CloseBrace (cond (are_as_long vs.0 rs.0) (pure (phrase.Table vs.0 rs.0)) refused) rs.1 p rest rs.3 in
    let whole = table-text (parted (Mark Comma) (map alone_word vs.0)) (parted (Mark Comma) (map (map Word) rs.0)) ts opened.0 vs.1 close.0 brace.0 rs.1 end.0 opened.1 variables.0 close.1 brace.1 rows.0 end.1 in
    by vs.0 rs.0 end.0 variables.1 variables.2 rows.1 rows.2 whole (are_as_long vs.0 rs.0) refl end.2
  where
    by : (vs : List (List ℕ)) (rs : List (List (List ℕ))) (left : List Token) → 1 ≤ length vs → AreFree vs → 1 ≤ length rs → AreRows rs →
        ts ≡ (Mark Open ∷ parted (Mark Comma) (map alone_word vs) ++ Mark Close ∷ Mark OpenBrace ∷ parted (Mark Comma) (map (map Word) rs) ++ Mark CloseBrace ∷ []) ++ left →
        (b : Bool) → are_as_long vs rs ≡ b → (cond b (pure (phrase.Table vs rs)) refused) left ≡ Ok (p, rest) → Front 4 (Word (codes "table") ∷ ts) p rest
    by vs rs left some_vs free some_rs rows whole false fit e = never left p rest e
    by vs rs left some_vs free some_rs rows whole true fit e =
        again 4 (Word (codes "table") ∷ ts) (phrase.Table vs rs) p left rest e (
          Word (codes "table") ∷ Mark Open ∷ parted (Mark Comma) (map alone_word vs) ++ Mark Close ∷ Mark OpenBrace ∷ parted (Mark Comma) (map (map Word) rs) ++ Mark CloseBrace ∷ [],
          ap (λ r. Word (codes "table") ∷ r) whole,
          grammar.table 4 vs rs some_vs free some_rs rows fit,
        )

-- ---- forms with rules inside

moved : (place : ℕ) (ts us : List Token) (p : Phrase) (rest : List Token) → ts ≡ us → Front place us p rest → Front place ts p rest
moved place ts us p rest is f = (f.0, is ∙ f.1, f.2)

-- what binds more than its place asks
pub weaker : {place : ℕ} {p : Phrase} {text : List Token} (less : ℕ) → less ≤ place → SpellsPhrase place p text → SpellsPhrase less p text
weaker less le (grammar.parentheses place s) = grammar.parentheses less s
weaker less le (grammar.is place v a free) = grammar.is less v a free
weaker less le (grammar.is_not place v a free) = grammar.is_not less v a free
weaker less le (grammar.one_of place v values free some) = grammar.one_of less v values free some
weaker less le (grammar.not at s) = grammar.not (omega arith) s
weaker less le (grammar.and at two each) = grammar.and (omega arith) two each
weaker less le (grammar.or at two each) = grammar.or (omega arith) two each
weaker less le (grammar.implies at s t) = grammar.implies (omega arith) s t
weaker less le (grammar.same place v w free other) = grammar.same less v w free other
weaker less le (grammar.at_most place most some each) = grammar.at_most less most some each
weaker less le (grammar.table place variables rows some free some_rows are fit) = grammar.table less variables rows some free some_rows are fit

each_spells : (place : ℕ) (ps : List Phrase) (texts : List (List Token)) → EachBy (SpellsPhrase place) ps texts → SpellsPhrases place ps texts
each_spells place [] [] empty = grammar.none place
each_spells place [] (text ∷ texts) each = elim each [ ]
each_spells place (p ∷ ps) [] each = elim each [ ]
each_spells place (p ∷ ps) (text ∷ texts) (with_first told each) = grammar.more told (each_spells place ps texts each)

-- a chain binds one less than its members have to
conjunction_of : (first : Phrase) (others : List Phrase) (text : List Token) (texts : List (List Token)) → SpellsPhrase 3 first text → EachBy (SpellsPhrase 3) others texts →
    SpellsPhrase 2 (chained chain.And (first ∷ others)) (parted (Word (codes "and")) (text ∷ texts))
conjunction_of first [] text [] told each = weaker 2 (omega arith) told
conjunction_of first [] text (next ∷ texts) told each = elim each [ ]
conjunction_of first (other ∷ others) text [] told each = elim each [ ]
conjunction_of first (other ∷ others) text (next ∷ texts) told each = grammar.and (omega arith) (omega arith) (grammar.more told (each_spells 3 (other ∷ others) (next ∷ texts) each))

disjunction_of : (first : Phrase) (others : List Phrase) (text : List Token) (texts : List (List Token)) → SpellsPhrase 2 first text → EachBy (SpellsPhrase 2) others texts →
    SpellsPhrase 1 (chained chain.Or (first ∷ others)) (parted (Word (codes "or")) (text ∷ texts))
disjunction_of first [] text [] told each = weaker 1 (omega arith) told
disjunction_of first [] text (next ∷ texts) told each = elim each [ ]
disjunction_of first (other ∷ others) text [] told each = elim each [ ]
disjunction_of first (other ∷ others) text (next ∷ texts) told each = grammar.or (omega arith) (omega arith) (grammar.more told (each_spells 2 (other ∷ others) (next ∷ texts) each))

abbrev Took : ℕ → TokenReader Phrase → Type 0
Took place reader = (ts : List Token) (p : Phrase) (rest : List Token) → reader ts ≡ Ok (p, rest) → Front place ts p rest

and-took : (item : TokenReader Phrase) → Took 3 item → Took 2 (joined chain.And item)
unfolding joined
and-took item item-took ts p rest e =
    let s = then_ok (several item (eat_word (codes "and")) ts) (λ members. pure (chained chain.And members)) p rest e in
    let l = several-took (SpellsPhrase 3) item (eat_word (codes "and")) (Word (codes "and")) (λ us q r h. item-took us q r h) (eat_word-took (codes "and")) (eat_word-left (codes "and")) s.0 ts s.1 s.2 in
    again 2 ts (chained chain.And s.0) p s.1 rest s.3
    (parted (Word (codes "and")) (l.text ∷ l.texts), l.took, subst (λ all. SpellsPhrase 2 (chained chain.And all) (parted (Word (codes "and")) (l.text ∷ l.texts))) (sym l.is) (conjunction_of l.first l.others l.text l.texts l.told l.each))

or-took : (item : TokenReader Phrase) → Took 2 item → Took 1 (joined chain.Or item)
unfolding joined
or-took item item-took ts p rest e =
    let s = then_ok (several item (eat_word (codes "or")) ts) (λ members. pure (chained chain.Or members)) p rest e in
    let l = several-took (SpellsPhrase 2) item (eat_word (codes "or")) (Word (codes "or")) (λ us q r h. item-took us q r h) (eat_word-took (codes "or")) (eat_word-left (codes "or")) s.0 ts s.1 s.2 in
    again 1 ts (chained chain.Or s.0) p s.1 rest s.3
    (parted (Word (codes "or")) (l.text ∷ l.texts), l.took, subst (λ all. SpellsPhrase 1 (chained chain.Or all) (parted (Word (codes "or")) (l.text ∷ l.texts))) (sym l.is) (disjunction_of l.first l.others l.text l.texts l.told l.each))

module _ (rule : TokenReader Phrase) (rule-took : Took 0 rule) where
  parenthesized-took : (ts : List Token) (p : Phrase) (rest : List Token) → parenthesized rule ts ≡ Ok (p, rest) → Front 4 (Mark Open ∷ ts) p rest
  unfolding parenthesized
  parenthesized-took ts p rest e =
      let s = then_ok (rule ts) (λ inner. expect Close >> pure inner) p rest e in
      let inner = rule-took ts s.0 s.1 s.2 in
      let close = after_expected Close (pure s.0) s.1 p rest s.3 in
      again 4 (Mark Open ∷ ts) s.0 p close.0 rest close.2
      (Mark Open ∷ inner.0 ++ Mark Close ∷ [], ap (λ r. Mark Open ∷ r) (inner.1 ∙ ap (λ r. inner.0 ++ r) close.1 ∙ sym (append_assoc inner.0 (Mark Close ∷ []) close.0)), grammar.parentheses 4 inner.2)

  abbrev at_most-end : List ℕ → List Phrase → TokenReader Phrase
  at_most-end most members = expect Close >> pure (phrase.AtMost most members)

  abbrev at_most-inside : List ℕ → TokenReader Phrase
  at_most-inside most = expect Open >> (listed rule >>= at_most-end most)

  at_most-took : (ts : List Token) (p : Phrase) (rest : List Token) → at_most rule ts ≡ Ok (p, rest) → Front 4 (Word (codes "atmost") ∷ ts) p rest
  unfolding at_most
  at_most-took ts p rest e =
      let w = with_word at_most-inside ts p rest e in
      let opened = after_expected Open (listed rule >>= at_most-end w.0) w.1 p rest w.3 in
      let ms = then_ok (listed rule opened.0) (at_most-end w.0) p rest opened.2 in
      let l = listed-took (SpellsPhrase 0) rule (λ us q r h. rule-took us q r h) ms.0 opened.0 ms.1 ms.2 in
      let close = after_expected Close (pure (phrase.AtMost w.0 ms.0)) ms.1 p rest ms.3 in
      let members = parted (Mark Comma) (l.text ∷ l.texts) in
      let some : 1 ≤ length ms.0 = omega (arith, ap (length {A = Phrase}) l.is) in
      again 4 (Word (codes "atmost") ∷ ts) (phrase.AtMost w.0 ms.0) p close.0 rest close.2 (
        Word (codes "atmost") ∷ Word w.0 ∷ Mark Open ∷ members ++ Mark Close ∷ [],
        ap (λ r. Word (codes "atmost") ∷ r) (w.2 ∙ ap (λ r. Word w.0 ∷ r) (opened.1 ∙ ap (λ r. Mark Open ∷ r) (l.took ∙ ap (λ r. members ++ r) close.1 ∙ sym (append_assoc members (Mark Close ∷ []) close.0)))),
        grammar.at_most 4 w.0 some (subst (λ all. SpellsPhrases 0 all (l.text ∷ l.texts)) (sym l.is) (each_spells 0 (l.first ∷ l.others) (l.text ∷ l.texts) (with_first l.told l.each))),
      )

  named-took : (name : List ℕ) (ts : List Token) (p : Phrase) (rest : List Token) → named rule name ts ≡ Ok (p, rest) → Front 4 (Word name ∷ ts) p rest
  unfolding named
  named-took name ts p rest e = by (branch_ok (same_spelling name (codes "same")) same not_same ts p rest e)
    where
      free : TokenReader Phrase
      free = cond (is_reserved name) refused (comparison name)

      not_at_most : TokenReader Phrase
      not_at_most = cond (same_spelling name (codes "table")) table free

      not_same : TokenReader Phrase
      not_same = cond (same_spelling name (codes "atmost")) (at_most rule) not_at_most

      called : (text : List ℕ) → same_spelling name text ≡ true → Front 4 (Word text ∷ ts) p rest → Front 4 (Word name ∷ ts) p rest
      called text is f = moved 4 (Word name ∷ ts) (Word text ∷ ts) p rest (ap (λ w. Word w ∷ ts) (same_word-true name text is)) f

      by_reserved : ((is_reserved name ≡ true) × (refused {A = Phrase} ts ≡ Ok (p, rest))) ⊎ ((is_reserved name ≡ false) × (comparison name ts ≡ Ok (p, rest))) → Front 4 (Word name ∷ ts) p rest
      by_reserved (inl s) = never ts p rest s.1
      by_reserved (inr s) = comparison-took name s.0 ts p rest s.1

      by_table : ((same_spelling name (codes "table") ≡ true) × (table ts ≡ Ok (p, rest))) ⊎ ((same_spelling name (codes "table") ≡ false) × (free ts ≡ Ok (p, rest))) → Front 4 (Word name ∷ ts) p rest
      by_table (inl s) = called (codes "table") s.0 (table-took ts p rest s.1)
      by_table (inr s) = by_reserved (branch_ok (is_reserved name) refused (comparison name) ts p rest s.1)

      by_at_most : ((same_spelling name (codes "atmost") ≡ true) × (at_most rule ts ≡ Ok (p, rest))) ⊎ ((same_spelling name (codes "atmost") ≡ false) × (not_at_most ts ≡ Ok (p, rest))) → Front 4 (Word name ∷ ts) p rest
      by_at_most (inl s) = called (codes "atmost") s.0 (at_most-took ts p rest s.1)
      by_at_most (inr s) = by_table (branch_ok (same_spelling name (codes "table")) table free ts p rest s.1)

      by : ((same_spelling name (codes "same") ≡ true) × (same ts ≡ Ok (p, rest))) ⊎ ((same_spelling name (codes "same") ≡ false) × (not_same ts ≡ Ok (p, rest))) → Front 4 (Word name ∷ ts) p rest
      by (inl s) = called (codes "same") s.0 (same-took ts p rest s.1)
      by (inr s) = by_at_most (branch_ok (same_spelling name (codes "atmost")) (at_most rule) not_at_most ts p rest s.1)

  atom-took : Took 4 (atom rule)
  unfolding atom
  atom-took ts p rest e = by (eat_or Open (parenthesized rule) (word >>= named rule) ts p rest e)
    where
      by : ((left : List Token) × (ts ≡ Mark Open ∷ left) × (parenthesized rule left ≡ Ok (p, rest))) ⊎ ((word >>= named rule) ts ≡ Ok (p, rest)) → Front 4 ts p rest
      by (inl s) = moved 4 ts (Mark Open ∷ s.0) p rest s.1 (parenthesized-took s.0 p rest s.2)
      by (inr e) = let w = with_word (named rule) ts p rest e in moved 4 ts (Word w.0 ∷ w.1) p rest w.2 (named-took w.0 w.1 p rest w.3)

  negation-took : Took 3 (negation rule)
  unfolding negation
  negation-took ts p rest e = by (eat_word_or (codes "not") (atom rule >>= λ inner. pure (phrase.Not inner)) (atom rule) ts p rest e)
    where
      by : ((left : List Token) × (ts ≡ Word (codes "not") ∷ left) × ((atom rule >>= λ inner. pure (phrase.Not inner)) left ≡ Ok (p, rest))) ⊎ (atom rule ts ≡ Ok (p, rest)) → Front 3 ts p rest
      by (inl s) =
          let a = then_ok (atom rule s.0) (λ inner. pure (phrase.Not inner)) p rest s.2 in
          let inner = atom-took s.0 a.0 a.1 a.2 in
          again 3 ts (phrase.Not a.0) p a.1 rest a.3 (Word (codes "not") ∷ inner.0, s.1 ∙ ap (λ r. Word (codes "not") ∷ r) inner.1, grammar.not (omega arith) inner.2)
      by (inr e) = let f = atom-took ts p rest e in (f.0, f.1, weaker 3 (omega arith) f.2)

  or_chain-took : Took 1 (joined chain.Or (member rule chain.Or))
  unfolding member
  or_chain-took ts p rest e = or-took (joined chain.And (negation rule)) (and-took (negation rule) negation-took) ts p rest e

  abbrev or_chain : TokenReader Phrase
  or_chain = joined chain.Or (member rule chain.Or)

  abbrev conclude : Phrase → TokenReader Phrase
  conclude premise = or_chain >>= λ conclusion. pure (phrase.Implies premise conclusion)

  implication-took : Took 0 (implication rule)
  unfolding implication
  implication-took ts p rest e =
      let a = then_ok (or_chain ts) (λ premise. eat Arrow >>= λ found. cond found (conclude premise) (pure premise)) p rest e in
      let premise = or_chain-took ts a.0 a.1 a.2 in
      by a.0 a.1 premise (eat_or Arrow (conclude a.0) (pure a.0) a.1 p rest a.3)
    where
      by : (q : Phrase) (left : List Token) → Front 1 ts q left → ((after : List Token) × (left ≡ Mark Arrow ∷ after) × (conclude q after ≡ Ok (p, rest))) ⊎ (◌≡◌ {A = Parsed (Phrase × List Token)} (Ok (q, left)) (Ok (p, rest))) → Front 0 ts p rest
      by q left premise (inl s) =
          let b = then_ok (or_chain s.0) (λ conclusion. pure (phrase.Implies q conclusion)) p rest s.2 in
          let conclusion = or_chain-took s.0 b.0 b.1 b.2 in
          again 0 ts (phrase.Implies q b.0) p b.1 rest b.3 (
            premise.0 ++ Mark Arrow ∷ conclusion.0,
            premise.1 ∙ ap (λ r. premise.0 ++ r) (s.1 ∙ ap (λ r. Mark Arrow ∷ r) conclusion.1) ∙ sym (append_assoc premise.0 (Mark Arrow ∷ conclusion.0) b.1),
            grammar.implies (omega arith) premise.2 conclusion.2,
          )
      by q left premise (inr e) = again 0 ts q p left rest e (premise.0, premise.1, weaker 0 (omega arith) premise.2)

pub rule_at-took : (depth : ℕ) → Took 0 (rule_at depth)
unfolding rule_at
rule_at-took zero ts p rest e = never ts p rest e
rule_at-took (suc depth) ts p rest e = implication-took (rule_at depth) (rule_at-took depth) ts p rest e

only-took : (outcome : Parsed (Phrase × List Token)) (p : Phrase) → only outcome ≡ Ok p → outcome ≡ Ok (p, [])
only-took (Ok (q, [])) p e = let same : q ≡ p = the_value q p e in ap one same
  where
    one : Phrase → Parsed (Phrase × List Token)
    one r = Ok (r, [])
only-took (Ok (q, token ∷ tokens)) p e = absurd cc
only-took (Err kind) p e = absurd cc

-- what is read is in the grammar
pub phrase_of-sound : (tokens : List Token) (p : Phrase) → phrase_of tokens ≡ Ok p → SpellsPhrase 0 p tokens
unfolding phrase_of
phrase_of-sound tokens p e =
    let f = rule_at-took 65 tokens p [] (only-took (rule_at 65 tokens) p e) in
    subst (SpellsPhrase 0 p) (sym (f.1 ∙ append-nil f.0)) f.2
