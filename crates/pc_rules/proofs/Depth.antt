-- Parentheses that are open in a text.
use Rattle.std.proofs.Common.{◌≡◌, ℕ, ◌+◌, nat_lt, Bool, true, false, ◌||◌, List, [], ◌∷◌, ◌++◌, codes, map, refl, ap, ◌∙◌, arith}
use Rattle.std.proofs.lemmas.Bool.Decides.{nat_tests}
use Rattle.pc_rules.specs.declared.phrase.Phrase.{Phrase}
use Rattle.pc_rules.specs.declared.token.Sign.TheVariants.{Arrow, Close, OpenBrace, CloseBrace, Comma}
use Rattle.pc_rules.specs.declared.token.Token.{Token}
use Rattle.pc_rules.specs.declared.token.Token.TheVariants.{Mark, Word}
use Rattle.pc_rules.specs.Token.{one_if_open, one_if_closed, is_deep_after}
use Rattle.pc_rules.specs.Grammar.{parted, alone_word, SpellsPhrase, SpellsPhrases}
use Rattle.pc_rules.specs.Grammar as grammar

-- how many parentheses a text opens, and closes
abbrev pub opens : List Token → ℕ
opens [] = 0
opens (token ∷ tokens) = one_if_open token + opens tokens

abbrev pub closes : List Token → ℕ
closes [] = 0
closes (token ∷ tokens) = one_if_closed token + closes tokens

opens-append : (ts us : List Token) → opens (ts ++ us) ≡ opens ts + opens us
opens-append [] us = omega arith
opens-append (t ∷ ts) us = let e = opens-append ts us in omega (arith, e)

closes-append : (ts us : List Token) → closes (ts ++ us) ≡ closes ts + closes us
closes-append [] us = omega arith
closes-append (t ∷ ts) us = let e = closes-append ts us in omega (arith, e)

or_assoc : (a b c : Bool) → (a || (b || c)) ≡ (a || b || c)
or_assoc true b c = refl
or_assoc false b c = refl

shifted_test : (a b k : ℕ) → nat_lt (a + k) (b + k) ≡ nat_lt a b
shifted_test a b k = grind (arith, nat_tests)

module _ (limit : ℕ) where
  pub same_deep : (ts : List Token) (o p c d : ℕ) → o ≡ p → c ≡ d → is_deep_after limit o c ts ≡ is_deep_after limit p d ts
  same_deep ts o p c d e f = ap (λ n. is_deep_after limit n c ts) e ∙ ap (λ n. is_deep_after limit p n ts) f

  -- a text, and then another
  pub deep-append : (ts us : List Token) (o c : ℕ) → is_deep_after limit o c (ts ++ us) ≡ (is_deep_after limit o c ts || is_deep_after limit (o + opens ts) (c + closes ts) us)
  deep-append [] us o c = same_deep us o (o + 0) c (c + 0) (omega arith) (omega arith)
  deep-append (t ∷ ts) us o c =
      let p = o + one_if_open t in
      let d = c + one_if_closed t in
      let now = nat_lt (d + limit) p in
      let rest = same_deep us (p + opens ts) (o + (one_if_open t + opens ts)) (d + closes ts) (c + (one_if_closed t + closes ts)) (omega arith) (omega arith) in
      ap (λ b. now || b) (deep-append ts us p d ∙ ap (λ b. is_deep_after limit p d ts || b) rest)
      ∙ or_assoc now (is_deep_after limit p d ts) (is_deep_after limit (o + (one_if_open t + opens ts)) (c + (one_if_closed t + closes ts)) us)

  -- as many more before, opened and closed
  pub deep-shift : (k : ℕ) (ts : List Token) (o c : ℕ) → is_deep_after limit (o + k) (c + k) ts ≡ is_deep_after limit o c ts
  deep-shift k [] o c = refl
  deep-shift k (t ∷ ts) o c =
      let p = o + one_if_open t in
      let d = c + one_if_closed t in
      let p_too : o + k + one_if_open t ≡ p + k = omega arith in
      let d_too : c + k + one_if_closed t ≡ d + k = omega arith in
      let sum : d + k + limit ≡ d + limit + k = omega arith in
      let now : nat_lt (c + k + one_if_closed t + limit) (o + k + one_if_open t) ≡ nat_lt (d + limit) p =
      ap (λ n. nat_lt (n + limit) (o + k + one_if_open t)) d_too ∙ ap (λ n. nat_lt (d + k + limit) n) p_too ∙ ap (λ n. nat_lt n (p + k)) sum ∙ shifted_test (d + limit) p k in
      ap (λ b. b || is_deep_after limit (o + k + one_if_open t) (c + k + one_if_closed t) ts) now
      ∙ ap (λ b. nat_lt (d + limit) p || b) (same_deep ts (o + k + one_if_open t) (p + k) (c + k + one_if_closed t) (d + k) p_too d_too ∙ deep-shift k ts p d)

-- ---- what is spelled closes what it opens

words-balanced : (words : List (List ℕ)) → opens (parted (Mark Comma) (map alone_word words)) ≡ closes (parted (Mark Comma) (map alone_word words))
words-balanced [] = refl
words-balanced (w ∷ []) = refl
words-balanced (w ∷ v ∷ words) = let e = words-balanced (v ∷ words) in omega (arith, e)

row-balanced : (row : List (List ℕ)) → opens (map Word row) ≡ closes (map Word row)
row-balanced [] = refl
row-balanced (w ∷ row) = let e = row-balanced row in omega (arith, e)

rows-balanced : (rows : List (List (List ℕ))) → opens (parted (Mark Comma) (map (map Word) rows)) ≡ closes (parted (Mark Comma) (map (map Word) rows))
rows-balanced [] = refl
rows-balanced (r ∷ []) = row-balanced r
rows-balanced (r ∷ q ∷ rows) =
    let e = row-balanced r in
    let f = rows-balanced (q ∷ rows) in
    let more = Mark Comma ∷ parted (Mark Comma) (map (map Word) (q ∷ rows)) in
    let g = opens-append (map Word r) more in
    let h = closes-append (map Word r) more in
    omega (arith, e, f, g, h)

balanced-append : (ts us : List Token) → opens ts ≡ closes ts → opens us ≡ closes us → opens (ts ++ us) ≡ closes (ts ++ us)
balanced-append ts us e f = let g = opens-append ts us in let h = closes-append ts us in omega (arith, g, h)

-- one more text before others
parted-balanced : (between : Token) (text : List Token) (texts : List (List Token)) → one_if_open between ≡ one_if_closed between → opens text ≡ closes text → opens (parted between texts) ≡ closes (parted between texts) →
    opens (parted between (text ∷ texts)) ≡ closes (parted between (text ∷ texts))
parted-balanced between text [] apart first others = first
parted-balanced between text (next ∷ texts) apart first others =
    let more = between ∷ parted between (next ∷ texts) in
    let both : opens more ≡ closes more = omega (arith, apart, others) in
    balanced-append text more first both

closed-balanced : (text : List Token) (sign : Token) → one_if_open sign ≡ 0 → one_if_closed sign ≡ 0 → opens text ≡ closes text → opens (text ++ sign ∷ []) ≡ closes (text ++ sign ∷ [])
closed-balanced text sign e f g = balanced-append text (sign ∷ []) g (omega (arith, e, f))

mutual
  pub balanced : {place : ℕ} {p : Phrase} {text : List Token} → SpellsPhrase place p text → opens text ≡ closes text
  balanced (grammar.parentheses place {text = text} s) =
      let e = balanced s in
      let g = opens-append text (Mark Close ∷ []) in
      let h = closes-append text (Mark Close ∷ []) in
      omega (arith, e, g, h)
  balanced (grammar.is place v a free) = refl
  balanced (grammar.is_not place v a free) = refl
  balanced (grammar.one_of place v values free some) =
      let e = closed-balanced (parted (Mark Comma) (map alone_word values)) (Mark CloseBrace) refl refl (words-balanced values) in
      omega (arith, e)
  balanced (grammar.not at s) = let e = balanced s in omega (arith, e)
  balanced (grammar.and at two each) = balanced_each each (Word (codes "and")) refl
  balanced (grammar.or at two each) = balanced_each each (Word (codes "or")) refl
  balanced (grammar.implies {text = text} {next = next} at s t) =
      let e = balanced s in
      let f = balanced t in
      let both : opens (Mark Arrow ∷ next) ≡ closes (Mark Arrow ∷ next) = omega (arith, f) in
      balanced-append text (Mark Arrow ∷ next) e both
  balanced (grammar.same place v w free other) = refl
  balanced (grammar.at_most place most {texts = texts} some each) =
      let e = balanced_each each (Mark Comma) refl in
      let g = opens-append (parted (Mark Comma) texts) (Mark Close ∷ []) in
      let h = closes-append (parted (Mark Comma) texts) (Mark Close ∷ []) in
      omega (arith, e, g, h)
  balanced (grammar.table place variables rows some free some_rows are fit) =
      let vs = parted (Mark Comma) (map alone_word variables) in
      let rs = parted (Mark Comma) (map (map Word) rows) in
      let e = words-balanced variables in
      let f = rows-balanced rows in
      let g = opens-append vs (Mark Close ∷ Mark OpenBrace ∷ rs) in
      let h = closes-append vs (Mark Close ∷ Mark OpenBrace ∷ rs) in
      let i = opens-append (vs ++ Mark Close ∷ Mark OpenBrace ∷ rs) (Mark CloseBrace ∷ []) in
      let j = closes-append (vs ++ Mark Close ∷ Mark OpenBrace ∷ rs) (Mark CloseBrace ∷ []) in
      omega (arith, e, f, g, h, i, j)

  pub balanced_each : {place : ℕ} {ps : List Phrase} {texts : List (List Token)} → SpellsPhrases place ps texts → (between : Token) → one_if_open between ≡ one_if_closed between → opens (parted between texts) ≡ closes (parted between texts)
  balanced_each (grammar.none place) between apart = refl
  balanced_each (grammar.more {text = text} {texts = texts} s each) between apart = parted-balanced between text texts apart (balanced s) (balanced_each each between apart)
