-- Texts that don't open too many parentheses at once, put together.
use Rattle.std.proofs.Common.{◌≡◌, ℕ, suc, ◌+◌, ◌≤◌, ◌==◌, nat_lt, Bool, true, false, List, [], ◌∷◌, ◌++◌, map, refl, sym, ap, ◌∙◌, arith}
use Rattle.std.specs.List.{list_all}
use Rattle.std.proofs.lemmas.Bool.{or_from, and_parts, and_from, le-ltb, eqb-true}
use Rattle.pc_rules.specs.declared.token.Sign.TheVariants.{Open, Close, Comma}
use Rattle.pc_rules.specs.declared.token.Token.{Token}
use Rattle.pc_rules.specs.declared.token.Token.TheVariants.{Mark, Word}
use Rattle.pc_rules.specs.Token.{one_if_open, one_if_closed, is_deep_after}
use Rattle.pc_rules.specs.Grammar.{parted, alone_word}
use Rattle.pc_rules.proofs.Depth.{opens, closes, same_deep, deep-append, deep-shift}

-- the token is no parenthesis
abbrev pub is_plain : Token → Bool
is_plain token = one_if_open token + one_if_closed token == 0

module _ (limit : ℕ) where
  -- a text that closes what it opens, and another
  pub flat-append : (ts us : List Token) (o c : ℕ) → opens ts ≡ closes ts → is_deep_after limit o c ts ≡ false → is_deep_after limit o c us ≡ false → is_deep_after limit o c (ts ++ us) ≡ false
  flat-append ts us o c same first second =
      let shift : is_deep_after limit (o + opens ts) (c + closes ts) us ≡ is_deep_after limit o c us =
      ap (λ n. is_deep_after limit (o + opens ts) (c + n) us) (sym same) ∙ deep-shift limit (opens ts) us o c in
      deep-append limit ts us o c ∙ or_from (is_deep_after limit o c ts) (is_deep_after limit (o + opens ts) (c + closes ts) us) first (shift ∙ second)

  -- a token that is no parenthesis
  pub flat-token : (token : Token) (ts : List Token) (o c : ℕ) → is_plain token ≡ true → o ≤ c + limit → is_deep_after limit o c ts ≡ false → is_deep_after limit o c (token ∷ ts) ≡ false
  flat-token token ts o c plain room flat =
      let none : one_if_open token + one_if_closed token ≡ 0 = eqb-true (one_if_open token + one_if_closed token) 0 plain in
      or_from (nat_lt (c + one_if_closed token + limit) (o + one_if_open token)) (is_deep_after limit (o + one_if_open token) (c + one_if_closed token) ts)
      (le-ltb (c + one_if_closed token + limit) (o + one_if_open token) (omega (arith, none)))
      (same_deep limit ts (o + one_if_open token) o (c + one_if_closed token) c (omega (arith, none)) (omega (arith, none)) ∙ flat)

  -- an opening parenthesis, for which there is room
  pub flat-open : (ts : List Token) (o c : ℕ) → suc o ≤ c + limit → is_deep_after limit (suc o) c ts ≡ false → is_deep_after limit o c (Mark Open ∷ ts) ≡ false
  flat-open ts o c room flat =
      or_from (nat_lt (c + 0 + limit) (o + 1)) (is_deep_after limit (o + 1) (c + 0) ts) (le-ltb (c + 0 + limit) (o + 1) (omega arith))
      (same_deep limit ts (o + 1) (suc o) (c + 0) c (omega arith) (omega arith) ∙ flat)

  -- a closing one
  pub flat-close : (ts : List Token) (o c : ℕ) → o ≤ c + limit → is_deep_after limit o c ts ≡ false → is_deep_after limit (suc o) c (Mark Close ∷ ts) ≡ false
  flat-close ts o c room flat =
      or_from (nat_lt (c + 1 + limit) (suc o + 0)) (is_deep_after limit (suc o + 0) (c + 1) ts) (le-ltb (c + 1 + limit) (suc o + 0) (omega arith))
      (same_deep limit ts (suc o + 0) (o + 1) (c + 1) (c + 1) (omega arith) refl ∙ deep-shift limit 1 ts o c ∙ flat)

  -- a text in parentheses, and what comes after it
  pub flat-parentheses : (ts us : List Token) (o c : ℕ) → suc o ≤ c + limit → opens ts ≡ closes ts → is_deep_after limit (suc o) c ts ≡ false → is_deep_after limit o c us ≡ false →
      is_deep_after limit o c (Mark Open ∷ ts ++ Mark Close ∷ us) ≡ false
  flat-parentheses ts us o c room same inside after =
      flat-open (ts ++ Mark Close ∷ us) o c room (flat-append ts (Mark Close ∷ us) (suc o) c same inside (flat-close us o c (omega arith) after))

  -- tokens that are no parentheses
  pub flat-plain : (ts : List Token) (o c : ℕ) → list_all is_plain ts ≡ true → o ≤ c + limit → is_deep_after limit o c ts ≡ false
  flat-plain [] o c plain room = refl
  flat-plain (t ∷ ts) o c plain room = let two = and_parts (is_plain t) (list_all is_plain ts) plain in flat-token t ts o c two.0 room (flat-plain ts o c two.1 room)

  -- each text closes what it opens, and is shallow enough
  abbrev pub EachFlat : ℕ → ℕ → List (List Token) → Type 0
  EachFlat o c [] = Unit {0}
  EachFlat o c (text ∷ texts) = ((opens text ≡ closes text) × (is_deep_after limit o c text ≡ false)) × EachFlat o c texts

  pub flat-parted : (between : Token) (texts : List (List Token)) (o c : ℕ) → is_plain between ≡ true → o ≤ c + limit → EachFlat o c texts → is_deep_after limit o c (parted between texts) ≡ false
  flat-parted between [] o c plain room each = refl
  flat-parted between (text ∷ []) o c plain room each = each.0.1
  flat-parted between (text ∷ next ∷ texts) o c plain room each =
      flat-append text (between ∷ parted between (next ∷ texts)) o c each.0.0 each.0.1 (flat-token between (parted between (next ∷ texts)) o c plain room (flat-parted between (next ∷ texts) o c plain room each.1))

plain-append : (ts us : List Token) → list_all is_plain ts ≡ true → list_all is_plain us ≡ true → list_all is_plain (ts ++ us) ≡ true
plain-append [] us a b = b
plain-append (t ∷ ts) us a b = let two = and_parts (is_plain t) (list_all is_plain ts) a in and_from (is_plain t) (list_all is_plain (ts ++ us)) two.0 (plain-append ts us two.1 b)

-- words and rows have no parentheses
pub plain-words : (words : List (List ℕ)) → list_all is_plain (parted (Mark Comma) (map alone_word words)) ≡ true
plain-words [] = refl
plain-words (w ∷ []) = refl
plain-words (w ∷ v ∷ words) = plain-words (v ∷ words)

plain-row : (row : List (List ℕ)) → list_all is_plain (map Word row) ≡ true
plain-row [] = refl
plain-row (w ∷ row) = plain-row row

pub plain-rows : (rows : List (List (List ℕ))) → list_all is_plain (parted (Mark Comma) (map (map Word) rows)) ≡ true
plain-rows [] = refl
plain-rows (r ∷ []) = plain-row r
plain-rows (r ∷ q ∷ rows) = plain-append (map Word r) (Mark Comma ∷ parted (Mark Comma) (map (map Word) (q ∷ rows))) (plain-row r) (plain-rows (q ∷ rows))

-- tokens that are no parentheses open none and close none
pub plain-balanced : (ts : List Token) → list_all is_plain ts ≡ true → opens ts ≡ closes ts
plain-balanced [] plain = refl
plain-balanced (t ∷ ts) plain =
    let two = and_parts (is_plain t) (list_all is_plain ts) plain in
    let none : one_if_open t + one_if_closed t ≡ 0 = eqb-true (one_if_open t + one_if_closed t) 0 two.0 in
    omega (arith, none, plain-balanced ts two.1)
