-- The grammar of rules: which tokens spell a phrase.
use Rattle.std.specs.Prelude.{◌≡◌, ℕ, ◌≤◌, nat_le, Bool, true, false, List, [], ◌∷◌, ◌++◌, length, map, codes}
use Rattle.std.specs.Prelude as prelude
use Rattle.std.specs.List.{list_all}
use Rattle.pc_file.specs.Limits.{is_reserved}
use Rattle.pc_rules.specs.declared.phrase.Phrase.{Phrase}
use Rattle.pc_rules.specs.declared.phrase.Phrase.TheVariants as phrase
use Rattle.pc_rules.specs.declared.token.Sign.TheVariants.{Arrow, NotEqual, Equal, Open, Close, OpenBrace, CloseBrace, Comma}
use Rattle.pc_rules.specs.declared.token.Token.{Token}
use Rattle.pc_rules.specs.declared.token.Token.TheVariants.{Mark, Word}
use Rattle.pc_rules.specs.Reading.{are_as_long}

-- the texts, with a token between each and the next
abbrev pub parted : Token → List (List Token) → List Token
parted token [] = []
parted token (text ∷ []) = text
parted token (text ∷ next ∷ texts) = text ++ token ∷ parted token (next ∷ texts)

-- a word as a text
abbrev pub alone_word : List ℕ → List Token
alone_word word = Word word ∷ []

-- a word that may name a variable
abbrev pub IsFree : List ℕ → Type 0
IsFree word = is_reserved word ≡ false

-- words that may name variables
abbrev pub AreFree : List (List ℕ) → Type 0
AreFree words = list_all (λ word. prelude.not (is_reserved word)) words ≡ true

-- rows of one or more words
abbrev pub AreRows : List (List (List ℕ)) → Type 0
AreRows rows = list_all (λ row. nat_le 1 (length row)) rows ≡ true

-- A phrase in a place is spelled by itself where it binds as much as the place asks, and else in parentheses. The places ask
-- 0 for a whole rule, 1 on the sides of `=>`, 2 between `or` and `or`, 3 between `and` and `and`, and 4 after `not`.
mutual
  pub data SpellsPhrase : ℕ → Phrase → List Token → Type 0 where
    parentheses : (place : ℕ) {rule : Phrase} {text : List Token} → SpellsPhrase 0 rule text → SpellsPhrase place rule (Mark Open ∷ text ++ Mark Close ∷ [])
    is : (place : ℕ) (variable value : List ℕ) → IsFree variable → SpellsPhrase place (phrase.Is variable value) (Word variable ∷ Mark Equal ∷ Word value ∷ [])
    is_not : (place : ℕ) (variable value : List ℕ) → IsFree variable → SpellsPhrase place (phrase.IsNot variable value) (Word variable ∷ Mark NotEqual ∷ Word value ∷ [])
    one_of : (place : ℕ) (variable : List ℕ) (values : List (List ℕ)) → IsFree variable → 1 ≤ length values →
        SpellsPhrase place (phrase.OneOf variable values) (Word variable ∷ Word (codes "in") ∷ Mark OpenBrace ∷ parted (Mark Comma) (map alone_word values) ++ Mark CloseBrace ∷ [])
    not : {place : ℕ} {rule : Phrase} {text : List Token} → place ≤ 3 → SpellsPhrase 4 rule text → SpellsPhrase place (phrase.Not rule) (Word (codes "not") ∷ text)
    and : {place : ℕ} {rules : List Phrase} {texts : List (List Token)} → place ≤ 2 → 2 ≤ length rules → SpellsPhrases 3 rules texts → SpellsPhrase place (phrase.And rules) (parted (Word (codes "and")) texts)
    or : {place : ℕ} {rules : List Phrase} {texts : List (List Token)} → place ≤ 1 → 2 ≤ length rules → SpellsPhrases 2 rules texts → SpellsPhrase place (phrase.Or rules) (parted (Word (codes "or")) texts)
    implies : {place : ℕ} {premise conclusion : Phrase} {text next : List Token} → place ≤ 0 → SpellsPhrase 1 premise text → SpellsPhrase 1 conclusion next → SpellsPhrase place (phrase.Implies premise conclusion) (text ++ Mark Arrow ∷ next)
    same : (place : ℕ) (variable other : List ℕ) → IsFree variable → IsFree other →
        SpellsPhrase place (phrase.Same variable other) (Word (codes "same") ∷ Mark Open ∷ Word variable ∷ Mark Comma ∷ Word other ∷ Mark Close ∷ [])
    at_most : (place : ℕ) (most : List ℕ) {rules : List Phrase} {texts : List (List Token)} → 1 ≤ length rules → SpellsPhrases 0 rules texts →
        SpellsPhrase place (phrase.AtMost most rules) (Word (codes "atmost") ∷ Word most ∷ Mark Open ∷ parted (Mark Comma) texts ++ Mark Close ∷ [])
    table : (place : ℕ) (variables : List (List ℕ)) (rows : List (List (List ℕ))) → 1 ≤ length variables → AreFree variables → 1 ≤ length rows → AreRows rows → are_as_long variables rows ≡ true →
        SpellsPhrase place (phrase.Table variables rows)
        (Word (codes "table") ∷ Mark Open ∷ parted (Mark Comma) (map alone_word variables) ++ Mark Close ∷ Mark OpenBrace ∷ parted (Mark Comma) (map (map Word) rows) ++ Mark CloseBrace ∷ [])

  -- each phrase in such a place by its text
  pub data SpellsPhrases : ℕ → List Phrase → List (List Token) → Type 0 where
    none : (place : ℕ) → SpellsPhrases place [] []
    more : {place : ℕ} {rule : Phrase} {text : List Token} {rules : List Phrase} {texts : List (List Token)} → SpellsPhrase place rule text → SpellsPhrases place rules texts → SpellsPhrases place (rule ∷ rules) (text ∷ texts)
