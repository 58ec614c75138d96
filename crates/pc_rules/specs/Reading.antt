-- The phrase that tokens say, read from left to right.
use Rattle.std.specs.Prelude.{ℕ, zero, suc, ◌+◌, Bool, ◌==◌, if◌then◌else◌, List, [], ◌∷◌, length, codes, Ok, Err}
use Rattle.std.specs.List.{list_all}
use Rattle.pc_file.specs.declared.sizes.TheConstants.{MOST_OPEN}
use Rattle.pc_names.specs.Spelling.{same_spelling}
use Rattle.pc_file.specs.Limits.{is_reserved}
use Rattle.pc_rules.specs.declared.kind.Kind.TheVariants as kind
use Rattle.pc_rules.specs.declared.phrase.Chain.{Chain}
use Rattle.pc_rules.specs.declared.phrase.Chain.TheVariants as chain
use Rattle.pc_rules.specs.declared.phrase.Phrase.{Phrase}
use Rattle.pc_rules.specs.declared.phrase.Phrase.TheVariants as phrase
use Rattle.pc_rules.specs.declared.token.Sign.TheVariants.{Arrow, NotEqual, Equal, Open, Close, OpenBrace, CloseBrace, Comma}
use Rattle.pc_rules.specs.declared.token.Token.{Token}
use Rattle.pc_rules.specs.Parsed.{Parsed}
use Rattle.pc_base.specs.Reader.{◌>>=◌, ◌>>◌, pure}
use Rattle.pc_rules.specs.Words.{TokenReader, refused, eat, eat_word, expect, word, variable, several, listed, row}

-- ---- forms without a rule inside

-- after `v`, where neither sign comes
unfoldable pub one_of : List ℕ → TokenReader Phrase
one_of name = do
  is_in ← eat_word (codes "in")
  if is_in then (do
    expect OpenBrace
    values ← listed word
    expect CloseBrace
    pure (phrase.OneOf name values)) else refused

-- after `v`
unfoldable pub comparison : List ℕ → TokenReader Phrase
comparison name = do
  is_equal ← eat Equal
  if is_equal then (do value ← word; pure (phrase.Is name value)) else (do
    is_not_equal ← eat NotEqual
    if is_not_equal then (do value ← word; pure (phrase.IsNot name value)) else one_of name)

-- after `same`
unfoldable pub same : TokenReader Phrase
same = do
  expect Open
  first ← variable
  expect Comma
  second ← variable
  expect Close
  pure (phrase.Same first second)

-- each row has as many words as the table has variables
abbrev pub are_as_long : List (List ℕ) → List (List (List ℕ)) → Bool
are_as_long variables rows = list_all (λ row. length row == length variables) rows

-- after `table`
unfoldable pub table : TokenReader Phrase
table = do
  expect Open
  variables ← listed variable
  expect Close
  expect OpenBrace
  rows ← listed row
  expect CloseBrace
  if are_as_long variables rows then pure (phrase.Table variables rows) else refused

-- one member is itself
abbrev pub chained : Chain → List Phrase → Phrase
chained chain.And [] = phrase.And []
chained chain.And (only ∷ []) = only
chained chain.And (first ∷ second ∷ more) = phrase.And (first ∷ second ∷ more)
chained chain.Or [] = phrase.Or []
chained chain.Or (only ∷ []) = only
chained chain.Or (first ∷ second ∷ more) = phrase.Or (first ∷ second ∷ more)

-- what stands between the members
abbrev pub joint : Chain → List ℕ
joint chain.And = codes "and"
joint chain.Or = codes "or"

-- a chain without parentheses
unfoldable pub joined : Chain → TokenReader Phrase → TokenReader Phrase
joined kind member = do
  members ← several member (eat_word (joint kind))
  pure (chained kind members)

-- ---- forms with rules inside, as they nest in parentheses

module _ (rule : TokenReader Phrase) where
  -- after `(`
  unfoldable pub parenthesized : TokenReader Phrase
  parenthesized = do
    inner ← rule
    expect Close
    pure inner

  -- after `atmost`
  unfoldable pub at_most : TokenReader Phrase
  at_most = do
    most ← word
    expect Open
    members ← listed rule
    expect Close
    pure (phrase.AtMost most members)

  -- after a word
  unfoldable pub named : List ℕ → TokenReader Phrase
  named name =
      if same_spelling name (codes "same") then same
      else (if same_spelling name (codes "atmost") then at_most
      else (if same_spelling name (codes "table") then table
      else (if is_reserved name then refused
      else comparison name)))

  unfoldable pub atom : TokenReader Phrase
  atom = do
    is_open ← eat Open
    if is_open then parenthesized else word >>= named

  unfoldable pub negation : TokenReader Phrase
  negation = do
    is_not ← eat_word (codes "not")
    if is_not then (do inner ← atom; pure (phrase.Not inner)) else atom

  unfoldable pub member : Chain → TokenReader Phrase
  member chain.And = negation
  member chain.Or = joined chain.And negation

  unfoldable pub implication : TokenReader Phrase
  implication = do
    premise ← joined chain.Or (member chain.Or)
    is_premise ← eat Arrow
    if is_premise then (do conclusion ← joined chain.Or (member chain.Or); pure (phrase.Implies premise conclusion)) else pure premise

-- with parentheses nested less deep than the number
unfoldable pub rule_at : ℕ → TokenReader Phrase
rule_at zero = refused
rule_at (suc depth) = implication (rule_at depth)

-- all tokens are the phrase
abbrev pub alone : Phrase → List Token → Parsed Phrase
alone found [] = Ok found
alone found (token ∷ tokens) = Err kind.Rule

abbrev pub only : Parsed (Phrase × List Token) → Parsed Phrase
only (Ok found) = alone found.0 found.1
only (Err fault) = Err fault

unfoldable pub phrase_of : List Token → Parsed Phrase
phrase_of tokens = only (rule_at (MOST_OPEN + 1) tokens)
