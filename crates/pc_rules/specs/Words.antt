-- What is read at the front of the tokens that are left: words, signs and lists of such.
use Rattle.std.specs.Prelude.{ℕ, zero, suc, Bool, false, if◌then◌else◌, List, [], ◌∷◌, ◌++◌, length, drop, Ok, Err}
use denote.Enum.Bare.{sameb}
use Rattle.pc_base.specs.Reader.{Reader, ◌>>=◌, pure}
use Rattle.pc_names.specs.Spelling.{same_spelling}
use Rattle.pc_file.specs.Limits.{is_reserved}
use Rattle.pc_rules.specs.contracts.token.Sign.{the_type}
use Rattle.pc_rules.specs.declared.kind.Kind.{Kind}
use Rattle.pc_rules.specs.declared.kind.Kind.TheVariants as kind
use Rattle.pc_rules.specs.declared.token.Sign.{Sign}
use Rattle.pc_rules.specs.declared.token.Sign.TheVariants.{Comma}
use Rattle.pc_rules.specs.declared.token.Token.{Token}
use Rattle.pc_rules.specs.declared.token.Token.TheVariants.{Mark, Word}

-- Gives a value and the tokens that are left after it, or the kind of a fault.
abbrev pub TokenReader : Type 0 → Type 0
TokenReader = Reader (List Token) Kind

-- the tokens are no rule
abbrev pub refused : {A : Type 0} → TokenReader A
refused = λ tokens. Err kind.Rule

unfoldable pub same_sign : Sign → Sign → Bool
same_sign = sameb the_type

-- a sign comes next
unfoldable pub sees : Sign → List Token → Bool
sees sign [] = false
sees sign (Mark other ∷ rest) = same_sign other sign
sees sign (Word word ∷ rest) = false

-- a word comes next
unfoldable pub sees_word : List ℕ → List Token → Bool
sees_word word [] = false
sees_word word (Mark sign ∷ rest) = false
sees_word word (Word other ∷ rest) = same_spelling other word

-- the tokens after the next one, where that was found
abbrev pub past : Bool → List Token → List Token
past found tokens = if found then drop 1 tokens else tokens

-- takes a sign, if it comes next
abbrev pub eat : Sign → TokenReader Bool
eat sign = λ tokens. Ok (sees sign tokens, past (sees sign tokens) tokens)

-- takes a word, if it comes next
abbrev pub eat_word : List ℕ → TokenReader Bool
eat_word word = λ tokens. Ok (sees_word word tokens, past (sees_word word tokens) tokens)

-- takes a sign, which has to come next
unfoldable pub expect : Sign → TokenReader (Unit {0})
expect sign = do
  found ← eat sign
  if found then pure tt else refused

-- any word
unfoldable pub word : TokenReader (List ℕ)
word [] = Err kind.Rule
word (Mark sign ∷ rest) = Err kind.Rule
word (Word bytes ∷ rest) = Ok (bytes, rest)

-- a word that may name a variable
unfoldable pub variable : TokenReader (List ℕ)
variable = do
  name ← word
  if is_reserved name then refused else pure name

-- One or more items with something between them, behind those that were found. The number bounds the turns; each takes a token, so the count of the tokens is enough.
unfoldable pub several_from : {A : Type 0} → TokenReader A → TokenReader Bool → ℕ → List A → TokenReader (List A)
several_from item between zero found = refused
several_from item between (suc turns) found = do
  next ← item
  more ← between
  if more then several_from item between turns (found ++ next ∷ []) else pure (found ++ next ∷ [])

abbrev pub several : {A : Type 0} → TokenReader A → TokenReader Bool → TokenReader (List A)
several item between = λ tokens. several_from item between (length tokens) [] tokens

-- one or more, with commas between
unfoldable pub listed : {A : Type 0} → TokenReader A → TokenReader (List A)
listed item = several item (eat Comma)

-- the words up to the first sign, and the tokens after them
abbrev pub words_at : List Token → List (List ℕ) × List Token
words_at [] = ([], [])
words_at (Mark sign ∷ rest) = ([], Mark sign ∷ rest)
words_at (Word bytes ∷ rest) = let more = words_at rest in (bytes ∷ more.0, more.1)

abbrev pub some : List (List ℕ) → TokenReader (List (List ℕ))
some [] = refused
some (first ∷ rest) = pure (first ∷ rest)

-- one or more words with nothing between
unfoldable pub row : TokenReader (List (List ℕ))
row tokens = let words = words_at tokens in some words.0 words.1
