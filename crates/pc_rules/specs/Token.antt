-- How the bytes of a rule are cut into tokens.
use Rattle.std.specs.Prelude.{ℕ, zero, suc, ◌+◌, ◌-◌, ◌==◌, nat_lt, Bool, false, ◌||◌, if◌then◌else◌, List, [], ◌∷◌, length, slice_index, codes, Option, Some, None, Ok, Err}
use Rattle.std.specs.List.{take_while}
use Rattle.pc_file.specs.declared.sizes.TheConstants.{MOST_OPEN}
use Rattle.pc_names.specs.Name.{is_name_byte}
use Rattle.pc_rules.specs.declared.kind.Kind.TheVariants as kind
use Rattle.pc_rules.specs.declared.token.Sign.{Sign}
use Rattle.pc_rules.specs.declared.token.Sign.TheVariants.{Arrow, NotEqual, Equal, Open, Close, OpenBrace, CloseBrace, Comma}
use Rattle.pc_rules.specs.declared.token.Token.{Token}
use Rattle.pc_rules.specs.declared.token.Token.TheVariants.{Mark, Word}
use Rattle.pc_rules.specs.Parsed.{Parsed, ◌>>=◌}

-- the bytes of a sign
abbrev pub sign_text : Sign → List ℕ
sign_text Arrow = codes "=>"
sign_text NotEqual = codes "!="
sign_text Equal = codes "="
sign_text Open = codes "("
sign_text Close = codes ")"
sign_text OpenBrace = codes "{"
sign_text CloseBrace = codes "}"
sign_text Comma = codes ","

-- the bytes of a token
abbrev pub token_text : Token → List ℕ
token_text (Mark sign) = sign_text sign
token_text (Word word) = word

-- the longest sign that begins with this byte, where the other comes after it
abbrev pub sign_at : ℕ → ℕ → Option Sign
sign_at first second =
    if first == 61 then Some (if second == 62 then Arrow else Equal)
    else (if first == 33 then (if second == 61 then Some NotEqual else None)
    else (if first == 40 then Some Open
    else (if first == 41 then Some Close
    else (if first == 123 then Some OpenBrace
    else (if first == 125 then Some CloseBrace
    else (if first == 44 then Some Comma
    else None))))))

abbrev pub word_or_sign : List ℕ → Option Sign → Option Token
word_or_sign word (Some sign) = Some (Mark sign)
word_or_sign [] None = None
word_or_sign (byte ∷ bytes) None = Some (Word (byte ∷ bytes))

-- the longest token that the bytes begin with
unfoldable pub first_token : List ℕ → Option Token
first_token bytes = word_or_sign (take_while is_name_byte bytes) (sign_at (slice_index bytes 0) (slice_index bytes 1))

-- a token, and those after it; no token where the bytes begin with none
abbrev pub with_token : Option Token → (ℕ → Parsed (List Token)) → Parsed (List Token)
with_token None after = Err kind.Rule
with_token (Some token) after = after (length (token_text token)) >>= λ tokens. Ok (token ∷ tokens)

-- The tokens of the bytes. The number counts the bytes that belong to the token before.
abbrev pub tokens_after : ℕ → List ℕ → Parsed (List Token)
tokens_after skip [] = Ok []
tokens_after (suc skip) (byte ∷ bytes) = tokens_after skip bytes
tokens_after zero (byte ∷ bytes) = if byte == 32 then tokens_after 0 bytes else with_token (first_token (byte ∷ bytes)) (λ width. tokens_after (width - 1) bytes)

unfoldable pub tokens_of : List ℕ → Parsed (List Token)
tokens_of = tokens_after 0

abbrev pub one_if_open : Token → ℕ
one_if_open (Mark Open) = 1
one_if_open _ = 0

abbrev pub one_if_closed : Token → ℕ
one_if_closed (Mark Close) = 1
one_if_closed _ = 0

-- At some token the opening parentheses so far are more than the limit more than the closing ones; some came before.
abbrev pub is_deep_after : ℕ → ℕ → ℕ → List Token → Bool
is_deep_after limit opened closed [] = false
is_deep_after limit opened closed (token ∷ tokens) =
    let opened_now = opened + one_if_open token in
    let closed_now = closed + one_if_closed token in
    nat_lt (closed_now + limit) opened_now || is_deep_after limit opened_now closed_now tokens

unfoldable pub is_too_deep : List Token → Bool
is_too_deep = is_deep_after MOST_OPEN 0 0
