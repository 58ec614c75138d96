-- How a text is cut into tokens, one at a time.
use Rattle.std.proofs.Common.{◌≡◌, ℕ, zero, suc, ◌-◌, ◌<◌, ◌==◌, false, cond, List, [], ◌∷◌, ◌++◌, length, drop, Some, Ok, Err, refl, sym, ap, ◌∙◌, append_assoc, arith}
use Rattle.pc_rules.specs.declared.token.Token.{Token}
use Rattle.pc_rules.specs.Parsed.{Parsed, ◌>>=◌}
use Rattle.pc_rules.specs.Token.{token_text, first_token, with_token, tokens_after}

-- what belongs to the token before is passed over
pub tokens_after-drop : (skip : ℕ) (bytes : List ℕ) → tokens_after skip bytes ≡ tokens_after 0 (drop skip bytes)
tokens_after-drop zero bytes = refl
tokens_after-drop (suc skip) [] = refl
tokens_after-drop (suc skip) (byte ∷ bytes) = tokens_after-drop skip bytes

regroup : (token : Token) (front : List Token) (outcome : Parsed (List Token)) →
    ((outcome >>= λ tokens. Ok (token ∷ tokens)) >>= λ more. Ok (front ++ more)) ≡ (outcome >>= λ more. Ok ((front ++ token ∷ []) ++ more))
regroup token front (Ok tokens) = ap Ok (sym (append_assoc front (token ∷ []) tokens))
regroup token front (Err kind) = refl

-- the bytes after the first token
pub tokens_after-first : (byte : ℕ) (bytes : List ℕ) (token : Token) → byte == 32 ≡ false → first_token (byte ∷ bytes) ≡ Some token → 0 < length (token_text token) →
    tokens_after 0 (byte ∷ bytes) ≡ (tokens_after 0 (drop (length (token_text token)) (byte ∷ bytes)) >>= λ tokens. Ok (token ∷ tokens))
tokens_after-first byte bytes token apart first some =
    let after : ℕ → Parsed (List Token) = λ width. tokens_after (width - 1) bytes in
    let width : ℕ = length (token_text token) in
    let one_more : width ≡ suc (width - 1) = omega arith in
    ap (λ b. cond b (tokens_after 0 bytes) (with_token (first_token (byte ∷ bytes)) after)) apart
    ∙ ap (λ o. with_token o after) first
    ∙ ap (λ o. o >>= λ tokens. Ok (token ∷ tokens)) (tokens_after-drop (width - 1) bytes ∙ ap (λ n. tokens_after 0 (drop n (byte ∷ bytes))) (sym one_more))

-- one more token behind those that were read
pub tokens_after-more : (text rest bytes : List ℕ) (byte : ℕ) (token : Token) (front : List Token) → rest ≡ byte ∷ bytes → byte == 32 ≡ false → first_token rest ≡ Some token → 0 < length (token_text token) →
    tokens_after 0 text ≡ (tokens_after 0 rest >>= λ more. Ok (front ++ more)) →
    tokens_after 0 text ≡ (tokens_after 0 (drop (length (token_text token)) rest) >>= λ more. Ok ((front ++ token ∷ []) ++ more))
tokens_after-more text rest bytes byte token front is apart first some so_far =
    let width : ℕ = length (token_text token) in
    let step = tokens_after-first byte bytes token apart (ap first_token (sym is) ∙ first) some in
    so_far ∙ ap (λ r. tokens_after 0 r >>= λ more. Ok (front ++ more)) is
    ∙ ap (λ o. o >>= λ more. Ok (front ++ more)) step
    ∙ regroup token front (tokens_after 0 (drop width (byte ∷ bytes)))
    ∙ ap (λ r. tokens_after 0 (drop width r) >>= λ more. Ok ((front ++ token ∷ []) ++ more)) (sym is)
