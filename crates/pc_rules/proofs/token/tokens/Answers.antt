use Rattle.std.proofs.Common.{◌≡◌, ◌==◌, ◌++◌, ◌∷◌, [], Ok, List, ℕ, false, drop, sym, ap, ◌∙◌, rules}
use Rattle.pc_rules.specs.declared.token.Token.{Token}
use Rattle.pc_rules.specs.Parsed.{◌>>=◌}
use Rattle.pc_rules.specs.Token.{tokens_after}
use Rattle.pc_rules.proofs.TokenLemmas.{tokens_after-more}
use Rattle.pc_rules.proofs.token.tokens.Goals as goal

pub loop-first-preserved : goal.loop-first-preserved
loop-first-preserved c =
    let rest = c.loop-first.rest.now in
    let token = c.in-Some-first_token.token in
    let front = c.loop-first.tokens in
    let apart : c.in-Some.first.now == 32 ≡ false = search rules in
    let first = sym c.in-Some-first_token.ensures.token in
    let more = tokens_after-more c.args.text.now rest c.in-Some.after.now c.in-Some.first.now token front c.in-Some.ensures.cases.0 apart first c.in-Some-first_token.ensures.some c.loop-first.invariant in
    let read : c.push.new.self ≡ front ++ token ∷ [] = c.in_ok-push.ensures.ok in
    let left : c.split_at.result.1.now ≡ drop c.width.result rest = c.split_at.ensures.back in
    more
    ∙ ap (λ n. tokens_after 0 (drop n rest) >>= λ more. Ok ((front ++ token ∷ []) ++ more)) (sym c.width.ensures)
    ∙ ap (λ (r : List ℕ). tokens_after 0 r >>= λ more. Ok ((front ++ token ∷ []) ++ more)) (sym left)
    ∙ ap (λ (ts : List Token). tokens_after 0 c.split_at.result.1.now >>= λ more. Ok (ts ++ more)) (sym read)
