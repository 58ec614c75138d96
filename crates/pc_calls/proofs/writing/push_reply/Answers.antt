-- The head, what is shown and the last line stand one after the other.
use Rattle.std.proofs.Common.{◌≡◌, List, ℕ, ◌++◌, codes, OnOk, append_assoc, ap, subst, ◌∙◌}
use Rattle.pc_calls.specs.ReplyText.{head_text, reply_text, shown_text}
use Rattle.pc_calls.proofs.writing.push_reply.Goals as goal

pub returns : goal.returns
returns c =
    let before = c.args.text.now in
    let head = head_text c.args.reply.now.head in
    let shown = shown_text c.args.reply.now.shown in
    let same : c.push_shown.new.text ++ codes ".\n" ≡ before ++ reply_text c.args.reply.now =
    ap (λ (l : List ℕ). l ++ codes ".\n") (c.in_ok-push_shown.ensures ∙ ap (λ (l : List ℕ). l ++ shown) c.in_ok-push_head.ensures ∙ append_assoc before head shown)
    ∙ append_assoc before (head ++ shown) (codes ".\n") in
    subst (λ (l : List ℕ). OnOk c.extend_from_slice.result (c.extend_from_slice.new.self ≡ l)) same c.extend_from_slice.ensures.ok
