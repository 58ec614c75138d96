use Rattle.std.proofs.Common.{nat_le, ◌-◌, ℕ, Bool, List, ap, sym, ◌∙◌, map, arith}
use Rattle.std.specs.List.{list_all}
use Rattle.pc_file.specs.declared.rule.Rule.{Rule}
use Rattle.pc_file.specs.Nesting.{nesting, open_in_place, open_in_places}
use Rattle.pc_file.proofs.NestingLemmas.{within-places, nesting-And, nesting-Or, nesting-AtMost, one_less}
use Rattle.pc_file.proofs.nesting.+nesting.Goals as goal

abbrev all_within : ℕ → ℕ → List Rule → Bool
all_within asked limit rules = list_all (λ rule. nat_le (open_in_place asked (nesting rule)) limit) rules

pub opens_at_most-returns-in-And : goal.opens_at_most-returns-in-And
opens_at_most-returns-in-And t c =
    let members = c.in-And.members in
    c.open_in_places.ensures ∙ ap (all_within 3 c.args.limit) c.as_slice.ensures ∙ sym (within-places 3 c.args.limit members)
    ∙ ap (λ n. nat_le n.open_at_most c.args.limit) (sym (nesting-And members) ∙ ap nesting (sym c.in-And.is))

pub opens_at_most-returns-in-Or : goal.opens_at_most-returns-in-Or
opens_at_most-returns-in-Or t c =
    let members = c.in-Or.members in
    c.open_in_places-in-Or.ensures ∙ ap (all_within 2 c.args.limit) c.as_slice-in-Or.ensures ∙ sym (within-places 2 c.args.limit members)
    ∙ ap (λ n. nat_le n.open_at_most c.args.limit) (sym (nesting-Or members) ∙ ap nesting (sym c.in-Or.is))

pub opens_at_most-returns-then-limit-ge1 : goal.opens_at_most-returns-then-limit-ge1
opens_at_most-returns-then-limit-ge1 t c =
    let members = c.in-AtMost.members in
    let limit = c.args.limit in
    c.open_in_places-then-limit-ge1.ensures ∙ ap (all_within 0 (limit - 1)) c.as_slice-then-limit-ge1.ensures ∙ sym (within-places 0 (limit - 1) members)
    ∙ sym (one_less (open_in_places 0 (map nesting members)) limit (omega arith))
    ∙ ap (λ n. nat_le n.open_at_most limit) (sym (nesting-AtMost c.in-AtMost.most members) ∙ ap nesting (sym c.in-AtMost.is))
