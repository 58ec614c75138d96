use Rattle.std.proofs.Common.{ℕ, List, sym, ◌∙◌}
use Rattle.std.specs.Borrow.{Bor}
use Rattle.std.proofs.lemmas.List.Folds.{list_all-map}
use Rattle.pc_text.specs.Orders.{is_cost_text}
use Rattle.pc_text.proofs.arguments.are_costs.Goals as goal

pub returns : goal.returns
returns c = c.each_is_cost.ensures ∙ sym (list_all-map is_cost_text (λ (word : Bor (List ℕ)). word.now) c.args.words.now)
