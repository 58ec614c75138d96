-- The replies are those to the generator's calls.
use Rattle.std.proofs.Common.{◌≡◌, ℤ, pos, refl, ap, ◌∙◌, rules, of_z, to_z, w64}
use Rattle.std.specs.Prelude.{codes}
use Rattle.pc_calls.specs.declared.call.Call.TheVariants.{Bound}
use Rattle.pc_generator.specs.GeneratorCalls.{most_days, most_price, publishing}
use Rattle.pc_generator.proofs.Standing.{are-answers}
use Rattle.pc_generator.proofs.asking.ask_sessions.Goals as goal

pub returns-clause-answers : goal.returns-clause-answers
returns-clause-answers c =
    let price_bound : ℤ = to_z w64 (of_z w64 c.most_price.result) in
    let days_bound : ℤ = to_z w64 (of_z w64 c.most_days.result) in
    let price_is : to_z w64 (of_z w64 c.most_price.result) ≡ pos (most_price c.args.size) = search rules in
    let days_is : to_z w64 (of_z w64 c.most_days.result) ≡ pos (most_days c.args.size) = search rules in
    let is_price = ap (λ name. Bound 2 name price_bound) c.price.ensures ∙ ap (Bound 2 (codes "price")) price_is in
    let is_days = ap (λ name. Bound 3 name days_bound) c.days.ensures ∙ ap (Bound 3 (codes "days")) days_is in
    are-answers (publishing c.args.size) (Bound 2 c.price.result price_bound) (Bound 3 c.days.result days_bound) c.args.book.now c.open.new.book c.open-2.new.book c.open-3.new.book
    c.args.own.now c.open.new.own c.open-2.new.own c.open-3.new.own c.bound.new.own c.bound-2.new.own c.in_ok-first.first c.in_ok-open.field-0 c.in_ok-open-2.field-0 c.in_ok-second.second c.in_ok-third.third
    c.requires.published c.in_ok-first.ensures.called c.in_ok-open.ensures.called c.in_ok-open-2.ensures.called c.in_ok-second.ensures.called c.in_ok-third.ensures.called c.args.size refl is_price is_days
