use Rattle.pc_file.specs.Products.{value_counts, obeys, products}
use Rattle.pc_file.proofs.WordLemmas.{kept_only, kept_each, kept_ordered, ordered_differ}
use Rattle.pc_file.proofs.laws.products_are_the_words_that_obey.Goals as goal

pub returns-clause-words : goal.returns-clause-words
returns-clause-words c file word =
    let counts = value_counts file.variables in
    (kept_only (obeys file) counts word, λ h. kept_each (obeys file) counts word h.0 h.1)

pub returns-clause-once : goal.returns-clause-once
returns-clause-once c file = ordered_differ (products file) (kept_ordered (obeys file) (value_counts file.variables))

pub returns-clause-in_order : goal.returns-clause-in_order
returns-clause-in_order c file = kept_ordered (obeys file) (value_counts file.variables)
