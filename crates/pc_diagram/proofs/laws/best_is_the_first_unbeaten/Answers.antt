-- The order by costs is a strict weak order, over which the first best is the first that none beats.
use Rattle.std.proofs.Common.{ap}
use Rattle.pc_diagram.specs.Best.{best, is_cheaper_word}
use Rattle.pc_diagram.proofs.CheaperOrder.{is_cheaper_word_order}
use Rattle.pc_diagram.proofs.FirstBest.{first_best-found, first_best-is, first_best-none, IsFirstUnbeaten-all}
use Rattle.pc_diagram.proofs.laws.best_is_the_first_unbeaten.Goals as goal

pub returns-clause-best : goal.returns-clause-best
returns-clause-best c =
    λ costs words word. (first_best-found (is_cheaper_word costs) (is_cheaper_word_order costs) words word, first_best-is (is_cheaper_word costs) (is_cheaper_word_order costs) words word)

pub returns-clause-none_cheaper : goal.returns-clause-none_cheaper
returns-clause-none_cheaper c =
    λ costs words word e. IsFirstUnbeaten-all (is_cheaper_word costs) (is_cheaper_word_order costs) words word (first_best-found (is_cheaper_word costs) (is_cheaper_word_order costs) words word e)

pub returns-clause-none : goal.returns-clause-none
returns-clause-none c =
    λ costs words. (first_best-none (is_cheaper_word costs) (is_cheaper_word_order costs) words, λ e. ap (best costs) e)
