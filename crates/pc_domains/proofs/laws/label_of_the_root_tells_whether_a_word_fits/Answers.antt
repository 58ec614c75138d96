-- It is the one path that is kept of the root.
use Rattle.std.proofs.Common.{◌≡◌, ℕ, zero, suc, false, Some}
use Rattle.pc_diagram.specs.declared.bounds.Bounds.{Bounds}
use Rattle.pc_diagram.specs.Bounds.{allows_pair}
use Rattle.pc_labels.specs.Kept.{Kept, KeptPaths, kept_at}
use Rattle.pc_domains.specs.LabelPaths.{kept_by_labels}
use Rattle.pc_domains.specs.Orders.{IsNoDearer}
use Rattle.pc_domains.proofs.FitLemmas.{none_fits, root_fits}
use Rattle.pc_domains.proofs.LabelPathLemmas.{labels_of_root}
use Rattle.pc_domains.proofs.OrderLemmas.{no_dearer_adds_up, no_dearer_downward}
use Rattle.pc_domains.proofs.laws.label_of_the_root_tells_whether_a_word_fits.Goals as goal

none_at : (tails : KeptPaths) (bounds : Bounds) → ((path : Kept) → kept_at tails 0 0 ≡ Some path → allows_pair bounds path.pair ≡ false) → (place : ℕ) (path : Kept) → kept_by_labels tails 0 0 place ≡ Some path → allows_pair bounds path.pair ≡ false
none_at tails bounds none zero path is = none path is
none_at tails bounds none (suc place) path is = absurd cc

pub returns-clause-fits : goal.returns-clause-fits
returns-clause-fits c raw costs choices bounds tails path canonical choices_of alone are is allowed =
    root_fits raw costs choices bounds choices_of.distinct choices_of.choices_of IsNoDearer no_dearer_adds_up (no_dearer_downward bounds alone) (kept_by_labels tails 0)
    (labels_of_root raw costs choices canonical tails are) 0 path is allowed

pub returns-clause-none : goal.returns-clause-none
returns-clause-none c raw costs choices bounds tails canonical choices_of alone are none =
    none_fits raw costs choices bounds choices_of.distinct choices_of.choices_of IsNoDearer no_dearer_adds_up (no_dearer_downward bounds alone) (kept_by_labels tails 0)
    (labels_of_root raw costs choices canonical tails are) (none_at tails bounds none)
