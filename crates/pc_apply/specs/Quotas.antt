-- What is asked by quotas of lists of sets.
use Rattle.std.specs.Prelude.{ℕ, nat_le, ◌<◌, List, [], Bool, false, Option, None, Some, length, slice_index_or}
use Rattle.pc_store.specs.declared.id.Node.{Node}
use Rattle.pc_store.specs.declared.store.Store.{Store}
use Rattle.pc_apply.specs.declared.quota.Quota.{Quota}
use Rattle.pc_apply.specs.Counting.{count_at}
use Rattle.pc_apply.specs.Levels.{Question}

-- a quota is of one of these lists, if there is one
abbrev pub IsQuotaOf : List (List Node) → Option Quota → Type 0
IsQuotaOf lists None = Unit {0}
IsQuotaOf lists (Some quota) = quota.list < length lists

-- a word lies in at most so many sets of the list, which is of a layer. Without a quota no word does
abbrev pub is_in_quota : Store → ℕ → List (List Node) → Option Quota → List ℕ → Bool
is_in_quota store layer lists None word = false
is_in_quota store layer lists (Some quota) word = nat_le (count_at store layer (slice_index_or lists quota.list []) word) quota.most

-- the quotas of lists of a layer, and the words that are within them
abbrev pub quotas_at : Store → ℕ → List (List Node) → Question (Option Quota)
quotas_at store layer lists = record { IsAt = IsQuotaOf lists; asks = is_in_quota store layer lists }
