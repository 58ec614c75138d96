-- How many slots the diagram of a file has, said over its words: one for each value of a variable and each of the different
-- ways in which words go on at it.
use Rattle.std.specs.Prelude.{ℕ, zero, suc, ◌+◌, ◌*◌, length, take, drop, slice_index, Option, Some, None}
use Rattle.pc_diagram.specs.Rests.{rest_count}
use Rattle.pc_file.specs.Contents.{Contents}
use Rattle.pc_file.specs.Full.{full_domains, is_full}

-- of one variable
unfoldable pub slots_at : Contents → ℕ → ℕ
slots_at file variable =
    slice_index (full_domains file) variable * rest_count (is_full file) (take variable (full_domains file)) (drop variable (full_domains file))

-- of the first so many variables
unfoldable pub slots_up_to : Contents → ℕ → ℕ
slots_up_to file zero = 0
slots_up_to file (suc count) = slots_up_to file count + slots_at file count

-- of all variables
abbrev pub all_slots : Contents → ℕ
all_slots file = slots_up_to file (length (full_domains file))

-- the most steps of a choose, by its variable: its listing, two passes, and the slots of the variable twice
abbrev pub choose_steps : Contents → Option ℕ → ℕ
choose_steps file None = 0
choose_steps file (Some variable) = 2 * all_slots file + 2 * slots_at file variable

-- the most steps of a retract, by its variable
abbrev pub retract_steps : Contents → Option ℕ → ℕ
retract_steps file None = 0
retract_steps file (Some variable) = 2 * all_slots file + slots_at file variable
