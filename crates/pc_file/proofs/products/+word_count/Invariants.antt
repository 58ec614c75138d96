use Rattle.std.proofs.Common.{length}
use Rattle.pc_file.proofs.products.+word_count.Given as goal

abbrev pub decreases-word_count : goal.decreases-word_count
decreases-word_count l = length l.variables.now
