-- The numbers that the words so far are.
use Rattle.std.proofs.Common.{◌≡◌, map, take, All, decimal}
use Rattle.pc_dump.specs.Form.{IsNumber}
use Rattle.pc_dump.proofs.kinds.numbers_of.Given as goal

abbrev pub invariant-loop-word : goal.invariant-loop-word
invariant-loop-word l = record {
  is : map (λ word. word.now) (take l.word-index l.words) ≡ map decimal l.numbers;
  small : All IsNumber l.numbers;
}
