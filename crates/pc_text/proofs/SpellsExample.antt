-- The smallest file, and a text that spells it.
use Rattle.std.proofs.Common.{ℕ, pos, List, [], ◌∷◌, ◌++◌, refl, arith}
use Rattle.std.specs.Prelude.{codes}
use Rattle.std.specs.Fmt.{digits}
use Rattle.std.specs.List.{AllZip}
use Rattle.pc_base.specs.Lines.{lines}
use Rattle.pc_file.specs.Limits.{Contents, IsFile}
use Rattle.pc_file.specs.PrintedSize.{IsPrintable}
use Rattle.pc_names.specs.LineWords.{words, first_word, from_word}
use Rattle.pc_text.specs.Statement.{Says, statements}
use Rattle.pc_text.specs.Spells.{IsSmallText, Spells, significant_lines}

abbrev smallest : Contents
smallest = record {
  costs = codes "price" ∷ [];
  variables = record { name = codes "kind"; values = record { name = codes "only"; first = pos 7; second = pos 0 } ∷ [] } ∷ [];
  rules = [];
}

-- its lines, with one that is skipped
abbrev spelling : List ℕ
spelling = codes "product 1" ++ (10 ∷ (codes "cost price" ++ (10 ∷ (codes "# kinds" ++ (10 ∷ (codes "variable  kind" ++ (10 ∷ (codes " value only 7" ++ (10 ∷ codes "end")))))))))

is_small : IsSmallText spelling
unfolding lines
is_small = record { bytes_at_most = omega arith; lines_at_most = omega arith; each_line = refl }

is_printable : IsPrintable smallest
unfolding digits
is_printable = record { each_line = refl; bytes_at_most = omega arith }

is_file : IsFile smallest
is_file = record {
  some_cost = omega arith;
  costs_at_most = omega arith;
  costs_differ = refl;
  some_variable = omega arith;
  variables_at_most = omega arith;
  names_differ = refl;
  each_variable = refl;
  rules_at_most = omega arith;
  each_rule = refl;
  printable = is_printable;
}

says : AllZip (Says smallest) (significant_lines spelling) (statements smallest)
unfolding lines words first_word from_word digits
says = (refl, ((refl, refl), ((refl, refl), ((refl, refl), (refl, tt)))))

pub spells_smallest : Spells spelling smallest
spells_smallest = record { is_small = is_small; is_file = is_file; says = says }
