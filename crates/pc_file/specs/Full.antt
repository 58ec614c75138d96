-- The words that sessions over a file are about: those of its diagram.
use Rattle.std.specs.Prelude.{ℕ, nat_eq, Bool, List}
use Rattle.std.specs.Cmp.Lexicographic.{pointwise}
use Rattle.std.specs.List.{list_any}
use Rattle.pc_file.specs.Contents.{Contents}
use Rattle.pc_file.specs.Products.{value_counts, products}

-- how many values each variable of the diagram takes
abbrev pub full_domains : Contents → List ℕ
full_domains file = value_counts file.variables

-- the words of the diagram, in lexicographic order
abbrev pub full : Contents → List (List ℕ)
full file = products file

-- a word is one of them
abbrev pub is_full : Contents → List ℕ → Bool
is_full file word = list_any (pointwise nat_eq word) (full file)
