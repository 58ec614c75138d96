-- The word that tells a kind of fault.
use Rattle.std.specs.Prelude.{ℕ, List, codes}
use Rattle.pc_rules.specs.declared.kind.Kind.{Kind}
use Rattle.pc_rules.specs.declared.kind.Kind.TheVariants.{Header, Cost, Variable, Value, Rule, Repeat, Unknown, Number, Depth, Size, End}

abbrev pub kind_word : Kind → List ℕ
kind_word Header = codes "header"
kind_word Cost = codes "cost"
kind_word Variable = codes "variable"
kind_word Value = codes "value"
kind_word Rule = codes "rule"
kind_word Repeat = codes "repeat"
kind_word Unknown = codes "unknown"
kind_word Number = codes "number"
kind_word Depth = codes "depth"
kind_word Size = codes "size"
kind_word End = codes "end"
