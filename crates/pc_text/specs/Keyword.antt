-- The first words of statements, and which may follow which.
use Rattle.std.specs.Prelude.{ℕ, Bool, true, false, if◌then◌else◌, List, codes, Option, Some, None}
use Rattle.pc_names.specs.Spelling.{same_spelling}
use Rattle.pc_rules.specs.declared.kind.Kind.{Kind}
use Rattle.pc_rules.specs.declared.kind.Kind.TheVariants as kind
use Rattle.pc_text.specs.declared.keyword.Keyword.{Keyword}
use Rattle.pc_text.specs.declared.keyword.Keyword.TheVariants.{Product, Cost, Variable, Value, Rule, End}

-- the keyword that a word is
unfoldable pub keyword_of : List ℕ → Option Keyword
keyword_of word =
    if same_spelling word (codes "product") then Some Product
    else (if same_spelling word (codes "cost") then Some Cost
    else (if same_spelling word (codes "variable") then Some Variable
    else (if same_spelling word (codes "value") then Some Value
    else (if same_spelling word (codes "rule") then Some Rule
    else (if same_spelling word (codes "end") then Some End else None)))))

-- after the first, a statement that begins with the second may come
abbrev pub follows : Keyword → Option Keyword → Bool
follows Product (Some Cost) = true
follows Cost (Some Cost) = true
follows Cost (Some Variable) = true
follows Variable (Some Value) = true
follows Value (Some Value) = true
follows Value (Some Variable) = true
follows Value (Some Rule) = true
follows Value (Some End) = true
follows Rule (Some Rule) = true
follows Rule (Some End) = true
follows last next = false

-- the kind of fault where what comes after may not
abbrev pub expected : Keyword → Kind
expected Product = kind.Cost
expected Cost = kind.Variable
expected Variable = kind.Value
expected Value = kind.Value
expected Rule = kind.Rule
expected End = kind.End

-- the kind of fault where the words after the keyword are wrong
abbrev pub named : Keyword → Kind
named Product = kind.Header
named Cost = kind.Cost
named Variable = kind.Variable
named Value = kind.Value
named Rule = kind.Rule
named End = kind.End
