-- The parts of a file's rules, in the order in which their sets of words are made, and the first whose set is too large.
use Rattle.std.specs.Prelude.{◌≡◌, ℕ, ◌+◌, nat_lt, ◌&&◌, Bool, true, List, [], ◌∷◌, ◌++◌, Option, None, Some, option_map, position}
use Rattle.std.specs.List.{flat_map}
use Rattle.std.specs.Option.{option_or}
use Rattle.pc_diagram.specs.declared.limits.TheConstants.{MOST_NODES}
use Rattle.pc_diagram.specs.Rests.{size}
use Rattle.pc_diagram.specs.Words.{is_word}
use Rattle.pc_file.specs.declared.variable.Variable.{Variable}
use Rattle.pc_file.specs.declared.rule.Rule.{Rule, map-Rule}
use Rattle.pc_file.specs.declared.rule.Rule.TheOpen.{Rule-F, Is, IsNot, OneOf, Not, And, Or, Implies, Same, AtMost, Table}
use Rattle.pc_file.specs.declared.rule.Rule.TheFolds.{fold-Rule}
use Rattle.pc_file.specs.declared.rule.Rule.TheViews.{out-Rule}
use Rattle.pc_file.specs.Contents.{Contents}
use Rattle.pc_file.specs.Full.{full_domains}
use Rattle.pc_file.specs.Rule.{holds_step, holds}

-- a rule with what comes before it: for which words it holds, and for which the parts of its subrules
pub record Parts : Type 0 where
  pub holds : List ℕ → Bool
  pub before : List (List ℕ → Bool)

-- the parts, and at last the rule itself
abbrev pub with_itself : Parts → List (List ℕ → Bool)
with_itself parts = parts.before ++ parts.holds ∷ []

-- what stands in the place of the subrules, in the order of the text
abbrev pub subrules : {A : Type 0} → Rule-F A → List A
subrules (Is variable value) = []
subrules (IsNot variable value) = []
subrules (OneOf variable values) = []
subrules (Not rule) = rule ∷ []
subrules (And rules) = rules
subrules (Or rules) = rules
subrules (Implies rule consequence) = rule ∷ consequence ∷ []
subrules (Same variable other) = []
subrules (AtMost most rules) = rules
subrules (Table variables rows) = []

-- One layer of a rule, with the parts of each subrule in its place.
abbrev pub parts_step : List Variable → Rule-F Parts → Parts
parts_step variables rule = record {
  holds = λ word. holds_step variables word (map-Rule Parts Bool (λ parts. parts.holds word) rule);
  before = flat_map with_itself (subrules rule);
}

-- the subrules of a rule
abbrev pub members_of : Rule → List Rule
members_of rule = subrules (out-Rule rule)

-- the parts of a rule before itself: those of its subrules in order, each after its own
abbrev pub parts_before : List Variable → Rule → List (List ℕ → Bool)
parts_before variables rule = (fold-Rule Parts (parts_step variables) rule).before

-- the parts of a rule: those before it, and then the rule itself
abbrev pub parts_of : List Variable → Rule → List (List ℕ → Bool)
parts_of variables rule = with_itself (fold-Rule Parts (parts_step variables) rule)

-- for each rule its parts, and then the words for which it and all rules before it hold
abbrev pub sets_of : List Variable → (List ℕ → Bool) → List Rule → List (List (List ℕ → Bool))
sets_of variables obeys [] = []
sets_of variables obeys (rule ∷ rules) = (parts_of variables rule ++ (λ word. obeys word && holds variables word rule) ∷ []) ∷ sets_of variables (λ word. obeys word && holds variables word rule) rules

-- the sets of words that are made of a file, rule by rule
abbrev pub compile_list : Contents → List (List (List ℕ → Bool))
compile_list file = sets_of file.variables (λ word. true) file.rules

-- the words over the numbers of values that pass a test are a set of more nodes than are allowed
abbrev pub is_too_large : ℕ → List ℕ → (List ℕ → Bool) → Bool
is_too_large most domains test = nat_lt most (size domains (λ word. is_word domains word && test word))

-- where the first set of more nodes than are allowed stands: its rule, counted on from this number, and its part
abbrev pub node_limit_from : ℕ → ℕ → List ℕ → List (List (List ℕ → Bool)) → Option (ℕ × ℕ)
node_limit_from rule most domains [] = None
node_limit_from rule most domains (sets ∷ made) =
    option_or (option_map (λ place. (rule, place + 1)) (position (is_too_large most domains) sets))
    (node_limit_from (rule + 1) most domains made)

-- the rule and the part, both counted from 1, of the first set of more nodes than are allowed; None where there is none
abbrev pub node_limit : ℕ → List ℕ → List (List (List ℕ → Bool)) → Option (ℕ × ℕ)
node_limit most domains made = node_limit_from 1 most domains made

-- the first set of more nodes than are allowed is that of this part of this rule
abbrev pub IsNodeLimit : ℕ → List ℕ → List (List (List ℕ → Bool)) → ℕ → ℕ → Type 0
IsNodeLimit most domains made rule part = node_limit most domains made ≡ Some (rule, part)

-- none of the sets that are made has more nodes than are allowed
abbrev pub HasNoNodeLimit : ℕ → List ℕ → List (List (List ℕ → Bool)) → Type 0
HasNoNodeLimit most domains made = node_limit most domains made ≡ None

-- the rule and the part at which compiling a file meets the limit of nodes
abbrev pub file_node_limit : Contents → Option (ℕ × ℕ)
file_node_limit file = node_limit MOST_NODES (full_domains file) (compile_list file)
