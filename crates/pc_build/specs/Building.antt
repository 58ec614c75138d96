-- Making the sets of a file's rules, one after another.
use Rattle.std.specs.Prelude.{◌≡◌, ℕ, ◌≤◌, Bool, true, List, [], ◌++◌, None, Some, length, take, drop, slice_index}
use Rattle.std.specs.List.{list_all}
use Rattle.pc_diagram.specs.declared.limits.TheConstants.{MOST_NODES}
use Rattle.pc_diagram.specs.declared.raw_diagram.RawDiagram.{RawDiagram}
use Rattle.pc_diagram.specs.Rests.{rest_count}
use Rattle.pc_conjunction.specs.declared.conjunction.Conjunction.{Conjunction}
use Rattle.pc_file.specs.declared.variable.Variable.{Variable}
use Rattle.pc_file.specs.declared.rule.Rule.{Rule}
use Rattle.pc_file.specs.Contents.{Contents}
use Rattle.pc_file.specs.Full.{full_domains, full, is_full}
use Rattle.pc_file.specs.Products.{value_counts}
use Rattle.pc_file.specs.Rule.{holds}
use Rattle.pc_file.specs.Parts.{sets_of, IsNodeLimit, HasNoNodeLimit, file_node_limit}
use Rattle.pc_build.specs.declared.fault.BuildFault.{BuildFault}
use Rattle.pc_build.specs.declared.fault.BuildFault.TheVariants.{NodeLimit, NoProduct, NoMemory}
use Rattle.pc_build.specs.Making.{Holds}

-- how the first rules were joined: the sets that were made, none of which is too large, and the words for which all of
-- these rules hold
pub record Joined (variables : List Variable) (rules : List Rule) (count : ℕ) (all : Conjunction) : Type 0 where
  pub obeys : List ℕ → Bool
  pub before : List (List (List ℕ → Bool))
  pub sets_are : sets_of variables (λ word. true) rules ≡ before ++ sets_of variables obeys (drop count rules)
  pub count_is : length before ≡ count
  pub none : HasNoNodeLimit MOST_NODES (value_counts variables) before
  pub holds_all : Holds (value_counts variables) all obeys
  pub words : (word : List ℕ) → obeys word ≡ list_all (holds variables word) (take count rules)

-- a fault of joining rules comes exactly so
abbrev pub IsJoinFault : List Variable → List Rule → BuildFault → Type 0
IsJoinFault variables rules (NodeLimit rule part) = IsNodeLimit MOST_NODES (value_counts variables) (sets_of variables (λ word. true) rules) rule part
IsJoinFault variables rules NoProduct = ⊥
IsJoinFault variables rules NoMemory = Unit {0}

-- no set that is made of a file is too large
abbrev pub IsSmall : Contents → Type 0
IsSmall file = file_node_limit file ≡ None

-- a fault of compiling a file comes exactly so: first the first set that is too large, then that there is no product;
-- want of memory may come in any case
abbrev pub IsBuildFault : Contents → BuildFault → Type 0
IsBuildFault file (NodeLimit rule part) = file_node_limit file ≡ Some (rule, part)
IsBuildFault file NoProduct = IsSmall file × (full file ≡ [])
IsBuildFault file NoMemory = Unit {0}

-- each layer of a diagram has as many nodes as the words of a file have different non-empty rests after so many values
abbrev pub HasNodeForEachRest : Contents → RawDiagram → Type 0
HasNodeForEachRest file diagram = (layer : ℕ) → layer ≤ length (full_domains file) → slice_index diagram.sizes layer ≡ rest_count (is_full file) (take layer (full_domains file)) (drop layer (full_domains file))
