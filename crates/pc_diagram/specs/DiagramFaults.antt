-- Where each fault of a diagram stands, and which is told.
use Rattle.std.specs.Prelude.{ℕ, ◌+◌, ◌==◌, nat_lt, nat_eq, Bool, false, not, if◌then◌else◌, List, [], ◌∷◌, map, filter, Option, None, Some, is_some, option_map}
use Rattle.std.specs.Cmp.Lexicographic.{pointwise}
use Rattle.std.specs.List.{range_with_len, list_any}
use Rattle.std.specs.Option.{option_eq, option_or}
use Rattle.pc_diagram.specs.declared.diagram_fault.DiagramFault.{DiagramFault}
use Rattle.pc_diagram.specs.declared.diagram_fault.DiagramFault.TheVariants as Fault
use Rattle.pc_diagram.specs.declared.flaw.Flaw.{Flaw}
use Rattle.pc_diagram.specs.declared.flaw.Flaw.TheVariants.{EdgeOut, Dead, Unreached, Twin, Order}
use Rattle.pc_diagram.specs.declared.place.Place.{Place}
use Rattle.pc_diagram.specs.declared.raw_diagram.RawDiagram.{RawDiagram}
use Rattle.pc_diagram.specs.DiagramShape.{first_below, misshapen_layer}
use Rattle.pc_diagram.specs.Fitting.{is_number}
use Rattle.pc_diagram.specs.Levels.{Level, levels, row}

-- an edge leads to none of so many nodes
abbrev pub is_outside : ℕ → Option ℕ → Bool
is_outside count None = false
is_outside count (Some target) = not (nat_lt target count)

-- the same edges
abbrev pub same_edges : List (Option ℕ) → List (Option ℕ) → Bool
same_edges = pointwise (option_eq nat_eq)

-- an edge of a node leads to no node of the next layer
abbrev pub leads_out : Level → ℕ → Bool
leads_out l node = list_any (is_outside l.next) (row l node)

-- a node has no edge
abbrev pub is_dead : Level → ℕ → Bool
is_dead l node = not (list_any is_some (row l node))

-- no edge leads to a node of the next layer
abbrev pub is_unreached : Level → ℕ → Bool
is_unreached l node = not (list_any (λ target. is_number target node) l.table)

-- an earlier node has the same edges
abbrev pub is_twin : Level → ℕ → Bool
is_twin l node = list_any (same_edges (row l node)) (map (row l) (range_with_len 0 node))

-- the targets of edges, each once, in the order in which they are first met
abbrev pub met : List (Option ℕ) → List ℕ
met [] = []
met (None ∷ edges) = met edges
met (Some target ∷ edges) = target ∷ filter (λ other. not (other == target)) (met edges)

-- of numbers that should go on from one on, the first in whose turn another comes
abbrev pub out_of_turn : ℕ → List ℕ → Option ℕ
out_of_turn turn [] = None
out_of_turn turn (number ∷ numbers) = if number == turn then out_of_turn (turn + 1) numbers else Some turn

-- the first node with a flaw: of this layer, or for the third and the last of the next layer
abbrev pub flawed_node : Flaw → Level → Option ℕ
flawed_node EdgeOut l = first_below (leads_out l) l.size
flawed_node Dead l = first_below (is_dead l) l.size
flawed_node Unreached l = first_below (is_unreached l) l.next
flawed_node Twin l = first_below (is_twin l) l.size
flawed_node Order l = out_of_turn 0 (met l.table)

-- the layer of that node, for the level of a variable
abbrev pub layer_of : Flaw → ℕ → ℕ
layer_of EdgeOut variable = variable
layer_of Dead variable = variable
layer_of Unreached variable = variable + 1
layer_of Twin variable = variable
layer_of Order variable = variable + 1

-- a node of this layer, or a later place
abbrev pub place_or : ℕ → Option ℕ → Option Place → Option Place
place_or layer (Some node) later = Some (record { layer = layer; node = node })
place_or layer None later = later

-- the first place with a flaw, by layer and then by node, in the levels from a variable on
abbrev pub flawed_place : Flaw → ℕ → List Level → Option Place
flawed_place flaw variable [] = None
flawed_place flaw variable (l ∷ ls) = place_or (layer_of flaw variable) (flawed_node flaw l) (flawed_place flaw (variable + 1) ls)

-- the fault that is told of a place
abbrev pub fault_at : Flaw → Place → DiagramFault
fault_at EdgeOut place = Fault.EdgeOut place.layer place.node
fault_at Dead place = Fault.Dead place.layer place.node
fault_at Unreached place = Fault.Unreached place.layer place.node
fault_at Twin place = Fault.Twin place.layer place.node
fault_at Order place = Fault.Order place.layer place.node

-- the fault of the first of these flaws that stands somewhere
abbrev pub fault_among : RawDiagram → List Flaw → Option DiagramFault
fault_among raw [] = None
fault_among raw (flaw ∷ flaws) = option_or (option_map (fault_at flaw) (flawed_place flaw 0 (levels raw))) (fault_among raw flaws)

-- the fault of tables, if they have one: their shape comes first, and then the flaws in their order
abbrev pub first_fault : RawDiagram → Option DiagramFault
first_fault raw =
    option_or (option_map (λ layer. Fault.Shape layer 0) (misshapen_layer raw))
    (fault_among raw (EdgeOut ∷ Dead ∷ Unreached ∷ Twin ∷ Order ∷ []))
