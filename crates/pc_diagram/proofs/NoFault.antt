-- Tables have no fault exactly where they are those of a canonical diagram.
use Rattle.std.proofs.Common.{◌≡◌, ℕ, suc, ◌+◌, ◌*◌, ◌<◌, not, List, [], ◌∷◌, length, get_or, drop, Option, Some, None, option_map, refl, sym, ap, ◌∙◌, arith}
use Rattle.std.specs.List.{list_any}
use Rattle.std.specs.Option.{option_or}
use Rattle.std.proofs.lemmas.Bool.{false_from_ne_true}
use Rattle.std.proofs.lemmas.List.FromFn.{get_or-map-range_with_len}
use Rattle.pc_diagram.specs.declared.diagram_fault.DiagramFault.TheVariants as Fault
use Rattle.pc_diagram.specs.declared.flaw.Flaw.{Flaw}
use Rattle.pc_diagram.specs.declared.flaw.Flaw.TheVariants.{EdgeOut, Dead, Unreached, Twin, Order}
use Rattle.pc_diagram.specs.declared.raw_diagram.RawDiagram.{RawDiagram}
use Rattle.pc_diagram.specs.Diagram.{IsCanonicalLevel, IsCanonical}
use Rattle.pc_diagram.specs.DiagramFaults.{is_outside, same_edges, leads_out, is_dead, is_unreached, is_twin, out_of_turn, flawed_node, layer_of, place_or, flawed_place, fault_at, fault_among, first_fault}
use Rattle.pc_diagram.specs.DiagramShape.{misshapen_layer}
use Rattle.pc_diagram.specs.Levels.{Level, level, levels, row}
use Rattle.pc_diagram.proofs.AnyLemmas.{none_in_take, none_in_drop, all_fail_in_range}
use Rattle.pc_diagram.proofs.DiagramLemmas.{row-is, same_edges_decides, none_flawed}
use Rattle.pc_diagram.proofs.FirstBelow.{first_below-none}
use Rattle.pc_diagram.proofs.LevelLemmas.{length-levels}
use Rattle.pc_diagram.proofs.ShapeLemmas.{none_misshapen, shaped_none}
use Rattle.pc_diagram.proofs.TurnLemmas.{out_of_turn-range}

-- no flaw stands at a canonical level
none_at_level : (l : Level) → IsCanonicalLevel l → (flaw : Flaw) → flawed_node flaw l ≡ None
none_at_level l h EdgeOut =
    first_below-none (leads_out l) l.size (λ node lt. ap (list_any (is_outside l.next)) (row-is l node) ∙ none_in_take (is_outside l.next) l.domain (drop (node * l.domain) l.table) (none_in_drop (is_outside l.next) (node * l.domain) l.table h.layered))
none_at_level l h Dead = first_below-none (is_dead l) l.size (λ node lt. ap not (h.live node lt))
none_at_level l h Unreached = first_below-none (is_unreached l) l.next (λ node lt. ap not (h.reached node lt))
none_at_level l h Twin =
    first_below-none (is_twin l) l.size (λ node lt. all_fail_in_range (same_edges (row l node)) (row l) 0 node
    (λ other ge before. false_from_ne_true (same_edges (row l node) (row l other)) (λ t. h.reduced other node (omega arith) lt (sym ((same_edges_decides (row l node) (row l other)).0 t)))))
none_at_level l h Order = ap (out_of_turn 0) h.ordered ∙ out_of_turn-range 0 l.next

none_in : (flaw : Flaw) (ls : List Level) (v : ℕ) (d : Level) → ((i : ℕ) → i < length ls → flawed_node flaw (get_or ls i d) ≡ None) → flawed_place flaw v ls ≡ None
none_in flaw [] v d none = refl
none_in flaw (l ∷ ls) v d none =
    ap (λ found. place_or (layer_of flaw v) found (flawed_place flaw (v + 1) ls)) (none 0 (omega arith)) ∙ none_in flaw ls (v + 1) d (λ i lt. none (suc i) (omega arith))

none_stands : (raw : RawDiagram) → IsCanonical raw → (flaw : Flaw) → flawed_place flaw 0 (levels raw) ≡ None
none_stands raw h flaw = none_in flaw (levels raw) 0 (level raw 0)
    (λ v lt. let small : v < length raw.domains = omega (arith, length-levels raw) in
    ap (flawed_node flaw) (get_or-map-range_with_len (level raw) 0 (length raw.domains) v v (level raw 0) small (omega arith)) ∙ none_at_level (level raw v) (h.canonical v small) flaw)

none_among : (raw : RawDiagram) → IsCanonical raw → (flaws : List Flaw) → fault_among raw flaws ≡ None
none_among raw h [] = refl
none_among raw h (flaw ∷ flaws) =
    ap (λ place. option_or (option_map (fault_at flaw) place) (fault_among raw flaws)) (none_stands raw h flaw) ∙ none_among raw h flaws

pub canonical_no_fault : (raw : RawDiagram) → IsCanonical raw → first_fault raw ≡ None
canonical_no_fault raw h =
    ap (λ layer. option_or (option_map (λ k. Fault.Shape k 0) layer) (fault_among raw (EdgeOut ∷ Dead ∷ Unreached ∷ Twin ∷ Order ∷ []))) (shaped_none raw h.shape)
    ∙ none_among raw h (EdgeOut ∷ Dead ∷ Unreached ∷ Twin ∷ Order ∷ [])

pub no_fault_canonical : (raw : RawDiagram) → first_fault raw ≡ None → IsCanonical raw
no_fault_canonical raw h = by (misshapen_layer raw) refl h
  where
    by : (layer : Option ℕ) → misshapen_layer raw ≡ layer → option_or (option_map (λ k. Fault.Shape k 0) layer) (fault_among raw (EdgeOut ∷ Dead ∷ Unreached ∷ Twin ∷ Order ∷ [])) ≡ None → IsCanonical raw
    by None e none = none_flawed raw (none_misshapen raw e) none
    by (Some layer) e none = absurd cc
