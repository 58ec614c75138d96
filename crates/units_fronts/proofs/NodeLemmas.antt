-- Fronts of a diagram have its layers and nodes.
use Rattle.std.proofs.Common.{◌≡◌, ℕ, ◌-◌, ◌≤◌, List, [], ◌∷◌, ◌++◌, None, length, slice_index, slice_index_or, refl, sym, ap, ◌∙◌, arith}
use Rattle.pc_diagram.specs.declared.choice.Choice.{Choice}
use Rattle.pc_diagram.specs.declared.costs.CostPair.{CostPair}
use Rattle.pc_diagram.specs.declared.raw_diagram.RawDiagram.{RawDiagram}
use Rattle.pc_diagram.specs.declared.side.Side.{Side}
use Rattle.pc_diagram.specs.declared.side.Side.TheVariants.{Heads, Tails}
use Rattle.pc_pareto.specs.declared.fronts.Fronts.{Fronts}
use Rattle.pc_diagram.specs.Choices.{value_of, AgreeBeside}
use Rattle.pc_diagram.proofs.ChoiceLemmas.{value_of-push}
use Rattle.pc_pareto.specs.declared.limits.TheConstants.{MOST_LABELS}
use Rattle.pc_pareto.specs.Again.{WereFrontsOf}
use Rattle.pc_pareto.specs.Fronts.{layer_at, limit_at}
use Rattle.pc_pareto.specs.FrontsView.{stages_of, distance_of, IsFrontsOf}
use Rattle.units_fronts.specs.Nodes.{HaveNodes}

-- the other way round it is the same
there_and_back : (side : Side) (variables layer : ℕ) → layer ≤ variables → (layer_at side variables layer ≤ variables) × (layer_at side variables (layer_at side variables layer) ≡ layer)
there_and_back Heads variables layer le = (le, refl)
there_and_back Tails variables layer le = (omega arith, omega arith)

pub fronts_have_nodes : (side : Side) (raw : RawDiagram) (costs : List (List CostPair)) (choices : List Choice) (fronts : Fronts) → IsFrontsOf side raw costs choices fronts → HaveNodes raw fronts
fronts_have_nodes side raw costs choices fronts h =
    let last : length (stages_of fronts) - 1 ≡ length raw.domains = omega (arith, h.are.layers) in
    record {
      layers = h.are.layers;
      nodes = λ layer le.
          let both = there_and_back side (length raw.domains) layer le in
          let there : distance_of fronts layer ≡ layer_at side (length raw.domains) layer = ap (λ s. layer_at s (length (stages_of fronts) - 1) layer) h.side_is ∙ ap (λ n. layer_at side n layer) last in
          ap (λ distance. length (slice_index_or (stages_of fronts) distance [])) there
          ∙ h.are.nodes (layer_at side (length raw.domains) layer) both.0 ∙ ap (slice_index raw.sizes) both.1;
    }

-- for a call that makes fronts
pub ruleset node_steps = (fronts_have_nodes)

pub were_fronts : (side : Side) (raw : RawDiagram) (costs : List (List CostPair)) (before choices : List Choice) (variable : ℕ) (fronts : Fronts)
    → IsFrontsOf side raw costs before fronts → limit_at MOST_LABELS side raw costs before ≡ None → AgreeBeside variable before choices → WereFrontsOf side raw costs choices variable fronts
were_fronts side raw costs before choices variable fronts h within agree = record { before = before; made = h; within = within; agree = agree }

pub were_fronts_back : (side : Side) (raw : RawDiagram) (costs : List (List CostPair)) (before choices : List Choice) (variable : ℕ) (fronts : Fronts)
    → IsFrontsOf side raw costs before fronts → limit_at MOST_LABELS side raw costs before ≡ None → AgreeBeside variable choices before → WereFrontsOf side raw costs choices variable fronts
were_fronts_back side raw costs before choices variable fronts h within agree =
    record { before = before; made = h; within = within; agree = λ other apart. sym (agree other apart) }

-- a choice added to others leaves those of other variables
pub agree_added : (before after : List Choice) (choice : Choice) (variable : ℕ) → after ≡ before ++ choice ∷ [] → choice.variable ≡ variable → AgreeBeside variable before after
agree_added before after choice variable added same other apart =
    sym (ap (λ choices. value_of choices other) added ∙ value_of-push before choice other (λ e. apart (e ∙ same)))

-- for a call that brings fronts forward
pub ruleset forward_steps = (were_fronts, were_fronts_back)

-- for one that adds a choice
pub ruleset choice_steps = (agree_added)
