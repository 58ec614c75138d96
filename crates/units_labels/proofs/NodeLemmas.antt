-- Labels of a diagram have its layers and nodes.
use Rattle.std.proofs.Common.{◌≡◌, ℕ, List, [], ◌∷◌, ◌++◌, sym, ap, ◌∙◌}
use Rattle.pc_diagram.specs.declared.choice.Choice.{Choice}
use Rattle.pc_diagram.specs.declared.costs.CostPair.{CostPair}
use Rattle.pc_diagram.specs.declared.raw_diagram.RawDiagram.{RawDiagram}
use Rattle.pc_labels.specs.Kept.{KeptPaths}
use Rattle.pc_diagram.specs.Choices.{value_of, AgreeBeside}
use Rattle.pc_diagram.proofs.ChoiceLemmas.{value_of-push}
use Rattle.pc_labels.specs.Labels.{AreHeads, AreTails, WereHeads, WereTails}
use Rattle.units_labels.specs.Nodes.{HaveNodes}

pub heads_have_nodes : (raw : RawDiagram) (choices : List Choice) (costs : List (List CostPair)) (labels : KeptPaths) → AreHeads raw choices costs labels → HaveNodes raw labels
heads_have_nodes raw choices costs labels h = record { layers = h.layers; nodes = λ layer le. (h.labelled layer le).nodes }

pub tails_have_nodes : (raw : RawDiagram) (choices : List Choice) (costs : List (List CostPair)) (labels : KeptPaths) → AreTails raw choices costs labels → HaveNodes raw labels
tails_have_nodes raw choices costs labels h = record { layers = h.layers; nodes = λ layer le. (h.labelled layer le).nodes }

-- choices that agree beside a variable agree the other way round
back : (variable : ℕ) (choices others : List Choice) → AgreeBeside variable choices others → AgreeBeside variable others choices
back variable choices others agree other apart = sym (agree other apart)

pub were_heads : (raw : RawDiagram) (before choices : List Choice) (costs : List (List CostPair)) (variable : ℕ) (labels : KeptPaths) → AreHeads raw before costs labels → AgreeBeside variable before choices → WereHeads raw choices costs variable labels
were_heads raw before choices costs variable labels h agree = record { before = before; made = h; agree = agree }

pub were_heads_back : (raw : RawDiagram) (before choices : List Choice) (costs : List (List CostPair)) (variable : ℕ) (labels : KeptPaths) → AreHeads raw before costs labels → AgreeBeside variable choices before → WereHeads raw choices costs variable labels
were_heads_back raw before choices costs variable labels h agree =
    record { before = before; made = h; agree = back variable choices before agree }

pub were_tails : (raw : RawDiagram) (before choices : List Choice) (costs : List (List CostPair)) (variable : ℕ) (labels : KeptPaths) → AreTails raw before costs labels → AgreeBeside variable before choices → WereTails raw choices costs variable labels
were_tails raw before choices costs variable labels h agree = record { before = before; made = h; agree = agree }

pub were_tails_back : (raw : RawDiagram) (before choices : List Choice) (costs : List (List CostPair)) (variable : ℕ) (labels : KeptPaths) → AreTails raw before costs labels → AgreeBeside variable choices before → WereTails raw choices costs variable labels
were_tails_back raw before choices costs variable labels h agree =
    record { before = before; made = h; agree = back variable choices before agree }

-- a choice added to others leaves those of other variables
pub agree_added : (before after : List Choice) (choice : Choice) (variable : ℕ) → after ≡ before ++ choice ∷ [] → choice.variable ≡ variable → AgreeBeside variable before after
agree_added before after choice variable added same other apart =
    sym (ap (λ choices. value_of choices other) added ∙ value_of-push before choice other (λ e. apart (e ∙ same)))

-- for a call that reads labels just made
pub ruleset node_steps = (heads_have_nodes, tails_have_nodes)

-- for one that brings them forward
pub ruleset forward_steps = (heads_have_nodes, tails_have_nodes, were_heads, were_heads_back, were_tails, were_tails_back)

-- for one that adds a choice
pub ruleset choice_steps = (agree_added)
