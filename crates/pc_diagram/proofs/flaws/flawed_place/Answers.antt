-- The flaw stands at the next level, or at none so far.
use Rattle.std.proofs.Common.{ℕ, ◌+◌, drop, Option, Some, sym, ap, ◌∙◌, arith}
use Rattle.pc_diagram.specs.declared.place.Place.{Place}
use Rattle.pc_diagram.specs.DiagramFaults.{layer_of, place_or, flawed_place}
use Rattle.pc_diagram.specs.Levels.{levels}
use Rattle.pc_diagram.proofs.LevelLemmas.{drop-levels, drop-levels-end}
use Rattle.pc_diagram.proofs.flaws.flawed_place.Goals as goal

pub returns-in-Some : goal.returns-in-Some
returns-in-Some c =
    let raw = c.args.raw.now in
    let flaw = c.args.flaw in
    let i = c.loop-variable.variable in
    let later = flawed_place flaw (i + 1) (drop (i + 1) (levels raw)) in
    let place : ℕ → Option Place = λ layer. Some (record { layer = layer; node = c.in-Some.node }) in
    sym (c.loop-variable.invariant ∙ ap (flawed_place flaw i) (drop-levels raw i (omega arith))
    ∙ ap (λ found. place_or (layer_of flaw i) found later) (sym c.in_ok-node.ensures ∙ c.in-Some.is) ∙ ap place (sym c.layer_of-layer.ensures))

pub loop-variable-preserved : goal.loop-variable-preserved
loop-variable-preserved c =
    let raw = c.args.raw.now in
    let flaw = c.args.flaw in
    let i = c.loop-variable.variable in
    let later = flawed_place flaw (i + 1) (drop (i + 1) (levels raw)) in
    c.loop-variable.invariant ∙ ap (flawed_place flaw i) (drop-levels raw i (omega arith))
    ∙ ap (λ found. place_or (layer_of flaw i) found later) (sym c.in_ok-node.ensures ∙ c.in_default.is)

pub returns : goal.returns
returns c =
    let raw = c.args.raw.now in
    let i = c.loop-variable.variable in
    sym (c.loop-variable.invariant ∙ ap (flawed_place c.args.flaw i) (drop-levels-end raw i (omega arith)))
