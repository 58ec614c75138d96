use Rattle.std.proofs.Common.{◌≡◌, ◌∙◌, ◌+◌, ◌<◌, List, Option, length, ap, sym, subst, arith}
use Rattle.std.specs.Option.{option_map}
use Rattle.std.proofs.Common.{Some, nat_eq, ℕ}
use Rattle.std.specs.Cmp.Lexicographic.{pointwise}
use Rattle.pc_apply.proofs.LevelLemmas.{read_stands}
use Rattle.pc_file.specs.declared.variable.Value.{Value}
use Rattle.pc_file.specs.Rule.{same_name}
use Rattle.pc_build.proofs.NamedLemmas.{Placed, is_named, placed_one, placed_skip, placed_all}
use Rattle.pc_build.proofs.named.places_named.Goals as goal
use Rattle.pc_build.proofs.named.places_named.Goals.{then-eq+in_ok-push, else-eq}

pub loop-place-preserved : goal.loop-place-preserved
loop-place-preserved c =
    let values = c.args.values.now in
    let name = c.args.name.now in
    let place = c.loop-place.place in
    let value : Value = c.index-values-place.result in
    let before : List ℕ = c.loop-place.places.items in
    let next = Placed values name (place + 1) in
    let inside : place < length values = (let e = c.requires in let l = c.loop-place-test.true in omega arith) in
    let named : is_named values name place ≡ c.eq.result = ap (λ (o : Option Value). same_name (Some name) (option_map (λ v. v.name) o)) (read_stands values place value inside c.index-values-place.is) ∙ ap (λ (v : Value). pointwise nat_eq name v.name) c.index-values-place.is ∙ sym c.eq.ensures in
    elim c.if-eq.branch [
      | then-eq+in_ok-push w ↦ subst next (sym {A = List ℕ} (ap (λ v. v.items) w.places-is ∙ w.in_ok-push.ensures.items)) (placed_one values name place before c.loop-place.invariant (named ∙ w.if-eq.true))
      | else-eq w ↦ subst next (sym {A = List ℕ} (ap (λ v. v.items) w.places-is)) (placed_skip values name place before c.loop-place.invariant (named ∙ w.if-eq.false))
    ]

pub returns : goal.returns
returns c = placed_all c.args.values.now c.args.name.now c.loop-place.place c.loop-place.places.items (let e = c.requires in let l = c.loop-place-test.false in omega arith) c.loop-place.invariant
