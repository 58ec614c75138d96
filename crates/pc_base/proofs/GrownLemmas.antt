-- A text that grows in steps begins with what it was.
use Rattle.std.proofs.Common.{◌≡◌, ℕ, List, ◌++◌, ◌+◌, ◌≤◌, length, take, length-take, refl, sym, ap, subst, ◌∙◌, arith, length-append}
use Rattle.std.proofs.Math.Seq.{take-length, take-append_seam}
use Rattle.std.proofs.lemmas.List.{take-take}
use Rattle.pc_base.specs.Grown.{HasGrown}

-- a text that stays as it is
pub grown_same : (old new : List ℕ) → new ≡ old → HasGrown old new
grown_same old new same = record { kept = subst (λ (text : List ℕ). take (length old) text ≡ old) (sym same) (take-length old) }

-- a text that has grown by a piece, and then on
pub grown_on : (old piece mid new : List ℕ) → mid ≡ old ++ piece → HasGrown mid new → HasGrown old new
grown_on old piece mid new is grown =
    let short : length old ≤ length mid = omega (arith, ap length is, length-append old piece) in
    record {
      kept =
          sym (take-take (length old) (length mid) new short)
          ∙ ap (take (length old)) (grown.kept ∙ is) ∙ take-append_seam old piece;
    }

-- a text that has grown, and grows on
pub grown_further : (old mid new : List ℕ) → HasGrown old mid → HasGrown mid new → HasGrown old new
grown_further old mid new first second =
    let short : length old ≤ length mid = omega (arith, ap length first.kept, length-take (length old) mid) in
    record {
      kept = sym (take-take (length old) (length mid) new short) ∙ ap (take (length old)) second.kept ∙ first.kept;
    }
