-- A letter and a number of two digits are a name.
use Rattle.std.proofs.Common.{◌∷◌, ◌++◌, [], decimal, ap, ◌∙◌}
use Rattle.pc_generator.proofs.NumberedNames.{reads}
use Rattle.pc_generator.proofs.numbered.numbered_name.Goals as goal

pub unwrap-requires : goal.unwrap-requires
unwrap-requires c =
    let bytes = c.as_slice.ensures ∙ c.in_ok-push_unsigned.ensures.ok ∙ ap (λ text. text ++ decimal c.from.result) (c.in_ok-push.ensures.ok ∙ ap (λ text. text ++ c.args.letter ∷ []) c.new-text.ensures) ∙ ap (λ number. c.args.letter ∷ decimal number) c.from.ensures in
    reads c.read.result _ c.args.letter c.args.number c.as_slice.result.now c.read.ensures bytes c.requires.letter c.requires.small
