-- What is told of bytes that were read.
use Rattle.std.proofs.Common.{◌≡◌, ℕ, List, ◌++◌, Option, Some, None, IfSome, ap, ◌∙◌}
use Rattle.std.specs.Io.KnownBytes.{IsAtEnd, prepend_known}
use Rattle.std.proofs.lemmas.List.{append-nil}

-- bytes that were all read are all that were told
pub all_told : (told rest : Option (List ℕ)) (bytes : List ℕ) → told ≡ prepend_known bytes rest → IsAtEnd rest → IfSome told (λ b. b ≡ bytes)
all_told None rest bytes e end = tt
all_told (Some b) None bytes e end = absurd cc
all_told (Some b) (Some xs) bytes e end = let same : b ≡ bytes ++ xs = cc in same ∙ ap (λ (x : List ℕ). bytes ++ x) end ∙ append-nil bytes

pub if_some : (told : Option (List ℕ)) (P Q : List ℕ → Type 0) → IfSome told P → ((b : List ℕ) → P b → Q b) → IfSome told Q
if_some None P Q h k = tt
if_some (Some b) P Q h k = k b h

pub always : (told : Option (List ℕ)) (Q : List ℕ → Type 0) → ((b : List ℕ) → Q b) → IfSome told Q
always None Q k = tt
always (Some b) Q k = k b
