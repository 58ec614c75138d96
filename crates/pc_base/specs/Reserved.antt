-- What contracts see of a `Reserved` list.
use Rattle.std.specs.Prelude.{ℕ, List, refl}
use Rattle.std.specs.Coded.{Coded, code_by, coded×, coded_ℕ, coded_list}

-- its items, and how many more it can take without taking memory
pub record Places (T : Type 0) : Type 0 where
  pub items : List T
  pub reserved : ℕ

-- it is stored as the pair of its fields
abbrev pub places_code : {T : Type 0} → Coded T → Coded (Places T)
places_code {T} code =
    code_by
    (List T × ℕ)
    (coded× (coded_list code) coded_ℕ)
    (λ p. (p.items, p.reserved))
    (λ p. record { items = p.0; reserved = p.1 })
    (λ _. refl)
