-- What is seen of a source and of a sink.
use Rattle.std.specs.Prelude.{ℕ, List, Option}

-- at one moment: the bytes still to come and those taken, where they are told, and the numbers of faults
pub record Ends : Type 0 where
  pub rest : Option (List ℕ)
  pub read_faults : ℕ
  pub written : Option (List ℕ)
  pub write_faults : ℕ

-- what is seen of these two, by what is told of each
abbrev pub ends : {A B : Type 0} → (A → Option (List ℕ)) → (A → ℕ) → (B → Option (List ℕ)) → (B → ℕ) → A → B → Ends
ends rest read_faults written write_faults source sink =
    record { rest = rest source; read_faults = read_faults source; written = written sink; write_faults = write_faults sink }
