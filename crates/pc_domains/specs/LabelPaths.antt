-- What labels keep of a layer's nodes.
use Rattle.std.specs.Prelude.{ℕ, zero, suc, Option, None}
use Rattle.pc_labels.specs.Kept.{Kept, KeptPaths, kept_at}

-- of a node its one path, at the first place
abbrev pub kept_by_labels : KeptPaths → ℕ → ℕ → ℕ → Option Kept
kept_by_labels labels layer node zero = kept_at labels layer node
kept_by_labels labels layer node (suc place) = None
