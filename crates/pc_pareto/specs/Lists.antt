-- Lists that grow.
use Rattle.std.specs.Prelude.{◌≡◌, List, ◌++◌}

-- a list after some more items, of which something holds, went to its end
abbrev pub HasMore : {X : Type 0} → (List X → Type 0) → List X → List X → Type 0
HasMore {X} P before after = (more : List X) × (after ≡ before ++ more) × P more
