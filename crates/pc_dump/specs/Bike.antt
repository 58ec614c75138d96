-- The text of the diagram of the bikes.
use Rattle.std.specs.Prelude.{ℕ, List, ◌++◌, codes}

-- a line for each layer, with how many nodes it has; under it a line for each node, with the node that each value leads
-- to, or a dash
abbrev pub bike_text : List ℕ
bike_text =
    codes "diagram 1\ndomains 3 2 2\n"
    ++ codes "layer 0 1\nn 0 1 2\n"
    ++ codes "layer 1 3\nn 0 0\nn 1 1\nn - 1\n"
    ++ codes "layer 2 2\nn 0 -\nn 0 0\n"
    ++ codes "layer 3 1\nend\n"
