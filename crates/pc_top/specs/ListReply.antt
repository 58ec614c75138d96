-- What `list` answers to a product text.
use Rattle.std.specs.Prelude.{ℕ, List, [], ◌++◌, codes, unwrap_or}
use Rattle.pc_diagram.specs.Bounds.{no_bounds}
use Rattle.pc_file.specs.Contents.{Contents}
use Rattle.pc_file.specs.Costs.{file_listing}
use Rattle.pc_file.specs.ListingText.{listing_text}
use Rattle.pc_top.specs.declared.status.Status.TheVariants.{Done}
use Rattle.pc_top.specs.Output.{Output}
use Rattle.pc_top.specs.Refusals.{file_given, text_refusal}

-- the listing of a file without choices and bounds, and a line `.`
abbrev pub listing_reply : Contents → Output
listing_reply file = record { status = Done; text = listing_text file.variables (file_listing file [] no_bounds) ++ codes ".\n" }

-- the answer to a text: what it is refused for; else the listing of its file
unfoldable pub list_reply : List ℕ → Output
list_reply text = unwrap_or (text_refusal text) (listing_reply (file_given text))
