-- The summary of what the generator is answered.
use Rattle.std.specs.Prelude.{◌≡◌, ℕ, List, [], ◌∷◌, ◌++◌, codes, decimal, length, map, sum, Option, Some, None, unwrap_or}
use Rattle.std.specs.Fmt.{signed_decimal}
use Rattle.std.specs.List.{sum_by}
use Rattle.pc_diagram.specs.declared.costs.CostPair.{CostPair}
use Rattle.pc_diagram.specs.declared.listed.Listed.{Listed}
use Rattle.pc_diagram.specs.declared.raw_diagram.RawDiagram.{RawDiagram}
use Rattle.pc_diagram.specs.Best.{first_best}
use Rattle.pc_diagram.specs.Costs.{is_cheaper, no_cost}
use Rattle.pc_diagram.specs.Diagram.{IsCanonical}
use Rattle.pc_diagram.specs.Levels.{edge_count}
use Rattle.pc_diagram.specs.Paths.{words}
use Rattle.pc_file.specs.Full.{full, full_domains}
use Rattle.pc_calls.specs.declared.reply.Reply.{Reply}
use Rattle.pc_calls.specs.declared.reply.Shown.{Shown}
use Rattle.pc_generator.specs.GeneratedFile.{generated}
use Rattle.pc_generator.specs.GeneratorCalls.{days_reply, open_reply, price_reply}

-- what is listed; nothing where nothing is shown
abbrev pub listing_shown : Option Shown → List (List Listed)
listing_shown None = []
listing_shown (Some shown) = shown.listing

-- how many values are listed
abbrev pub listed_count : List (List Listed) → ℕ
listed_count listing = sum_by length listing

-- what the best product that takes a listed value costs
abbrev pub pair_listed : Listed → CostPair
pair_listed item = record { first = item.first; second = item.second }

-- the cheapest of what is listed of a variable; nothing where nothing is
abbrev pub cheapest_of : List Listed → CostPair
cheapest_of items = unwrap_or (first_best is_cheaper (map pair_listed items)) no_cost

-- what the best product that fits costs: it takes a value of the first variable, and is the best that takes it
abbrev pub cheapest_in : List (List Listed) → CostPair
cheapest_in [] = no_cost
cheapest_in (items ∷ rows) = cheapest_of items

-- `WORD NUMBER`
abbrev pub number_line : List ℕ → ℕ → List ℕ
number_line word number = word ++ 32 ∷ decimal number ++ 10 ∷ []

-- `WORD LISTED PRICE DAYS`
abbrev pub listing_line : List ℕ → List (List Listed) → List ℕ
listing_line word listing =
    word ++ 32 ∷ decimal (listed_count listing) ++ 32 ∷ signed_decimal (cheapest_in listing).first ++ 32 ∷ signed_decimal (cheapest_in listing).second ++ 10 ∷ []

-- the line of a reply
abbrev pub reply_line : List ℕ → Reply → List ℕ
reply_line word reply = listing_line word (listing_shown reply.shown)

-- the number of variables, and how many nodes and edges the diagram has
abbrev pub diagram_lines : ℕ → RawDiagram → List ℕ
diagram_lines variables diagram =
    number_line (codes "variables") variables ++ number_line (codes "nodes") (sum diagram.sizes) ++ number_line (codes "edges") (edge_count diagram)

-- what the three sessions list
abbrev pub session_lines : ℕ → List ℕ
session_lines variables =
    reply_line (codes "open") (open_reply variables) ++ reply_line (codes "price") (price_reply variables) ++ reply_line (codes "days") (days_reply variables)

-- the summary by the number of variables: the lines of the canonical diagram whose words are the file's, and those of the sessions
pub record IsSummary (variables : ℕ) (text : List ℕ) : Type 0 where
  pub diagram : RawDiagram
  pub canonical : IsCanonical diagram
  pub domains : diagram.domains ≡ full_domains (generated variables)
  pub words_are : words diagram ≡ full (generated variables)
  pub text_is : text ≡ diagram_lines variables diagram ++ session_lines variables
