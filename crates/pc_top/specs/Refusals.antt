-- What a product text is refused for, by `list` and `dump` alike, and what is written then.
use Rattle.std.specs.Prelude.{◌≡◌, ℕ, ◌⊎◌, List, [], ◌∷◌, ◌++◌, codes, decimal, Option, Some, None}
use Rattle.pc_file.specs.Contents.{Contents}
use Rattle.pc_file.specs.Full.{full}
use Rattle.pc_file.specs.Parts.{file_node_limit}
use Rattle.pc_rules.specs.declared.kind.Kind.{Kind}
use Rattle.pc_rules.specs.KindWord.{kind_word}
use Rattle.pc_build.specs.Building.{IsSmall}
use Rattle.pc_text.specs.FirstFault.{first_fault, given_by}
use Rattle.pc_text.specs.Given.{contents_given}
use Rattle.pc_text.specs.Spells.{Spells}
use Rattle.pc_top.specs.declared.status.Status.TheVariants.{Refused}
use Rattle.pc_top.specs.Output.{Output}

-- `refused text LINE KIND`
abbrev pub refused_text : ℕ → Kind → Output
refused_text line kind = record { status = Refused; text = codes "refused text " ++ decimal line ++ 32 ∷ kind_word kind ++ 10 ∷ [] }

-- `refused node-limit RULE PART`
abbrev pub refused_node_limit : ℕ → ℕ → Output
refused_node_limit rule part = record { status = Refused; text = codes "refused node-limit " ++ decimal rule ++ 32 ∷ decimal part ++ 10 ∷ [] }

-- `refused no-product`
abbrev pub refused_no_product : Output
refused_no_product = record { status = Refused; text = codes "refused no-product\n" }

-- the refusal by the first set that is too large, if one is, and by the products
abbrev pub refusal_by : Option (ℕ × ℕ) → List (List ℕ) → Option Output
refusal_by (Some limit) products = Some (refused_node_limit limit.0 limit.1)
refusal_by None [] = Some refused_no_product
refusal_by None (product ∷ products) = None

-- what a file is refused for: the first set that is made of it and is too large; else that it has no product
unfoldable pub file_refusal : Contents → Option Output
file_refusal file = refusal_by (file_node_limit file) (full file)

-- the file that a text without a fault spells
abbrev pub file_given : List ℕ → Contents
file_given text = contents_given (given_by text)

-- the refusal by the first fault of a text, if it has one, and by the file that it spells else
abbrev pub refusal_after : Option (ℕ × Kind) → Contents → Option Output
refusal_after (Some fault) file = Some (refused_text fault.0 fault.1)
refusal_after None file = file_refusal file

-- what a text is refused for: its first fault; else what its file is
unfoldable pub text_refusal : List ℕ → Option Output
text_refusal text = refusal_after (first_fault text) (file_given text)

-- the text has a fault, and what is written names the first one
pub record HasFault (text written : List ℕ) : Type 0 where
  pub line : ℕ
  pub kind : Kind
  pub first : first_fault text ≡ Some (line, kind)
  pub writes : written ≡ (refused_text line kind).text

-- the text spells a file of which a set is too large, and what is written names the first by its rule and its part
pub record IsTooLarge (text written : List ℕ) : Type 0 where
  pub file : Contents
  pub rule : ℕ
  pub part : ℕ
  pub spells : Spells text file
  pub limit : file_node_limit file ≡ Some (rule, part)
  pub writes : written ≡ (refused_node_limit rule part).text

-- the text spells a file without a product, of which no set is too large
pub record IsEmpty (text written : List ℕ) : Type 0 where
  pub file : Contents
  pub spells : Spells text file
  pub small : IsSmall file
  pub no_product : full file ≡ []
  pub writes : written ≡ refused_no_product.text

-- what it means that a text is refused and this is written
abbrev pub RefusalMeans : List ℕ → List ℕ → Type 0
RefusalMeans text written = HasFault text written ⊎ IsTooLarge text written ⊎ IsEmpty text written
