-- What is answered to items. Each answer ends with a line `.`.
use Rattle.std.specs.Prelude.{ℕ, List, ◌∷◌, ◌++◌, codes, decimal}
use Rattle.pc_rules.specs.declared.kind.Kind.{Kind}
use Rattle.pc_rules.specs.KindWord.{kind_word}
use Rattle.pc_calls.specs.declared.call.Call.{Call}
use Rattle.pc_calls.specs.declared.reply.Reply.{Reply}
use Rattle.pc_calls.specs.ReplyText.{reply_text}
use Rattle.pc_conn.specs.declared.item.Item.{Item}
use Rattle.pc_conn.specs.declared.item.Item.TheVariants as item

-- `bad COLUMN`
abbrev pub bad_text : ℕ → List ℕ
bad_text column = codes "bad " ++ decimal column ++ codes "\n.\n"

-- `text LINE KIND`
abbrev pub fault_text : ℕ → Kind → List ℕ
fault_text line kind = codes "text " ++ decimal line ++ 32 ∷ kind_word kind ++ codes "\n.\n"

-- the answer to an item, where calls have these replies
abbrev pub answer_text : (Call → Reply) → Item → List ℕ
answer_text reply (item.Call call) = reply_text (reply call)
answer_text reply (item.Bad column) = bad_text column
answer_text reply (item.Fault line kind) = fault_text line kind
