-- Where the generator's caller stands in a book, and what a call of it comes to.
use Rattle.std.specs.Prelude.{◌≡◌, List}
use Rattle.pc_calls.specs.declared.call.Call.{Call}
use Rattle.pc_calls.specs.declared.entry.Entry.{Entry}
use Rattle.pc_calls.specs.declared.reply.Reply.{Reply}
use Rattle.pc_calls.specs.Heads as heads
use Rattle.pc_calls.specs.State.{State}
use Rattle.pc_calls.specs.Step.{after}
use Rattle.pc_book.specs.Book.{history_of}
use Rattle.pc_book.specs.Own.{OwnPart, StandsAfter, state_with}
use Rattle.pc_generator.specs.GeneratorCalls.{generator_caller}

-- the part is the caller's, it stands after the journal, and this is the state after all of the caller's calls
pub record IsAt (state : State) (blocks : List (List Entry)) (own : OwnPart) : Type 0 where
  pub number : own.number ≡ generator_caller
  pub stands : StandsAfter (history_of blocks) own
  pub state_is : state_with (history_of blocks) own ≡ state

-- in whatever state the caller is, a call leads to the state after it, with the reply of the state before
abbrev pub IsCalled : Call → List (List Entry) → OwnPart → List (List Entry) → OwnPart → Reply → Type 0
IsCalled call blocks own blocks_later own_later reply =
    (state : State) → IsAt state blocks own → IsAt (after generator_caller call state) blocks_later own_later × (reply ≡ heads.reply generator_caller call state)
