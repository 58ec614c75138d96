-- The replies that the summary tells.
use Rattle.std.specs.Prelude.{◌≡◌, ℕ}
use Rattle.pc_generator.specs.declared.asking.Answers.{Answers}
use Rattle.pc_generator.specs.GeneratorCalls.{days_reply, open_reply, price_reply}

-- the three replies are those to the generator's calls
pub record AreAnswers (variables : ℕ) (answers : Answers) : Type 0 where
  pub unbounded : answers.unbounded ≡ open_reply variables
  pub price_bounded : answers.price_bounded ≡ price_reply variables
  pub days_bounded : answers.days_bounded ≡ days_reply variables
