-- A pool as its card list, and what a call on it does.
--   Seen         what clauses see of a pool
--   Frame        the field, the policy and the number of words stay
--   Steps        a call leaves the list that follows from the calls alone
--   Answers      a call gives the right answer
-- Assumes nothing.
use Rattle.std.specs.Prelude.{◌≡◌, ℕ, List}
use Rattle.fields.specs.Arithmetic.{Arithmetic}
use Rattle.pools.specs.Sessions.{CardList, Call, Answer, step, RightAnswer}

pub record Seen (F : Type 0) : Type 0 where
  pub field : F
  pub policy : List ℕ
  pub words : ℕ
  pub list : CardList

module _ {F : Type 0} where
  abbrev pub Frame : Seen F → Seen F → Type 0
  Frame before after = (after.field ≡ before.field) × (after.policy ≡ before.policy) × (after.words ≡ before.words)

  abbrev pub Steps : (F → Arithmetic) → Seen F → Call → Seen F → Type 0
  Steps arithmetic before call after = after.list ≡ step (arithmetic before.field) before.policy before.words before.list call

  abbrev pub Answers : (F → Arithmetic) → Seen F → Call → Answer → Type 0
  Answers arithmetic pool call answer = RightAnswer (arithmetic pool.field) pool.policy pool.words pool.list call answer
