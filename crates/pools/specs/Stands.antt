-- The theorems on verdicts, sessions and cards.
--   OneVerdictIsRight        over every field, for all thresholds, words and cards one verdict is right, and no other
--   OneRunIsRight            of any calls, whatever is held at the start, one list of answers is right, and no other
--   HeldCardsAreOrderly      whatever the calls, at most 64 cards are held, each fits, and no two have one id
--   CardsCarryDerivatives    the sum on a card is the formal derivative: that of order 0 is the polynomial's value, and that
--                            of order d + 1 is that of order d of the derived polynomial
-- Assumes nothing.
use Rattle.std.specs.Prelude.{◌≡◌, ℕ, suc, ◌-◌, List}
use Rattle.fields.specs.Arithmetic.{Arithmetic, Laws}
use Rattle.fields.specs.Sums.{sum}
use Rattle.sharing.specs.Cards.{Card, whole, power, derivative}
use Rattle.pools.specs.Sessions.{CardList, Call, Answer, RightRun, Orderly, after, none_yet}
use Rattle.pools.specs.Verdicts.{Verdict, Right}

abbrev pub OneVerdictIsRight : Type 0
OneVerdictIsRight =
    (F : Arithmetic) → Laws F → (ts : List ℕ) (w : ℕ) (held : List Card)
    → (v : Verdict) × Right F ts w held v × ((u : Verdict) → Right F ts w held u → u ≡ v)

abbrev pub OneRunIsRight : Type 0
OneRunIsRight =
    (F : Arithmetic) → Laws F → (ts : List ℕ) (w : ℕ) (s : CardList) (calls : List Call)
    → (answers : List Answer) × RightRun F ts w s calls answers × ((others : List Answer) → RightRun F ts w s calls others → others ≡ answers)

abbrev pub HeldCardsAreOrderly : Type 0
HeldCardsAreOrderly =
    (F : Arithmetic) (ts : List ℕ) (w : ℕ) (calls : List Call) → Orderly F ts w (after F ts w none_yet calls)

abbrev pub CardsCarryDerivatives : Type 0
CardsCarryDerivatives =
    (F : Arithmetic) → Laws F → (t u : ℕ) (a : ℕ → ℕ)
    → (derivative F t 0 u a ≡ sum F t (λ i. F.mul (a i) (power F u i)))
    × ((d : ℕ) → derivative F t (suc d) u a ≡ derivative F (t - 1) d u (λ i. F.mul (whole F (suc i)) (a (suc i))))
