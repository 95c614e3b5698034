-- The card list of a pool, worked out from the calls alone, and the right answer to each call.
--   CardList, none_yet    the held cards, oldest first, and how many presentations were turned away; at the start
--   Call                  a call by its arguments
--   holds                 a card with this id is among them
--   refusals, refuses_card   the conditions on a card while these are held, and why it is turned away
--   presented             the list after a card was presented, refused or not
--   step, after           the list after a call, and after many
--   up_to                 how many held cards have a level or a lower one
--   MeetsPolicy           for some level, enough held cards have that level or a lower one
--   Answer, answer_of     what a call answers; done, or refused by a number
--   RightAnswer           the right answer to a call on this list
--   RightRun              every answer of a whole session is right
--   Accepted, Apart       what every held card has; no two have one id
--   Orderly               what every pool keeps, and every list that a session leads to
-- Assumes nothing.
use Rattle.std.specs.Prelude.{◌≡◌, ℕ, ◌+◌, ◌<◌, ◌≤◌, min, Bool, true, false, not, ◌||◌, List, [], ◌∷◌, ◌++◌, length, filter, Some, None, Option, ◌==◌, ◌≢◌, nat_le, slice_index}
use Rattle.std.specs.List.{list_any}
use Rattle.fields.specs.Arithmetic.{Arithmetic}
use Rattle.sharing.specs.Cards.{Card, Elements, Every}
use Rattle.sharing.specs.Refusals.{first}
use Rattle.pools.specs.Verdicts.{Verdict, Right}

pub record CardList : Type 0 where
  pub held : List Card
  pub turned : ℕ

abbrev pub none_yet : CardList
none_yet = record { held = []; turned = 0 }

-- judging is handed a key buffer of a length
pub data Call : Type 0 where
  present : Card → Call
  withdraw : ℕ → Call
  judge : ℕ → Call
  count ask_held ask_turned : Call

-- a card with this id is among them
abbrev pub holds : ℕ → List Card → Bool
holds id held = list_any (λ h. h.id == id) held

module _ (F : Arithmetic) (ts : List ℕ) (w : ℕ) where
  -- the conditions on a card while these are held, in their order, with the number of each
  abbrev pub refusals : List Card → Card → List (Bool × ℕ)
  refusals held c =
      (not (length c.values == w), 8)
      ∷ (c.id == 0 || nat_le F.size c.id, 9)
      ∷ (nat_le (length ts) c.level, 10)
      ∷ (list_any (λ v. nat_le F.size v) c.values, 11)
      ∷ (holds c.id held, 12)
      ∷ (nat_le 64 (length held), 13)
      ∷ []

  abbrev pub refuses_card : List Card → Card → Option ℕ
  refuses_card held c = first (refusals held c)

  -- a card that is refused only raises the count, up to 65535, where it stays
  abbrev pub presented : CardList → Card → Option ℕ → CardList
  presented s c None = record { held = s.held ++ c ∷ []; turned = s.turned }
  presented s c (Some n) = record { held = s.held; turned = min 65535 (s.turned + 1) }

  abbrev pub step : CardList → Call → CardList
  step s (present c) = presented s c (refuses_card s.held c)
  step s (withdraw id) = record { held = filter (λ h. not (h.id == id)) s.held; turned = s.turned }
  step s (judge n) = s
  step s count = s
  step s ask_held = s
  step s ask_turned = s

  abbrev pub after : CardList → List Call → CardList
  after s [] = s
  after s (c ∷ cs) = after (step s c) cs

  -- how many held cards have this level or a lower one
  abbrev pub up_to : ℕ → List Card → ℕ
  up_to L held = length (filter (λ h. nat_le h.level L) held)

  abbrev pub MeetsPolicy : List Card → Type 0
  MeetsPolicy held = (L : ℕ) × (L < length ts) × (slice_index ts L ≤ up_to L held)

pub data Answer : Type 0 where
  done : Answer
  refused_by : ℕ → Answer
  number : ℕ → Answer
  truth : Bool → Answer
  verdict : Verdict → Answer

abbrev pub answer_of : Option ℕ → Answer
answer_of None = done
answer_of (Some n) = refused_by n

module _ (F : Arithmetic) (ts : List ℕ) (w : ℕ) (s : CardList) where
  abbrev pub RightAnswer : Call → Answer → Type 0
  RightAnswer (present c) a = a ≡ answer_of (refuses_card F ts w s.held c)
  RightAnswer (withdraw id) a = a ≡ answer_of (first ((not (holds id s.held), 14) ∷ []))
  RightAnswer (judge n) a = ((n == w) ≡ false → a ≡ refused_by 8) × ((n == w) ≡ true → (v : Verdict) × (a ≡ verdict v) × Right F ts w s.held v)
  RightAnswer count a = (b : Bool) × (a ≡ truth b) × (b ≡ true → MeetsPolicy F ts w s.held) × (MeetsPolicy F ts w s.held → b ≡ true)
  RightAnswer ask_held a = a ≡ number (length s.held)
  RightAnswer ask_turned a = a ≡ number s.turned

-- every answer of a whole run is right, each for the cards held then
abbrev pub RightRun : Arithmetic → List ℕ → ℕ → CardList → List Call → List Answer → Type 0
RightRun F ts w s [] [] = Unit {0}
RightRun F ts w s [] (a ∷ zs) = ⊥
RightRun F ts w s (c ∷ cs) [] = ⊥
RightRun F ts w s (c ∷ cs) (a ∷ zs) = RightAnswer F ts w s c a × RightRun F ts w (step F ts w s c) cs zs

module _ (F : Arithmetic) (ts : List ℕ) (w : ℕ) where
  -- what every held card has
  pub record Accepted (c : Card) : Type 0 where
    pub elements : Elements F w c.values
    pub some_id : 0 < c.id
    pub id_below : c.id < F.size
    pub level_below : c.level < length ts

  -- no two have one id
  abbrev pub Apart : List Card → Type 0
  Apart [] = Unit {0}
  Apart (c ∷ cs) = Every (λ h. h.id ≢ c.id) cs × Apart cs

  pub record Orderly (s : CardList) : Type 0 where
    pub few : length s.held ≤ 64
    pub counted : s.turned ≤ 65535
    pub accepted : Every Accepted s.held
    pub apart : Apart s.held
