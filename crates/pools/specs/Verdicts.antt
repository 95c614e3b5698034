-- What the held cards say of the key.
--   Verdict             contradictory, undecided (which the program calls open), or decided with the key
--   Agreeing            coefficients that agree with every held card
--   NoneAgrees          no coefficients agree with every held card
--   EveryKeyPossible    every key is carried by some agreeing coefficients
--   Right               the whole promise of one judging
-- Assumes nothing.
use Rattle.std.specs.Prelude.{◌≡◌, ℕ, ◌*◌, List, ◌≢◌}
use Rattle.fields.specs.Arithmetic.{Arithmetic}
use Rattle.sharing.specs.Cards.{Card, Elements, Agrees, Every, key_of, top}

pub data Verdict : Type 0 where
  contradictory undecided : Verdict
  decided : List ℕ → Verdict

module _ (F : Arithmetic) (ts : List ℕ) (w : ℕ) (held : List Card) where
  pub record Agreeing (x : List ℕ) : Type 0 where
    pub elements : Elements F (w * top ts) x
    pub agrees : Every (Agrees F ts w x) held

  abbrev pub NoneAgrees : Type 0
  NoneAgrees = (x : List ℕ) → Agreeing x → ⊥

  abbrev pub EveryKeyPossible : Type 0
  EveryKeyPossible = (k : List ℕ) → Elements F w k → (x : List ℕ) × Agreeing x × (key_of ts w x ≡ k)

  -- contradictory exactly when no coefficients agree, undecided exactly when every key is possible, and otherwise the one key
  -- that all agreeing coefficients carry, of which there are some; and if the held cards come from one dealing, they are not
  -- contradictory, and a key that is given is the dealt one
  pub record Right (v : Verdict) : Type 0 where
    pub contradictory_if : NoneAgrees → v ≡ contradictory
    pub contradictory_only_if : v ≡ contradictory → NoneAgrees
    pub open_if : EveryKeyPossible → v ≡ undecided
    pub open_only_if : v ≡ undecided → EveryKeyPossible
    pub key_carried : (k : List ℕ) → v ≡ decided k → (x : List ℕ) → Agreeing x → key_of ts w x ≡ k
    pub key_possible : (k : List ℕ) → v ≡ decided k → (x : List ℕ) × Agreeing x
    pub dealt : (x : List ℕ) → Agreeing x → (v ≢ contradictory) × ((k : List ℕ) → v ≡ decided k → k ≡ key_of ts w x)
