-- What a row operation is, what a row keeps while it is reduced by a basis, and what a basis knows.
--   gap                 left side less right side of a row at an assignment
--   Less, Times         a row less a multiple of another, and a multiple of a row, at the places that count
--   Agree               two rows have the same gap at every solution of the basis
--   Clear, Reduced      zero at a column where the basis has a row; so at every column below p
--   Trimmed             zero at every column below p
--   Put                 a basis with one row put in
--   Knows               the solutions of the basis are the assignments of which a condition holds
--   Asks                a row that asks for a linear form: its coefficients, and zeros on the right
-- Assumes nothing.
use Rattle.std.proofs.Common.{◌≡◌, ℕ, ◌<◌, ◌≢◌, ◌↔◌, Some, None, Option}
use Rattle.linear.proofs.Fields.{Field, dot}
use Rattle.linear.proofs.Systems.{Row, Assignment, Basis, Solves, Echelon}

module _ {V : Type 0} (F : Field V) (t w : ℕ) where
  open F use {zero, add, neg, mul}

  unfoldable pub gap : Row V → Assignment V → ℕ → V
  gap e x j = add (dot F t e.coef (x j)) (neg (e.rhs j))

  -- less is e less c times f, at the places that count
  pub record Less (e : Row V) (c : V) (f less : Row V) : Type 0 where
    pub coefs : (k : ℕ) → k < t → less.coef k ≡ add (e.coef k) (neg (mul c (f.coef k)))
    pub rhss : (j : ℕ) → j < w → less.rhs j ≡ add (e.rhs j) (neg (mul c (f.rhs j)))

  -- times is c times e
  pub record Times (c : V) (e times : Row V) : Type 0 where
    pub coefs : (k : ℕ) → k < t → times.coef k ≡ mul c (e.coef k)
    pub rhss : (j : ℕ) → j < w → times.rhs j ≡ mul c (e.rhs j)

  -- r and e are as far off at each solution of the basis
  abbrev pub Agree : Basis V → Row V → Row V → Type 0
  Agree b e r = (x : Assignment V) → Solves F t w b x → (j : ℕ) → j < w → gap r x j ≡ gap e x j

  -- zero at column p of r, if the basis has a row there
  abbrev pub Clear : ℕ → Option (Row V) → Row V → Type 0
  Clear p None r = Unit {0}
  Clear p (Some f) r = r.coef p ≡ zero

  -- r is e, reduced at the columns below p
  pub record Reduced (b : Basis V) (e : Row V) (p : ℕ) (r : Row V) : Type 0 where
    pub agree : Agree b e r
    pub clear : (k : ℕ) → k < p → Clear k (b k) r

  -- r is e, made zero at the columns below p
  pub record Trimmed (b : Basis V) (e : Row V) (p : ℕ) (r : Row V) : Type 0 where
    pub agree : Agree b e r
    pub low : (k : ℕ) → k < p → r.coef k ≡ zero

  -- after is b with the row r put in at column p
  pub record Put (b : Basis V) (p : ℕ) (r : Row V) (after : Basis V) : Type 0 where
    pub here : after p ≡ Some r
    pub elsewhere : (q : ℕ) → q < t → q ≢ p → after q ≡ b q

  -- the solutions of b are the assignments for which P holds
  pub record Knows (P : Assignment V → Type 0) (b : Basis V) : Type 0 where
    pub echelon : Echelon F t w b
    pub same : (x : Assignment V) → Solves F t w b x ↔ P x

  -- the row e asks for g: its coefficients, and zero on the right
  pub record Asks (g : ℕ → V) (e : Row V) : Type 0 where
    pub coefs : (k : ℕ) → k < t → e.coef k ≡ g k
    pub rhss : (j : ℕ) → j < w → e.rhs j ≡ zero
