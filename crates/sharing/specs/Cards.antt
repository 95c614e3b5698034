-- Cards, and the values that a list of coefficients gives them.
--   whole, power, falling    whole numbers, powers and falling products, as elements of a field
--   row_from, row            the list of what a function gives at the places from one on, and from 0 on
--   derivative               the formal derivative of a polynomial at a point
--   Card                     a card: its level, its id and its values
--   top, order               the last threshold of a policy, and the order of a level's derivative
--   values_of, key_of        the values that coefficients give a card, and the key that they carry
--   Elements                 a list of so many elements
--   Agrees                   coefficients give a card exactly its values
--   Every                    what holds of every member of a list
-- Assumes nothing.
use Rattle.std.specs.Prelude.{◌≡◌, ℕ, zero, suc, ◌+◌, ◌-◌, ◌*◌, ◌<◌, List, [], ◌∷◌, length, slice_index}
use Rattle.fields.specs.Arithmetic.{Arithmetic}
use Rattle.fields.specs.Sums.{sum}

-- the element that a whole number stands for: 1 added n times
abbrev pub whole : Arithmetic → ℕ → ℕ
whole F zero = 0
whole F (suc n) = F.add (whole F n) 1

abbrev pub power : Arithmetic → ℕ → ℕ → ℕ
power F u zero = 1
power F u (suc n) = F.mul (power F u n) u

-- i × (i - 1) × … × (i - d + 1), each factor as an element
abbrev pub falling : Arithmetic → ℕ → ℕ → ℕ
falling F i zero = 1
falling F i (suc d) = F.mul (falling F i d) (whole F (i - d))

-- the formal derivative of order d at u of the polynomial with the t coefficients a 0 … a (t - 1)
abbrev pub derivative : Arithmetic → ℕ → ℕ → ℕ → (ℕ → ℕ) → ℕ
derivative F t d u a = sum F (t - d) (λ k. F.mul (F.mul (falling F (d + k) d) (a (d + k))) (power F u k))

-- the list f i … f (i + n - 1), built from its front
abbrev pub row_from : ℕ → ℕ → (ℕ → ℕ) → List ℕ
row_from i zero f = []
row_from i (suc n) f = f i ∷ row_from (suc i) n f

-- the list f 0 … f (n - 1)
abbrev pub row : ℕ → (ℕ → ℕ) → List ℕ
row n f = row_from 0 n f

-- the last threshold of a policy, which is its largest
abbrev pub top : List ℕ → ℕ
top ts = slice_index ts (length ts - 1)

-- the order of the derivative that a level's cards carry
abbrev pub order : List ℕ → ℕ → ℕ
order ts level = top ts - slice_index ts level

-- the w values that the coefficients x give a card of this level and id; word j has the coefficients j × t to j × t + t - 1
abbrev pub values_of : Arithmetic → List ℕ → ℕ → List ℕ → ℕ → ℕ → List ℕ
values_of F ts w x level id = row w (λ j. derivative F (top ts) (order ts level) id (λ i. slice_index x (j * top ts + i)))

-- the key that the coefficients x carry: the last coefficient of every word
abbrev pub key_of : List ℕ → ℕ → List ℕ → List ℕ
key_of ts w x = row w (λ j. slice_index x (j * top ts + (top ts - 1)))

pub record Card : Type 0 where
  pub level : ℕ
  pub id : ℕ
  pub values : List ℕ

-- n elements of the field
pub record Elements (F : Arithmetic) (n : ℕ) (xs : List ℕ) : Type 0 where
  pub long : length xs ≡ n
  pub below : (k : ℕ) → k < n → slice_index xs k < F.size

abbrev pub Agrees : Arithmetic → List ℕ → ℕ → List ℕ → Card → Type 0
Agrees F ts w x c = c.values ≡ values_of F ts w x c.level c.id

abbrev pub Every : {A : Type 0} → (A → Type 0) → List A → Type 0
Every P [] = Unit {0}
Every P (x ∷ xs) = P x × Every P xs
