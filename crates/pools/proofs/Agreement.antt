-- Coefficients that agree with cards, as solutions of the cards' equations.
--   every_map, every_both            what follows for every member of a list
--   Fits                             a card has w elements
--   assigned, list_of                coefficients by word and place, and as a list
--   list_assigned                    those of a list that is made so
--   element_below                    what stands in a list of elements is one, and so is what is past it
--   CardSolved, Solved               numbers solve the equation that a card is, and those of all held cards as elements
--   agrees_solved, solved_agrees     coefficients agree with a card just if they solve its equation
--   solved_same                      only what stands at the words and places counts
--   agrees_long                      a card with which coefficients agree has w values
--   key_read                         the form of the last place reads the key
--   agreeing_solved, solved_agreeing    agreeing coefficients solve all equations, and solutions are agreeing coefficients
-- Assumes nothing.
use Rattle.std.proofs.Common.{◌≡◌, ℕ, ◌+◌, ◌-◌, ◌*◌, ◌/◌, ◌%◌, ◌<◌, List, [], ◌∷◌, length, get_or, sym, refl, ap, ◌∙◌, subst, ap₂, mod-lt, div-lt_iff_lt-mul, arith}
use native.Mathlib.Decide.{dec_lt}
use lib.ListN.{get_or-eq_default}
use Rattle.std.proofs.lemmas.Nat.{mul-add-lt, div-mul-add, mod-mul-add}
use Rattle.fields.specs.Arithmetic.{Arithmetic, Laws}
use Rattle.linear.specs.Solutions.{Values, dot}
use Rattle.linear.proofs.Reading.{size_positive}
use Rattle.sharing.specs.Cards.{Card, row, top, order, key_of, Elements, Agrees, Every}
use Rattle.pools.specs.Equations.{last_place}
use Rattle.sharing.specs.Multipliers.{coefficient}
use Rattle.pools.specs.Verdicts.{Agreeing}
use Rattle.pools.proofs.Equations.{derivative_dot, dot_same, last_dot}
use Rattle.sharing.proofs.Rows.{length_row, getD_row, is_row}

-- here and in Orderly: `Every` goes by recursion, so that std's lemmas on members would want a bridge at each use
pub every_map : {A : Type 0} (P Q : A → Type 0) (xs : List A) → ((x : A) → P x → Q x) → Every P xs → Every Q xs
every_map P Q [] f h = tt
every_map P Q (x ∷ xs) f h = (f x h.0, every_map P Q xs f h.1)

pub every_both : {A : Type 0} (P Q R : A → Type 0) (xs : List A) → ((x : A) → P x → Q x → R x) → Every P xs → Every Q xs → Every R xs
every_both P Q R [] f h k = tt
every_both P Q R (x ∷ xs) f h k = (f x h.0 k.0, every_both P Q R xs f h.1 k.1)

abbrev pub Fits : Arithmetic → ℕ → Card → Type 0
Fits F w c = Elements F w c.values

-- word j of the coefficients x at place k
abbrev pub assigned : ℕ → List ℕ → Values
assigned t x j k = get_or x (j * t + k) 0

unfoldable pub list_of : ℕ → ℕ → Values → List ℕ
list_of t w y = row (w * t) (λ i. y (i / t) (i % t))

pub list_assigned : (t w : ℕ) (y : Values) (j k : ℕ) → j < w → k < t → assigned t (list_of t w y) j k ≡ y j k
unfolding list_of
list_assigned t w y j k l m =
    getD_row _ _ (j * t + k) (omega (arith, mul-add-lt j t k w l m)) ∙ ap₂ y (div-mul-add j t k m) (mod-mul-add j t k m)

module _ (F : Arithmetic) (L : Laws F) where
  pub element_below : (n : ℕ) (xs : List ℕ) → Elements F n xs → (i : ℕ) → get_or xs i 0 < F.size
  element_below n xs h i =
      elim (dec_lt i n) [
        | yes l ↦ h.below i l
        | no d ↦ subst (λ a. a < F.size) (sym (get_or-eq_default xs 0 (omega (arith, h.long)))) (size_positive F L)
      ]

  module _ (ts : List ℕ) (w : ℕ) where
    abbrev pub CardSolved : Values → Card → Type 0
    CardSolved x c = (j : ℕ) → j < w → dot F (top ts) (coefficient F (order ts c.level) c.id) (x j) ≡ get_or c.values j 0

    pub record Solved (held : List Card) (x : Values) : Type 0 where
      pub elements : (j k : ℕ) → j < w → k < top ts → x j k < F.size
      pub cards : Every (CardSolved x) held

    pub agrees_solved : (x : List ℕ) (c : Card) → Agrees F ts w x c → CardSolved (assigned (top ts) x) c
    agrees_solved x c e j l =
        sym (derivative_dot F L (top ts) (order ts c.level) c.id (assigned (top ts) x j) (omega arith))
        ∙ sym (getD_row w _ j l) ∙ ap (λ v. get_or v j 0) (sym e)

    solved_agrees : (x : List ℕ) (c : Card) → length c.values ≡ w → CardSolved (assigned (top ts) x) c → Agrees F ts w x c
    solved_agrees x c long s =
        is_row c.values w _ long (λ j l.
        sym (s j l) ∙ sym (derivative_dot F L (top ts) (order ts c.level) c.id (assigned (top ts) x j) (omega arith)))

    -- only what stands at the words and places counts
    solved_same : (x y : Values) (c : Card) → ((j k : ℕ) → j < w → k < top ts → y j k ≡ x j k) → CardSolved x c → CardSolved y c
    solved_same x y c h s j l = dot_same F (top ts) _ _ (y j) (x j) (λ k m. refl) (λ k m. h j k l m) ∙ s j l

    pub agrees_long : (x : List ℕ) (c : Card) → Agrees F ts w x c → length c.values ≡ w
    agrees_long x c e = ap length e ∙ length_row w _

    -- the key of a list is what the form of the last place reads
    pub key_read : (x : List ℕ) → Elements F (w * top ts) x → (v : ℕ → ℕ)
        → ((j : ℕ) → j < w → dot F (top ts) (last_place (top ts)) (assigned (top ts) x j) ≡ v j) → key_of ts w x ≡ row w v
    key_read x h v s = is_row (key_of ts w x) w v (length_row w _) (λ j l. getD_row w _ j l ∙ reads j l ∙ s j l)
      where
        reads : (j : ℕ) → j < w → get_or x (j * top ts + (top ts - 1)) 0 ≡ dot F (top ts) (last_place (top ts)) (assigned (top ts) x j)
        reads j l =
            elim (dec_lt 0 (top ts)) [
              | yes p ↦ sym (last_dot F L (top ts) (assigned (top ts) x j) p (element_below _ x h _))
              | no d ↦
                  let none : top ts ≡ 0 = omega arith in
                  let empty = rw none at h.long in
                  rw none (get_or-eq_default x 0 (omega arith))
            ]

    module _ (held : List Card) where
      pub agreeing_solved : (x : List ℕ) → Agreeing F ts w held x → Solved held (assigned (top ts) x)
      agreeing_solved x a = record {
        elements = λ j k l m. element_below _ x a.elements _;
        cards = every_map (Agrees F ts w x) (CardSolved (assigned (top ts) x)) held (agrees_solved x) a.agrees;
      }

      pub solved_agreeing : Every (Fits F w) held → (y : Values) → Solved held y → Agreeing F ts w held (list_of (top ts) w y)
      unfolding list_of
      solved_agreeing fit y s =
          let x = list_of (top ts) w y in
          record {
            elements = record {
              long = length_row _ _;
              below = λ k l. rw (getD_row _ _ k l) (within k l);
            };
            agrees = every_both (Fits F w) (CardSolved y) (Agrees F ts w x) held
                (λ c f h. solved_agrees x c f.long (solved_same y (assigned (top ts) x) c (list_assigned (top ts) w y) h)) fit s.cards;
          }
        where
          within : (k : ℕ) → k < w * top ts → y (k / top ts) (k % top ts) < F.size
          within k l =
              elim (dec_lt 0 (top ts)) [
                | yes p ↦ s.elements (k / top ts) (k % top ts) ((div-lt_iff_lt-mul p).1 l) (mod-lt k p)
                | no d ↦
                    let none : top ts ≡ 0 = omega arith in
                    let below = rw none at l in
                    absurd (omega arith)
              ]
