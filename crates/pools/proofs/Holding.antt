-- Held cards and their equations, card by card.
--   say_push                           one more card and its equation
--   outside, all_below                 some number is no element; where none is so, each is one
--   outside_never                      no numbers solve a card with a value that is no element
--   card_solved, card_satisfied        values satisfy an equation just if they solve its card
--   satisfied_solved, solved_satisfied    the same of all of them
--   front, zeros_follow                the values that are decided, and what follows them
--   padded                             zeros follow what is decided
--   solution, solved, reads            solutions of the equations and of the cards, and what reads their key
--   judged                             what is decided of the key's form is the right verdict
-- Assumes nothing.
use Rattle.std.proofs.Common.{◌≡◌, ℕ, ◌-◌, ◌%◌, ◌<◌, ◌≤◌, Bool, true, false, leb, List, [], ◌∷◌, ◌++◌, length, get_or, take, drop, replicate, sym, refl, ap, ◌∙◌, subst, ⊎_elim, mod-eq_of_lt, arith, leb-false, leb-true}
use mathlib.Core.List.Memᴰ
use mathlib.Core.List.{Memᴰ as In}
use Rattle.std.proofs.lemmas.List.{get_or_default}
use Rattle.std.proofs.lemmas.Grind.{elements}
use Rattle.std.proofs.lemmas.Bool.{false_from_ne_true}
use Rattle.std.proofs.lemmas.List.Folds.{list_any_at, Any-from_list_any}
use Rattle.fields.specs.Arithmetic.{Arithmetic, Laws}
use Rattle.linear.specs.declared.equation.Equation.{Equation}
use Rattle.linear.specs.declared.equation.Form.{Form}
use Rattle.linear.specs.declared.decide.Decision.{Decision}
use Rattle.linear.specs.declared.decide.Decision.TheVariants.{Contradictory, Open, Decided}
use Rattle.linear.specs.Solutions.{Values, Satisfies, Solution, Decides, entry, dot}
use Rattle.linear.proofs.Reading.{sum_below}
use Rattle.sharing.specs.Cards.{Card, row, top, order, Every}
use Rattle.sharing.proofs.Rows.{getD_row, length_row}
use Rattle.sharing.specs.Multipliers.{coefficient}
use Rattle.pools.specs.Equations.{last_place, Says, AllSay, ReadsKey, Padded, verdict_by}
use Rattle.std.specs.List.{list_any}
use Rattle.pools.specs.Verdicts.{decided, Right}
use Rattle.pools.proofs.Agreement.{Fits, CardSolved, Solved}
use Rattle.pools.proofs.Equations.{dot_same}
use Rattle.pools.proofs.Verdicts.{never_solved, every_value, one_value}

pub say_push : (F : Arithmetic) (ts : List ℕ) (w : ℕ) (cs : List Card) (es : List Equation) (c : Card) (e : Equation)
    → AllSay F ts w cs es → Says F ts w c e → AllSay F ts w (cs ++ c ∷ []) (es ++ e ∷ [])
say_push F ts w [] [] c e h s = (s, tt)
say_push F ts w [] (f ∷ es) c e h s = absurd h
say_push F ts w (d ∷ cs) [] c e h s = absurd h
say_push F ts w (d ∷ cs) (f ∷ es) c e h s = (h.0, say_push F ts w cs es c e h.1 s)

module _ (F : Arithmetic) (w : ℕ) where
  -- some number is not below the size
  abbrev pub outside : List ℕ → Bool
  outside xs = list_any (λ v. leb F.size v) xs

  pub all_below : (xs : List ℕ) → outside xs ≡ false → (j : ℕ) → j < length xs → get_or xs j 0 < F.size
  all_below xs e j l = leb-false F.size _ (false_from_ne_true _ (λ t. let some = list_any_at (λ v. leb F.size v) xs j 0 l t in cc))

  module _ (L : Laws F) (ts : List ℕ) (x : Values) where
    pub outside_never : (c : Card) → length c.values ≡ w → outside c.values ≡ true → CardSolved F L ts w x c → ⊥
    outside_never c long e s =
        let (j, v, l, is, m) = Any-from_list_any (λ v. leb F.size v) c.values e in
        let here = s j (omega (arith, long)) in
        let small = sum_below F L (top ts) (λ k. F.mul (coefficient F (order ts c.level) c.id k) (x j k)) in
        omega (arith, leb-true F.size v m, is, get_or_default c.values j v 0 l)

    card_solved : (c : Card) (e : Equation) → Says F ts w c e → Fits F w c → Satisfies F (top ts) w e x → CardSolved F L ts w x c
    card_solved c e h i s j l =
        dot_same F (top ts) _ _ (x j) (x j) (λ k m. sym (h.left k m)) (λ k m. refl)
        ∙ s j l ∙ ap (λ (n : ℕ). n % F.size) (h.right j l) ∙ mod-eq_of_lt (i.below j l)

    card_satisfied : (c : Card) (e : Equation) → Says F ts w c e → Fits F w c → CardSolved F L ts w x c → Satisfies F (top ts) w e x
    card_satisfied c e h i s j l =
        dot_same F (top ts) _ _ (x j) (x j) h.left (λ k m. refl)
        ∙ s j l ∙ sym (ap (λ (n : ℕ). n % F.size) (h.right j l) ∙ mod-eq_of_lt (i.below j l))

    pub satisfied_solved : (cs : List Card) (es : List Equation) → AllSay F ts w cs es → Every (Fits F w) cs
        → ((e : Equation) → In e es → Satisfies F (top ts) w e x) → Every (CardSolved F L ts w x) cs
    satisfied_solved [] [] h i s = tt
    satisfied_solved [] (e ∷ es) h i s = absurd h
    satisfied_solved (c ∷ cs) [] h i s = absurd h
    satisfied_solved (c ∷ cs) (e ∷ es) h i s =
        (card_solved c e h.0 i.0 (s e (In.head refl)), satisfied_solved cs es h.1 i.1 (λ f m. s f (In.tail m)))

    pub solved_satisfied : (cs : List Card) (es : List Equation) → AllSay F ts w cs es → Every (Fits F w) cs
        → Every (CardSolved F L ts w x) cs → (e : Equation) → In e es → Satisfies F (top ts) w e x
    solved_satisfied [] [] h i s f m = absurd (Memᴰ.not-nil m)
    solved_satisfied [] (e ∷ es) h i s f m = absurd h
    solved_satisfied (c ∷ cs) [] h i s f m = absurd h
    solved_satisfied (c ∷ cs) (e ∷ es) h i s f m =
        let here : Satisfies F (top ts) w e x = card_satisfied c e h.0 i.0 s.0 in
        let this : f ≡ e → Satisfies F (top ts) w f x = λ q. subst (λ d. Satisfies F (top ts) w d x) (sym q) here in
        ⊎_elim this (λ n. solved_satisfied cs es h.1 i.1 s.1 f n) (Memᴰ.cases_cons m)

-- the values of an array of 16, which are zero from a place on
front : (w : ℕ) (xs : List ℕ) → w ≤ 16 → length xs ≡ 16 → row w (entry xs) ≡ take w xs
front w xs l e = grind (arith, elements, getD_row, length_row)

zeros_follow : (w : ℕ) (xs : List ℕ) → w ≤ 16 → length xs ≡ 16 → ((j : ℕ) → w ≤ j → entry xs j ≡ 0) → drop w xs ≡ replicate (16 - w) 0
zeros_follow w xs l e h = grind (arith, elements)

pub padded : (F : Arithmetic) (t w : ℕ) (es : List Equation) (form : Form) → w ≤ 16 → (d : Decision) → Decides F t w es form d → Padded w d
padded F t w es form l Contradictory never = tt
padded F t w es form l Open every = tt
padded F t w es form l (Decided values) one = (one.full, l, zeros_follow w values l one.full one.rest)

module _ (F : Arithmetic) (L : Laws F) (ts : List ℕ) (w : ℕ) (held : List Card) (es : List Equation) (form : Form)
    (says : AllSay F ts w held es) (fit : Every (Fits F w) held) (key : ReadsKey (top ts) form) where
  solution : (x : Values) → Solved F L ts w held x → Solution F (top ts) w es x
  solution x s = record { elements = s.elements; satisfies = solved_satisfied F w L ts x held es says fit s.cards }

  solved : (x : Values) → Solution F (top ts) w es x → Solved F L ts w held x
  solved x s = record { elements = s.elements; cards = satisfied_solved F w L ts x held es says fit s.satisfies }

  reads : (x : ℕ → ℕ) → dot F (top ts) (last_place (top ts)) x ≡ dot F (top ts) (entry form.coefficients) x
  reads x = dot_same F (top ts) _ _ x x (λ k m. sym (key.reads k m)) (λ k m. refl)

  pub judged : 0 < w → w ≤ 16 → (d : Decision) → Decides F (top ts) w es form d → Right F ts w held (verdict_by w d)
  judged l m Contradictory never = never_solved F L ts w held (λ x s. never x (solution x s))
  judged l m Open every = every_value F L ts w held fit (λ v below.
      let (x, s, g) = every v below in (x, solved x s, λ j m. reads (x j) ∙ g j m))
  judged l m (Decided values) one =
      subst (λ k. Right F ts w held (decided k)) (front w values m one.full) (one_value F L ts w held fit l (entry values)
      (let (x, s) = one.possible in (x, solved x s))
      (λ x s j m. reads (x j) ∙ one.forced x (solution x s) j m))
