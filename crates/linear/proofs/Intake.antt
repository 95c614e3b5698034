-- Equations taken in one after another.
--   echelon_none, stands_none    rows of which none is filled are in echelon form, and stand for no equation
--   stands_more           one equation more is taken in
--   never_more            the equations up to one that clashes are never satisfied, nor are all of them
-- Assumes nothing.
use Rattle.std.proofs.Common.{◌≡◌, ℕ, ◌+◌, ◌<◌, ◌≤◌, List, [], ◌∷◌, ◌++◌, length, get_or, take, drop, replicate, None, Option, sym, refl, ap, ◌∙◌, subst, ⊎_elim, arith}
use mathlib.Core.List.Memᴰ
use mathlib.Core.List.{Memᴰ as In}
use Rattle.std.proofs.lemmas.List.{take_more, take-append-drop, get_or-replicate}
use Rattle.fields.specs.Arithmetic.{Arithmetic}
use Rattle.linear.specs.declared.equation.Equation.{Equation}
use Rattle.linear.specs.Solutions.{Satisfies}
use Rattle.linear.specs.Rows.{InEchelonForm, Meets, Joined, Clash, NeverSatisfied, Stands}

in_take : {A : Type 0} (i : ℕ) (xs : List A) (a : A) → In a (take i xs) → In a xs
in_take i xs a m = subst (In a) (take-append-drop i xs) (Memᴰ.append_left (drop i xs) m)

module _ (F : Arithmetic) (t w : ℕ) where
  no_row : (n : ℕ) → t ≤ n → (p : ℕ) → p < t → ◌≡◌ {A = Option Equation} (get_or (replicate n None) p None) None
  no_row n h p l = get_or-replicate n p None None (omega arith)

  pub echelon_none : (n : ℕ) → t ≤ n → InEchelonForm F t (replicate n None)
  echelon_none n h p e l is = let none = no_row n h p l in cc

  pub stands_none : (n : ℕ) → t ≤ n → Stands F t w [] (replicate n None)
  stands_none n h x = ((λ s e m. absurd (Memᴰ.not-nil m)), λ s p l. subst (λ o. Meets F t w o x) (sym (no_row n h p l)) tt)

  module _ (es : List Equation) (rows : List (Option Equation)) (e : Equation) (h : Stands F t w es rows) where
    stands_joined : (after : List (Option Equation)) → Joined F t w rows e after → Stands F t w (es ++ e ∷ []) after
    stands_joined after j x = (
      (λ s f m.
          let both = (j x).0 s in
          let last : f ≡ e → Satisfies F t w f x = λ i. subst (λ d. Satisfies F t w d x) (sym i) both.1 in
          ⊎_elim ((h x).0 both.0 f) (λ n. last (Memᴰ.eq_of_singleton n)) (Memᴰ.append_cases es m)),
      λ s. (j x).1 ((h x).1 (λ f m. s f (Memᴰ.append_left _ m)), s e (Memᴰ.append_right es (In.head refl))),
    )

    clash_never : Clash F t w rows e → NeverSatisfied F t w (es ++ e ∷ [])
    clash_never c x s = c x ((h x).1 (λ f m. s f (Memᴰ.append_left _ m))) (s e (Memᴰ.append_right es (In.head refl)))

  module _ (es : List Equation) (i : ℕ) (l : i < length es) (e : Equation) (is : e ≡ get_or es i e) (rows : List (Option Equation)) (h : Stands F t w (take i es) rows) where
    longer : take (i + 1) es ≡ take i es ++ e ∷ []
    longer = take_more es i e l ∙ ap (λ f. take i es ++ f ∷ []) (sym is)

    pub stands_more : (after : List (Option Equation)) → Joined F t w rows e after → Stands F t w (take (i + 1) es) after
    stands_more after j = subst (λ fs. Stands F t w fs after) (sym longer) (stands_joined (take i es) rows e h after j)

    pub never_more : Clash F t w rows e → NeverSatisfied F t w es
    never_more c x s = clash_never (take i es) rows e h c x (λ f m. s f (in_take (i + 1) es f (subst (In f) (sym longer) m)))
