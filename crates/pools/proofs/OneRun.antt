-- Of any calls one list of answers is right, and no other.
--   One                    an answer to a call is right, and no other
--   judged, counted        of a judging, and of a count
--   Met, met_below         the policy is met at a level below a number, or at none
--   one_answer             the one right answer to a call
--   one_run_is_right       the right answers of a session
-- Assumes nothing.
use Rattle.std.proofs.Common.{◌≡◌, ℕ, zero, suc, ◌<◌, ◌≤◌, Bool, true, false, eqb, ◌⊎◌, List, [], ◌∷◌, length, get_or, refl, ap, ◌∙◌, subst, ap₂, inl, inr, arith}
use native.Mathlib.Decide.{ℕ_discrete, dec_le}
use Rattle.std.proofs.lemmas.Bool.{false_from_ne_true}
use Rattle.fields.specs.Arithmetic.{Arithmetic, Laws}
use Rattle.pools.specs.Sessions.{CardList, Call, present, withdraw, judge, count, ask_held, ask_turned, Answer, refused_by, truth, RightAnswer, RightRun, MeetsPolicy, up_to, step}
use Rattle.pools.specs.Sessions as sessions
use Rattle.pools.specs.Stands.{OneRunIsRight}
use Rattle.pools.proofs.Verdicts.{right_unique}
use Rattle.pools.proofs.OneVerdict.{right_verdict}

module _ (F : Arithmetic) (L : Laws F) (ts : List ℕ) (w : ℕ) (s : CardList) where
  unfoldable pub One : Call → Type 0
  One c = (a : Answer) × RightAnswer F ts w s c a × ((b : Answer) → RightAnswer F ts w s c b → b ≡ a)

  unfoldable pub judged : (n : ℕ) (b : Bool) → eqb n w ≡ b → One (judge n)
  unfolding One
  judged n false e = (refused_by 8, ((λ i. refl), λ i. cc), λ b h. h.0 e)
  judged n true e =
      let (v, r) = right_verdict F L ts w s.held in
      (sessions.verdict v, ((λ i. cc), λ i. (v, refl, r)), λ b h. let (u, j, q) = h.1 e in j ∙ ap sessions.verdict (right_unique F ts w s.held u v q r))

  -- the policy is met at a level below n, or at none
  abbrev pub Met : ℕ → Type 0
  Met n = (k : ℕ) × (k < n) × (get_or ts k 0 ≤ up_to F ts w k s.held)

  unfoldable pub met_below : (n : ℕ) → Met n ⊎ (Met n → ⊥)
  met_below zero = inr (λ h. let l = h.1 in omega arith)
  met_below (suc n) =
      elim (met_below n) [
        | inl (k, l, m) ↦ inl (k, omega arith, m)
        | inr never ↦ elim (dec_le (get_or ts n 0) (up_to F ts w n s.held)) [
          | yes m ↦ inl (n, omega arith, m)
          | no d ↦ inr (λ h. let (k, l, m) = h in elim (ℕ_discrete k n) [ yes e ↦ d (subst (λ (i : ℕ). get_or ts i 0 ≤ up_to F ts w i s.held) e m) | no o ↦ never (k, omega arith, m) ])
        ]
      ]

  unfoldable pub counted : MeetsPolicy F ts w s.held ⊎ (MeetsPolicy F ts w s.held → ⊥) → One count
  unfolding One
  counted (inl p) = (truth true, (true, refl, (λ e. p), λ q. refl), λ b h. let (t, i, f, g) = h in i ∙ ap truth (g p))
  counted (inr n) = (truth false, (false, refl, (λ e. cc), λ q. absurd (n q)), λ b h. let (t, i, f, g) = h in i ∙ ap truth (false_from_ne_true t (λ e. n (f e))))

  unfoldable pub one_answer : (c : Call) → (a : Answer) × RightAnswer F ts w s c a × ((b : Answer) → RightAnswer F ts w s c b → b ≡ a)
  unfolding One
  one_answer (present c) = (_, refl, λ b e. e)
  one_answer (withdraw id) = (_, refl, λ b e. e)
  one_answer (judge n) = judged n (eqb n w) refl
  one_answer count = counted (met_below (length ts))
  one_answer ask_held = (_, refl, λ b e. e)
  one_answer ask_turned = (_, refl, λ b e. e)

unfoldable pub one_run_is_right : OneRunIsRight
one_run_is_right F L ts w s [] = ([], tt, λ ys h. none ys h)
  where
    none : (ys : List Answer) → RightRun F ts w s [] ys → ys ≡ []
    none [] h = refl
    none (y ∷ ys) h = absurd h
one_run_is_right F L ts w s (c ∷ cs) =
    let (a, r, u) = one_answer F L ts w s c in
    let (zs, rs, us) = one_run_is_right F L ts w (step F ts w s c) cs in
    (a ∷ zs, (r, rs), λ ys h. more a zs u us ys h)
  where
    more : (a : Answer) (zs : List Answer) → ((b : Answer) → RightAnswer F ts w s c b → b ≡ a) → ((ys : List Answer) → RightRun F ts w (step F ts w s c) cs ys → ys ≡ zs) → (ys : List Answer) → RightRun F ts w s (c ∷ cs) ys → ys ≡ a ∷ zs
    more a zs u us [] h = absurd h
    more a zs u us (y ∷ ys) h = ap₂ (λ b bs. b ∷ bs) (u y h.0) (us ys h.1)
