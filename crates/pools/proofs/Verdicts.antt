-- What the solutions of the cards' equations say of the key is the right verdict.
--   right_unique           no two verdicts are right
--   right_long             a key that is right has w words
--   constant               w times one element
--   right_contradictory, right_undecided, right_decided    each verdict, from what it claims of agreeing coefficients
--   Gives                  what the form of the last place gives
--   key_of_solution        so it is the key of a solution
--   never_solved, every_value, one_value    each verdict, from what is claimed of solutions
--   no_words               where a key has no words
-- Assumes nothing.
use Rattle.std.proofs.Common.{◌≡◌, ℕ, ◌<◌, ◌≤◌, List, length, get_or, sym, refl, ap, ◌∙◌, arith}
use Rattle.fields.specs.Arithmetic.{Arithmetic, Laws}
use Rattle.linear.specs.Solutions.{Values, dot}
use Rattle.linear.proofs.Reading.{size_positive}
use Rattle.sharing.specs.Cards.{Card, row, top, key_of, Elements, Every}
use Rattle.pools.specs.Equations.{last_place}
use Rattle.pools.specs.Verdicts.{Verdict, contradictory, undecided, decided, Agreeing, NoneAgrees, EveryKeyPossible, Right}
use Rattle.pools.proofs.Agreement.{every_map, Fits, assigned, list_of, list_assigned, CardSolved, Solved, agreeing_solved, solved_agreeing, key_read}
use Rattle.pools.proofs.Equations.{dot_same}
use Rattle.sharing.proofs.Rows.{length_row, getD_row, is_row}

module _ (F : Arithmetic) (ts : List ℕ) (w : ℕ) (held : List Card) where
  pub right_unique : (u v : Verdict) → Right F ts w held u → Right F ts w held v → u ≡ v
  right_unique contradictory v r s = sym (s.contradictory_if (r.contradictory_only_if refl))
  right_unique undecided v r s = sym (s.open_if (r.open_only_if refl))
  right_unique (decided k) contradictory r s = r.contradictory_if (s.contradictory_only_if refl)
  right_unique (decided k) undecided r s = r.open_if (s.open_only_if refl)
  right_unique (decided k) (decided m) r s =
      let (x, a) = r.key_possible k refl in
      ap decided (sym (r.key_carried k refl x a) ∙ s.key_carried m refl x a)

  pub right_long : (k : List ℕ) → Right F ts w held (decided k) → length k ≡ w
  right_long k r = let (x, a) = r.key_possible k refl in ap length (sym (r.key_carried k refl x a)) ∙ length_row w _

module _ (F : Arithmetic) (L : Laws F) (ts : List ℕ) (w : ℕ) (held : List Card) where
  -- w times one element
  constant : (a : ℕ) → a < F.size → Elements F w (row w (λ j. a))
  constant a l = record { long = length_row w _; below = λ k m. rw (getD_row w (λ j. a) k m) l }

  pub right_contradictory : NoneAgrees F ts w held → Right F ts w held contradictory
  right_contradictory none = record {
    contradictory_if = λ n. refl;
    contradictory_only_if = λ e. none;
    open_if = λ o. let (x, a, k) = o (row w (λ j. 0)) (constant 0 (size_positive F L)) in absurd (none x a);
    open_only_if = λ e. cc;
    key_carried = λ k e. cc;
    key_possible = λ k e. cc;
    dealt = λ x a. absurd (none x a);
  }

  pub right_undecided : EveryKeyPossible F ts w held → Right F ts w held undecided
  right_undecided every = record {
    contradictory_if = λ n. let (x, a, k) = every (row w (λ j. 0)) (constant 0 (size_positive F L)) in absurd (n x a);
    contradictory_only_if = λ e. cc;
    open_if = λ o. refl;
    open_only_if = λ e. every;
    key_carried = λ k e. cc;
    key_possible = λ k e. cc;
    dealt = λ x a. ((λ e. cc), λ k e. cc);
  }

  pub right_decided : 0 < w → (k x : List ℕ) → Agreeing F ts w held x → ((y : List ℕ) → Agreeing F ts w held y → key_of ts w y ≡ k) → Right F ts w held (decided k)
  right_decided l k x a same = record {
    contradictory_if = λ n. absurd (n x a);
    contradictory_only_if = λ e. cc;
    open_if = λ o.
        let (y, b, i) = o (row w (λ j. 0)) (constant 0 (size_positive F L)) in
        let (z, c, j) = o (row w (λ j. 1)) (constant 1 (omega (arith, L.two_elements))) in
        let e : ◌≡◌ {A = ℕ} 0 1 = sym (getD_row w (λ j. 0) 0 l) ∙ ap (λ r. get_or r 0 0) (sym i ∙ same y b ∙ sym (same z c) ∙ j) ∙ getD_row w (λ j. 1) 0 l in
        absurd (omega arith);
    open_only_if = λ e. cc;
    key_carried = λ m e y b. let i : k ≡ m = cc in same y b ∙ i;
    key_possible = λ m e. (x, a);
    dealt = λ y b. ((λ e. cc), λ m e. let i : k ≡ m = cc in sym (same y b ∙ i));
  }

  -- what the form of the last place gives
  abbrev pub Gives : Values → (ℕ → ℕ) → Type 0
  Gives x v = (j : ℕ) → j < w → dot F (top ts) (last_place (top ts)) (x j) ≡ v j

  pub never_solved : ((x : Values) → Solved F L ts w held x → ⊥) → Right F ts w held contradictory
  never_solved never = right_contradictory (λ x a. never (assigned (top ts) x) (agreeing_solved F L ts w held x a))

  module _ (fit : Every (Fits F w) held) where
    key_of_solution : (y : Values) (s : Solved F L ts w held y) (v : ℕ → ℕ) → Gives y v → key_of ts w (list_of (top ts) w y) ≡ row w v
    key_of_solution y s v g =
        key_read F L ts w (list_of (top ts) w y) (solved_agreeing F L ts w held fit y s).elements v (λ j l.
        dot_same F (top ts) _ _ (assigned (top ts) (list_of (top ts) w y) j) (y j) (λ k m. refl) (λ k m. list_assigned (top ts) w y j k l m) ∙ g j l)

    pub every_value : ((v : ℕ → ℕ) → ((j : ℕ) → j < w → v j < F.size) → (x : Values) × Solved F L ts w held x × Gives x v) → Right F ts w held undecided
    every_value every = right_undecided (λ k h.
        let (y, s, g) = every (λ j. get_or k j 0) h.below in
        (list_of (top ts) w y, solved_agreeing F L ts w held fit y s, key_of_solution y s _ g ∙ sym (is_row k w _ h.long (λ j l. refl))))

    pub one_value : 0 < w → (v : ℕ → ℕ) → (x : Values) × Solved F L ts w held x → ((x : Values) → Solved F L ts w held x → Gives x v) → Right F ts w held (decided (row w v))
    one_value l v some all =
        let (x, s) = some in
        right_decided l (row w v) (list_of (top ts) w x) (solved_agreeing F L ts w held fit x s) (λ y b.
        key_read F L ts w y b.elements v (all (assigned (top ts) y) (agreeing_solved F L ts w held y b)))

    -- of no words, every key is the empty one
    pub no_words : w ≤ 0 → Right F ts w held undecided
    no_words n = every_value (λ v below. (
      (λ j k. 0),
      record { elements = λ j k l m. absurd (omega arith); cards = every_map (Fits F w) (CardSolved F L ts w (λ j k. 0)) held (λ c f j l. absurd (omega arith)) fit },
      λ j l. absurd (omega arith),
    ))
