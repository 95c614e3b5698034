-- A loop that looks for a member that meets a test.
--   any_here, any_next, any_end    what is left of the list decides: met at its front, not met there, nothing left
-- Assumes nothing.
use Rattle.std.proofs.Common.{◌≡◌, ℕ, ◌+◌, ◌<◌, ◌≤◌, Bool, true, false, ◌||◌, List, length, get_or, drop, ap, ◌∙◌}
use Rattle.std.proofs.lemmas.List.{at_drop_more, at_drop_all}
use Rattle.std.specs.List.{list_any}

module _ {A : Type 0} (p : A → Bool) (xs : List A) (i : ℕ) (left : list_any p xs ≡ list_any p (drop i xs)) where
  pub any_here : (d : A) → i < length xs → p (get_or xs i d) ≡ true → list_any p xs ≡ true
  any_here d l e = left ∙ at_drop_more (list_any p) xs i d l ∙ ap (λ b. b || list_any p (drop (i + 1) xs)) e

  pub any_next : (d : A) → i < length xs → p (get_or xs i d) ≡ false → list_any p xs ≡ list_any p (drop (i + 1) xs)
  any_next d l e = left ∙ at_drop_more (list_any p) xs i d l ∙ ap (λ b. b || list_any p (drop (i + 1) xs)) e

  pub any_end : length xs ≤ i → list_any p xs ≡ false
  any_end l = left ∙ at_drop_all (list_any p) xs i l
