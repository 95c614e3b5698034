-- The fields of trays, by their numbers.
--   field_number   the number that a tray knows a field by
--   KnownField     what reading a number gives: the field with this number, or that it is the number of none
-- Assumes nothing.
use Rattle.std.specs.Prelude.{◌≡◌, ℕ, ◌≤◌, Result, MatchResult}
use Rattle.sharing.specs.declared.refusal.Refusal.{Refusal}
use Rattle.sharing.specs.declared.refusal.Refusal.TheVariants as refusal
use Rattle.trays.specs.declared.field.TrayField.{TrayField}
use Rattle.trays.specs.declared.field.TrayField.TheVariants.{Bytes, Wide}

abbrev pub field_number : TrayField → ℕ
field_number Bytes = 1
field_number Wide = 2

abbrev pub KnownField : ℕ → Result TrayField Refusal → Type 0
KnownField n r =
    MatchResult r (λ f. field_number f ≡ n) (λ e. (e ≡ refusal.UnknownField) × (1 ≤ n → n ≤ 2 → ⊥))
