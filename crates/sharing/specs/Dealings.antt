-- What a dealing is made of.
--   coefficients_of    the coefficients that a loaded dealing holds
-- Assumes nothing.
use Rattle.std.specs.Prelude.{ℕ, List}
use Rattle.sharing.specs.declared.dealing.LoadedDealing.{LoadedDealing}

abbrev pub coefficients_of : LoadedDealing → List ℕ
coefficients_of d = d.coefficients.now
