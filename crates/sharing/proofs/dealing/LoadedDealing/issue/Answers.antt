use Rattle.std.proofs.Common.{◌≡◌, ℕ, ◌+◌, ◌*◌, false, not, ◌||◌, eqb, leb, List, length, get_or, ap, ◌∙◌, arith, eq-eqb}
use borrow.Author.Tests.{lt-leb}
use Rattle.fields.specs.Arithmetic.{Arithmetic}
use Rattle.sharing.specs.Cards.{top, order, row, derivative}
use Rattle.sharing.specs.Dealings.{coefficients_of}
use Rattle.sharing.proofs.Firsts.{right_id}
use Rattle.sharing.proofs.Loading.{fit}
use Rattle.sharing.proofs.dealing.LoadedDealing.issue.Goals as goal

-- the values by the numbers that the code has
values_by : Arithmetic → List ℕ → ℕ → ℕ → ℕ → ℕ → List ℕ
values_by F x id n t d = row n (λ j. derivative F t d id (λ i. get_or x (j * t + i) 0))

same_values : (F : Arithmetic) (x : List ℕ) (u id n w t top d order : ℕ) → n ≡ w → t ≡ top → d ≡ order → u ≡ id
    → values_by F x u n t d ≡ values_by F x id w top order
same_values F x u id n w t top d order e f h i = cc

pub returns : goal.returns
unfolding values_by
returns g c =
    let F = g.F.Field.arithmetic c.args.field.now in
    let ts = c.args.self.now.opened.policy in
    let w = c.args.self.now.opened.words in
    let x = coefficients_of c.args.self.now in
    let loaded = fit F ts w x c.in_ok-trial.ensures.answer in
    let many : length c.args.values.now ≡ w = c.if-values-get.false ∙ c.get.ensures.words in
    let buffer : not (eqb (length c.args.values.now) w) ≡ false = ap not (eq-eqb _ w many) in
    let id : (eqb c.args.id 0 || leb F.size c.args.id) ≡ false =
    right_id c.args.id F.size c.if-id-eq0.false (omega (arith, c.size.ensures, c.if-id-size.false)) in
    let level : leb (length ts) c.args.level ≡ false = lt-leb (length ts) c.args.level (omega (arith, c.levels.ensures.count)) in
    let derivative = c.on_card-derivative.ensures in
    let long = loaded.long in
    let elements = loaded.elements in
    record { answer = rw (long, elements, buffer, id, level); values = c.write_values.ensures ∙ same_values F x _ c.args.id _ w _ (top ts) _ (order ts c.args.level) many derivative.0 derivative.1.0 derivative.1.1; range = c.trial.ensures.range; ordered = c.trial.ensures.ordered }
