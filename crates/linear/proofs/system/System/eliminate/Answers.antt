use Rattle.linear.specs.declared.decide.Decision.TheVariants.{Contradictory}
use Rattle.linear.proofs.Decisions.{promised}
use Rattle.linear.proofs.system.System.eliminate.Goals as goal

pub returns : goal.returns
returns g c =
    let right = rw c.in-Ok.ensures.over at c.decide.ensures in
    promised _ (g.met.F.Field.lawful _) _ _ _ c.args.form.now c.args.self.now.shape.some_right_sides _ (right c.args.equations.now c.in-Ok.ensures.stands)

pub returns-in_default : goal.returns-in_default
returns-in_default g c =
    promised _ (g.met.F.Field.lawful _) _ _ _ c.args.form.now c.args.self.now.shape.some_right_sides Contradictory (λ x s. c.in_default.ensures.never x s.satisfies)
