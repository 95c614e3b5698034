use Rattle.std.proofs.Common.{◌≡◌, rules, not, true, eqb, List, filter, sym, ap, ◌∙◌}
use Rattle.std.specs.List.{position}
use Rattle.std.proofs.lemmas.List.Folds.{list_any_at}
use Rattle.std.proofs.lemmas.List.Quantifiers.{position-Some}
use Rattle.sharing.specs.Cards.{Card}
use Rattle.pools.specs.Sessions.{withdraw, holds}
use Rattle.pools.proofs.Orderly.{stays}
use Rattle.pools.proofs.Withdrawing.{none_there, others_stay, others_left}
use Rattle.pools.proofs.pool.Pool.withdraw.Given as given
use Rattle.pools.proofs.pool.Pool.withdraw.Goals as goal

pub returns-in_default-clause-list : goal.returns-in_default-clause-list
returns-in_default-clause-list g c =
    let s = c.args.self.now.list in
    let none = none_there (λ h. eqb h.id c.args.id) s.held (sym c.place_of.ensures ∙ c.in_default.is) in
    ap (λ held. record { held = held; turned = s.turned }) (sym (others_stay (λ h. eqb h.id c.args.id) s.held none))

pub returns-in_default-clause-answer : goal.returns-in_default-clause-answer
returns-in_default-clause-answer g c =
    let none = none_there (λ h. eqb h.id c.args.id) c.args.self.now.list.held (sym c.place_of.ensures ∙ c.in_default.is) in
    rw none (search rules)

kept : (g : given.Over) (c : goal.After-remove g) → c.remove.new.self.items ≡ filter (λ h. not (eqb h.id c.args.id)) c.self.inside.cards.items
kept g c =
    let pool = c.self.inside in
    let seen : pool.cards.items ≡ c.args.self.now.list.held = ap (λ s. s.list.held) c.self.view_is in
    let at = position-Some (λ h. eqb h.id c.args.id) pool.cards.items c.in-Some.place c.remove.result (ap (λ (cs : List Card). position (λ (h : Card). eqb h.id c.args.id) cs) seen ∙ sym c.place_of.ensures ∙ c.in-Some.is) in
    c.remove.ensures.items ∙ sym (others_left (g.F.Field.arithmetic pool.field) pool.policy pool.words c.args.id pool.cards.items c.in-Some.place c.remove.result c.self.invariant.apart at.0 at.1 at.2)

pub invariant_of-self : goal.invariant_of-self
invariant_of-self g c =
    let pool = c.self.inside in
    let F = g.F.Field.arithmetic pool.field in
    rw (kept g c)
    (stays F pool.policy pool.words _ c.self.invariant (withdraw c.args.id))

pub returns-clause-list : goal.returns-clause-list
returns-clause-list g c = rw (← c.self.view_is) (ap (λ held. record { held = held; turned = c.self.inside.turned }) (kept g c))

pub returns-clause-answer : goal.returns-clause-answer
returns-clause-answer g c =
    let held = c.args.self.now.list.held in
    let at = position-Some (λ h. eqb h.id c.args.id) held c.in-Some.place c.remove.result (sym c.place_of.ensures ∙ c.in-Some.is) in
    let there : holds c.args.id held ≡ true = list_any_at (λ h. eqb h.id c.args.id) held c.in-Some.place c.remove.result at.0 at.1 in
    rw there (search rules)
