use Rattle.std.proofs.Common.{◌≡◌, ℕ, ◌+◌, ◌<◌, Bool, true, false, cond, leb, List, length, get_or, take, filter, sym, ap, ◌∙◌, arith, le-leb}
use borrow.Author.Tests.{lt-leb}
use Rattle.std.proofs.lemmas.List.{take_all}
use Rattle.std.proofs.lemmas.List.Filters.{length-filter_more}
use Rattle.sharing.specs.Cards.{Card}
use Rattle.pools.proofs.pool.Pool.up_to.Goals as goal
use Rattle.pools.proofs.pool.Pool.up_to.Goals.{then-card-level, else-card-level}

-- one more card, of the level or a lower one, or above it
counted : (level : ℕ) (cards : List Card) (i n m : ℕ) (d : Card) (b : Bool) → i < length cards
    → n ≡ length (filter (λ c. leb c.level level) (take i cards)) → leb (get_or cards i d).level level ≡ b → m ≡ n + cond b 1 0
    → m ≡ length (filter (λ c. leb c.level level) (take (i + 1) cards))
counted level cards i n m d b l e t f =
    let more = length-filter_more (λ (c : Card). leb c.level level) cards i d l in
    f ∙ ap (λ x. x + cond b 1 0) e ∙ ap (λ x. length (filter (λ (c : Card). leb c.level level) (take i cards)) + cond x 1 0) (sym t) ∙ sym more

pub loop-card-preserved : goal.loop-card-preserved
loop-card-preserved g c =
    let held = c.args.self.now.list.held in
    let i = c.loop-card.card-index in
    let d = c.card-item.result in
    let inv = c.loop-card.invariant in
    let seen : c.as_slice-card-items.result.now ≡ held = c.as_slice-card-items.ensures.value ∙ ap (λ s. s.list.held) c.self.view_is in
    let here : get_or held i d ≡ d = cc in
    let within : i < length held = omega (arith, ap length seen, c.loop-card-test.true) in
    let level : d.level ≡ c.card.inside.level = ap (λ x. x.level) (sym c.card.view_is) in
    let seen_level : (get_or held i d).level ≡ c.card.inside.level = ap (λ x. x.level) here ∙ level in
    elim c.if-card-level.branch [
      | then-card-level w ↦
          (counted c.args.level held i _ _ d true within inv.0 (le-leb _ _ (omega (arith, seen_level, w.if-card-level.true))) w.cards-is, omega (arith, w.cards-is))
      | else-card-level w ↦
          (counted c.args.level held i _ _ d false within inv.0 (lt-leb _ _ (omega (arith, seen_level, w.if-card-level.false))) (omega (arith, w.cards-is)), omega (arith, w.cards-is))
    ]

pub returns : goal.returns
returns g c =
    let held = c.args.self.now.list.held in
    let seen : c.as_slice-card-items.result.now ≡ held = c.as_slice-card-items.ensures.value ∙ ap (λ s. s.list.held) c.self.view_is in
    let all : take c.loop-card.card-index held ≡ held = take_all c.loop-card.card-index held (omega (arith, ap length seen, c.loop-card-test.false)) in
    c.loop-card.invariant.0 ∙ ap (λ cards. length (filter (λ (x : Card). leb x.level c.args.level) cards)) all
