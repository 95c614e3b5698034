-- Whatever the calls, the held cards are orderly.
--   none_of                      where no member meets a test, each fails it
--   every_push, every_keep       what holds of every member, of one more, and of those that are kept
--   apart_push, apart_keep       cards with different ids, with one more and with fewer
--   stays                        one call keeps the cards orderly
--   orderly_after                many calls
--   held_cards_are_orderly       all calls from an empty pool
-- Assumes nothing.
use Rattle.std.proofs.Common.{◌≡◌, ℕ, Bool, true, false, cond, not, eqb, List, [], ◌∷◌, ◌++◌, length, filter, Some, None, Option, sym, refl, arith, length-append, eqb-true, leb-false}
use borrow.Author.Tests.{eqb-false, not-false}
use Rattle.std.proofs.lemmas.Bool.{or_parts}
use Rattle.fields.specs.Arithmetic.{Arithmetic}
use Rattle.sharing.specs.Cards.{Card, Every}
use Rattle.std.specs.List.{list_any}
use Rattle.pools.specs.Sessions.{CardList, Call, present, withdraw, judge, count, ask_held, ask_turned, refusals, refuses_card, presented, step, after, none_yet, Accepted, Apart, Orderly}
use Rattle.pools.specs.Stands.{HeldCardsAreOrderly}
use Rattle.sharing.proofs.Firsts.{first_none}
use Rattle.pools.proofs.Agreement.{every_map}
use Rattle.pools.proofs.Holding.{all_below}
use Rattle.std.proofs.lemmas.List.Sums.{length-filter, count_by-le-length}

none_of : {A : Type 0} (p : A → Bool) (xs : List A) → list_any p xs ≡ false → Every (λ x. p x ≡ false) xs
none_of p [] e = tt
none_of p (x ∷ xs) e = let parts = or_parts (p x) (list_any p xs) e in (parts.0, none_of p xs parts.1)

-- here and below: `Every` goes by recursion, as in Agreement
every_push : {A : Type 0} (P : A → Type 0) (xs : List A) (y : A) → Every P xs → P y → Every P (xs ++ y ∷ [])
every_push P [] y h p = (p, tt)
every_push P (x ∷ xs) y h p = (h.0, every_push P xs y h.1 p)

every_keep : {A : Type 0} (P : A → Type 0) (p : A → Bool) (xs : List A) → Every P xs → Every P (filter p xs)
every_keep P p [] h = tt
every_keep P p (x ∷ xs) h =
    let rest = every_keep P p xs h.1 in
    elim (p x) as (λ b. Every P (cond b (x ∷ filter p xs) (filter p xs))) [ true ↦ (h.0, rest) | false ↦ rest ]

module _ (F : Arithmetic) (ts : List ℕ) (w : ℕ) where
  apart_push : (cs : List Card) (c : Card) → Apart F ts w cs → Every (λ h. h.id ≡ c.id → ⊥) cs → Apart F ts w (cs ++ c ∷ [])
  apart_push [] c a h = (tt, tt)
  apart_push (d ∷ cs) c a h = (every_push (λ x. x.id ≡ d.id → ⊥) cs c a.0 (λ e. h.0 (sym e)), apart_push cs c a.1 h.1)

  apart_keep : (p : Card → Bool) (cs : List Card) → Apart F ts w cs → Apart F ts w (filter p cs)
  apart_keep p [] a = tt
  apart_keep p (c ∷ cs) a =
      let rest = apart_keep p cs a.1 in
      elim (p c) as (λ b. Apart F ts w (cond b (c ∷ filter p cs) (filter p cs))) [
        | true ↦ (every_keep (λ x. x.id ≡ c.id → ⊥) p cs a.0, rest)
        | false ↦ rest
      ]

  -- one call
  pub stays : (s : CardList) → Orderly F ts w s → (c : Call) → Orderly F ts w (step F ts w s c)
  stays s o (present c) = go (refuses_card F ts w s.held c) refl
    where
      go : (r : Option ℕ) → refuses_card F ts w s.held c ≡ r → Orderly F ts w (presented F ts w s c r)
      go (Some n) e = record { few = o.few; counted = omega arith; accepted = o.accepted; apart = o.apart }
      go None e =
          let (long, (ids, (level, (values, (twice, (full, end)))))) = first_none (refusals F ts w s.held c) e in
          let id = or_parts _ _ ids in
          let i = eqb-true (length c.values) w (not-false _ long) in
          let n = eqb-false c.id 0 id.0 in
          let room = leb-false _ (length s.held) full in
          let others = every_map (λ h. eqb h.id c.id ≡ false) (λ h. h.id ≡ c.id → ⊥) s.held (λ h f. eqb-false h.id c.id f) (none_of _ s.held twice) in
          record {
            few = omega (arith, length-append s.held (c ∷ []));
            counted = o.counted;
            accepted = every_push (Accepted F ts w) s.held c o.accepted (record {
              elements = record { long = i; below = λ k l. all_below F w c.values values k (omega arith) };
              some_id = omega arith;
              id_below = leb-false F.size c.id id.1;
              level_below = leb-false (length ts) c.level level;
            });
            apart = apart_push s.held c o.apart others;
          }
  stays s o (withdraw id) =
      let p : Card → Bool = λ h. not (eqb h.id id) in
      record {
        few = omega (arith, length-filter p s.held, count_by-le-length p s.held);
        counted = o.counted;
        accepted = every_keep (Accepted F ts w) p s.held o.accepted;
        apart = apart_keep p s.held o.apart;
      }
  stays s o (judge n) = o
  stays s o count = o
  stays s o ask_held = o
  stays s o ask_turned = o

  orderly_after : (s : CardList) → Orderly F ts w s → (calls : List Call) → Orderly F ts w (after F ts w s calls)
  orderly_after s o [] = o
  orderly_after s o (c ∷ cs) = orderly_after (step F ts w s c) (stays s o c) cs

pub held_cards_are_orderly : HeldCardsAreOrderly
held_cards_are_orderly F ts w calls =
    orderly_after F ts w none_yet (record { few = omega arith; counted = omega arith; accepted = tt; apart = tt }) calls
