-- A session on one pool, request by request.
--   same_seen                 what is seen of a pool is what is seen of another
--   after_push, right_push    one more call at the end of a run: the list after it, and that its answer is right too
--   Running                   what a session that began with a new pool keeps after i requests
--   run_goes_on               the same after one more
-- Assumes nothing.
use Rattle.std.proofs.Common.{◌≡◌, ℕ, ◌+◌, ◌<◌, List, [], ◌∷◌, ◌++◌, Result, map, length, get_or, take, set, refl, ap, ◌∙◌, subst}
use Rattle.std.proofs.lemmas.List.{take_more_set, map_push, map_more}
use Rattle.fields.specs.Arithmetic.{Arithmetic}
use Rattle.pools.specs.Pools.{Seen, Frame, Steps, Answers}
use Rattle.pools.specs.Requests.{called, replied}
use Rattle.pools.specs.Sessions.{CardList, Call, Answer, step, after, none_yet, RightAnswer, RightRun}
use Rattle.sharing.specs.declared.refusal.Refusal.{Refusal}
use Rattle.pools.specs.declared.session.Request.{Request}
use Rattle.pools.specs.declared.session.Reply.{Reply}

-- two pools are the same
same_seen : {V : Type 0} {p q : Seen V} → Frame p q → q.list ≡ p.list → q ≡ p
same_seen {V} {p} {q} frame list =
    let same : ◌≡◌ {A = Seen V} (record { field = q.field; policy = q.policy; words = q.words; list = q.list }) (record { field = p.field; policy = p.policy; words = p.words; list = p.list }) = cc in
    same

module _ (F : Arithmetic) (ts : List ℕ) (w : ℕ) where
  pub after_push : (s : CardList) (cs : List Call) (c : Call) → after F ts w s (cs ++ c ∷ []) ≡ step F ts w (after F ts w s cs) c
  after_push s [] c = refl
  after_push s (d ∷ cs) c = after_push (step F ts w s d) cs c

  right_push : (s : CardList) (cs : List Call) (zs : List Answer) (c : Call) (a : Answer)
      → RightRun F ts w s cs zs → RightAnswer F ts w (after F ts w s cs) c a → RightRun F ts w s (cs ++ c ∷ []) (zs ++ a ∷ [])
  right_push s [] [] c a run right = (right, tt)
  right_push s [] (z ∷ zs) c a run right = absurd run
  right_push s (d ∷ cs) [] c a run right = absurd run
  right_push s (d ∷ cs) (z ∷ zs) c a run right = (run.0, right_push (step F ts w s d) cs zs c a run.1 right)

module _ {V : Type 0} (arithmetic : V → Arithmetic) (field : V) (ts : List ℕ) (w : ℕ) (requests : List Request) where
  pub record Running (replies : List (Result Reply Refusal)) (i : ℕ) (pool : Seen V) : Type 0 where
    pub run : RightRun (arithmetic field) ts w none_yet (map called (take i requests)) (map replied (take i replies))
    pub reached : pool ≡ record { field = field; policy = ts; words = w; list = after (arithmetic field) ts w none_yet (map called (take i requests)) }

  pub run_goes_on : (replies : List (Result Reply Refusal)) (i : ℕ) (before later : Seen V) (d : Request) (r : Result Reply Refusal)
      → i < length requests → i < length replies → Running replies i before
      → Steps arithmetic before (called (get_or requests i d)) later → Frame before later
      → Answers arithmetic before (called (get_or requests i d)) (replied r)
      → Running (set replies i r) (i + 1) later
  run_goes_on replies i before later d r l m so_far steps frame right =
      let F = arithmetic field in
      let c = called (get_or requests i d) in
      let done = map called (take i requests) in
      let calls : map called (take (i + 1) requests) ≡ done ++ c ∷ [] = map_more called requests i d l in
      let answers : map replied (take (i + 1) (set replies i r)) ≡ map replied (take i replies) ++ replied r ∷ [] =
      ap (map replied) (take_more_set replies i r m) ∙ map_push replied (take i replies) r in
      let (stepped, kept, right) = subst (λ s. Steps arithmetic s c later × Frame s later × Answers arithmetic s c (replied r)) so_far.reached (steps, frame, right) in
      record {
        run = rw (calls, answers) (right_push F ts w none_yet done (map replied (take i replies)) c (replied r) so_far.run right);
        reached = rw (calls, after_push) (same_seen kept stepped);
      }
