-- Requests and replies of a session, as calls and answers.
--   called     the call that a request is
--   replied    the answer that a reply, or a refusal, is
-- Assumes nothing.
use Rattle.std.specs.Prelude.{Ok, Err, Result}
use Rattle.sharing.specs.Refusals as refusals
use Rattle.sharing.specs.declared.refusal.Refusal.{Refusal}
use Rattle.pools.specs.Judging.{verdict_of}
use Rattle.pools.specs.Sessions.{Call, present, withdraw, judge, count, ask_held, ask_turned, Answer, done, refused_by, number, truth, verdict}
use Rattle.pools.specs.declared.session.Request.{Request}
use Rattle.pools.specs.declared.session.Request.TheVariants.{Present, Withdraw, Judge, MeetsPolicy, Held, TurnedAway}
use Rattle.pools.specs.declared.session.Reply.{Reply}
use Rattle.pools.specs.declared.session.Reply.TheVariants.{Done, Number, Truth, Judged}

abbrev pub called : Request → Call
called (Present level id values) = present (record { level = level; id = id; values = values.now })
called (Withdraw id) = withdraw id
called (Judge n) = judge n
called MeetsPolicy = count
called Held = ask_held
called TurnedAway = ask_turned

abbrev pub replied : Result Reply Refusal → Answer
replied (Ok Done) = done
replied (Ok (Number n)) = number n
replied (Ok (Truth b)) = truth b
replied (Ok (Judged j)) = verdict (verdict_of j)
replied (Err r) = refused_by (refusals.number r)
