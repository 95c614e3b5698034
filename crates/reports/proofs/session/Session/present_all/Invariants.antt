use Rattle.std.proofs.Common.{◌≤◌, List, length}
use Rattle.pools.specs.Pools.{Frame}
use Rattle.trays.specs.Answers.{Reading}
use Rattle.trays.specs.Layout.{Placed, Ending}
use Rattle.reports.proofs.Cards.{SoFar}
use Rattle.reports.proofs.session.Session.present_all.Given as goal

-- the cards so far are presented, and what is left of them is to come
abbrev pub invariant-loop-i : goal.invariant-loop-i
invariant-loop-i g l = record {
  few : length l.self.refused.items ≤ l.i;
  frame : Frame l.initial.self.pool l.self.pool;
  so_far : (ps : List Placed) (e : Ending) → Reading l.initial.reader ps e
      → SoFar (g.F.Field.arithmetic l.initial.self.pool.field) l.initial.self.pool.policy l.initial.self.pool.words l.cards l.i l.self.pool.list l.self.refused.items l.reader ps e;
}
