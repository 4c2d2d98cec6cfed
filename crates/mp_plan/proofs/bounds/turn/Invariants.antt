use Rattle.std.proofs.Common.{length}
use Rattle.mp_plan.specs.Ends.{over, rates}
use Rattle.mp_plan.specs.Stated.{stated_bound}
use Rattle.mp_plan.proofs.Listing.{Numbering}
use Rattle.mp_plan.proofs.bounds.turn.Given as goal

abbrev pub invariant-loop-k : goal.invariant-loop-k
invariant-loop-k l = Numbering (stated_bound l.net (rates l.flows) (over l.flows) l.c l.before) (length l.net.movements) l.k l.next.items
