use Rattle.std.proofs.Common.{◌+◌}
use Rattle.mp_flow.specs.Calculating.{flows_of}
use Rattle.mp_verdict.specs.Game.{played}
use Rattle.mp_verdict.specs.declared.TheConstants.{TURN_LIMIT}
use Rattle.mp_admit.specs.Scores.{score_of}
use Rattle.mp_admit.proofs.PlayLemmas.{Playing}
use Rattle.mp_admit.proofs.turns.play.Given as goal

abbrev pub invariant-loop-score : goal.invariant-loop-score
invariant-loop-score l = Playing l.net (flows_of l.flows) l.j (played l.net (flows_of l.flows) l.j (TURN_LIMIT + 1) TURN_LIMIT (score_of l.fn.start)) l.turns l.score

abbrev pub decreases-loop-score : goal.decreases-loop-score
decreases-loop-score l = l.turns
