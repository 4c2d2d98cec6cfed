use Rattle.std.proofs.Common.{◌<◌, length, arith, Option}
use Rattle.mp_admit.specs.declared.score.Score.{Score}
use Rattle.mp_admit.specs.Scores.{scores_of}
use Rattle.mp_admit.proofs.GameLemmas.{passing_fault}
use Rattle.mp_admit.proofs.game.game.Goals as goal

pub returns-in-Err-clause-calculation : goal.returns-in-Err-clause-calculation
returns-in-Err-clause-calculation c =
    let h : c.loop-j.j < length c.args.net.now.junctions = omega arith in
    passing_fault {X = Option Score} {X' = Option Score} scores_of scores_of _ _ _ _ c.in-Err.fault c.loop-j.invariant h c.in-Err.ensures.calculation
