use Rattle.std.proofs.Common.{Option}
use Rattle.mp_admit.specs.declared.score.Score.{Score}
use Rattle.mp_admit.specs.Scores.{score_of, scores_of}
use Rattle.mp_admit.proofs.GameLemmas.{after_refused, after_stopped}
use Rattle.mp_admit.proofs.game.pass_junction.Goals as goal

pub returns-in-Err-clause-calculation : goal.returns-in-Err-clause-calculation
returns-in-Err-clause-calculation c = after_refused {X = Option Score} {X' = Option Score} scores_of scores_of _ _ _ _ c.in-Err.fault c.in-Err.ensures.calculation

pub returns-in-Err-play-clause-calculation : goal.returns-in-Err-play-clause-calculation
returns-in-Err-play-clause-calculation c =
    after_stopped {X = Score} {X' = Option Score} score_of scores_of _ _ _ _ c.in-Ok.tried c.in-Some.start c.in-Err-play.fault c.in-Ok.ensures.calculation c.in-Some.is c.in-Err-play.ensures.calculation
