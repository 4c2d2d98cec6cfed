use Rattle.mp_admit.specs.declared.score.Score.{Score}
use Rattle.mp_admit.specs.declared.turns.Turn.{Turn}
use Rattle.mp_admit.specs.Scores.{score_of}
use Rattle.mp_admit.specs.Turns.{turn_of}
use Rattle.mp_admit.proofs.PlayLemmas.{carried_by, lowered_by, playing_fault}
use Rattle.mp_admit.proofs.turns.play.Goals as goal

pub returns-in-Ok-Carried-clause-calculation : goal.returns-in-Ok-Carried-clause-calculation
returns-in-Ok-Carried-clause-calculation c = carried_by _ _ _ _ _ _ _ c.loop-score.invariant c.in-Ok-Carried.field-0-is c.in-Ok-Carried.ensures.calculation

pub loop-score-preserved : goal.loop-score-preserved
loop-score-preserved c = lowered_by _ _ _ _ _ _ _ _ _ c.loop-score.invariant c.in-Ok-Lowered.field-0-is c.in-Ok-Lowered.ensures.calculation c.in-Ok-Lowered.ensures.falls

pub returns-in-Err-clause-calculation : goal.returns-in-Err-clause-calculation
returns-in-Err-clause-calculation c = playing_fault {X = Turn} {X' = Score} turn_of score_of _ _ _ _ _ _ c.in-Err.fault c.loop-score.invariant c.in-Err.ensures.calculation
