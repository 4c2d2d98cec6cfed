-- A turn of the game, as the code keeps it.
use Rattle.std.specs.Prelude.{ℕ, ◌<◌}
use Rattle.mp_model.specs.Network.{Network}
use Rattle.mp_verdict.specs.Game.{Turn, Carried, Lowered}
use Rattle.mp_admit.specs.declared.turns.Turn.{Turn as Kept}
use Rattle.mp_admit.specs.declared.turns.Turn.TheVariants as kept
use Rattle.mp_admit.specs.Scores.{score_of, StandsIn}

-- This is the turn that the code keeps.
abbrev pub turn_of : Kept → Turn
turn_of kept.Carried = Carried
turn_of (kept.Lowered left score) = Lowered left (score_of score)

-- A turn that lowers the slack leaves fewer turns, and a score of the network.
abbrev pub Falls : Network → ℕ → Kept → Type 0
Falls net turns kept.Carried = Unit {0}
Falls net turns (kept.Lowered left score) = (left < turns) × StandsIn net score
