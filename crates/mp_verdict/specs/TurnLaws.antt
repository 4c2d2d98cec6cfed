-- The laws of the turns of a game.
use Rattle.std.specs.Prelude.{◌≡◌, ◌≤◌, ◌<◌, ℕ, suc, length, pos, ◌*ℤ◌, ◌≤ℤ◌, ◌<ℤ◌}
use Rattle.mp_model.specs.Network.{Network}
use Rattle.mp_model.specs.NetworkRules.{IsNetwork}
use Rattle.mp_num.specs.Fraction.{Fraction}
use Rattle.mp_flow.specs.Systems.{Flows, AreFlows}
use Rattle.mp_verdict.specs.Stated.{Reached}
use Rattle.mp_verdict.specs.Game.{Score, Lowered, turn, played}

-- A turn that doesn't leave the junction carrying the slack lowers it, and leaves fewer turns.
abbrev pub FallsLaw : Type 0
FallsLaw = (net : Network) → IsNetwork net → (flows : Flows) → AreFlows net flows → (j : ℕ) → 1 ≤ j → j ≤ length net.junctions → (turns : ℕ) (slack : Fraction) → pos 1 ≤ℤ slack.den → (left : ℕ) (next : Score) →
    turn net flows j turns slack ≡ Reached (Lowered left next) → (left < turns) × (pos 1 ≤ℤ next.slack.den) × ((next.slack.num *ℤ slack.den) <ℤ (slack.num *ℤ next.slack.den))

-- With more rounds than turns left, the play of a junction doesn't depend on the rounds: the turns end first.
abbrev pub RoundsLaw : Type 0
RoundsLaw = (net : Network) (flows : Flows) (j rounds turns : ℕ) (score : Score) → turns < rounds → played net flows j rounds turns score ≡ played net flows j (suc rounds) turns score
