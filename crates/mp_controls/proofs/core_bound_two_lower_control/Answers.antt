use Rattle.std.proofs.Common.{◌≤◌, [], ◌∷◌, arith}
use Rattle.mp_controls.proofs.core_bound_two_lower_control.Goals as goal
use Rattle.mp_controls.specs.Lane.{slow_lane}
use Rattle.mp_controls.proofs.Lanes.{slow_acceptable, slow_slack, slow_bounds}

pub returns : goal.returns
returns c law = let h : 2 ≤ 1 = (law slow_lane slow_acceptable 1 2 slow_slack (1 ∷ []) slow_bounds [] tt).0 in absurd (omega arith)
