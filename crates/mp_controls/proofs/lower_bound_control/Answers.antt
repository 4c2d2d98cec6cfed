use Rattle.std.proofs.Common.{◌≤◌, [], ◌∷◌, arith, refl, lit≤, lit<}
use Rattle.mp_controls.proofs.lower_bound_control.Goals as goal
use Rattle.mp_controls.specs.Lane.{still_lane, still_cert}
use Rattle.mp_controls.proofs.Lanes.{lane_network, still_certified, one_slack}

pub returns : goal.returns
returns c law =
    let h : 1 ≤ 0 = (law still_lane (lane_network 1 0 (lit≤ tt)) (refl, tt) (lit≤ tt) still_cert still_certified 1 1 (one_slack still_cert refl refl) (0 ∷ [])
    (record { root = 0; is_root = record { within = lit≤ tt; most = lit< tt }; are = refl }) [] (record { counts = tt; windows = tt })).0.0 in
    absurd (omega arith)
