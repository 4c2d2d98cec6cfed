use Rattle.std.proofs.Common.{◌≤◌, [], ◌∷◌, arith, refl, lit≤, lit<}
use Rattle.mp_controls.proofs.lower_bound_with_starts_control.Goals as goal
use Rattle.mp_controls.specs.Lane.{started_lane, still_cert}
use Rattle.mp_controls.proofs.Lanes.{started_network, started_certified, one_slack}

pub returns : goal.returns
returns c law =
    let h : 2 ≤ 1 = (law started_lane started_network (lit≤ tt) still_cert started_certified 1 1 (one_slack still_cert refl refl) (1 ∷ [])
    (record { root = 1; is_root = record { within = lit≤ tt; most = lit< tt }; are = refl }) [] (record { counts = tt; windows = tt })).0.0 in
    absurd (omega arith)
