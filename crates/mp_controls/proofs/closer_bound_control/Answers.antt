use Rattle.std.proofs.Common.{◌≤◌, [], ◌∷◌, arith, refl, lit≤, lit<}
use Rattle.mp_controls.proofs.closer_bound_control.Goals as goal
use Rattle.mp_controls.specs.Lane.{slow_lane, slow_cert}
use Rattle.mp_controls.proofs.Lanes.{slow_acceptable, slow_certified, slow_cert_slack, slow_permitted}

pub returns : goal.returns
returns c law =
    let h : 2 ≤ 1 = (law slow_lane slow_acceptable.network (refl, tt) slow_cert slow_certified 1 2 slow_cert_slack (1 ∷ []) (record { root = 2; is_root = record { within = lit≤ tt; most = lit< tt }; are = refl }) [] slow_permitted).0.0 in
    absurd (omega arith)
