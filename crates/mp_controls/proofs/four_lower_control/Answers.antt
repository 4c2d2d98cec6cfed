use Rattle.std.proofs.Common.{◌≤◌, [], ◌∷◌, arith, refl, lit≤}
use Rattle.mp_controls.proofs.four_lower_control.Goals as goal
use Rattle.mp_controls.specs.Lane.{three_lanes, three_lanes_cert}
use Rattle.mp_controls.proofs.Lanes.{one_slack}
use Rattle.mp_controls.proofs.ThreeLanes.{lanes_network, lanes_certified, lanes_bounds, lanes_permitted}

pub returns : goal.returns
returns c law =
    let h : 4 ≤ 3 = (law three_lanes lanes_network (refl, (refl, (refl, tt))) (1, refl, lit≤ tt) (lit≤ tt) three_lanes_cert lanes_certified 1 1 (one_slack three_lanes_cert refl refl) (4 ∷ 3 ∷ 3 ∷ []) lanes_bounds [] lanes_permitted).0.1.0 in
    absurd (omega arith)
