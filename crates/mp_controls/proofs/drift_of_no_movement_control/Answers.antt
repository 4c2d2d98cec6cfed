use Rattle.std.proofs.Common.{◌≤◌, [], arith, refl, lit≤}
use Rattle.mp_controls.proofs.drift_of_no_movement_control.Goals as goal
use Rattle.mp_controls.specs.Lane.{empty_network}
use Rattle.mp_controls.proofs.Lanes.{empty_is_network, empty_cert, empty_certified, one_slack}

pub returns : goal.returns
returns c law =
    let h : 1 ≤ 0 = law empty_network empty_is_network (lit≤ tt) empty_cert empty_certified 1 1 (one_slack empty_cert refl refl) [] (λ l. 0) (λ k. 0) (λ l. 0) (λ l. 0) (λ k. 0) (λ l. 0) (λ l. 0) tt (record { links = tt; queues = tt }) tt (lit≤ tt) in
    absurd (omega arith)
