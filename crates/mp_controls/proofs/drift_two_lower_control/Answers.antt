use Rattle.std.proofs.Common.{◌≤◌, [], ◌∷◌, arith, refl, lit≤, lit<}
use Rattle.mp_laws.proofs.Bounds.{all_greatest}
use Rattle.mp_controls.proofs.drift_two_lower_control.Goals as goal
use Rattle.mp_controls.specs.Lane.{still_lane, still_cert}
use Rattle.mp_controls.proofs.Lanes.{lane_network, still_certified, one_slack}

pub returns : goal.returns
returns c law =
    let ok = lane_network 1 0 (lit≤ tt) in
    let h : 2 ≤ 1 = law still_lane ok (lit≤ tt) still_cert still_certified 1 1 (one_slack still_cert refl refl) (1 ∷ []) (λ l. 0) (λ k. 0) (λ l. 0) (λ l. 0) (λ k. 0) (λ l. 0) (λ l. 0)
    (all_greatest still_lane (λ k. 0) still_lane.junctions ok.some_stage)
    (record { links = (record { phase_in = lit< tt; moved = refl; falls = lit≤ tt; rises = lit≤ tt; within = lit≤ tt }, tt); queues = (refl, tt) }) (lit≤ tt, tt) (lit≤ tt) in
    absurd (omega arith)
