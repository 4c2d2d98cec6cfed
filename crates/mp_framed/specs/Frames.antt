-- The laws on frames of F periods, within a frame and over a whole run.
use Rattle.std.specs.Prelude.{◌≡◌, ◌≤◌, ◌<◌, ◌+◌, ◌-◌, ◌*◌, ◌/◌, ◌%◌, ℕ, min, true, false, List, sum_by}
use Rattle.std.specs.List.{AllByRecursion}
use Rattle.mp_laws.specs.Periods.{IsStretch, IsWithin, phase_of}
use Rattle.mp_model.specs.Arrivals.{IsPermitted, arrivals_of, next_level}
use Rattle.mp_model.specs.Certificate.{Cert, Certifies}
use Rattle.mp_model.specs.DriftValue.{drift_value}
use Rattle.mp_model.specs.Frames.{AreFrameBounds, FramedState, frame_constant, frame_network, framed_passed, framed_run, framed_step, greatest_frame_drift, is_chosen}
use Rattle.mp_model.specs.Load.{capacity}
use Rattle.mp_model.specs.Network.{Network, entry, flow_of, link_at, movement_numbers}
use Rattle.mp_model.specs.NetworkRules.{IsNetwork}
use Rattle.mp_model.specs.Pressure.{AllGreatest, positive_weight}
use Rattle.mp_model.specs.Slack.{IsSlack}
use Rattle.mp_model.specs.Step.{queue}

-- The frame network, of frames of at least two periods, is a network.
abbrev pub FrameNetworkLaw : Type 0
FrameNetworkLaw = (net : Network) → IsNetwork net → (F : ℕ) → 2 ≤ F → IsNetwork (frame_network net F)

-- In m periods of a frame with these stages and first queues, a chosen movement passed at least the lesser of its first queue and what its flow lets pass in all these periods but one, and every other movement passed 0.
pub record IsServed (net : Network) (stages : List ℕ) (q : ℕ → ℕ) (m : ℕ) (pass : ℕ → ℕ) : Type 0 where
  pub chosen : AllByRecursion (λ k. is_chosen net stages q k ≡ true → min ((m - 1) * flow_of net k) (q k) ≤ pass k) (movement_numbers net)
  pub others : AllByRecursion (λ k. is_chosen net stages q k ≡ false → pass k ≡ 0) (movement_numbers net)

-- These are the first m periods of a frame: its stages are greatest at its first queues, and in the periods these numbers passed and arrived in all.
pub record IsPart (net : Network) (stages : List ℕ) (m : ℕ) (pass arrivals q phase level q' phase' level' : ℕ → ℕ) : Type 0 where
  pub greatest : AllGreatest net q net.junctions stages
  pub stretch : IsStretch net m pass arrivals q phase level q' phase' level'
  pub served : IsServed net stages q m pass

-- A further period makes a part of a frame a longer one.
abbrev pub NextPartLaw : Type 0
NextPartLaw = (net : Network) → IsNetwork net → (F m : ℕ) (frame : FramedState) → frame.state.period % F ≡ m → (pass arrivals phase first_level level : ℕ → ℕ) → IsWithin net level →
    IsPart net frame.stages m pass arrivals (entry frame.first) phase first_level (queue frame.state) (phase_of net frame.state) level →
    (counts : List ℕ) → IsPart net frame.stages (m + 1) (λ k. pass k + framed_passed net F frame k) (λ l. arrivals l + arrivals_of net counts l) (entry frame.first) phase first_level
    (queue (framed_step net F counts frame).state) (phase_of net (framed_step net F counts frame).state) (λ l. next_level net.per (link_at net l).rate (level l) (arrivals_of net counts l))

-- What is served of the positive weights in a frame falls short of F - 1 times the capacity by at most the share total times the quarters of the squares of what the flows pass in F - 1 periods.
abbrev pub FrameServedLaw : Type 0
FrameServedLaw = (net : Network) → IsNetwork net → (F : ℕ) (stages : List ℕ) (q pass : ℕ → ℕ) → AllGreatest net q net.junctions stages → IsServed net stages q F pass →
    (F - 1) * capacity net q ≤ sum_by (λ k. pass k * positive_weight net q k) (movement_numbers net) + net.shares * sum_by (λ k. (F - 1) * flow_of net k * ((F - 1) * flow_of net k) / 4) (movement_numbers net)

-- Over a frame, D times the rise of the drift value is at most D times the drift constant of a frame, less E times F - 1 times twice the square of the share total and rate length times what was queued at its beginning.
abbrev pub FrameDriftLaw : Type 0
FrameDriftLaw = (net : Network) → IsNetwork net → (F : ℕ) → 2 ≤ F → (cert : Cert) → Certifies (frame_network net F) cert → (E D : ℕ) → IsSlack cert E D →
    (stages : List ℕ) (pass arrivals q phase level q' phase' level' : ℕ → ℕ) → IsPart net stages F pass arrivals q phase level q' phase' level' →
    D * drift_value net q' phase' level' + 2 * (net.shares * net.per * (net.shares * net.per)) * (F - 1) * E * sum_by q (movement_numbers net) ≤ D * drift_value net q phase level + D * frame_constant net F

-- A frame keeps the drift value at most its greatest.
abbrev pub FrameKeptLaw : Type 0
FrameKeptLaw = (net : Network) → IsNetwork net → (F : ℕ) → 2 ≤ F → (cert : Cert) → Certifies (frame_network net F) cert → (E D : ℕ) → IsSlack cert E D →
    (stages : List ℕ) (pass arrivals q phase level q' phase' level' : ℕ → ℕ) → IsPart net stages F pass arrivals q phase level q' phase' level' → IsWithin net level →
    drift_value net q phase level ≤ greatest_frame_drift net F E D → drift_value net q' phase' level' ≤ greatest_frame_drift net F E D

-- After fewer periods than a frame has, each queue is at most its bound.
abbrev pub FrameQueueLaw : Type 0
FrameQueueLaw = (net : Network) → IsNetwork net → (F E D : ℕ) (bounds : List ℕ) → AreFrameBounds net F E D bounds →
    (m : ℕ) → m < F → (pass arrivals q phase level q' phase' level' : ℕ → ℕ) → IsStretch net m pass arrivals q phase level q' phase' level' → IsWithin net level' →
    drift_value net q phase level ≤ greatest_frame_drift net F E D → AllByRecursion (λ k. q' k ≤ entry bounds k) (movement_numbers net)

-- Over permitted arrivals of any length each queue of each state of the framed run is at most its bound, also within frames.
abbrev pub FrameBoundLaw : Type 0
FrameBoundLaw = (net : Network) → IsNetwork net → (F : ℕ) → 2 ≤ F → (cert : Cert) → Certifies (frame_network net F) cert → (E D : ℕ) → IsSlack cert E D →
    (bounds : List ℕ) → AreFrameBounds net F E D bounds → (A : List (List ℕ)) → IsPermitted net A →
    AllByRecursion (λ now. AllByRecursion (λ k. queue now.state k ≤ entry bounds k) (movement_numbers net)) (framed_run net F A)
