-- The laws on the drift value over one period.
use Rattle.std.specs.Prelude.{◌≤◌, ℕ, ◌+◌, ◌*◌, ◌/◌, List, sum_by}
use Rattle.mp_model.specs.Bounds.{credit_term, step_term, report_shift, drift_constant, greatest_drift, queue_threshold}
use Rattle.mp_model.specs.Certificate.{Cert, Certifies}
use Rattle.mp_model.specs.DriftValue.{drift_value}
use Rattle.mp_model.specs.Load.{load, capacity}
use Rattle.mp_model.specs.Network.{Network, movement_numbers, flow_of}
use Rattle.mp_model.specs.NetworkRules.{IsNetwork}
use Rattle.mp_model.specs.Pressure.{positive_weight, queued_downstream}
use Rattle.mp_model.specs.Slack.{IsSlack}
use Rattle.mp_model.specs.Step.{passed}
use Rattle.mp_laws.specs.Stages.{AllNearlyGreatest}
use Rattle.mp_laws.specs.Periods.{IsPeriod, IsStretch, IsWithin}

-- Over a stretch of m periods, whatever passes, the drift value rises by at most m times twice the sum of the products of the two terms, the square of m times the sum of the squared step terms, and what the load at the first queues brings, less what the passing takes off them and adds downstream.
abbrev pub StretchLaw : Type 0
StretchLaw = (net : Network) → IsNetwork net → (m : ℕ) (pass arrivals q phase level q' phase' level' : ℕ → ℕ) → IsStretch net m pass arrivals q phase level q' phase' level' →
    drift_value net q' phase' level' + 2 * net.shares * net.per * net.per * sum_by (λ k. pass k * (net.shares * q k)) (movement_numbers net)
    ≤ drift_value net q phase level + 2 * net.shares * net.per * (m * load net q) + 2 * net.shares * net.per * net.per * sum_by (λ k. pass k * queued_downstream net q k) (movement_numbers net)
    + m * (2 * sum_by (λ k. credit_term net k * step_term net k) (movement_numbers net)) + m * m * sum_by (λ k. step_term net k * step_term net k) (movement_numbers net)

-- In a period with nearly greatest stages what is served of the positive weights falls short of the capacity by at most the share total times the quarters of the squared flows, and twice what old reports can shift all pressures by.
abbrev pub ServedLaw : Type 0
ServedLaw = (net : Network) → IsNetwork net → (q : ℕ → ℕ) (stages : List ℕ) → AllNearlyGreatest net q net.junctions stages →
    capacity net q ≤ sum_by (λ k. passed net stages q k * positive_weight net q k) (movement_numbers net) + net.shares * sum_by (λ k. flow_of net k * flow_of net k / 4) (movement_numbers net)
    + 2 * sum_by (λ k. flow_of net k * report_shift net k) (movement_numbers net)

-- In a period with nearly greatest stages, D times the rise of the drift value is at most D times the drift constant, less twice the square of the share total and rate length times E times what was queued.
abbrev pub OnePeriodLaw : Type 0
OnePeriodLaw = (net : Network) → IsNetwork net → (cert : Cert) → Certifies net cert → (E D : ℕ) → IsSlack cert E D → (stages : List ℕ) (arrivals q phase level q' phase' level' : ℕ → ℕ) →
    AllNearlyGreatest net q net.junctions stages → IsPeriod net stages arrivals q phase level q' phase' level' →
    D * drift_value net q' phase' level' + 2 * (net.shares * net.per * (net.shares * net.per)) * E * sum_by q (movement_numbers net)
    ≤ D * drift_value net q phase level + D * drift_constant net

-- While at most the threshold is queued, the drift value is at most its greatest less the drift constant.
abbrev pub FewQueuedLaw : Type 0
FewQueuedLaw = (net : Network) → IsNetwork net → (E D : ℕ) (q phase level : ℕ → ℕ) → IsWithin net level → sum_by q (movement_numbers net) ≤ queue_threshold net E D → drift_value net q phase level + drift_constant net ≤ greatest_drift net E D

-- A period with nearly greatest stages keeps the drift value at most its greatest.
abbrev pub DriftKeptLaw : Type 0
DriftKeptLaw = (net : Network) → IsNetwork net → (cert : Cert) → Certifies net cert → (E D : ℕ) → IsSlack cert E D → (stages : List ℕ) (arrivals q phase level q' phase' level' : ℕ → ℕ) →
    AllNearlyGreatest net q net.junctions stages → IsPeriod net stages arrivals q phase level q' phase' level' → IsWithin net level →
    drift_value net q phase level ≤ greatest_drift net E D → drift_value net q' phase' level' ≤ greatest_drift net E D
