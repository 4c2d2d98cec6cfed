-- Sharper forms of the laws on the drift and the bound fail.
use Rattle.std.proofs.Common.{◌≡◌, ◌≤◌, ℕ, ◌+◌, ◌*◌, List, [], ◌∷◌, None, sum_by, pos, arith, refl, lit≤, lit<}
use Rattle.std.specs.List.{AllByRecursion, IsDistinct}
use Rattle.mp_model.specs.Network.{Network, movement_numbers, entry}
use Rattle.mp_model.specs.NetworkRules.{IsNetwork}
use Rattle.mp_model.specs.Arrivals.{HasCounts}
use Rattle.mp_model.specs.Certificate.{Cert, Certifies}
use Rattle.mp_model.specs.Slack.{IsSlack}
use Rattle.mp_model.specs.Pressure.{AllGreatest}
use Rattle.mp_model.specs.Bounds.{AreBounds, drift_constant, greatest_drift, queue_threshold}
use Rattle.mp_model.specs.DriftValue.{drift_value}
use Rattle.mp_model.specs.Step.{queue}
use Rattle.mp_model.specs.Run.{run}
use Rattle.mp_model.specs.Worked.{two_approaches, two_approaches_cert}
use Rattle.mp_laws.specs.Periods.{IsPeriod, IsWithin}
use Rattle.mp_laws.proofs.Bounds.{all_greatest}
use Rattle.std.proofs.Math.Nat.{one-dvd}
use Rattle.mp_laws.proofs.Cases.{le, two_network, two_certified, two_slack, two_case}
use Rattle.mp_laws.proofs.SharperSplits.{apart}

-- Two approaches with 100 vehicles each and a level of 1: the first stage serves two of the first, nothing arrives, and both levels fall by the rate.
abbrev long_queues : ℕ → ℕ
long_queues = entry (100 ∷ 100 ∷ [])

abbrev served_queues : ℕ → ℕ
served_queues = entry (98 ∷ 100 ∷ [])

long_greatest : AllGreatest two_approaches long_queues two_approaches.junctions (1 ∷ [])
long_greatest = all_greatest two_approaches long_queues two_approaches.junctions (two_network 1).some_stage

long_period : IsPeriod two_approaches (1 ∷ []) (λ l. 0) long_queues (λ l. 0) (λ l. 1) served_queues (λ l. 0) (λ l. 0)
long_period = record {
  links = (record { phase_in = lit< tt; moved = refl; falls = lit≤ tt; rises = lit≤ tt; within = lit≤ tt }, (record { phase_in = lit< tt; moved = refl; falls = lit≤ tt; rises = lit≤ tt; within = lit≤ tt }, tt));
  queues = (refl, (refl, tt));
}

-- the drift would take three times the slack in place of twice
abbrev DriftOf : (ℕ → ℕ → ℕ) → Type 0
DriftOf factor = (net : Network) → IsNetwork net → (cert : Cert) → Certifies net cert → (E D : ℕ) → IsSlack cert E D → (stages : List ℕ) (arrivals q phase level q' phase' level' : ℕ → ℕ) →
    AllGreatest net q net.junctions stages → IsPeriod net stages arrivals q phase level q' phase' level' →
    D * drift_value net q' phase' level' + factor E (net.shares * net.per * (net.shares * net.per)) * sum_by q (movement_numbers net) ≤ D * drift_value net q phase level + D * drift_constant net

factor_one_higher : ¬ DriftOf (λ E square. 3 * square * E)
factor_one_higher law =
    let h : 4 * 313664 + 3 * 16 * 3 * 200 ≤ 4 * 318402 + 4 * 448 = law two_approaches (two_network 1) two_approaches_cert two_certified 3 4 two_slack (1 ∷ []) (λ l. 0) long_queues (λ l. 0) (λ l. 1) served_queues (λ l. 0) (λ l. 0) long_greatest long_period in
    absurd (omega arith)

-- the slack's excess would be one more
excess_one_more : ¬ DriftOf (λ E square. 2 * square * (E + 1))
excess_one_more law =
    let h : 4 * 313664 + 2 * 16 * 4 * 200 ≤ 4 * 318402 + 4 * 448 = law two_approaches (two_network 1) two_approaches_cert two_certified 3 4 two_slack (1 ∷ []) (λ l. 0) long_queues (λ l. 0) (λ l. 1) served_queues (λ l. 0) (λ l. 0) long_greatest long_period in
    absurd (omega arith)

-- a period would bring any drift value down to its greatest
kept_of_any : ¬ ((net : Network) → IsNetwork net → (cert : Cert) → Certifies net cert → (E D : ℕ) → IsSlack cert E D → (stages : List ℕ) (arrivals q phase level q' phase' level' : ℕ → ℕ) →
    AllGreatest net q net.junctions stages → IsPeriod net stages arrivals q phase level q' phase' level' → IsWithin net level → drift_value net q' phase' level' ≤ greatest_drift net E D)
kept_of_any law =
    let h : 313664 ≤ 8192 = law two_approaches (two_network 1) two_approaches_cert two_certified 3 4 two_slack (1 ∷ []) (λ l. 0) long_queues (λ l. 0) (λ l. 1) served_queues (λ l. 0) (λ l. 0) long_greatest long_period (lit≤ tt, (lit≤ tt, tt)) in
    absurd (omega arith)

-- One lane alone, with a flow and a burst.
abbrev lane : ℕ → ℕ → Network
lane flow burst = record {
  shares = 1;
  per = 1;
  delay = 0;
  links = record { name = []; burst = burst; rate = 0 } ∷ [];
  movements = record { name = []; from = 1; to = None; share = 1; flow = flow; start = 0 } ∷ [];
  junctions = record { name = []; stages = (1 ∷ []) ∷ [] } ∷ [];
}

lane_network : (flow burst : ℕ) → 1 ≤ flow → IsNetwork (lane flow burst)
unfolding IsDistinct
lane_network flow burst some = record {
  shares = lit≤ tt;
  per = lit≤ tt;
  share = (lit≤ tt, tt);
  flow = (some, tt);
  some_stage = (lit≤ tt, tt);
  split = (refl, tt);
  from = (refl, tt);
  to = (tt, tt);
  placed = (refl, tt);
  stages = ((((tt, tt), (refl, tt)), tt), tt);
  together = (((refl, tt), tt), tt);
  way_out = ((1 ∷ [], (refl, tt)), tt);
}

-- its certificate of slack 1 at a flow of 1
abbrev lane_cert : Cert
lane_cert = record { d = pos 1; e = pos 1; h = pos 1 ∷ []; mixes = record { whole = pos 1; parts = pos 1 ∷ [] } ∷ [] }

lane_certified : Certifies (lane 1 1) lane_cert
lane_certified = record {
  rules = record {
    lengths = record { rates = refl; mixes = refl; parts = (refl, tt) };
    denominator = le 1 1 (lit≤ tt);
    rates = (le 0 1 (lit≤ tt), tt);
    wholes = (le 1 1 (lit≤ tt), tt);
    parts = ((le 0 1 (lit≤ tt), tt), tt);
    masses = (le 1 1 (lit≤ tt), tt);
    serves = (le 1 1 (lit≤ tt), tt);
    balances = (le 1 1 (lit≤ tt), tt);
  };
  excess = le 1 1 (lit≤ tt);
}

lane_slack : IsSlack lane_cert 1 1
lane_slack = record { lowest = record { denominator = lit≤ tt; coprime = (one-dvd 1, one-dvd 1, λ x a b. a) }; equal = refl }

-- one vehicle and a full bucket of 1: it is served, and the level stays
lane_period : IsPeriod (lane 1 1) (1 ∷ []) (λ l. 0) (λ k. 1) (λ l. 0) (λ l. 1) (λ k. 0) (λ l. 0) (λ l. 1)
lane_period = record { links = (record { phase_in = lit< tt; moved = refl; falls = lit≤ tt; rises = lit≤ tt; within = lit≤ tt }, tt); queues = (refl, tt) }

-- in it the drift is met with equality: 1 + 2 * 1 = 0 + 3
constant_one_lower : ¬ ((net : Network) → IsNetwork net → (cert : Cert) → Certifies net cert → (E D : ℕ) → IsSlack cert E D → (stages : List ℕ) (arrivals q phase level q' phase' level' : ℕ → ℕ) →
    AllGreatest net q net.junctions stages → IsPeriod net stages arrivals q phase level q' phase' level' →
    D * drift_value net q' phase' level' + 2 * (net.shares * net.per * (net.shares * net.per)) * E * sum_by q (movement_numbers net) + 1 ≤ D * drift_value net q phase level + D * drift_constant net)
constant_one_lower law =
    let ok = lane_network 1 1 (lit≤ tt) in
    let h : 4 ≤ 3 = law (lane 1 1) ok lane_cert lane_certified 1 1 lane_slack (1 ∷ []) (λ l. 0) (λ k. 1) (λ l. 0) (λ l. 1) (λ k. 0) (λ l. 0) (λ l. 1) (all_greatest (lane 1 1) (λ k. 1) (lane 1 1).junctions ok.some_stage) lane_period in
    absurd (omega arith)

-- A flow of 2 without burst: its threshold under the slack 1/1 is 3, and with 3 vehicles its drift value is 9 = 15 - 6.
few_one_lower : ¬ ((net : Network) → IsNetwork net → (E D : ℕ) (q phase level : ℕ → ℕ) → IsWithin net level → sum_by q (movement_numbers net) ≤ queue_threshold net E D → drift_value net q phase level + drift_constant net + 1 ≤ greatest_drift net E D)
few_one_lower law = let h : 16 ≤ 15 = law (lane 2 0) (lane_network 2 0 (lit≤ tt)) 1 1 (λ k. 3) (λ l. 0) (λ l. 0) (lit≤ tt, tt) (lit≤ tt) in absurd (omega arith)

-- a threshold one higher
threshold_one_higher : ¬ ((net : Network) → IsNetwork net → (E D : ℕ) (q phase level : ℕ → ℕ) → IsWithin net level → sum_by q (movement_numbers net) ≤ queue_threshold net E D + 1 → drift_value net q phase level + drift_constant net ≤ greatest_drift net E D)
threshold_one_higher law = let h : 22 ≤ 15 = law (lane 2 0) (lane_network 2 0 (lit≤ tt)) 1 1 (λ k. 4) (λ l. 0) (λ l. 0) (lit≤ tt, tt) (lit≤ tt) in absurd (omega arith)

-- Two approaches with 24 vehicles and a full bucket on the first: the drift value is 88 * 88 = 7744, below 8192.
bound_one_lower : ¬ ((net : Network) → IsNetwork net → (E D : ℕ) (bounds : List ℕ) → AreBounds net E D bounds → (q phase level : ℕ → ℕ) → IsWithin net level → drift_value net q phase level ≤ greatest_drift net E D →
    AllByRecursion (λ k. q k + 1 ≤ entry bounds k) (movement_numbers net))
bound_one_lower law = let h : 25 ≤ 24 = (law two_approaches (two_network 1) 3 4 (24 ∷ 24 ∷ []) two_case.bounds_are (entry (24 ∷ 0 ∷ [])) (λ l. 0) (entry (8 ∷ 0 ∷ [])) (lit≤ tt, (lit≤ tt, tt)) (lit≤ tt)).0 in absurd (omega arith)

-- the bound would hold of arrivals that do not keep to the buckets: 25 vehicles at once
bound_of_any : ¬ ((net : Network) → IsNetwork net → (cert : Cert) → Certifies net cert → (E D : ℕ) → IsSlack cert E D → (bounds : List ℕ) → AreBounds net E D bounds → (A : List (List ℕ)) → AllByRecursion (HasCounts net) A →
    AllByRecursion (λ state. AllByRecursion (λ k. queue state k ≤ entry bounds k) (movement_numbers net)) (run net A))
bound_of_any law = let h : 25 ≤ 24 = (law two_approaches (two_network 1) two_approaches_cert two_certified 3 4 two_slack (24 ∷ 24 ∷ []) two_case.bounds_are ((25 ∷ 0 ∷ []) ∷ []) (refl, tt)).1.0.0 in absurd (omega arith)

-- a root whose next square need not be above the number
root_not_most : ¬ ((r s v : ℕ) → r * r ≤ v → v ≤ (r + 1) * (r + 1) → s * s ≤ v → v ≤ (s + 1) * (s + 1) → r ≡ s)
root_not_most law = apart 0 1 (lit< tt) (law 0 1 1 (lit≤ tt) (lit≤ tt) (lit≤ tt) (lit≤ tt))
