-- How far a queue changes in a period, and what old reports can shift.
use Rattle.std.proofs.Common.{◌≡◌, ◌==◌, ℕ, zero, suc, ◌+◌, ◌-◌, ◌*◌, ◌/◌, ◌≤◌, ◌<◌, min, true, cond, ◌&&◌, List, [], sum_by, Option, Some, None, nat_lt, add-zero, add-suc, arith, sym, subst, le_trans, mul-le-mul_left, le_refl}
use Rattle.std.proofs.Math.Nat.{le_of_mul-le-mul_left, lt-mul-div-succ}
use Rattle.std.specs.List.{AllByRecursion, IsDistinct}
use Rattle.mp_model.specs.Bounds.{greatest_change, report_shift}
use Rattle.mp_model.specs.Network.{Network, Junction, movement_numbers, link_numbers, link_at, from_of, to_of, share_of, flow_of, out_of, out_of_target, into_link, downstream, own, has, stands_in, stage_at}
use Rattle.mp_model.specs.NetworkRules.{IsNetwork, HasStages}
use Rattle.mp_model.specs.Pressure.{positive_weight, positive_weight_by, IsGreatestStageBy}
use Rattle.mp_model.specs.Split.{first_greatest, credit_of, split_counts}
use Rattle.mp_model.specs.Step.{passed, joined, got, has_green}
use Rattle.mp_laws.specs.Periods.{IsLinkPeriod, IsPeriod, IsWithin}
use Rattle.mp_laws.specs.Reports.{DifferBy}
use Rattle.mp_laws.specs.Stages.{IsNearlyGreatest}
use Rattle.mp_laws.proofs.Drift.{cond-le}
use Rattle.mp_laws.proofs.Lists.{AllOf-map, at_in, each_in, has_filter, at_index, filter_sub}
use Rattle.mp_laws.proofs.Serve.{spread, stage_in}
use Rattle.mp_laws.proofs.Sums.{sum_by-le, sum_by-le_at, sum_by-add, sum_by-mul}

-- of r more vehicles at most r join a movement
joins_few : (total : ℕ) (share : ℕ → ℕ) (ks : List ℕ) (n r k : ℕ) → split_counts total share ks (n + r) k ≤ split_counts total share ks n k + r
joins_few total share ks n zero k = rw (add-zero n) (omega arith)
joins_few total share ks n (suc r) k =
    let first = first_greatest (λ i. credit_of total (share i) (suc (n + r)) (split_counts total share ks (n + r) i)) ks in
    rw (add-suc n r) (omega (arith, joins_few total share ks n r k, cond-le (first == k) 1 1 (le_refl 1)))

-- the arrivals of a period within the burst
pub few_arrive : (H a b b' burst rate : ℕ) → 1 ≤ H → H * a + b ≤ b' + rate → b' ≤ H * burst → a ≤ burst + (rate + H - 1) / H
few_arrive H a b b' burst rate some falls within =
    let x = (rate + H - 1) / H in
    let up : rate + H - 1 < H * (x + 1) = lt-mul-div-succ (rate + H - 1) some in
    le_of_mul-le-mul_left {k = H} (omega arith) some

changed : (q y s s' c r J : ℕ) → y ≤ c → s' ≤ s + r → c ≤ J → r ≤ J → DifferBy J q (q - y + (s' - s))
changed q y s s' c r J yc sr cJ rJ = record { up = omega arith; down = omega arith }

-- each queue changes by at most its greatest change
pub changes : (net : Network) → IsNetwork net → (stages : List ℕ) (arrivals q phase level q' phase' level' : ℕ → ℕ) → IsPeriod net stages arrivals q phase level q' phase' level' → IsWithin net level' →
    AllByRecursion (λ k. DifferBy (greatest_change net k) (q k) (q' k)) (movement_numbers net)
changes net ok stages arrivals q phase level q' phase' level' period within = each_in _ (movement_numbers net) (λ k in'.
    let l = from_of net k in
    let link_in : has (link_numbers net) l ≡ true = at_in (λ k. has (link_numbers net) (from_of net k) ≡ true) k (movement_numbers net) in' ok.from in
    let link : IsLinkPeriod net stages arrivals q phase level phase' level' l = at_in (IsLinkPeriod net stages arrivals q phase level phase' level') l (link_numbers net) link_in period.links in
    let pass : (i : ℕ) → passed net stages q i ≤ flow_of net i = λ i. cond-le (has_green net stages i && nat_lt 0 (positive_weight net q i)) (min (flow_of net i) (q i)) (flow_of net i) (omega arith) in
    let few = few_arrive net.per (arrivals l) (level l) (level' l) (link_at net l).burst (link_at net l).rate ok.per link.falls (at_in (λ l. level' l ≤ net.per * (link_at net l).burst) l (link_numbers net) link_in within) in
    let in_few = sum_by-le (passed net stages q) (flow_of net) pass (into_link net l) in
    let r = got net stages q arrivals l in
    let queue = at_in (λ k. q' k ≡ q k - passed net stages q k + (joined net (from_of net k) (phase (from_of net k) + got net stages q arrivals (from_of net k)) k - joined net (from_of net k) (phase (from_of net k)) k)) k (movement_numbers net) in' period.queues in
    subst (DifferBy (greatest_change net k) (q k)) (sym queue)
    (changed (q k) (passed net stages q k) (joined net l (phase l) k) (joined net l (phase l + r) k) (flow_of net k) r (greatest_change net k) (pass k) (joins_few net.shares (share_of net) (out_of net l) (phase l) r k) (omega arith) (omega arith)))

-- what is queued downstream, by reports
sum_up : (net : Network) (q r : ℕ → ℕ) (ks : List ℕ) → AllByRecursion (λ k. r k ≤ q k + net.delay * greatest_change net k) ks →
    sum_by (λ i. share_of net i * r i) ks ≤ sum_by (λ i. share_of net i * q i) ks + net.delay * sum_by (λ i. share_of net i * greatest_change net i) ks
sum_up net q r ks h =
    let each = sum_by-le_at (λ i. share_of net i * r i) (λ i. share_of net i * q i + net.delay * (share_of net i * greatest_change net i)) ks
    (AllOf-map (λ k. r k ≤ q k + net.delay * greatest_change net k) (λ i. share_of net i * r i ≤ share_of net i * q i + net.delay * (share_of net i * greatest_change net i)) (λ i le. omega (arith, mul-le-mul_left (share_of net i) le)) ks h) in
    omega (arith, each, sum_by-add (λ i. share_of net i * q i) (λ i. net.delay * (share_of net i * greatest_change net i)) ks, sum_by-mul net.delay (λ i. share_of net i * greatest_change net i) ks)

downstream_in : (net : Network) (P : ℕ → Type 0) → AllByRecursion P (movement_numbers net) → (to : Option ℕ) → AllByRecursion P (out_of_target net to)
downstream_in net P h None = tt
downstream_in net P h (Some l) = each_in P (out_of net l) (λ k here. at_in P k (movement_numbers net) (filter_sub (λ k. from_of net k == l) (movement_numbers net) k here) h)

-- so no positive weight shifts by more than the reports can shift it
weight_up : (net : Network) (q r : ℕ → ℕ) → AllByRecursion (λ k. DifferBy (net.delay * greatest_change net k) (q k) (r k)) (movement_numbers net) → (k : ℕ) → positive_weight net q k ≤ positive_weight_by net q r k + report_shift net k
weight_up net q r h k =
    let s = sum_up net q r (downstream net k) (downstream_in net (λ k. r k ≤ q k + net.delay * greatest_change net k) (AllOf-map (λ k. DifferBy (net.delay * greatest_change net k) (q k) (r k)) (λ k. r k ≤ q k + net.delay * greatest_change net k) (λ k d. d.up) (movement_numbers net) h) (to_of net k)) in
    omega arith

weight_down : (net : Network) (q r : ℕ → ℕ) → AllByRecursion (λ k. DifferBy (net.delay * greatest_change net k) (q k) (r k)) (movement_numbers net) → (k : ℕ) → positive_weight_by net q r k ≤ positive_weight net q k + report_shift net k
weight_down net q r h k =
    let s = sum_up net r q (downstream net k) (downstream_in net (λ k. q k ≤ r k + net.delay * greatest_change net k) (AllOf-map (λ k. DifferBy (net.delay * greatest_change net k) (q k) (r k)) (λ k. q k ≤ r k + net.delay * greatest_change net k) (λ k d. d.down) (movement_numbers net) h) (to_of net k)) in
    omega arith

-- a stage of a junction holds movements of its own, each once
stage_shift : (net : Network) (g : ℕ → ℕ) (j : Junction) → HasStages net j → (s : ℕ) → sum_by g (stage_at j s) ≤ sum_by g (own net j)
unfolding IsDistinct
stage_shift net g j has' s =
    let at = at_index (λ stage. IsDistinct ◌==◌ stage × AllByRecursion (λ k. has (movement_numbers net) k ≡ true) stage) [] j.stages (s - 1) has' (tt, tt) in
    let mine = each_in (λ k. has (own net j) k ≡ true) (stage_at j s) (λ k here. has_filter (stands_in j) k (movement_numbers net) (at_in (λ k. has (movement_numbers net) k ≡ true) k (stage_at j s) here at.1) (stage_in k j.stages (s - 1) here)) in
    le_trans (spread g (stage_at j s) (own net j) at.0 mine) (sum_by-le (λ k. cond (has (stage_at j s) k) (g k) 0) g (λ k. cond-le (has (stage_at j s) k) (g k) (g k) (le_refl (g k))) (own net j))

-- terms that are near give sums that are near
shifted : (c x y d : ℕ → ℕ) → ((k : ℕ) → x k ≤ y k + d k) → (ks : List ℕ) → sum_by (λ k. c k * x k) ks ≤ sum_by (λ k. c k * y k) ks + sum_by (λ k. c k * d k) ks
shifted c x y d h ks = omega (
  arith,
  sum_by-le (λ k. c k * x k) (λ k. c k * y k + c k * d k) (λ k. omega (arith, mul-le-mul_left (c k) (h k))) ks,
  sum_by-add (λ k. c k * y k) (λ k. c k * d k) ks,
)

-- a stage that is greatest by the reports is nearly greatest
pub near_by : (net : Network) → IsNetwork net → (q r : ℕ → ℕ) → AllByRecursion (λ k. DifferBy (net.delay * greatest_change net k) (q k) (r k)) (movement_numbers net) →
    (j : Junction) → HasStages net j → (s : ℕ) → IsGreatestStageBy net q r j s → IsNearlyGreatest net q j s
near_by net ok q r h j has' s g = record {
  is_stage = g.is_stage;
  near = λ t a b. omega (
    arith,
    shifted (flow_of net) (positive_weight net q) (positive_weight_by net q r) (report_shift net) (weight_up net q r h) (stage_at j t),
    stage_shift net (λ k. flow_of net k * report_shift net k) j has' t,
    g.most t a b,
    shifted (flow_of net) (positive_weight_by net q r) (positive_weight net q) (report_shift net) (weight_down net q r h) (stage_at j s),
    stage_shift net (λ k. flow_of net k * report_shift net k) j has' s,
  );
}
