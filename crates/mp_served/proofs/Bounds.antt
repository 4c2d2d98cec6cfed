-- The burst of what passes under lights that serve a demand, and the bound of each queue, by induction over the periods for all movements at once.
use Rattle.std.proofs.Common.{◌≡◌, ℕ, zero, suc, ◌+◌, ◌*◌, ◌≤◌, true, List, sum_by, arith, sym, ap, subst, ⊎_elim, mul-le-mul_left, le_refl, inl, inr, ◌⊎◌}
use Rattle.std.proofs.Math.Nat.{le_of_mul-le-mul_left}
use Rattle.std.specs.List.{AllByRecursion}
use Rattle.mp_laws.proofs.Lists.{at_in, each_in, filter_sub}
use Rattle.mp_laws.proofs.Sums.{sum_by-le_at, sum_by-add, sum_by-mul}
use Rattle.mp_model.specs.Lights.{Lights, Demand, CarriesRate, CarryRates, HasSurplus, HoldsRate, HoldsUnserved, ServeDemand, ServesRate, crowd_by, greens_in, lit_state}
use Rattle.mp_model.specs.Network.{Network, goes_to, to_of, movement_numbers, from_of, flow_of, share_of, start_of, rate_before, burst_before, into_link, has, entry}
use Rattle.mp_model.specs.NetworkRules.{IsNetwork}
use Rattle.mp_model.specs.Step.{queue, joined}
use Rattle.mp_served.specs.Busy.{Busy}
use Rattle.mp_served.specs.Busy.Busy.{nobody, since, always}
use Rattle.mp_served.specs.Bounds.{total, passes_at}
use Rattle.mp_served.proofs.Busy.{is_busy}
use Rattle.mp_served.proofs.Flows.{queue_at, received_at, came_at, arrived_at, passes_few, links_in, received_row, queue_row, first_queue, none_came, served, arrivals_row}
use Rattle.mp_served.proofs.Rows.{add_none}

-- ---- over plain numbers
-- what joins in n periods, from what the link gets in them
joins : (W H d w burst rate arrived passed bursts rates e n h came came' : ℕ) → 1 ≤ H →
    W * came' ≤ W * came + w * (arrived + passed) + e → H * arrived ≤ H * burst + rate * n → d * passed ≤ d * bursts + n * rates → w * (rate * d + H * rates) ≤ W * H * h →
    W * d * came' ≤ W * d * came + d * (w * (burst + bursts) + e) + n * (W * h)
joins W H d w burst rate arrived passed bursts rates e n h came came' some a b c balance =
    let a' = mul-le-mul_left (H * d) a in
    let b' = mul-le-mul_left (d * w) b in
    let c' = mul-le-mul_left (H * w) c in
    let e' = mul-le-mul_left n balance in
    le_of_mul-le-mul_left {k = H} (omega arith) some

-- what passes, or is queued, where somebody has waited for n of the s periods that joined
holds_since : (W d c h g missing n s x came came' crowd : ℕ) →
    x + c * g + came ≤ came' → W * d * came' ≤ W * d * came + crowd + s * (W * h) → n * h ≤ d * c * g + h * missing → W * d * x + W * (n * h) ≤ crowd + s * (W * h) + W * (h * missing)
holds_since W d c h g missing n s x came came' crowd a b e =
    let a' = mul-le-mul_left (W * d) a in
    let e' = mul-le-mul_left W e in
    omega arith

divided : (W a b : ℕ) → 1 ≤ W → W * a ≤ W * b → a ≤ b
divided W a b some le = le_of_mul-le-mul_left {k = W} le some

-- what is passed, or queued, is at most a number that holds it
settled : (W d h missing n m x crowd b : ℕ) → 1 ≤ W → W * d * x + W * (n * h) ≤ crowd + (n + m) * (W * h) + W * (h * missing) → crowd + W * h * missing ≤ W * d * b → d * x ≤ d * b + m * h
settled W d h missing n m x crowd b some a carries = le_of_mul-le-mul_left {k = W} (omega arith) some

held : (W d h missing n x crowd b : ℕ) → 1 ≤ W → 1 ≤ d → W * d * x + W * (n * h) ≤ crowd + (1 + n) * (W * h) + W * (h * missing) → crowd + W * h * (1 + missing) ≤ W * d * b → x ≤ b
held W d h missing n x crowd b some some' a carries = le_of_mul-le-mul_left {k = d} (le_of_mul-le-mul_left {k = W} (omega arith) some) some'

module _ (net : Network) (ok : IsNetwork net) (lights : Lights) (demand : Demand) (T : ℕ) (served_by : ServeDemand net lights demand T) where
  greens_serve : (k : ℕ) → has (movement_numbers net) k ≡ true → ServesRate net lights demand T k
  greens_serve k in' = at_in (ServesRate net lights demand T) k (movement_numbers net) in' served_by.serves

  module _ (surplus : ℕ → ℕ) (b : List ℕ) (carry : CarryRates net demand surplus b) where
    -- until period t no movement passes more than its burst and its rate
    Passes : ℕ → Type 0
    Passes t = (k : ℕ) → has (movement_numbers net) k ≡ true → (a n : ℕ) → a + n ≤ t → demand.denominator * total (passes_at net lights k) a n ≤ demand.denominator * entry b k + n * demand.rate k

    abbrev crowd_of : ℕ → ℕ
    crowd_of k = crowd_by net demand.denominator (surplus k) b k

    abbrev came : ℕ → ℕ → ℕ
    came k t = came_at net ok lights k t

    -- so no more joins in a row of periods than a crowd, and what the rate carries
    row_joins : (t : ℕ) → t ≤ T → Passes t → (k : ℕ) → has (movement_numbers net) k ≡ true → (s n : ℕ) → s + n ≤ t →
        net.shares * demand.denominator * came k (s + n) ≤ net.shares * demand.denominator * came k s + crowd_of k + n * (net.shares * demand.rate k)
    unfolding Passes
    row_joins t in_time passes k in' s n le =
        let l = from_of net k in
        let link = links_in net ok lights k in' in
        let arrived : ℕ = total (arrived_at net ok lights l) s n in
        let passed : ℕ = sum_by (λ j. total (passes_at net lights j) s n) (into_link net l) in
        let received = received_row net ok lights l link s n in
        let surplus_is = at_in (λ k. HasSurplus net k (surplus k)) k (movement_numbers net) in' carry.surpluses (received_at net ok lights l s) (arrived + passed) in
        let joined_is : came k (s + n) ≡ joined net l (received_at net ok lights l s + (arrived + passed)) k = ap (λ r. joined net l r k) received in
        let each : AllByRecursion (λ j. demand.denominator * total (passes_at net lights j) s n ≤ demand.denominator * entry b j + n * demand.rate j) (into_link net l) =
        each_in (λ j. demand.denominator * total (passes_at net lights j) s n ≤ demand.denominator * entry b j + n * demand.rate j) (into_link net l) (λ j in''. passes j (filter_sub (λ k. goes_to (to_of net k) l) (movement_numbers net) j in'') s n le) in
        let sums = sum_by-le_at (λ j. demand.denominator * total (passes_at net lights j) s n) (λ j. demand.denominator * entry b j + n * demand.rate j) (into_link net l) each in
        let left = sum_by-mul demand.denominator (λ j. total (passes_at net lights j) s n) (into_link net l) in
        let right = sum_by-add (λ j. demand.denominator * entry b j) (λ j. n * demand.rate j) (into_link net l) in
        let bursts_sum = sum_by-mul demand.denominator (entry b) (into_link net l) in
        let rates_sum = sum_by-mul n demand.rate (into_link net l) in
        joins net.shares net.per demand.denominator (share_of net k) (burst_before net k) (rate_before net k) arrived passed (sum_by (entry b) (into_link net l)) (sum_by demand.rate (into_link net l)) (surplus k) n (demand.rate k) (came k s) (came k (s + n)) ok.per
        (omega (arith, surplus_is, ap (λ c. net.shares * c) joined_is))
        (arrivals_row net ok lights T served_by.permitted l link s n (omega arith))
        (omega (arith, sums, left, right, bursts_sum, rates_sum))
        (at_in (CarriesRate net demand) k (movement_numbers net) in' served_by.carries)

    abbrev start_crowd : ℕ → ℕ
    start_crowd k = net.shares * demand.denominator * start_of net k + crowd_of k

    -- What is queued at a beginning, or passes in m periods from it on: with what had joined the movement then, it is at most the queue and what has joined by the end of a row of m periods.
    -- So it is held by what joins since somebody has waited.
    waited : (t : ℕ) → t ≤ T → Passes t → (k : ℕ) → has (movement_numbers net) k ≡ true → (a m x : ℕ) → a + m ≤ t → x + came k a ≤ queue_at net ok lights k a + came k (a + m) →
        Busy (flow_of net k) (λ t. lights.green t k) (queue_at net ok lights k) (came k) a →
        ((queue_at net ok lights k a ≡ 0) × (net.shares * demand.denominator * x ≤ crowd_of k + m * (net.shares * demand.rate k)))
        ⊎ ((n : ℕ) × (net.shares * demand.denominator * x + net.shares * (n * demand.rate k) ≤ start_crowd k + (1 + n + m) * (net.shares * demand.rate k) + net.shares * (demand.rate k * demand.unserved k)))
    waited t in_time passes k in' a m x le few (nobody none) =
        let joins = row_joins t in_time passes k in' a m le in
        let more = mul-le-mul_left (net.shares * demand.denominator) few in
        inl (none, omega (arith, joins, more, ap (λ q. net.shares * demand.denominator * q) none))
    waited t in_time passes k in' a m x le few (since s n e waits queued) =
        let place : s + (1 + n + m) ≡ a + m = omega arith in
        let joins = row_joins t in_time passes k in' s (1 + n + m) (omega arith) in
        let joins' : net.shares * demand.denominator * came k (a + m) ≤ net.shares * demand.denominator * came k s + crowd_of k + (1 + n + m) * (net.shares * demand.rate k) =
        subst (λ u. net.shares * demand.denominator * came k u ≤ net.shares * demand.denominator * came k s + crowd_of k + (1 + n + m) * (net.shares * demand.rate k)) place joins in
        let greens = greens_serve k in' (s + 1) n (omega arith) waits in
        let all = holds_since net.shares demand.denominator (flow_of net k) (demand.rate k) (greens_in (λ t. lights.green t k) (s + 1) n) (demand.unserved k) n (1 + n + m) x (came k s) (came k (a + m)) (crowd_of k) (omega arith) joins' greens in
        inr (n, omega arith)
    waited t in_time passes k in' a m x le few (always waits queued) =
        let place : 0 + (a + m) ≡ a + m = omega arith in
        let joins = row_joins t in_time passes k in' 0 (a + m) (omega arith) in
        let joins' : net.shares * demand.denominator * came k (a + m) ≤ net.shares * demand.denominator * came k 0 + crowd_of k + (a + m) * (net.shares * demand.rate k) =
        subst (λ u. net.shares * demand.denominator * came k u ≤ net.shares * demand.denominator * came k 0 + crowd_of k + (a + m) * (net.shares * demand.rate k)) place joins in
        let none = none_came net ok lights k in' in
        let opening = first_queue net ok lights k in' in
        let greens = greens_serve k in' 0 a (omega arith) waits in
        let all = holds_since net.shares demand.denominator (flow_of net k) (demand.rate k) (greens_in (λ t. lights.green t k) 0 a) (demand.unserved k) a (a + m) x 0 (start_of net k + came k (a + m)) (start_crowd k)
        (omega arith) (omega (arith, joins', ap (λ c. net.shares * demand.denominator * c) none)) greens in
        inr (a, omega arith)

    -- the busy movement
    busy : (k : ℕ) → has (movement_numbers net) k ≡ true → (a : ℕ) → Busy (flow_of net k) (λ t. lights.green t k) (queue_at net ok lights k) (came k) a
    busy k in' a = is_busy (flow_of net k) (λ t. lights.green t k) (queue_at net ok lights k) (came k) (served net ok lights k in') a

    carries_of : (k : ℕ) → has (movement_numbers net) k ≡ true → start_crowd k + net.shares * demand.rate k * demand.unserved k ≤ net.shares * demand.denominator * entry b k
    carries_of k in' = at_in (HoldsUnserved net demand surplus b) k (movement_numbers net) in' carry.bursts

    pass_more : (t : ℕ) → suc t ≤ T → Passes t → Passes (suc t)
    unfolding Passes
    pass_more t in_time passes k in' a zero le = omega arith
    pass_more t in_time passes k in' a (suc m) le =
        let x : ℕ = total (passes_at net lights k) a (suc m) in
        let row = queue_row net ok lights k in' a m in
        let few = passes_few net ok lights k (a + m) in
        let carries = carries_of k in' in
        ⊎_elim
        (λ w. let n = w.1 in settled net.shares demand.denominator (demand.rate k) (demand.unserved k) 0 (suc m) x (start_crowd k) (entry b k) ok.shares (omega arith) carries)
        (λ w. let n = w.1 in settled net.shares demand.denominator (demand.rate k) (demand.unserved k) w.0 (suc m) x (start_crowd k) (entry b k) ok.shares (omega arith) carries)
        (waited t (omega arith) passes k in' a m x (omega arith) (omega arith) (busy k in' a))

    none_passed : Passes 0
    unfolding Passes
    none_passed k in' a zero le = omega arith
    none_passed k in' a (suc n) le = absurd (omega arith)

    passes_at_most : (t : ℕ) → t ≤ T → Passes t
    passes_at_most zero in_time = none_passed
    passes_at_most (suc t) in_time = pass_more t in_time (passes_at_most t (omega arith))

    queue_at_most : (t : ℕ) → t ≤ T → (k : ℕ) → has (movement_numbers net) k ≡ true → (bound : ℕ) → HoldsRate net demand (surplus k) b k (1 + demand.unserved k) bound → queue_at net ok lights k t ≤ bound
    queue_at_most t in_time k in' bound holds =
        let q : ℕ = queue_at net ok lights k t in
        let same = add_none t in
        ⊎_elim
        (λ w. let n = w.0 in omega arith)
        (λ w. let n = w.1 in held net.shares demand.denominator (demand.rate k) (demand.unserved k) w.0 q (start_crowd k) bound ok.shares served_by.some (omega arith) holds)
        (waited t in_time (passes_at_most t in_time) k in' t 0 q (omega arith) (subst (λ u. q + came k t ≤ q + came k u) (sym same) (omega arith)) (busy k in' t))

pub passing_bounded : (net : Network) → IsNetwork net → (lights : Lights) (demand : Demand) (T : ℕ) → ServeDemand net lights demand T → (surplus : ℕ → ℕ) (bursts : List ℕ) → CarryRates net demand surplus bursts → (a n : ℕ) → a + n ≤ T →
    AllByRecursion (λ k. demand.denominator * total (passes_at net lights k) a n ≤ demand.denominator * entry bursts k + n * demand.rate k) (movement_numbers net)
unfolding Passes
passing_bounded net ok lights demand T served_by surplus bursts carry a n le =
    each_in (λ k. demand.denominator * total (passes_at net lights k) a n ≤ demand.denominator * entry bursts k + n * demand.rate k) (movement_numbers net)
    (λ k in'. passes_at_most net ok lights demand T served_by surplus bursts carry T (le_refl T) k in' a n le)

pub queues_bounded : (net : Network) → IsNetwork net → (lights : Lights) (demand : Demand) (T : ℕ) → ServeDemand net lights demand T → (surplus : ℕ → ℕ) (bursts : List ℕ) → CarryRates net demand surplus bursts → (t : ℕ) → t ≤ T →
    AllByRecursion (λ k. (bound : ℕ) → HoldsRate net demand (surplus k) bursts k (1 + demand.unserved k) bound → queue (lit_state net lights t) k ≤ bound) (movement_numbers net)
queues_bounded net ok lights demand T served_by surplus bursts carry t in_time =
    each_in (λ k. (bound : ℕ) → HoldsRate net demand (surplus k) bursts k (1 + demand.unserved k) bound → queue (lit_state net lights t) k ≤ bound) (movement_numbers net)
    (λ k in' bound holds. queue_at_most net ok lights demand T served_by surplus bursts carry t in_time k in' bound holds)
