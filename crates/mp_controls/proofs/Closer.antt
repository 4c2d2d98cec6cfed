-- A period keeps the drift value at most the closer drift value.
use Rattle.std.proofs.Common.{◌≡◌, ◌==◌, ℕ, suc, ◌+◌, ◌-◌, ◌*◌, ◌/◌, ◌≤◌, ◌<◌, max, true, List, length, sum_by, ℤ, pos, negsuc, ◌+ℤ◌, ◌-ℤ◌, ◌*ℤ◌, ◌≤ℤ◌, neg_ℤ, nat_abs, arith, refl, sym, ap, ⊎_elim, le_trans, mul-le-mul, mul-le-mul_left, mul-le-mul_right, eq-eqb, subst, ◌⊎◌, inl, inr}
use Rattle.std.specs.List.{IsDistinct}
use Rattle.std.proofs.lemmas.Int.{ints}
use Rattle.std.proofs.lemmas.Bool.{cases_lt}
use Rattle.std.proofs.Math.Nat.{le_of_mul-le-mul_left, lt-mul-div-succ, le-div_iff_mul-le, div-mul-le_self}
use Rattle.mp_model.specs.Bounds.{credit_term, drift_constant, queue_threshold}
use Rattle.mp_model.specs.Certificate.{Cert, Certifies}
use Rattle.mp_model.specs.DriftValue.{corrected_queue, drift_value}
use Rattle.mp_model.specs.Network.{Network, movement_numbers, link_numbers, link_at, from_of, share_of, burst_before, out_of, has}
use Rattle.mp_model.specs.NetworkRules.{IsNetwork}
use Rattle.mp_model.specs.Pressure.{AllGreatest}
use Rattle.mp_model.specs.Slack.{IsSlack}
use Rattle.mp_model.specs.Split.{credit}
use Rattle.mp_laws.specs.Periods.{IsPeriod, IsWithin}
use Rattle.mp_laws.proofs.Credits.{credits_above, credits_high}
use Rattle.mp_laws.proofs.Distinct.{range_distinct, distinct_filter}
use Rattle.mp_laws.proofs.Lists.{at_in, each_in, has_filter}
use Rattle.mp_laws.proofs.Signed.{ring, mul_le}
use Rattle.mp_laws.proofs.Serve.{nearly}
use Rattle.mp_laws.proofs.Sums.{sum_by-le_at, sum_by-add, sum_by-mul, squares_le}
use Rattle.mp_laws.proofs.Tied.{excess_is, slack_is, one_period_of}
use Rattle.mp_controls.specs.Closer.{credit_part, burst_part, value_of, closer_drift}
use Rattle.mp_controls.proofs.Below.{excess_some}

-- a corrected queue is above its queue by at most the credit part
near_up : (W H w q b d t : ℕ) (cr : ℤ) → cr ≤ℤ pos (d * t) → (pos (W * H * q) +ℤ pos H *ℤ cr -ℤ pos (w * b)) ≤ℤ pos (W * H * q + H * d * t)
near_up W H w q b d t cr h = let p = mul_le (pos H) cr (pos (d * t)) (omega (arith, ints)) h in omega (arith, ints)

-- and below 0 by at most the credit-and-burst term
near_down : (W H w q b d t g : ℕ) (cr : ℤ) → neg_ℤ (pos (d * t)) ≤ℤ cr → b ≤ H * g → neg_ℤ (pos (H * d * t + w * H * g)) ≤ℤ (pos (W * H * q) +ℤ pos H *ℤ cr -ℤ pos (w * b))
near_down W H w q b d t g cr h k = let p = simp ring at (mul_le (pos H) (neg_ℤ (pos (d * t))) cr (omega (arith, ints)) h) in omega (arith, ints, mul-le-mul_left w k)

square_numbers : (n m u K : ℕ) → u ≤ K → (n ≤ m + u) ⊎ (n ≤ K) → n * n ≤ (m + u) * (m + u) + (K * K - u * u)
square_numbers n m u K h cases =
    let uK = mul-le-mul h h in
    let um : u * u ≤ (m + u) * (m + u) = let a : u ≤ m + u = omega arith in mul-le-mul a a in
    ⊎_elim (λ (a : n ≤ m + u). omega (arith, mul-le-mul a a)) (λ (a : n ≤ K). omega (arith, mul-le-mul a a)) cases

square_near : (x : ℤ) (m u K : ℕ) → u ≤ K → x ≤ℤ pos (m + u) → neg_ℤ (pos K) ≤ℤ x → nat_abs x * nat_abs x ≤ (m + u) * (m + u) + (K * K - u * u)
square_near (pos n) m u K h up down = square_numbers n m u K h (inl (omega (arith, ints)))
square_near (negsuc n) m u K h up down = square_numbers (suc n) m u K h (inr (omega (arith, ints)))

-- the square of a corrected queue
near_square : (net : Network) → IsNetwork net → (q phase level : ℕ → ℕ) → IsWithin net level → (k : ℕ) → has (movement_numbers net) k ≡ true →
    nat_abs (corrected_queue net q phase level k) * nat_abs (corrected_queue net q phase level k) ≤ (net.shares * net.per * q k + credit_part net k) * (net.shares * net.per * q k + credit_part net k) + (credit_term net k * credit_term net k - credit_part net k * credit_part net k)
near_square net ok q phase level within k in' =
    let W = net.shares in
    let H = net.per in
    let l = from_of net k in
    let ks = out_of net l in
    let link_in : has (link_numbers net) l ≡ true = at_in (λ k. has (link_numbers net) (from_of net k) ≡ true) k (movement_numbers net) in' ok.from in
    let sums : sum_by (share_of net) ks ≡ W = at_in (λ l. sum_by (share_of net) (out_of net l) ≡ net.shares) l (link_numbers net) link_in ok.split in
    let dist : IsDistinct ◌==◌ ks = distinct_filter (λ k. from_of net k == l) (movement_numbers net) (range_distinct 1 _) in
    let here : has ks k ≡ true = has_filter (λ k. from_of net k == l) k (movement_numbers net) in' (eq-eqb l l refl) in
    let low = at_in (λ k. neg_ℤ (pos ((length ks - 1) * (W - 1))) ≤ℤ credit W (share_of net) ks (phase l) k) k ks here (credits_above W (share_of net) ks sums ok.shares dist (phase l)) in
    let high = at_in (λ k. credit W (share_of net) ks (phase l) k ≤ℤ pos ((length ks - 1) * (W - 1))) k ks here (credits_high W (share_of net) ks sums ok.shares dist (phase l)) in
    let in_bucket = at_in (λ l. level l ≤ net.per * (link_at net l).burst) l (link_numbers net) link_in within in
    square_near (corrected_queue net q phase level k) (W * H * q k) (credit_part net k) (credit_term net k) (omega arith)
    (near_up W H (share_of net k) (q k) (level l) (length ks - 1) (W - 1) (credit W (share_of net) ks (phase l) k) high)
    (near_down W H (share_of net k) (q k) (level l) (length ks - 1) (W - 1) (burst_before net k) (credit W (share_of net) ks (phase l) k) low in_bucket)

-- the drift value, by what is queued
pub value_most : (net : Network) → IsNetwork net → (q phase level : ℕ → ℕ) → IsWithin net level → drift_value net q phase level ≤ value_of net (sum_by q (movement_numbers net))
value_most net ok q phase level within =
    let ks = movement_numbers net in
    let x : ℕ → ℕ = λ k. nat_abs (corrected_queue net q phase level k) in
    let g : ℕ → ℕ = λ k. net.shares * net.per * q k + credit_part net k in
    let e : ℕ → ℕ = λ k. credit_term net k * credit_term net k - credit_part net k * credit_part net k in
    let each = sum_by-le_at (λ k. x k * x k) (λ k. g k * g k + e k) ks (each_in (λ k. x k * x k ≤ g k * g k + e k) ks (near_square net ok q phase level within)) in
    let apart = sum_by-add (λ k. g k * g k) e ks in
    let s : sum_by g ks ≡ net.shares * net.per * sum_by q ks + sum_by (credit_part net) ks = omega (arith, sum_by-add (λ k. net.shares * net.per * q k) (credit_part net) ks, sum_by-mul (net.shares * net.per) q ks) in
    omega (arith, each, apart, squares_le g ks, ap (λ n. n * n) s)

-- while the square rises more slowly than the drift falls, none queued is the worst
from_none : (D c r u s v' G B : ℕ) → 1 ≤ D → D * v' + c * s ≤ D * ((r * s + u) * (r * s + u) + G) + D * B → D * (r * r * s + 2 * r * u) ≤ c → v' ≤ (r * 0 + u) * (r * 0 + u) + G + B
from_none D c r u s v' G B D_some move slow = le_of_mul-le-mul_left {k = D} (omega (arith, move, mul-le-mul_right s slow)) D_some

square_more : (D c r u s m : ℕ) → c ≤ D * (r * r * s + 2 * r * u) → D * ((r * s + u) * (r * s + u)) + c * m ≤ D * ((r * (s + m) + u) * (r * (s + m) + u))
square_more D c r u s m fast = omega (arith, mul-le-mul_right m fast)

left_numbers : (D v' a x : ℕ) → 1 ≤ D → D * v' ≤ D * a + x → v' ≤ a + x / D
left_numbers D v' a x D_some h =
    ⊎_elim
    (λ (more : a < v').
    let e : v' ≡ a + (v' - a) = omega arith in
    let p : (v' - a) * D ≤ x = omega (arith, ap (λ n. D * n) e) in
    let q = (le-div_iff_mul-le D_some).1 p in
    omega arith)
    (λ (less : v' ≤ a). omega arith) (cases_lt a v')

-- and where it rises faster, the threshold queued is
from_threshold : (D c r u s L v' G B : ℕ) → 1 ≤ D → s ≤ L → c * L ≤ D * B → D * v' + c * s ≤ D * ((r * s + u) * (r * s + u) + G) + D * B → c ≤ D * (r * r * s + 2 * r * u) → v' ≤ (r * L + u) * (r * L + u) + G + (D * B - c * L) / D
from_threshold D c r u s L v' G B D_some most some move fast =
    let e : L ≡ s + (L - s) = omega arith in
    let more = square_more D c r u s (L - s) fast in
    let at : D * ((r * s + u) * (r * s + u)) + c * (L - s) ≤ D * ((r * L + u) * (r * L + u)) = subst (λ n. D * ((r * s + u) * (r * s + u)) + c * (L - s) ≤ D * ((r * n + u) * (r * n + u))) (sym e) more in
    left_numbers D v' ((r * L + u) * (r * L + u) + G) (D * B - c * L) D_some (omega (arith, move, at, ap (λ n. c * n) e))

-- the step, over plain numbers
closer_numbers : (D c r u G v v' B s L : ℕ) → 1 ≤ D → 1 ≤ c → D * v' + c * s ≤ D * v + D * B → L ≡ D * B / c → v ≤ (r * s + u) * (r * s + u) + G →
    let top = max ((r * 0 + u) * (r * 0 + u) + G + B) ((r * L + u) * (r * L + u) + G + (D * B - c * L) / D) in v ≤ top → v' ≤ top
closer_numbers D c r u G v v' B s L D_some c1 move is small kept =
    ⊎_elim
    (λ (many : L < s).
    let a : D * B < c * (D * B / c + 1) = lt-mul-div-succ (D * B) c1 in
    let b : c * (D * B / c + 1) ≤ c * s = mul-le-mul_left c (omega arith) in
    let f : v' ≤ v = le_of_mul-le-mul_left {k = D} (omega arith) D_some in
    le_trans f kept)
    (λ (most : s ≤ L).
    let some : c * L ≤ D * B = omega (arith, div-mul-le_self (D * B) c, ap (λ n. c * n) is) in
    let moved : D * v' + c * s ≤ D * ((r * s + u) * (r * s + u) + G) + D * B = omega (arith, move, mul-le-mul_left D small) in
    ⊎_elim
    (λ (slow : D * (r * r * s + 2 * r * u) < c). let f = from_none D c r u s v' G B D_some moved (omega arith) in omega (arith, f))
    (λ (fast : c ≤ D * (r * r * s + 2 * r * u)). let f = from_threshold D c r u s L v' G B D_some most some moved fast in omega (arith, f))
    (cases_lt (D * (r * r * s + 2 * r * u)) c))
    (cases_lt L s)

pub closer_kept : (net : Network) → IsNetwork net → (cert : Cert) → Certifies net cert → (E D : ℕ) → IsSlack cert E D → (stages : List ℕ) (arrivals q phase level q' phase' level' : ℕ → ℕ) →
    AllGreatest net q net.junctions stages → IsPeriod net stages arrivals q phase level q' phase' level' → IsWithin net level →
    drift_value net q phase level ≤ closer_drift net E D → drift_value net q' phase' level' ≤ closer_drift net E D
closer_kept net ok cert c E D slack stages arrivals q phase level q' phase' level' greatest period within top =
    let w = mul-le-mul ok.shares ok.per in
    let E_some = excess_some (nat_abs cert.e) D E (nat_abs cert.d) (slack_is net cert c E D slack) (excess_is cert.e c.excess).1 slack.lowest.denominator in
    closer_numbers D (2 * (net.shares * net.per * (net.shares * net.per)) * E) (net.shares * net.per) (sum_by (credit_part net) (movement_numbers net)) (burst_part net) (drift_value net q phase level) (drift_value net q' phase' level') (drift_constant net) (sum_by q (movement_numbers net)) (queue_threshold net E D)
    slack.lowest.denominator (omega (arith, mul-le-mul (mul-le-mul w w) E_some))
    (one_period_of net ok cert c E D slack stages arrivals q phase level q' phase' level' (nearly net q net.junctions stages greatest) period) refl (value_most net ok q phase level within) top
