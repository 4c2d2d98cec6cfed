-- The drift value that a period keeps is below its greatest, where there is a movement.
use Rattle.std.proofs.Common.{◌≡◌, ℕ, zero, suc, ◌+◌, ◌*◌, ◌/◌, ◌≤◌, ◌<◌, List, length, sum_by, nat_abs, arith, refl, ⊎_elim, mul-le-mul, mul-le-mul_left}
use Rattle.std.proofs.Math.Nat.{lt-mul-div-succ}
use Rattle.std.proofs.lemmas.Bool.{cases_lt}
use Rattle.std.proofs.lemmas.List.Sums.{sum_by-cons}
use Rattle.std.specs.List.{range_with_len}
use Rattle.mp_model.specs.Bounds.{credit_term, step_term, drift_constant, greatest_drift, queue_threshold}
use Rattle.mp_model.specs.Certificate.{Cert, Certifies}
use Rattle.mp_model.specs.DriftValue.{corrected_queue, drift_value}
use Rattle.mp_model.specs.Network.{Network, movement_numbers, numbers_to}
use Rattle.mp_model.specs.NetworkRules.{IsNetwork}
use Rattle.mp_model.specs.Pressure.{AllGreatest}
use Rattle.mp_model.specs.Slack.{IsSlack}
use Rattle.mp_laws.specs.Periods.{IsPeriod, IsWithin}
use Rattle.mp_laws.proofs.Bridge.{to_plain, plain_holds}
use Rattle.mp_laws.proofs.Keeps.{few_queued}
use Rattle.mp_laws.proofs.Lists.{each_in}
use Rattle.mp_laws.proofs.PlainCertificate.{PlainCert, Holds}
use Rattle.mp_laws.proofs.Serve.{nearly}
use Rattle.mp_laws.proofs.Sums.{sum_by-le_at, sum_by-add, sum_by-mul}
use Rattle.mp_laws.proofs.Tied.{excess_is, slack_is, one_period_of}
use Rattle.mp_controls.proofs.Still.{still_movement, brings_less}

-- where there is a movement, ones sum to at least 1
pub some_ones : (n : ℕ) → 1 ≤ n → 1 ≤ sum_by (λ (k : ℕ). 1) (numbers_to n)
some_ones zero h = absurd (omega arith)
some_ones (suc n) h = omega (arith, sum_by-cons (λ (k : ℕ). 1) 1 (range_with_len 2 n))

-- a period in which nothing is queued raises the drift value by less than the drift constant
still_below : (net : Network) → IsNetwork net → 1 ≤ length net.movements → (cert : PlainCert) → Holds net cert → 1 ≤ cert.e → (stages : List ℕ) (arrivals q phase level q' phase' level' : ℕ → ℕ) →
    IsPeriod net stages arrivals q phase level q' phase' level' → IsWithin net level → sum_by q (movement_numbers net) ≡ 0 →
    drift_value net q' phase' level' + 1 ≤ drift_value net q phase level + drift_constant net
still_below net ok some cert holds excess stages arrivals q phase level q' phase' level' period within none =
    let ks = movement_numbers net in
    let s' : ℕ → ℕ = λ k. nat_abs (corrected_queue net q' phase' level' k) * nat_abs (corrected_queue net q' phase' level' k) in
    let s : ℕ → ℕ = λ k. nat_abs (corrected_queue net q phase level k) * nat_abs (corrected_queue net q phase level k) in
    let u : ℕ → ℕ = λ k. credit_term net k * step_term net k in
    let m : ℕ → ℕ = λ k. step_term net k * step_term net k in
    let each = sum_by-le_at (λ k. s' k + 1) (λ k. s k + 2 * u k + m k) ks (each_in (λ k. s' k + 1 ≤ s k + 2 * u k + m k) ks (λ k here. still_movement net ok stages arrivals q phase level q' phase' level' period within none k here (brings_less net ok cert holds excess k here))) in
    let l1 = sum_by-add s' (λ k. 1) ks in
    let r1 = sum_by-add (λ k. s k + 2 * u k) m ks in
    let r2 = sum_by-add s (λ k. 2 * u k) ks in
    let r3 = sum_by-mul 2 u ks in
    omega (arith, each, l1, r1, r2, r3, some_ones (length net.movements) some)

-- the excess of a slack above 0
pub excess_some : (e D E d : ℕ) → e * D ≡ E * d → 1 ≤ e → 1 ≤ D → 1 ≤ E
excess_some e D zero d s a b = absurd (omega (arith, mul-le-mul a b))
excess_some e D (suc E) d s a b = omega arith

-- the step, over plain numbers: with some queued the drift is strict, and with none the period is
below_numbers : (D v v' B c s L top : ℕ) → 1 ≤ D → 1 ≤ c → D * v' + c * s ≤ D * v + D * B → L ≡ D * B / c → v ≤ top → (s ≤ L → v + B ≤ top) → (s ≡ 0 → v' + 1 ≤ v + B) → v' + 1 ≤ top
below_numbers D v v' B c s L top D_some c1 move is below few none =
    ⊎_elim
    (λ (many : L < s).
    let a : D * B < c * (D * B / c + 1) = lt-mul-div-succ (D * B) c1 in
    let b : c * (D * B / c + 1) ≤ c * s = mul-le-mul_left c (omega arith) in
    let f : v' < v = less D v' v (omega arith) in
    omega arith)
    (λ (h : s ≤ L).
    let below_top = few h in
    ⊎_elim
    (λ (some : 0 < s).
    let p : 1 ≤ c * s = mul-le-mul c1 some in
    let f : v' < v + B = less D v' (v + B) (omega arith) in
    omega arith)
    (λ (g : s ≤ 0). let f = none (omega arith) in omega arith) (cases_lt 0 s))
    (cases_lt L s)
  where
    less : (D a b : ℕ) → D * a < D * b → a < b
    less D a b h = ⊎_elim (λ (x : a < b). x) (λ (x : b ≤ a). absurd (omega (arith, mul-le-mul_left D x))) (cases_lt a b)

pub below : (net : Network) → IsNetwork net → 1 ≤ length net.movements → (cert : Cert) → Certifies net cert → (E D : ℕ) → IsSlack cert E D → (stages : List ℕ) (arrivals q phase level q' phase' level' : ℕ → ℕ) →
    AllGreatest net q net.junctions stages → IsPeriod net stages arrivals q phase level q' phase' level' → IsWithin net level →
    drift_value net q phase level ≤ greatest_drift net E D → drift_value net q' phase' level' + 1 ≤ greatest_drift net E D
below net ok some cert c E D slack stages arrivals q phase level q' phase' level' greatest period within top =
    let e = excess_is cert.e c.excess in
    let w = mul-le-mul ok.shares ok.per in
    let E_some = excess_some (nat_abs cert.e) D E (nat_abs cert.d) (slack_is net cert c E D slack) e.1 slack.lowest.denominator in
    below_numbers D (drift_value net q phase level) (drift_value net q' phase' level') (drift_constant net) (2 * (net.shares * net.per * (net.shares * net.per)) * E) (sum_by q (movement_numbers net)) (queue_threshold net E D) (greatest_drift net E D)
    slack.lowest.denominator (omega (arith, mul-le-mul (mul-le-mul w w) E_some))
    (one_period_of net ok cert c E D slack stages arrivals q phase level q' phase' level' (nearly net q net.junctions stages greatest) period) refl top (few_queued net ok E D q phase level within)
    (still_below net ok some (to_plain cert) (plain_holds net ok cert c.rules e.0) e.1 stages arrivals q phase level q' phase' level' period within)
