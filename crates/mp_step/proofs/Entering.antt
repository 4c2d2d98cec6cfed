-- How few vehicles enter a network.
use Rattle.std.proofs.Common.{◌≡◌, ℕ, zero, suc, ◌+◌, ◌-◌, ◌*◌, ◌/◌, ◌≤◌, ◌<◌, List, None, length, sum_by, arith, ⊎_elim, mul-le-mul_right}
use Rattle.std.proofs.Math.Nat.{div-mul-le_self}
use Rattle.std.proofs.lemmas.Bool.{cases_lt}
use Rattle.std.specs.List.{AllByRecursion, range_with_len}
use Rattle.std.proofs.lemmas.List.Sums.{sum_by-cons}
use Rattle.mp_model.specs.Arrivals.{arrivals_of}
use Rattle.mp_model.specs.Network.{Network, link_numbers, link_at, no_link, no_movement, start_of}
use Rattle.mp_model.specs.NetworkRules.{IsNetwork, IsInRange}
use Rattle.mp_laws.proofs.Changes.{few_arrive}
use Rattle.mp_laws.proofs.Lists.{at_in, at_index, each_in}
use Rattle.mp_step.proofs.Above.{then_within}
use Rattle.mp_step.specs.BucketLevels.{level_then, first_above}

pub start_few : (net : Network) → IsInRange net → (k : ℕ) → start_of net k ≤ 1000000
start_few net range k = at_index (λ m. m.start ≤ 1000000) no_movement net.movements (k - 1) range.starts (omega arith)

burst_few : (net : Network) → IsInRange net → (l : ℕ) → (link_at net l).burst ≤ 10000
burst_few net range l = at_index (λ link. link.burst ≤ 10000) no_link net.links (l - 1) range.bursts (omega arith)

rate_few : (net : Network) → IsInRange net → (l : ℕ) → (link_at net l).rate ≤ 1000 * net.per
rate_few net range l = at_index (λ link. link.rate ≤ 1000 * net.per) no_link net.links (l - 1) range.rates (omega arith)

-- a rate of at most so many a period
rounded : (H rate : ℕ) → 1 ≤ H → rate ≤ 1000 * H → (rate + H - 1) / H ≤ 1000
rounded H rate some h =
    let x = (rate + H - 1) / H in
    let low : x * H ≤ rate + H - 1 = div-mul-le_self (rate + H - 1) H in
    ⊎_elim (λ (more : 1000 < x). absurd (omega (arith, mul-le-mul_right H more))) (λ (few : x ≤ 1000). few) (cases_lt 1000 x)

each_few : (f : ℕ → ℕ) (most a n : ℕ) → AllByRecursion (λ l. f l ≤ most) (range_with_len a n) → sum_by f (range_with_len a n) ≤ n * most
each_few f most a zero h = omega arith
each_few f most a (suc n) h = omega (arith, sum_by-cons f a (range_with_len (a + 1) n), h.0, each_few f most (a + 1) n h.1)

-- in a period that keeps to the buckets at most 11,000 vehicles arrive on each of at most 128 links
pub enter_few : (net : Network) → IsNetwork net → IsInRange net → (level : ℕ → ℕ) (counts : List ℕ) → AllByRecursion (λ l. level l ≤ net.per * (link_at net l).burst) (link_numbers net) → first_above net level counts ≡ None →
    sum_by (arrivals_of net counts) (link_numbers net) ≤ 1408000
enter_few net ok range level counts within none =
    let each = each_in (λ l. arrivals_of net counts l ≤ 11000) (link_numbers net) (λ l h.
    let next = at_in (λ l. level_then net level counts l ≤ net.per * (link_at net l).burst) l (link_numbers net) h (then_within net level counts within none) in
    let few = few_arrive net.per (arrivals_of net counts l) (level l) (level_then net level counts l) (link_at net l).burst (link_at net l).rate ok.per (omega arith) next in
    omega (arith, few, burst_few net range l, rounded net.per (link_at net l).rate ok.per (rate_few net range l))) in
    omega (arith, each_few (arrivals_of net counts) 11000 1 (length net.links) each, range.links.1)
