-- How great the numbers of a network and the terms of its movements are.
use Rattle.std.proofs.Common.{◌≡◌, ◌==◌, ℕ, ◌+◌, ◌-◌, ◌*◌, ◌/◌, ◌^◌, ◌≤◌, Bool, true, List, [], ◌∷◌, length, filter, sum_by, arith, refl, eq-eqb, ⊎_elim, mul-le-mul_right, ◌<◌}
use Rattle.std.proofs.lemmas.Nat.{mul-le}
use Rattle.std.proofs.lemmas.Bool.{cases_lt}
use Rattle.std.proofs.Math.Nat.{div-mul-le_self}
use Rattle.std.proofs.lemmas.List.Elements.{All-from_recursion}
use Rattle.std.proofs.lemmas.List.FromFn.{length-range_with_len}
use Rattle.std.proofs.lemmas.List.Sums.{length-filter, count_by-le-length, sum_by-le}
use Rattle.mp_model.specs.Network.{Network, movement_numbers, link_numbers, numbers_to, has, no_movement, no_link, link_at, out_of, into_link, goes_to, from_of, to_of, share_of, flow_of, start_of, burst_before, rate_before}
use Rattle.mp_model.specs.NetworkRules.{IsAcceptable}
use Rattle.mp_model.specs.Bounds.{credit_term, step_term, greatest_change}
use Rattle.mp_laws.proofs.Lists.{at_index, at_in, all_in, at_range, has_filter, in_numbers, all_of}
use Rattle.mp_laws.proofs.Sums.{terms_le}
use Rattle.mp_drift.specs.Flows.{flow_into}

pub few_kept : (p : ℕ → Bool) (n : ℕ) → length (filter p (numbers_to n)) ≤ n
few_kept p n = omega (arith, length-filter p (numbers_to n), count_by-le-length p (numbers_to n), length-range_with_len 1 n)

-- what the numbers of movement k are at most
pub record Limits (net : Network) (k : ℕ) : Type 0 where
  pub per : net.per ≤ 3600
  pub some_per : 1 ≤ net.per
  pub shares : net.shares ≤ 1000
  pub some_share : 1 ≤ net.shares
  pub from_low : 1 ≤ from_of net k
  pub from_high : from_of net k ≤ length net.links
  pub some_out : 1 ≤ length (out_of net (from_of net k))
  pub few_out : length (out_of net (from_of net k)) ≤ 512
  pub share : share_of net k ≤ 1000
  pub flow : flow_of net k ≤ 1000
  pub burst : burst_before net k ≤ 10000
  pub rate : rate_before net k ≤ 3600000
  pub rates : rate_before net k ≤ 1000 * net.per
  pub into : flow_into net (from_of net k) ≤ 512000

pub flow_few : (net : Network) → IsAcceptable net → (k : ℕ) → flow_of net k ≤ 1000
flow_few net ok k = at_index (λ m. m.flow ≤ 1000) no_movement net.movements (k - 1) ok.range.flows (omega arith)

pub flow_into_few : (net : Network) → IsAcceptable net → (l : ℕ) → flow_into net l ≤ 512000
flow_into_few net ok l =
    let ks = into_link net l in
    let most : sum_by (flow_of net) ks ≤ length ks * 1000 = sum_by-le (flow_of net) 1000 ks (All-from_recursion (λ k. flow_of net k ≤ 1000) ks (all_of (λ k. flow_of net k ≤ 1000) (flow_few net ok) ks)) in
    let size = few_kept (λ k. goes_to (to_of net k) l) (length net.movements) in
    let range = ok.range.movements in
    omega (arith, most, size)

-- few movements go into a link
pub into_few : (net : Network) (l : ℕ) → length (into_link net l) ≤ length net.movements
into_few net l = few_kept (λ k. goes_to (to_of net k) l) (length net.movements)

some_member : (x : ℕ) (xs : List ℕ) → has xs x ≡ true → 1 ≤ length xs
some_member x [] h = absurd (cc)
some_member x (y ∷ ys) h = omega arith

pub limits : (net : Network) (k : ℕ) → IsAcceptable net → 1 ≤ k → k ≤ length net.movements → Limits net k
limits net k ok low high =
    let l = from_of net k in
    let here : has (movement_numbers net) k ≡ true = at_range (λ k. has (movement_numbers net) k ≡ true) 1 (length net.movements) k low (omega arith) (all_in (movement_numbers net)) in
    let there : has (link_numbers net) l ≡ true = at_in (λ k. has (link_numbers net) (from_of net k) ≡ true) k (movement_numbers net) here ok.network.from in
    let within = in_numbers (length net.links) l there in
    let out : has (out_of net l) k ≡ true = has_filter (λ i. from_of net i == l) k (movement_numbers net) here (eq-eqb l l refl) in
    let sums : sum_by (share_of net) (out_of net l) ≡ net.shares = at_in (λ l. sum_by (share_of net) (out_of net l) ≡ net.shares) l (link_numbers net) there ok.network.split in
    let part = at_in (λ k. share_of net k ≤ sum_by (share_of net) (out_of net l)) k (out_of net l) out (terms_le (share_of net) (out_of net l)) in
    let rates : (link_at net l).rate ≤ 1000 * net.per = at_index (λ link. link.rate ≤ 1000 * net.per) no_link net.links (l - 1) ok.range.rates (omega arith) in
    let range = ok.range in
    record {
      per = range.per;
      some_per = ok.network.per;
      shares = range.shares;
      some_share = ok.network.shares;
      from_low = within.0;
      from_high = omega (arith, within.1);
      some_out = some_member k (out_of net l) out;
      few_out = omega (arith, few_kept (λ i. from_of net i == l) (length net.movements), range.movements);
      share = omega (arith, sums, part);
      flow = flow_few net ok k;
      burst = at_index (λ link. link.burst ≤ 10000) no_link net.links (l - 1) range.bursts (omega arith);
      rate = omega (arith, rates);
      rates = rates;
      into = flow_into_few net ok l;
    }

-- the products of a credit-and-burst term
pub record CreditProducts (per d w share burst : ℕ) : Type 0 where
  pub outs : per * (d - 1) ≤ 3600 * 512
  pub credits : per * (d - 1) * (w - 1) ≤ 3600 * 512 * 1000
  pub turn : share * per ≤ 1000 * 3600
  pub bursts : share * per * burst ≤ 1000 * 3600 * 10000

pub credit_products : (per d w share burst : ℕ) → per ≤ 3600 → d ≤ 512 → w ≤ 1000 → share ≤ 1000 → burst ≤ 10000 → CreditProducts per d w share burst
credit_products per d w share burst p q r s t =
    let outs : per * (d - 1) ≤ 3600 * 512 = mul-le per (d - 1) 3600 512 p (omega arith) in
    let turn : share * per ≤ 1000 * 3600 = mul-le share per 1000 3600 s p in
    record {
      outs = outs;
      credits = mul-le (per * (d - 1)) (w - 1) (3600 * 512) 1000 outs (omega arith);
      turn = turn;
      bursts = mul-le (share * per) burst (1000 * 3600) 10000 turn t;
    }

-- the products of a step term
pub record StepProducts (per w share flow into rate : ℕ) : Type 0 where
  pub unit : w * per ≤ 1000 * 3600
  pub out : w * per * flow ≤ 1000 * 3600 * 1000
  pub coming : per * into ≤ 3600 * 512000
  pub shared : share * (per * into + rate) ≤ 1000 * (3600 * 512000 + 3600000)

pub step_products : (per w share flow into rate : ℕ) → per ≤ 3600 → w ≤ 1000 → share ≤ 1000 → flow ≤ 1000 → into ≤ 512000 → rate ≤ 3600000 → StepProducts per w share flow into rate
step_products per w share flow into rate p q r s t u =
    let unit : w * per ≤ 1000 * 3600 = mul-le w per 1000 3600 q p in
    let coming : per * into ≤ 3600 * 512000 = mul-le per into 3600 512000 p t in
    record {
      unit = unit;
      out = mul-le (w * per) flow (1000 * 3600) 1000 unit s;
      coming = coming;
      shared = mul-le share (per * into + rate) 1000 (3600 * 512000 + 3600000) r (omega arith);
    }

pub credit_few : (net : Network) (k : ℕ) → Limits net k → credit_term net k ≤ 2 ^ 36
credit_few net k h =
    let p = credit_products net.per (length (out_of net (from_of net k))) net.shares (share_of net k) (burst_before net k) h.per h.few_out h.shares h.share h.burst in
    omega (arith, p.credits, p.bursts)

pub step_few : (net : Network) (k : ℕ) → Limits net k → step_term net k ≤ 2 ^ 41
step_few net k h =
    let p = step_products net.per net.shares (share_of net k) (flow_of net k) (flow_into net (from_of net k)) (rate_before net k) h.per h.shares h.share h.flow h.into h.rate in
    omega (arith, p.out, p.shared)

-- a rate rounded up to vehicles a period
pub rate_rounded : (per rate : ℕ) → 1 ≤ per → per ≤ 3600 → rate ≤ 1000 * per → (rate + per - 1) / per ≤ 1000
rate_rounded per rate some most h =
    let x = (rate + per - 1) / per in
    let low : x * per ≤ rate + per - 1 = div-mul-le_self (rate + per - 1) per in
    ⊎_elim (λ (more : 1000 < x). absurd (omega (arith, mul-le-mul_right per more))) (λ (few : x ≤ 1000). few) (cases_lt 1000 x)

pub change_few : (net : Network) (k : ℕ) → Limits net k → greatest_change net k ≤ 523000
change_few net k h = omega (arith, h.flow, h.into, h.burst, rate_rounded net.per (rate_before net k) h.some_per h.per h.rates)

pub start_few : (net : Network) → IsAcceptable net → (k : ℕ) → start_of net k ≤ 10 ^ 6
start_few net ok k = at_index (λ m. m.start ≤ 10 ^ 6) no_movement net.movements (k - 1) ok.range.starts (omega arith)

pub start_square : (unit start : ℕ) → unit ≤ 3600000 → start ≤ 10 ^ 6 → unit * start * (unit * start) ≤ (3600000 * 10 ^ 6) * (3600000 * 10 ^ 6)
start_square unit start u s = let one = mul-le unit start 3600000 (10 ^ 6) u s in mul-le (unit * start) (unit * start) (3600000 * 10 ^ 6) (3600000 * 10 ^ 6) one one

pub ruleset terms = (limits, credit_products, step_products, credit_few, step_few, change_few)

pub quarter_few : (n : ℕ) → n ≤ 1000 → n * n / 4 ≤ 250000
quarter_few n h = omega (arith, mul-le n n 1000 1000 h h)

pub product_few : (a b : ℕ) → a ≤ 2 ^ 36 → b ≤ 2 ^ 41 → a * b ≤ 2 ^ 77
product_few a b h k = omega (arith, mul-le a b (2 ^ 36) (2 ^ 41) h k)

pub square_few : (a : ℕ) → a ≤ 2 ^ 41 → a * a ≤ 2 ^ 82
square_few a h = omega (arith, mul-le a a (2 ^ 41) (2 ^ 41) h h)
