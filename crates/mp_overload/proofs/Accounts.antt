-- The exact account of a trail, and the growth that follows from it.
use Rattle.std.proofs.Common.{◌≡◌, ◌==◌, ℕ, ◌+◌, ◌-◌, ◌*◌, ◌/◌, ◌%◌, ◌≤◌, ◌<◌, Bool, true, false, cond, ◌&&◌, min, nat_lt, List, [], ◌∷◌, length, sum_by, pos, ◌-ℤ◌, ◌*ℤ◌, ◌≤ℤ◌, arith, refl, sym, ◌∙◌, ap, subst, eq-eqb, mul-le-mul_left, mul_comm, ltb-false}
use Rattle.std.proofs.Math.Nat.{zero-div, mod-lt}
use Rattle.std.proofs.lemmas.Int.{ints}
use Rattle.std.specs.List.{AllByRecursion, IsDistinct}
use Rattle.mp_laws.proofs.Credits.{grows, upper}
use Rattle.mp_laws.proofs.Distinct.{range_distinct, distinct_filter}
use Rattle.mp_laws.proofs.Drift.{cond-le}
use Rattle.mp_laws.proofs.Exchange.{exchange}
use Rattle.mp_laws.proofs.Lists.{at_in, each_in, has_filter, numbered}
use Rattle.mp_laws.proofs.Signed.{ring}
use Rattle.mp_laws.proofs.Sums.{sum_by-le_at, sum_by-le, sum_by-mul, sum_by-add, sum_by-filter, sum_by-same}
use Rattle.mp_model.specs.Arrivals.{arrivals_of}
use Rattle.mp_model.specs.Load.{load, capacity}
use Rattle.mp_model.specs.Network.{Network, movement_numbers, link_numbers, link_at, from_of, share_of, flow_of, start_of, rate_before, out_of, into_link, has}
use Rattle.mp_model.specs.NetworkRules.{IsNetwork}
use Rattle.mp_model.specs.Pressure.{queued_downstream, positive_weight}
use Rattle.mp_model.specs.Run.{opening}
use Rattle.mp_model.specs.Step.{State, queue, received_by, has_green, passed, got, joined, new_queue}
use Rattle.mp_overload.proofs.Evens.{come, comes, even_on}
use Rattle.mp_overload.proofs.Passing.{passes_positive}
use Rattle.mp_overload.specs.Evens.{come_by, even_arrivals}
use Rattle.mp_overload.specs.Growing.{lost_to_split, lost_to_rounding, weighed_queues, HasGrown}
use Rattle.mp_overload.specs.Trails.{trail_period, trail_from, trail, IsOnTrail}

-- What is known of movement k: its queue and all that it passed are its start queue and all that joined it.
abbrev pub Balances : Network → State → (ℕ → ℕ) → ℕ → Type 0
Balances net state pass k = queue state k + pass k ≡ start_of net k + joined net (from_of net k) (received_by state (from_of net k)) k

-- What is known of link l: it received its even counts and all that passed into it.
abbrev pub Receives : Network → State → (ℕ → ℕ) → ℕ → Type 0
Receives net state pass l = received_by state l ≡ come_by net.per (link_at net l).rate state.period + sum_by pass (into_link net l)

-- all that passed, weighted by any vector, is at most the capacity of each period and what is counted downstream
abbrev pub PassesAll : Network → State → (ℕ → ℕ) → Type 0
PassesAll net state pass = (p : ℕ → ℕ) → sum_by (λ k. pass k * (net.shares * p k)) (movement_numbers net) ≤ state.period * capacity net p + sum_by (λ k. pass k * queued_downstream net p k) (movement_numbers net)

-- the account of a state: all that each movement has passed
pub record Account (net : Network) (state : State) : Type 0 where
  pub pass : ℕ → ℕ
  pub queues : AllByRecursion (Balances net state pass) (movement_numbers net)
  pub links : AllByRecursion (Receives net state pass) (link_numbers net)
  pub within : PassesAll net state pass

-- ---- the opening
opens_at : (net : Network) (k : ℕ) → has (movement_numbers net) k ≡ true → (link_in : has (link_numbers net) (from_of net k) ≡ true) → Balances net (opening net) (λ k. 0) k
opens_at net k here link_in =
    let q = numbered (start_of net) (length net.movements) k here in
    let n = numbered (λ l. 0) (length net.links) (from_of net k) link_in in
    let j : joined net (from_of net k) (received_by (opening net) (from_of net k)) k ≡ 0 = ap (λ n. joined net (from_of net k) n k) n in
    omega (arith, q, j)

nothing_comes : (per rate : ℕ) → come_by per rate 0 ≡ 0
nothing_comes per rate = let none : rate * 0 ≡ 0 = omega arith in ap (λ n. n / per) none ∙ zero-div per

pub account_opens : (net : Network) → IsNetwork net → Account net (opening net)
account_opens net ok = record {
  pass = λ k. 0;
  queues = each_in _ (movement_numbers net) (λ k here. opens_at net k here (at_in (λ k. has (link_numbers net) (from_of net k) ≡ true) k (movement_numbers net) here ok.from));
  links = each_in _ (link_numbers net) (λ l here. omega (arith, numbered (λ l. 0) (length net.links) l here, nothing_comes net.per (link_at net l).rate, sum_by-mul 0 (λ k. 0) (into_link net l)));
  within = λ p. omega (arith, sum_by-mul 0 (λ k. net.shares * p k) (movement_numbers net));
}

-- ---- a period
passed_le : (net : Network) (stages : List ℕ) (q : ℕ → ℕ) (k : ℕ) → passed net stages q k ≤ q k
passed_le net stages q k = cond-le (has_green net stages k && nat_lt 0 (positive_weight net q k)) (min (flow_of net k) (q k)) (q k) (omega arith)

moves_on : (q' q y s t start pass : ℕ) → q' ≡ q - y + (t - s) → y ≤ q → s ≤ t → q + pass ≡ start + s → q' + (pass + y) ≡ start + t
moves_on q' q y s t start pass e a b h = omega arith

balances_on : (net : Network) → IsNetwork net → (stages : List ℕ) (state : State) (pass : ℕ → ℕ) → AllByRecursion (Balances net state pass) (movement_numbers net) → (k : ℕ) → has (movement_numbers net) k ≡ true →
    Balances net (trail_period net stages state) (λ k. pass k + passed net stages (queue state) k) k
balances_on net ok stages state pass before k here =
    let q : ℕ → ℕ = queue state in
    let y : ℕ → ℕ = passed net stages q in
    let r : ℕ → ℕ = got net stages q (arrivals_of net (even_arrivals net (state.period + 1))) in
    let n : ℕ → ℕ = received_by state in
    let after : State = trail_period net stages state in
    let l = from_of net k in
    let link_in : has (link_numbers net) l ≡ true = at_in (λ k. has (link_numbers net) (from_of net k) ≡ true) k (movement_numbers net) here ok.from in
    let sums : sum_by (share_of net) (out_of net l) ≡ net.shares = at_in (λ l. sum_by (share_of net) (out_of net l) ≡ net.shares) l (link_numbers net) link_in ok.split in
    let more = grows net.shares (share_of net) (out_of net l) sums ok.shares (distinct_filter (λ k. from_of net k == l) (movement_numbers net) (range_distinct 1 _)) (n l) (r l) k in
    let queued : queue after k ≡ new_queue net (q k) (y k) (n l) (r l) k = numbered (λ k. new_queue net (q k) (y k) (n (from_of net k)) (r (from_of net k)) k) (length net.movements) k here in
    let received : received_by after l ≡ n l + r l = numbered (λ l. n l + r l) (length net.links) l link_in in
    subst (λ m. queue after k + (pass k + y k) ≡ start_of net k + joined net l m k) (sym received)
    (moves_on (queue after k) (q k) (y k) (joined net l (n l) k) (joined net l (n l + r l) k) (start_of net k) (pass k) queued (passed_le net stages q k) more (at_in (Balances net state pass) k (movement_numbers net) here before))

receives_on : (net : Network) → IsNetwork net → (stages : List ℕ) (state : State) (pass : ℕ → ℕ) → AllByRecursion (Receives net state pass) (link_numbers net) → (l : ℕ) → has (link_numbers net) l ≡ true →
    Receives net (trail_period net stages state) (λ k. pass k + passed net stages (queue state) k) l
receives_on net ok stages state pass before l here =
    let y : ℕ → ℕ = passed net stages (queue state) in
    let a : ℕ → ℕ = arrivals_of net (even_arrivals net (state.period + 1)) in
    let received : received_by (trail_period net stages state) l ≡ received_by state l + (a l + sum_by y (into_link net l)) = numbered (λ l. received_by state l + got net stages (queue state) a l) (length net.links) l here in
    omega (
      arith,
      received,
      at_in (Receives net state pass) l (link_numbers net) here before,
      even_on net (state.period + 1) l here,
      comes net.per (link_at net l).rate state.period ok.per,
      sum_by-add pass y (into_link net l),
    )

-- what passes times the share total times a vector is what passes times the positive weight and what is counted downstream, or less
one_passes : (y a b : ℕ) → y * a ≤ y * (a - b) + y * b
one_passes y a b = let most : a ≤ (a - b) + b = omega arith in omega (arith, mul-le-mul_left y most)

both_pass : (pass y x : ℕ) → (pass + y) * x ≡ pass * x + y * x
both_pass pass y x = omega arith

passes_on : (net : Network) (stages : List ℕ) (state : State) (pass : ℕ → ℕ) → PassesAll net state pass → PassesAll net (trail_period net stages state) (λ k. pass k + passed net stages (queue state) k)
passes_on net stages state pass before p =
    let ks = movement_numbers net in
    let y : ℕ → ℕ = passed net stages (queue state) in
    let x : ℕ → ℕ = λ k. net.shares * p k in
    let z : ℕ → ℕ = queued_downstream net p in
    let parts = sum_by-same (λ k. (pass k + y k) * x k) (λ k. pass k * x k + y k * x k) (λ k. both_pass (pass k) (y k) (x k)) ks in
    let added = sum_by-add (λ k. pass k * x k) (λ k. y k * x k) ks in
    let parts' = sum_by-same (λ k. (pass k + y k) * z k) (λ k. pass k * z k + y k * z k) (λ k. both_pass (pass k) (y k) (z k)) ks in
    let added' = sum_by-add (λ k. pass k * z k) (λ k. y k * z k) ks in
    let now = sum_by-le (λ k. y k * x k) (λ k. y k * positive_weight net p k + y k * z k) (λ k. one_passes (y k) (x k) (z k)) ks in
    let now' = sum_by-add (λ k. y k * positive_weight net p k) (λ k. y k * z k) ks in
    omega (arith, parts, added, parts', added', now, now', before p, passes_positive net stages (queue state) p)

pub account_goes_on : (net : Network) → IsNetwork net → (stages : List ℕ) (state : State) → Account net state → Account net (trail_period net stages state)
account_goes_on net ok stages state account = record {
  pass = λ k. account.pass k + passed net stages (queue state) k;
  queues = each_in _ (movement_numbers net) (λ k here. balances_on net ok stages state account.pass account.queues k here);
  links = each_in _ (link_numbers net) (λ l here. receives_on net ok stages state account.pass account.links l here);
  within = passes_on net stages state account.pass account.within;
}

-- ---- the trail
pub account_from : (net : Network) → IsNetwork net → (choices : List (List ℕ)) (state : State) → Account net state → Account net (trail_from net state choices)
account_from net ok [] state account = account
account_from net ok (stages ∷ choices) state account = account_from net ok choices (trail_period net stages state) (account_goes_on net ok stages state account)

pub periods_from : (net : Network) (choices : List (List ℕ)) (state : State) → (trail_from net state choices).period ≡ state.period + length choices
periods_from net [] state = omega arith
periods_from net (stages ∷ choices) state = omega (arith, periods_from net choices (trail_period net stages state))

-- ---- the growth
-- the rounding of what has come, of a link with this rate
lost_here : (H n T left v : ℕ) → 1 ≤ H → H * come_by H n T + left ≡ n * T → left < H → v * left ≤ (H - 1) * cond (nat_lt 0 n) v 0
lost_here H n T left v h e lt = go (nat_lt 0 n) refl
  where
    go : (b : Bool) → nat_lt 0 n ≡ b → v * left ≤ (H - 1) * cond b v 0
    go true t = let most : left ≤ H - 1 = omega arith in subst (λ m. v * left ≤ m) (mul_comm v (H - 1)) (mul-le-mul_left v most)
    go false t =
        let no_rate : n ≡ 0 = omega (arith, ltb-false 0 n t) in
        let none : left ≡ 0 = omega (arith, e, ap (λ m. m * T) no_rate) in
        omega (arith, ap (λ m. v * m) none)

one_grows : (W H w n T C i d s' q Y start S p N left : ℕ) → q + Y ≡ start + S → N ≡ C + i → w * N ≤ W * S + d * s' → H * C + left ≡ n * T → p * w * left ≤ (H - 1) * cond (nat_lt 0 n) (p * w) 0 →
    T * (p * w * n) + H * (w * p * i) ≤ W * H * (p * q) + H * (Y * (W * p)) + H * (p * d * s') + (H - 1) * cond (nat_lt 0 n) (p * w) 0
one_grows W H w n T C i d s' q Y start S p N left balance received credit come lost =
    let passed : W * S ≤ W * q + W * Y = let most : S ≤ q + Y = omega arith in omega (arith, mul-le-mul_left W most) in
    let shared : w * C + w * i ≤ W * q + W * Y + d * s' = omega (arith, ap (λ m. w * m) received) in
    omega (arith, lost, mul-le-mul_left (H * p) shared, ap (λ m. p * w * m) come)

grows_at : (net : Network) → IsNetwork net → (state : State) (account : Account net state) (p : ℕ → ℕ) (k : ℕ) → has (movement_numbers net) k ≡ true →
    state.period * (p k * share_of net k * rate_before net k) + net.per * (share_of net k * p k * sum_by account.pass (into_link net (from_of net k)))
    ≤ net.shares * net.per * (p k * queue state k) + net.per * (account.pass k * (net.shares * p k)) + net.per * lost_to_split net p k + (net.per - 1) * cond (nat_lt 0 (rate_before net k)) (p k * share_of net k) 0
grows_at net ok state account p k here =
    let l = from_of net k in
    let ks = out_of net l in
    let n = rate_before net k in
    let N = received_by state l in
    let link_in : has (link_numbers net) l ≡ true = at_in (λ k. has (link_numbers net) (from_of net k) ≡ true) k (movement_numbers net) here ok.from in
    let sums : sum_by (share_of net) ks ≡ net.shares = at_in (λ l. sum_by (share_of net) (out_of net l) ≡ net.shares) l (link_numbers net) link_in ok.split in
    let dist : IsDistinct ◌==◌ ks = distinct_filter (λ k. from_of net k == l) (movement_numbers net) (range_distinct 1 _) in
    let there : has ks k ≡ true = has_filter (λ k. from_of net k == l) k (movement_numbers net) here (eq-eqb l l refl) in
    let credit = at_in (λ k. share_of net k * N ≤ net.shares * joined net l N k + (length ks - 1) * (net.shares - 1)) k ks there (upper net.shares (share_of net) ks sums ok.shares dist N) in
    let rounding = (come net.per n state.period).whole in
    let left = n * state.period % net.per in
    one_grows net.shares net.per (share_of net k) n state.period (come_by net.per n state.period) (sum_by account.pass (into_link net l)) (length ks - 1) (net.shares - 1) (queue state k) (account.pass k) (start_of net k) (joined net l N k) (p k) N left
    (at_in (Balances net state account.pass) k (movement_numbers net) here account.queues) (at_in (Receives net state account.pass) l (link_numbers net) link_in account.links) credit rounding
    (lost_here net.per n state.period left (p k * share_of net k) ok.per rounding (mod-lt (n * state.period) ok.per))

pub grown : (net : Network) → IsNetwork net → (state : State) → Account net state → (p : ℕ → ℕ) →
    state.period * load net p ≤ weighed_queues net p (queue state) + lost_to_rounding net p + state.period * (net.per * capacity net p)
grown net ok state account p =
    let ks = movement_numbers net in
    let T = state.period in
    let H = net.per in
    let W = net.shares in
    let Y : ℕ → ℕ = account.pass in
    let brought : ℕ → ℕ = λ k. p k * share_of net k * rate_before net k in
    let into : ℕ → ℕ = λ k. share_of net k * p k * sum_by Y (into_link net (from_of net k)) in
    let held : ℕ → ℕ = λ k. p k * queue state k in
    let out : ℕ → ℕ = λ k. Y k * (W * p k) in
    let rounded : ℕ → ℕ = λ k. cond (nat_lt 0 (rate_before net k)) (p k * share_of net k) 0 in
    let all = sum_by-le_at (λ k. T * brought k + H * into k) (λ k. W * H * held k + H * out k + H * lost_to_split net p k + (H - 1) * rounded k) ks (each_in _ ks (grows_at net ok state account p)) in
    let a1 = sum_by-add (λ k. T * brought k) (λ k. H * into k) ks in
    let m1 = sum_by-mul T brought ks in
    let m2 = sum_by-mul H into ks in
    let a2 = sum_by-add (λ k. W * H * held k + H * out k + H * lost_to_split net p k) (λ k. (H - 1) * rounded k) ks in
    let a3 = sum_by-add (λ k. W * H * held k + H * out k) (λ k. H * lost_to_split net p k) ks in
    let a4 = sum_by-add (λ k. W * H * held k) (λ k. H * out k) ks in
    let m3 = sum_by-mul (W * H) held ks in
    let m4 = sum_by-mul H out ks in
    let m5 = sum_by-mul H (lost_to_split net p) ks in
    let m6 = sum_by-mul (H - 1) rounded ks in
    let filtered = ap (λ n. (H - 1) * n) (sum_by-filter (λ k. nat_lt 0 (rate_before net k)) (λ k. p k * share_of net k) ks) in
    let turned = ap (λ n. H * n) (exchange net Y (λ k. share_of net k * p k)) in
    let served = mul-le-mul_left H (account.within p) in
    omega (arith, all, a1, m1, m2, a2, a3, a4, m3, m4, m5, m6, filtered, turned, served)

signed : (T load served lost queues : ℕ) → T * load ≤ queues + lost + T * served → (pos T *ℤ (pos load -ℤ pos served) -ℤ pos lost) ≤ℤ pos queues
signed T load served lost queues h = simp ring (omega (arith, ints, h))

pub has_grown : (net : Network) → IsNetwork net → (state : State) → Account net state → (p : ℕ → ℕ) → HasGrown net p state.period (queue state)
has_grown net ok state account p = signed state.period (load net p) (net.per * capacity net p) (lost_to_rounding net p) (weighed_queues net p (queue state)) (grown net ok state account p)

pub on_trail : (net : Network) → IsNetwork net → (state : State) → IsOnTrail net state → (p : ℕ → ℕ) → HasGrown net p state.period (queue state)
on_trail net ok state t p = has_grown net ok state (subst (Account net) (sym t.1) (account_from net ok t.0 (opening net) (account_opens net ok))) p

pub grows_along : (net : Network) → IsNetwork net → (p : ℕ → ℕ) (choices : List (List ℕ)) → HasGrown net p (length choices) (queue (trail net choices))
grows_along net ok p choices =
    let periods : (trail net choices).period ≡ length choices = omega (arith, periods_from net choices (opening net)) in
    subst (λ T. HasGrown net p T (queue (trail net choices))) periods (on_trail net ok (trail net choices) (choices, refl) p)
