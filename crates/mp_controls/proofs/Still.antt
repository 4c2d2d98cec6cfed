-- A period in which nothing is queued raises the drift value by less than the drift constant.
use Rattle.std.proofs.Common.{◌≡◌, ◌==◌, ℕ, ◌+◌, ◌-◌, ◌*◌, ◌%◌, ◌≤◌, ◌<◌, min, Bool, true, false, cond, ◌&&◌, List, [], ◌∷◌, sum_by, ℤ, pos, ◌+ℤ◌, ◌-ℤ◌, ◌*ℤ◌, ◌≤ℤ◌, neg_ℤ, nat_abs, nat_lt, arith, refl, sym, ◌∙◌, ap, subst, mul-le-mul, mul-le-mul_left, zero-le, eq-eqb, le_trans, ⊎_elim}
use Rattle.std.specs.List.{IsDistinct}
use Rattle.std.proofs.lemmas.Int.{ints}
use Rattle.std.proofs.lemmas.Bool.{cases_lt}
use Rattle.std.proofs.lemmas.List.Sums.{sum_by-cons}
use Rattle.std.proofs.Math.Nat.{le_of_mul-le-mul_left}
use Rattle.mp_model.specs.Bounds.{credit_term, step_term}
use Rattle.mp_model.specs.DriftValue.{corrected_queue}
use Rattle.mp_model.specs.Network.{Network, Junction, movement_numbers, link_numbers, from_of, share_of, flow_of, rate_before, out_of, into_link, goes_to, to_of, has, own, stands_in}
use Rattle.mp_model.specs.NetworkRules.{IsNetwork}
use Rattle.mp_model.specs.Pressure.{positive_weight}
use Rattle.mp_model.specs.Split.{split_counts, credit, credit_of}
use Rattle.mp_model.specs.Step.{passed, joined, has_green, got}
use Rattle.mp_laws.specs.Periods.{IsLinkPeriod, IsPeriod, IsWithin}
use Rattle.mp_laws.proofs.Credits.{grows, credit_phase}
use Rattle.mp_laws.proofs.Distinct.{range_distinct, distinct_filter}
use Rattle.mp_laws.proofs.Drift.{cond-le, near_queue}
use Rattle.mp_laws.proofs.Lists.{at_in, has_filter}
use Rattle.mp_laws.proofs.PlainCertificate.{PlainCert, PlainMix, Holds, AllServe, Balances, plain_h, plain_inflow, plain_parts_with}
use Rattle.mp_laws.proofs.Signed.{ring, drift_squares}
use Rattle.mp_laws.proofs.Sums.{sum_by-le, sum_by-filter, terms_le}

-- the parts of some stages sum to at most all parts
parts_most : (stages : List (List ℕ)) (parts : List ℕ) (k : ℕ) → plain_parts_with stages parts k ≤ sum_by (λ x. x) parts
parts_most [] parts k = zero-le
parts_most (stage ∷ stages) [] k = zero-le
parts_most (stage ∷ stages) (part ∷ parts) k = omega (arith, sum_by-cons (λ x. x) part parts, cond-le (has stage k) part part (omega arith), parts_most stages parts k)

serve_numbers : (m h c s t d : ℕ) → 1 ≤ m → m * h ≤ c * s → s ≤ t → t ≤ m * d → h ≤ c * d
serve_numbers m h c s t d some serve most mass = le_of_mul-le-mul_left {k = m} (omega (arith, mul-le-mul_left c most, mul-le-mul_left c mass)) some

-- so the rate of a movement is at most its flow
pub rate_most : (net : Network) (d : ℕ) (h : ℕ → ℕ) (k : ℕ) → has (movement_numbers net) k ≡ true → (js : List Junction) (mixes : List PlainMix) → AllServe net d h js mixes → 1 ≤ sum_by (λ j. cond (stands_in j k) 1 0) js → h k ≤ flow_of net k * d
rate_most net d h k here [] mixes serves some = absurd (omega arith)
rate_most net d h k here (j ∷ js) [] serves some = absurd serves
rate_most net d h k here (j ∷ js) (mix ∷ mixes) serves some = go (rate_most net d h k here js mixes serves.1) (stands_in j k) refl
  where
    go : (1 ≤ sum_by (λ j. cond (stands_in j k) 1 0) js → h k ≤ flow_of net k * d) → (b : Bool) → stands_in j k ≡ b → h k ≤ flow_of net k * d
    go more true e = serve_numbers mix.whole (h k) (flow_of net k) (plain_parts_with j.stages mix.parts k) (sum_by (λ x. x) mix.parts) d serves.0.whole
        (at_in (λ k. mix.whole * h k ≤ flow_of net k * plain_parts_with j.stages mix.parts k) k (own net j) (has_filter (stands_in j) k (movement_numbers net) here e) serves.0.serve)
        (parts_most j.stages mix.parts k) serves.0.mass
    go more false e = let none : cond {A = ℕ} (stands_in j k) 1 0 ≡ 0 = ap {B = ℕ} (λ b. cond b 1 0) e in more (omega (arith, sum_by-cons (λ j. cond (stands_in j k) 1 0) j js))

balance_numbers : (w d n i H r e h c : ℕ) → 1 ≤ r → 1 ≤ e → 1 ≤ d → w * (d * n + H * i) + r * e ≤ r * h → h ≤ c * d → w * n + 1 ≤ r * c
balance_numbers w d n i H r e h c r1 e1 d1 balance rate =
    ⊎_elim (λ (a : w * n < r * c). omega arith)
    (λ (a : r * c ≤ w * n). absurd (omega (arith, mul-le-mul_left d a, mul-le-mul_left r rate, mul-le-mul r1 e1))) (cases_lt (w * n) (r * c))

-- what the rate of its link brings a movement is less than what it can pass
pub brings_less : (net : Network) → IsNetwork net → (cert : PlainCert) → Holds net cert → 1 ≤ cert.e → (k : ℕ) → has (movement_numbers net) k ≡ true → share_of net k * rate_before net k + 1 ≤ net.shares * net.per * flow_of net k
brings_less net ok cert holds some k here =
    let placed = at_in (λ k. sum_by (λ j. cond (stands_in j k) 1 0) net.junctions ≡ 1) k (movement_numbers net) here ok.placed in
    let rate = rate_most net cert.d (plain_h cert) k here net.junctions cert.mixes holds.served (omega arith) in
    let balance = at_in (Balances net cert) k (movement_numbers net) here holds.balance in
    balance_numbers (share_of net k) cert.d (rate_before net k) (plain_inflow net (plain_h cert) k) net.per (net.shares * net.per) cert.e (plain_h cert k) (flow_of net k)
    (mul-le-mul ok.shares ok.per) some holds.d balance rate

-- where nothing is queued or passes, the corrected queue moves by what arrives less what the level takes
still_moves : (W H w q' s s' f a b b' : ℕ) → q' + s ≡ s' →
    pos (W * H * q') +ℤ pos H *ℤ (pos (w * (f + a)) -ℤ pos (W * s')) -ℤ pos (w * b')
    ≡ (pos (W * H * 0) +ℤ pos H *ℤ (pos (w * f) -ℤ pos (W * s)) -ℤ pos (w * b)) +ℤ (pos (H * (w * a)) -ℤ (pos (w * b') -ℤ pos (w * b)))
still_moves W H w q' s s' f a b b' e = simp ring (omega (arith, ints, ap (λ n. W * H * n) e))

moves_up : (H w a b b' n : ℕ) → H * a + b ≤ b' + n → (pos (H * (w * a)) -ℤ (pos (w * b') -ℤ pos (w * b))) ≤ℤ pos (w * n)
moves_up H w a b b' n h = omega (arith, ints, mul-le-mul_left w h)

moves_down : (H w a b b' n : ℕ) → b' ≤ b + H * a → neg_ℤ (pos n) ≤ℤ (pos (H * (w * a)) -ℤ (pos (w * b') -ℤ pos (w * b)))
moves_down H w a b b' n h = omega (arith, ints, mul-le-mul_left w h)

squares_below : (s' s K m M : ℕ) → s' ≤ s + 2 * (K * m) + m * m → m + 1 ≤ M → s' + 1 ≤ s + 2 * (K * M) + M * M
squares_below s' s K m M h lt = let e : M ≡ m + 1 + (M - (m + 1)) = omega arith in subst (λ x. s' + 1 ≤ s + 2 * (K * x) + x * x) (sym e) (omega arith)

within_of_abs : (x : ℤ) (g K : ℕ) → nat_abs x ≤ g + K → g ≡ 0 → (neg_ℤ (pos K) ≤ℤ (x -ℤ pos 0)) × ((x -ℤ pos 0) ≤ℤ pos K)
within_of_abs x g K h z = (omega (arith, ints), omega (arith, ints))

still_plain : (W H w q q' s s' f a b b' n K M : ℕ) → q ≡ 0 → q' + s ≡ s' → H * a + b ≤ b' + n → b' ≤ b + H * a → w * n + 1 ≤ M →
    let x' = pos (W * H * q') +ℤ pos H *ℤ credit_of W w (f + a) s' -ℤ pos (w * b') in
    let x = pos (W * H * q) +ℤ pos H *ℤ credit_of W w f s -ℤ pos (w * b) in
    nat_abs x ≤ W * H * q + K → nat_abs x' * nat_abs x' + 1 ≤ nat_abs x * nat_abs x + 2 * (K * M) + M * M
still_plain W H w q q' s s' f a b b' n K M none queue falls rises less near =
    let x = pos (W * H * q) +ℤ pos H *ℤ credit_of W w f s -ℤ pos (w * b) in
    let v = pos (H * (w * a)) -ℤ (pos (w * b') -ℤ pos (w * b)) in
    let g : W * H * q ≡ 0 = omega (arith, ap (λ n. W * H * n) none) in
    let k = within_of_abs x (W * H * q) K near g in
    let moved : pos (W * H * q') +ℤ pos H *ℤ credit_of W w (f + a) s' -ℤ pos (w * b') ≡ x +ℤ v = still_moves W H w q' s s' f a b b' queue ∙ ap (λ n. pos (W * H * n) +ℤ pos H *ℤ credit_of W w f s -ℤ pos (w * b) +ℤ v) (sym none) in
    let up = moves_up H w a b b' n falls in
    squares_below _ (nat_abs x * nat_abs x) K (w * n) M
    (subst (λ z. nat_abs z * nat_abs z ≤ nat_abs x * nat_abs x + 2 * (K * (w * n)) + (w * n) * (w * n)) (sym moved)
    (omega (arith, drift_squares x v 0 K (w * n) (w * n) 0 k.0 k.1 (moves_down H w a b b' (w * n) rises) up (omega (arith, ints)))))
    less

module _ (net : Network) (ok : IsNetwork net) (stages : List ℕ) (arrivals q phase level q' phase' level' : ℕ → ℕ) (period : IsPeriod net stages arrivals q phase level q' phase' level') (within : IsWithin net level) (none : sum_by q (movement_numbers net) ≡ 0) where
  passed_queue : (k : ℕ) → passed net stages q k ≤ q k
  passed_queue k = cond-le (has_green net stages k && nat_lt 0 (positive_weight net q k)) (min (flow_of net k) (q k)) (q k) (omega arith)

  none_passes : (l : ℕ) → sum_by (passed net stages q) (into_link net l) ≡ 0
  none_passes l =
      let t : ℕ → Bool = λ k. goes_to (to_of net k) l in
      omega (arith, sum_by-filter t (passed net stages q) (movement_numbers net), sum_by-le (λ k. cond (t k) (passed net stages q k) 0) q (λ k. le_trans (cond-le (t k) (passed net stages q k) (passed net stages q k) (omega arith)) (passed_queue k)) (movement_numbers net))

  pub still_movement : (k : ℕ) → has (movement_numbers net) k ≡ true → share_of net k * rate_before net k + 1 ≤ net.shares * net.per * flow_of net k →
      nat_abs (corrected_queue net q' phase' level' k) * nat_abs (corrected_queue net q' phase' level' k) + 1
      ≤ nat_abs (corrected_queue net q phase level k) * nat_abs (corrected_queue net q phase level k) + 2 * (credit_term net k * step_term net k) + step_term net k * step_term net k
  still_movement k in' less =
      let W = net.shares in
      let H = net.per in
      let l = from_of net k in
      let ks = out_of net l in
      let link_in : has (link_numbers net) l ≡ true = at_in (λ k. has (link_numbers net) (from_of net k) ≡ true) k (movement_numbers net) in' ok.from in
      let link : IsLinkPeriod net stages arrivals q phase level phase' level' l = at_in (IsLinkPeriod net stages arrivals q phase level phase' level') l (link_numbers net) link_in period.links in
      let sums : sum_by (share_of net) ks ≡ W = at_in (λ l. sum_by (share_of net) (out_of net l) ≡ net.shares) l (link_numbers net) link_in ok.split in
      let dist : IsDistinct ◌==◌ ks = distinct_filter (λ k. from_of net k == l) (movement_numbers net) (range_distinct 1 _) in
      let here : has ks k ≡ true = has_filter (λ k. from_of net k == l) k (movement_numbers net) in' (eq-eqb l l refl) in
      let r = got net stages q arrivals l in
      let r_is : r ≡ arrivals l = let z = none_passes l in omega arith in
      let s = split_counts W (share_of net) ks (phase l) k in
      let s' = split_counts W (share_of net) ks (phase l + r) k in
      let more : s ≤ s' = grows W (share_of net) ks sums ok.shares dist (phase l) r k in
      let zero_here : q k ≡ 0 = let t = at_in (λ k. q k ≤ sum_by q (movement_numbers net)) k (movement_numbers net) in' (terms_le q (movement_numbers net)) in omega arith in
      let queue = at_in (λ k. q' k ≡ q k - passed net stages q k + (joined net (from_of net k) (phase (from_of net k) + got net stages q arrivals (from_of net k)) k - joined net (from_of net k) (phase (from_of net k)) k)) k (movement_numbers net) in' period.queues in
      let kept : q' k + s ≡ s' = omega arith in
      let turned : credit W (share_of net) ks (phase' l) k ≡ credit W (share_of net) ks (phase l + r) k =
      ap (λ n. credit W (share_of net) ks n k) link.moved ∙ at_in (λ k. credit W (share_of net) ks ((phase l + r) % W) k ≡ credit W (share_of net) ks (phase l + r) k) k ks here (credit_phase W (share_of net) ks sums ok.shares dist (phase l + r)) in
      let falls : H * r + level l ≤ level' l + rate_before net k = subst (λ a. H * a + level l ≤ level' l + rate_before net k) (sym r_is) link.falls in
      let rises : level' l ≤ level l + H * r = subst (λ a. level' l ≤ level l + H * a) (sym r_is) link.rises in
      let plain = still_plain W H (share_of net k) (q k) (q' k) s s' (phase l) r (level l) (level' l) (rate_before net k) (credit_term net k) (step_term net k) zero_here kept falls rises (omega arith) (near_queue net ok q phase level within k in').0 in
      subst (λ c. nat_abs (pos (W * H * q' k) +ℤ pos H *ℤ c -ℤ pos (share_of net k * level' l)) * nat_abs (pos (W * H * q' k) +ℤ pos H *ℤ c -ℤ pos (share_of net k * level' l)) + 1
      ≤ nat_abs (corrected_queue net q phase level k) * nat_abs (corrected_queue net q phase level k) + 2 * (credit_term net k * step_term net k) + step_term net k * step_term net k) (sym turned) plain
