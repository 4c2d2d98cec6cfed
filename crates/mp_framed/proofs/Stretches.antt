-- Periods in which anything passes are stretches, and stretches add.
use Rattle.std.proofs.Common.{◌≡◌, ◌==◌, ℕ, ◌+◌, ◌-◌, ◌*◌, ◌%◌, ◌≤◌, true, length, sum_by, arith, refl, sym, ◌∙◌, ap, mod-lt, eq-eqb, zero-le}
use Rattle.std.proofs.Math.Nat.{mod-add-mod, mod-mod}
use Rattle.mp_laws.proofs.Credits.{grows, phases}
use Rattle.mp_laws.proofs.Distinct.{range_distinct, distinct_filter}
use Rattle.mp_laws.proofs.Lists.{at_in, each_in, has_filter, numbered}
use Rattle.mp_laws.proofs.Sums.{sum_by-add, sum_by-zero}
use Rattle.mp_laws.specs.Periods.{IsLinkStretch, IsStretch, IsWithin, phase_of}
use Rattle.mp_model.specs.Arrivals.{next_level}
use Rattle.mp_model.specs.Network.{Network, movement_numbers, link_numbers, link_at, from_of, share_of, flow_of, out_of, into_link, has}
use Rattle.mp_model.specs.NetworkRules.{IsNetwork}
use Rattle.mp_model.specs.Step.{State, queue, received_by, got_by, joined, new_queue, step_by}

module _ (net : Network) (ok : IsNetwork net) where
  -- the split goes on from a phase as from the number received
  turned : (k : ℕ) → has (movement_numbers net) k ≡ true → (n r : ℕ) → let l = from_of net k in
      (joined net l (n + r) k + joined net l (n % net.shares) k ≡ joined net l (n % net.shares + r) k + joined net l n k) × (joined net l n k ≤ joined net l (n + r) k)
  turned k here n r =
      let W = net.shares in
      let l = from_of net k in
      let ks = out_of net l in
      let link_in : has (link_numbers net) l ≡ true = at_in (λ k. has (link_numbers net) (from_of net k) ≡ true) k (movement_numbers net) here ok.from in
      let sums : sum_by (share_of net) ks ≡ W = at_in (λ l. sum_by (share_of net) (out_of net l) ≡ net.shares) l (link_numbers net) link_in ok.split in
      let dist = distinct_filter (λ k. from_of net k == l) (movement_numbers net) (range_distinct 1 _) in
      let out : has ks k ≡ true = has_filter (λ k. from_of net k == l) k (movement_numbers net) here (eq-eqb l l refl) in
      let same = at_in (λ k. joined net l (n + r) k - joined net l n k ≡ joined net l (n % W + r) k - joined net l (n % W) k) k ks out (phases W (share_of net) ks sums ok.shares dist n r) in
      let up = grows W (share_of net) ks sums ok.shares dist n r k in
      let up' = grows W (share_of net) ks sums ok.shares dist (n % W) r k in
      (omega arith, up)

  -- a period in which no movement passes more than its flow or its queue is a stretch of one
  pub step_stretch : (pass arrivals : ℕ → ℕ) (state : State) (level : ℕ → ℕ) → IsWithin net level → ((k : ℕ) → (pass k ≤ flow_of net k) × (pass k ≤ queue state k)) →
      let next = step_by net pass arrivals state in
      IsStretch net 1 pass arrivals (queue state) (phase_of net state) level (queue next) (phase_of net next) (λ l. next_level net.per (link_at net l).rate (level l) (arrivals l))
  step_stretch pass arrivals state level within few =
      let W = net.shares in
      let r : ℕ → ℕ = got_by net pass arrivals in
      record {
        flows = each_in _ (movement_numbers net) (λ k here. omega (arith, (few k).0));
        links = each_in _ (link_numbers net) (λ l here. record {
          phase_in = mod-lt (received_by state l) ok.shares;
          moved = ap (λ n. n % W) (numbered (λ l. received_by state l + r l) (length net.links) l here) ∙ sym (mod-add-mod (received_by state l) W (r l));
          falls = omega arith;
          rises = omega arith;
          within = at_in (λ l. level l ≤ net.per * (link_at net l).burst) l (link_numbers net) here within;
        });
        queues = each_in _ (movement_numbers net) (λ k here.
            let l = from_of net k in
            let t = turned k here (received_by state l) (r l) in
            let new = numbered (λ k. new_queue net (queue state k) (pass k) (received_by state (from_of net k)) (r (from_of net k)) k) (length net.movements) k here in
            omega (arith, t.0, t.1, (few k).1, new));
      }

  -- nothing moves in no period
  pub no_stretch : (state : State) (level : ℕ → ℕ) → IsWithin net level → IsStretch net 0 (λ k. 0) (λ l. 0) (queue state) (phase_of net state) level (queue state) (phase_of net state) level
  no_stretch state level within =
      let W = net.shares in
      let none : (l : ℕ) → phase_of net state l + got_by net (λ k. 0) (λ l. 0) l ≡ phase_of net state l = λ l. omega (arith, sum_by-zero (into_link net l)) in
      record {
        flows = each_in _ (movement_numbers net) (λ k here. zero-le);
        links = each_in _ (link_numbers net) (λ l here. record {
          phase_in = mod-lt (received_by state l) ok.shares;
          moved = sym (ap (λ n. n % W) (none l) ∙ mod-mod (received_by state l) W);
          falls = omega arith;
          rises = omega arith;
          within = at_in (λ l. level l ≤ net.per * (link_at net l).burst) l (link_numbers net) here within;
        });
        queues = each_in _ (movement_numbers net) (λ k here. omega (arith, ap (λ n. joined net (from_of net k) n k) (none (from_of net k))));
      }

  -- a stretch and the next one are a longer stretch
  pub stretch_more : (m n : ℕ) (pass arrivals more further q phase level q' phase' level' q'' phase'' level'' : ℕ → ℕ) →
      IsStretch net m pass arrivals q phase level q' phase' level' → IsStretch net n more further q' phase' level' q'' phase'' level'' →
      IsStretch net (m + n) (λ k. pass k + more k) (λ l. arrivals l + further l) q phase level q'' phase'' level''
  stretch_more m n pass arrivals more further q phase level q' phase' level' q'' phase'' level'' s t =
      let W = net.shares in
      let g : ℕ → ℕ = got_by net pass arrivals in
      let h : ℕ → ℕ = got_by net more further in
      let all : ℕ → ℕ = got_by net (λ k. pass k + more k) (λ l. arrivals l + further l) in
      let both : (l : ℕ) → all l ≡ g l + h l = λ l. omega (arith, sum_by-add pass more (into_link net l)) in
      let link : (l : ℕ) → has (link_numbers net) l ≡ true → IsLinkStretch net m pass arrivals phase level phase' level' l = λ l here. at_in (IsLinkStretch net m pass arrivals phase level phase' level') l (link_numbers net) here s.links in
      record {
        flows = each_in _ (movement_numbers net) (λ k here.
            omega (arith, at_in (λ k. pass k ≤ m * flow_of net k) k (movement_numbers net) here s.flows, at_in (λ k. more k ≤ n * flow_of net k) k (movement_numbers net) here t.flows));
        links = each_in _ (link_numbers net) (λ l here.
            let a = link l here in
            let b = at_in (IsLinkStretch net n more further phase' level' phase'' level'') l (link_numbers net) here t.links in
            record {
              phase_in = a.phase_in;
              moved = b.moved ∙ ap (λ f. (f + h l) % W) a.moved ∙ mod-add-mod (phase l + g l) W (h l) ∙ ap (λ f. f % W) (omega (arith, both l));
              falls = omega (arith, a.falls, b.falls);
              rises = omega (arith, a.rises, b.rises);
              within = a.within;
            });
        queues = each_in _ (movement_numbers net) (λ k here.
            let l = from_of net k in
            let link_in : has (link_numbers net) l ≡ true = at_in (λ k. has (link_numbers net) (from_of net k) ≡ true) k (movement_numbers net) here ok.from in
            let moved = (link l link_in).moved in
            let f = phase l + g l in
            let split : ℕ → ℕ = λ n. joined net l n k in
            let one = at_in (λ k. q' k + pass k + joined net (from_of net k) (phase (from_of net k)) k ≡ q k + joined net (from_of net k) (phase (from_of net k) + g (from_of net k)) k) k (movement_numbers net) here s.queues in
            let two = at_in (λ k. q'' k + more k + joined net (from_of net k) (phase' (from_of net k)) k ≡ q' k + joined net (from_of net k) (phase' (from_of net k) + h (from_of net k)) k) k (movement_numbers net) here t.queues in
            let whole : split (phase l + all l) ≡ split (f + h l) = ap split (omega (arith, both l)) in
            let before : split (phase' l) ≡ split (f % W) = ap split moved in
            let after : split (phase' l + h l) ≡ split (f % W + h l) = ap (λ n. split (n + h l)) moved in
            omega (arith, one, two, whole, before, after, (turned k here f (h l)).0));
      }

  -- no more than has passed is missing from a queue after a stretch
  pub queue_left : (m : ℕ) (pass arrivals q phase level q' phase' level' : ℕ → ℕ) → IsStretch net m pass arrivals q phase level q' phase' level' → (k : ℕ) → has (movement_numbers net) k ≡ true → q k ≤ q' k + pass k
  queue_left m pass arrivals q phase level q' phase' level' s k here =
      let l = from_of net k in
      let one = at_in (λ k. q' k + pass k + joined net (from_of net k) (phase (from_of net k)) k ≡ q k + joined net (from_of net k) (phase (from_of net k) + got_by net pass arrivals (from_of net k)) k) k (movement_numbers net) here s.queues in
      omega (arith, one, (turned k here (phase l) (got_by net pass arrivals l)).1)
