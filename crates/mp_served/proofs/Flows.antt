-- What a run under lights moves, period by period and over rows of periods.
use Rattle.std.proofs.Common.{◌≡◌, ◌==◌, ℕ, zero, suc, ◌+◌, ◌-◌, ◌*◌, ◌≤◌, min, Bool, true, false, cond, length, sum_by, arith, sym, ap, subst}
use Rattle.mp_laws.proofs.Credits.{grows}
use Rattle.mp_laws.proofs.Distinct.{range_distinct, distinct_filter}
use Rattle.mp_laws.proofs.Lists.{at_in, numbered}
use Rattle.mp_laws.proofs.Permitted.{stays}
use Rattle.mp_laws.proofs.Sums.{sum_by-add, sum_by-zero}
use Rattle.mp_laws.proofs.Windows.{keeps_to}
use Rattle.mp_model.specs.Arrivals.{IsPermitted, StaysWithin, arrivals_of, counts_of}
use Rattle.mp_model.specs.Lights.{Lights, lit_arrivals, lit_state}
use Rattle.mp_model.specs.Network.{Network, movement_numbers, link_numbers, link_at, from_of, flow_of, share_of, start_of, out_of, into_link, has}
use Rattle.mp_model.specs.NetworkRules.{IsNetwork}
use Rattle.mp_model.specs.Step.{queue, received_by, joined}
use Rattle.mp_served.specs.Bounds.{total, passes_at}
use Rattle.mp_served.specs.Busy.{IsServed}
use Rattle.mp_served.proofs.Rows.{add_none, add_next, row_keeps}

cond_le : (b : Bool) (x y : ℕ) → x ≤ y → cond b x 0 ≤ y
cond_le true x y le = le
cond_le false x y le = omega arith

module _ (net : Network) (ok : IsNetwork net) (lights : Lights) where
  abbrev pub queue_at : ℕ → ℕ → ℕ
  queue_at k t = queue (lit_state net lights t) k

  abbrev pub received_at : ℕ → ℕ → ℕ
  received_at l t = received_by (lit_state net lights t) l

  abbrev pub came_at : ℕ → ℕ → ℕ
  came_at k t = joined net (from_of net k) (received_at (from_of net k) t) k

  abbrev pub arrived_at : ℕ → ℕ → ℕ
  arrived_at l t = arrivals_of net (lights.arrivals t) l

  pub passes_few : (k t : ℕ) → passes_at net lights k t ≤ queue_at k t
  passes_few k t = cond_le (lights.green t k) (min (flow_of net k) (queue_at k t)) (queue_at k t) (omega arith)

  pub received_more : (l t : ℕ) → has (link_numbers net) l ≡ true → received_at l (suc t) ≡ received_at l t + (arrived_at l t + sum_by (λ j. passes_at net lights j t) (into_link net l))
  received_more l t in' = numbered (λ l. received_at l t + (arrived_at l t + sum_by (λ j. passes_at net lights j t) (into_link net l))) (length net.links) l in'

  pub links_in : (k : ℕ) → has (movement_numbers net) k ≡ true → has (link_numbers net) (from_of net k) ≡ true
  links_in k in' = at_in (λ k. has (link_numbers net) (from_of net k) ≡ true) k (movement_numbers net) in' ok.from

  pub joined_more : (k n r : ℕ) → has (movement_numbers net) k ≡ true → joined net (from_of net k) n k ≤ joined net (from_of net k) (n + r) k
  joined_more k n r in' =
      let l = from_of net k in
      let sums : sum_by (share_of net) (out_of net l) ≡ net.shares = at_in (λ l. sum_by (share_of net) (out_of net l) ≡ net.shares) l (link_numbers net) (links_in k in') ok.split in
      grows net.shares (share_of net) (out_of net l) sums ok.shares (distinct_filter (λ k. from_of net k == l) (movement_numbers net) (range_distinct 1 _)) n r k

  pub queue_more : (k t : ℕ) → has (movement_numbers net) k ≡ true → queue_at k (suc t) + passes_at net lights k t + came_at k t ≡ queue_at k t + came_at k (suc t)
  queue_more k t in' =
      let l = from_of net k in
      let r : ℕ = arrived_at l t + sum_by (λ j. passes_at net lights j t) (into_link net l) in
      let new : queue_at k (suc t) ≡ queue_at k t - passes_at net lights k t + (joined net l (received_at l t + r) k - joined net l (received_at l t) k) =
      numbered (λ k. queue_at k t - passes_at net lights k t + (joined net (from_of net k) (received_at (from_of net k) t + (arrived_at (from_of net k) t + sum_by (λ j. passes_at net lights j t) (into_link net (from_of net k)))) k - joined net (from_of net k) (received_at (from_of net k) t) k)) (length net.movements) k in' in
      let came : came_at k (suc t) ≡ joined net l (received_at l t + r) k = ap (λ n. joined net l n k) (received_more l t (links_in k in')) in
      let more = joined_more k (received_at l t) r in' in
      let few = passes_few k t in
      omega arith

  -- at the opening
  pub first_queue : (k : ℕ) → has (movement_numbers net) k ≡ true → queue_at k 0 ≡ start_of net k
  first_queue k in' = numbered (start_of net) (length net.movements) k in'

  pub none_received : (l : ℕ) → has (link_numbers net) l ≡ true → received_at l 0 ≡ 0
  none_received l in' = numbered (λ l. 0) (length net.links) l in'

  pub none_came : (k : ℕ) → has (movement_numbers net) k ≡ true → came_at k 0 ≡ 0
  none_came k in' = ap (λ n. joined net (from_of net k) n k) (none_received (from_of net k) (links_in k in'))

  pub served : (k : ℕ) → has (movement_numbers net) k ≡ true → IsServed (flow_of net k) (λ t. lights.green t k) (queue_at k) (came_at k)
  served k in' = record { none = none_came k in'; moves = λ t. queue_more k t in' }

  -- over a row of periods
  pub received_row : (l : ℕ) → has (link_numbers net) l ≡ true → (a n : ℕ) → received_at l (a + n) ≡ received_at l a + (total (arrived_at l) a n + sum_by (λ j. total (passes_at net lights j) a n) (into_link net l))
  received_row l in' a zero = let none = sum_by-zero (into_link net l) in subst (λ t. received_at l t ≡ received_at l a + (0 + sum_by (λ j. 0) (into_link net l))) (sym (add_none a)) (omega arith)
  received_row l in' a (suc n) =
      let more = received_more l (a + n) in' in
      let before = received_row l in' a n in
      let sums = sum_by-add (λ j. total (passes_at net lights j) a n) (λ j. passes_at net lights j (a + n)) (into_link net l) in
      subst (λ t. received_at l t ≡ received_at l a + (total (arrived_at l) a (suc n) + sum_by (λ j. total (passes_at net lights j) a (suc n)) (into_link net l))) (add_next a n) (omega arith)

  pub queue_row : (k : ℕ) → has (movement_numbers net) k ≡ true → (a n : ℕ) → queue_at k (a + n) + total (passes_at net lights k) a n + came_at k a ≡ queue_at k a + came_at k (a + n)
  queue_row k in' a zero = subst (λ t. queue_at k t + 0 + came_at k a ≡ queue_at k a + came_at k t) (sym (add_none a)) (omega arith)
  queue_row k in' a (suc n) =
      let more = queue_more k (a + n) in' in
      let before = queue_row k in' a n in
      subst (λ t. queue_at k t + total (passes_at net lights k) a (suc n) + came_at k a ≡ queue_at k a + came_at k t) (add_next a n) (omega arith)

  -- the arrivals of a row keep to the bucket
  pub arrivals_row : (T : ℕ) → IsPermitted net (lit_arrivals lights T) → (l : ℕ) → has (link_numbers net) l ≡ true → (a n : ℕ) → a + n ≤ T → net.per * total (arrived_at l) a n ≤ net.per * (link_at net l).burst + (link_at net l).rate * n
  arrivals_row T permitted l in' a n le =
      row_keeps net.per (link_at net l).burst (link_at net l).rate (λ counts. arrivals_of net counts l) lights.arrivals T a n le
      (keeps_to net.per (link_at net l).burst (link_at net l).rate (counts_of net (lit_arrivals lights T) l)
      (at_in (λ l. StaysWithin net.per (link_at net l).burst (link_at net l).rate 0 (counts_of net (lit_arrivals lights T) l)) l (link_numbers net) in' (stays net (lit_arrivals lights T) permitted)))
