-- Periods in which the same numbers pass.
use Rattle.std.proofs.Common.{◌≡◌, ℕ, ◌+◌, ◌-◌, ◌%◌, ◌&&◌, Bool, false, cond, min, nat_lt, List, length, map, sum_by, arith, sym, ◌∙◌, ap, ap₂, subst, ◌≤◌, Result, Ok, Err, OnOk}
use Rattle.std.specs.List.{AllByRecursion}
use Rattle.std.proofs.lemmas.List.FromFn.{get_or-map-range_with_len}
use Rattle.mp_model.specs.Network.{Network, movement_numbers, link_numbers, from_of, to_of, flow_of, goes_to, goes_out, entry}
use Rattle.mp_model.specs.NetworkRules.{IsNetwork}
use Rattle.mp_model.specs.Arrivals.{arrivals_of}
use Rattle.mp_model.specs.Pressure.{positive_weight}
use Rattle.mp_model.specs.Step.{State, queue, received_by, has_green, passed, departing_by, got_by, new_queue, step_by, step}
use Rattle.mp_laws.proofs.Drift.{cond-le}
use Rattle.mp_laws.proofs.Lists.{at_in, each_in, keep_all, in_numbers, numbered}
use Rattle.mp_laws.proofs.Order.{map-same}
use Rattle.mp_laws.proofs.Sums.{sum_by-same_at}
use Rattle.mp_step.specs.BucketLevels.{level_then}
use Rattle.mp_step.specs.OpenStep.{ArePasses, closed_by, closed_open, flag, flags_of, passed_open, open_step, OpenStepLaw, ClosedOpenLaw}
use Rattle.mp_step.specs.Standing.{Standing, Stands, as_state, closed}
use Rattle.mp_step.proofs.Following.{stands_after}

abbrev state_of : ℕ → List ℕ → List ℕ → ℕ → ℕ → State
state_of period queues received total_in total_out = record { period = period; queues = queues; received = received; total_in = total_in; total_out = total_out }

state_same : (period total_in : ℕ) (q q' r r' : List ℕ) (o o' : ℕ) → q ≡ q' → r ≡ r' → o ≡ o' → state_of period q r total_in o ≡ state_of period q' r' total_in o'
state_same period total_in q q' r r' o o' a b c = ap₂ (λ q r. state_of period q r total_in o) a b ∙ ap (state_of period q' r' total_in) c

-- the state after a period rests on what passes alone
module _ (net : Network) (y z : ℕ → ℕ) (same : AllByRecursion (λ k. y k ≡ z k) (movement_numbers net)) where
  got_same : (arrivals : ℕ → ℕ) (l : ℕ) → got_by net y arrivals l ≡ got_by net z arrivals l
  got_same arrivals l = ap (λ n. arrivals l + n) (sum_by-same_at y z _ (keep_all (λ k. y k ≡ z k) (λ k. goes_to (to_of net k) l) (movement_numbers net) same))

  pub step_same : (arrivals : ℕ → ℕ) (state : State) → step_by net y arrivals state ≡ step_by net z arrivals state
  step_same arrivals state =
      state_same (state.period + 1) (state.total_in + sum_by arrivals (link_numbers net)) _ _ _ _ _ _
      (map-same (λ k. new_queue net (queue state k) (y k) (received_by state (from_of net k)) (got_by net y arrivals (from_of net k)) k) (λ k. new_queue net (queue state k) (z k) (received_by state (from_of net k)) (got_by net z arrivals (from_of net k)) k) (movement_numbers net)
      (each_in _ (movement_numbers net) (λ k h. ap₂ (λ p r. new_queue net (queue state k) p (received_by state (from_of net k)) r k) (at_in (λ k. y k ≡ z k) k (movement_numbers net) h same) (got_same arrivals (from_of net k)))))
      (map-same (λ l. received_by state l + got_by net y arrivals l) (λ l. received_by state l + got_by net z arrivals l) (link_numbers net) (each_in _ (link_numbers net) (λ l h. ap (λ r. received_by state l + r) (got_same arrivals l))))
      (ap (λ n. state.total_out + n) (sum_by-same_at (λ k. cond (goes_out net k) (y k) 0) (λ k. cond (goes_out net k) (z k) 0) (movement_numbers net)
      (each_in _ (movement_numbers net) (λ k h. ap (λ p. cond (goes_out net k) p 0) (at_in (λ k. y k ≡ z k) k (movement_numbers net) h same)))))

  abbrev after : Standing → List ℕ → State → Standing
  after st counts state = record {
    queues = state.queues;
    phases = map (λ n. n % net.shares) state.received;
    levels = map (level_then net (entry st.levels) counts) (link_numbers net);
    period = state.period;
    total_in = state.total_in;
    total_out = state.total_out;
    splits = st.splits;
    buckets = st.buckets;
  }

  pub closed_same : (st : Standing) (counts : List ℕ) → closed_by net st y counts ≡ closed_by net st z counts
  closed_same st counts = ap (after st counts) (step_same (arrivals_of net counts) (as_state st))

-- a list of what passes, read by the number
pub passes_at : (net : Network) (y : ℕ → ℕ) (p : List ℕ) → p ≡ map y (movement_numbers net) → AllByRecursion (λ k. entry p k ≡ y k) (movement_numbers net)
passes_at net y p e = each_in _ (movement_numbers net) (λ k h. ap (λ t. entry t k) e ∙ numbered y (length net.movements) k h)

-- and how many vehicles then leave
pub left_same : (net : Network) (y : ℕ → ℕ) (p : List ℕ) → p ≡ map y (movement_numbers net) → departing_by net y ≡ departing_by net (entry p)
left_same net y p e = sum_by-same_at (λ k. cond (goes_out net k) (y k) 0) (λ k. cond (goes_out net k) (entry p k) 0) (movement_numbers net)
    (each_in _ (movement_numbers net) (λ k h. ap (λ y. cond (goes_out net k) y 0) (sym (at_in (λ k. entry p k ≡ y k) k (movement_numbers net) h (passes_at net y p e)))))

-- stages as flags
as_flags : (net : Network) (stages : List ℕ) (q : ℕ → ℕ) → AllByRecursion (λ k. passed net stages q k ≡ passed_open net (flags_of net stages q) q k) (movement_numbers net)
as_flags net stages q =
    let g : ℕ → Bool = λ k. has_green net stages k && nat_lt 0 (positive_weight net q k) in
    each_in _ (movement_numbers net) (λ k h.
    let i = in_numbers (length net.movements) k h in
    let read : flag (flags_of net stages q) k ≡ g k = get_or-map-range_with_len g 1 (length net.movements) (k - 1) k false (omega (arith, i)) (omega (arith, i)) in
    ap (λ b. cond b (min (flow_of net k) (q k)) 0) (sym read))

pub steps_agree : OpenStepLaw
steps_agree net stages arrivals state = step_same net _ _ (as_flags net stages (queue state)) arrivals state

pub closes_agree : ClosedOpenLaw
closes_agree net st stages counts = closed_same net _ _ (as_flags net stages (entry st.queues)) st counts

-- no more than the queues
fits : (net : Network) (y q : ℕ → ℕ) (p : List ℕ) → p ≡ map y (movement_numbers net) → ((k : ℕ) → y k ≤ q k) → ArePasses net q (entry p)
fits net y q p e few = each_in _ (movement_numbers net) (λ k h. omega (arith, at_in (λ k. entry p k ≡ y k) k (movement_numbers net) h (passes_at net y p e), few k))

pub stages_fit : (net : Network) (stages : List ℕ) (q : ℕ → ℕ) (p : List ℕ) → p ≡ map (passed net stages q) (movement_numbers net) → ArePasses net q (entry p)
stages_fit net stages q p e = fits net (passed net stages q) q p e (λ k. cond-le (has_green net stages k && nat_lt 0 (positive_weight net q k)) (min (flow_of net k) (q k)) (q k) (omega arith))

pub flags_fit : (net : Network) (passing : List Bool) (q : ℕ → ℕ) (p : List ℕ) → p ≡ map (passed_open net passing q) (movement_numbers net) → ArePasses net q (entry p)
flags_fit net passing q p e = fits net (passed_open net passing q) q p e (λ k. cond-le (flag passing k) (min (flow_of net k) (q k)) (q k) (omega arith))

-- what the code gives after a period with such passes
pub ok_map : {T E : Type 0} (r : Result T E) (P Q : Type 0) → (P → Q) → OnOk r P → OnOk r Q
ok_map (Ok x) P Q f h = f h
ok_map (Err e) P Q f h = tt

pub stages_close : (net : Network) (st before after : Standing) (stages counts p : List ℕ) → st ≡ before → p ≡ map (passed net stages (entry st.queues)) (movement_numbers net) → after ≡ closed_by net st (entry p) counts → after ≡ closed net before stages counts
stages_close net st before after stages counts p same e is = is ∙ closed_same net (entry p) (passed net stages (entry st.queues)) (passes_at net _ p e) st counts ∙ ap (λ st. closed net st stages counts) same

pub flags_close : (net : Network) (st before after : Standing) (passing : List Bool) (counts p : List ℕ) → st ≡ before → p ≡ map (passed_open net passing (entry st.queues)) (movement_numbers net) → after ≡ closed_by net st (entry p) counts → after ≡ closed_open net before passing counts
flags_close net st before after passing counts p same e is = is ∙ closed_same net (entry p) (passed_open net passing (entry st.queues)) (passes_at net _ p e) st counts ∙ ap (λ st. closed_open net st passing counts) same

pub stages_step : (net : Network) → IsNetwork net → (st after : Standing) (stages counts : List ℕ) → after ≡ closed net st stages counts → (state : State) → Stands net st state → Stands net after (step net stages (arrivals_of net counts) state)
stages_step net ok st after stages counts e state s =
    subst (λ t. Stands net t (step net stages (arrivals_of net counts) state)) (sym e)
    (subst (λ q. Stands net (closed net st stages counts) (step_by net (passed net stages (entry q)) (arrivals_of net counts) state)) s.queues (stands_after net ok st (passed net stages (entry st.queues)) counts state s))

pub flags_step : (net : Network) → IsNetwork net → (st after : Standing) (passing : List Bool) (counts : List ℕ) → after ≡ closed_open net st passing counts → (state : State) → Stands net st state → Stands net after (open_step net passing (arrivals_of net counts) state)
flags_step net ok st after passing counts e state s =
    subst (λ t. Stands net t (open_step net passing (arrivals_of net counts) state)) (sym e)
    (subst (λ q. Stands net (closed_open net st passing counts) (step_by net (passed_open net passing (entry q)) (arrivals_of net counts) state)) s.queues (stands_after net ok st (passed_open net passing (entry st.queues)) counts state s))
