-- A period keeps what a session keeps.
use Rattle.std.proofs.Common.{◌≡◌, ◌≤◌, ◌<◌, ℕ, ◌+◌, ◌-◌, ◌*◌, ◌%◌, ℤ, List, [], ◌∷◌, zero, suc, length, map, pos, nat_abs, ◌+ℤ◌, ◌-ℤ◌, ◌*ℤ◌, true, unsigned_abs, arith, refl, sym, ◌∙◌, ap, subst}
use Rattle.std.specs.List.{AllByRecursion}
use Rattle.std.specs.Prelude.{slice_index_or, slice_index}
use Rattle.std.proofs.lemmas.Simd.{map-map}
use Rattle.std.proofs.lemmas.List.{length-map}
use Rattle.std.proofs.lemmas.List.FromFn.{length-range_with_len}
use Rattle.mp_model.specs.Arrivals.{arrivals_of}
use Rattle.mp_model.specs.Network.{Network, movement_numbers, link_numbers, link_at, from_of, share_of, out_of, has, entry}
use Rattle.mp_model.specs.NetworkRules.{IsNetwork}
use Rattle.mp_model.specs.Pressure.{AllGreatest}
use Rattle.mp_model.specs.Bounds.{queue_bound}
use Rattle.mp_model.specs.Run.{opening, advance, greatest_stages}
use Rattle.mp_model.specs.DriftValue.{corrected_queue, drift_value}
use Rattle.mp_model.specs.Split.{credit}
use Rattle.mp_model.specs.Step.{State, queue, passed, got, new_queue, step}
use Rattle.mp_laws.specs.Periods.{IsPeriod, phase_of}
use Rattle.mp_laws.proofs.Bounds.{opening_value}
use Rattle.mp_laws.proofs.Serve.{nearly}
use Rattle.mp_laws.proofs.Keeps.{drift_kept, queues_bounded}
use Rattle.mp_laws.proofs.Lists.{at_in, at_range, each_in, numbered}
use Rattle.mp_laws.proofs.Sums.{sum_by-same_at}
use Rattle.mp_step.specs.BucketLevels.{level_then}
use Rattle.mp_step.specs.Standing.{Standing, IsOn, Stands, closed}
use Rattle.mp_step.specs.Taken.{HasTaken}
use Rattle.mp_num.specs.Fraction.{numerator, denominator}
use Rattle.mp_drift.specs.Session.{Bounded, IsBounded, HasLowDrift}

-- a closed period is one of the drift laws
closed_period : (net : Network) (st : Standing) → IsOn net st → (stages counts : List ℕ) →
    IsPeriod net stages (arrivals_of net counts) (entry st.queues) (entry st.phases) (entry st.levels) (entry (closed net st stages counts).queues) (entry (closed net st stages counts).phases) (entry (closed net st stages counts).levels)
closed_period net st on stages counts =
    let q : ℕ → ℕ = entry st.queues in
    let a : ℕ → ℕ = arrivals_of net counts in
    let r : ℕ → ℕ = λ l. entry st.phases l + got net stages q a l in
    record {
      links = each_in _ (link_numbers net) (λ l h.
          let level : entry (closed net st stages counts).levels l ≡ level_then net (entry st.levels) counts l = numbered (level_then net (entry st.levels) counts) (length net.links) l h in
          record {
            phase_in = at_in (λ l. entry st.phases l < net.shares) l (link_numbers net) h on.phase_in;
            moved = ap (λ ps. entry ps l) (map-map (λ n. n % net.shares) r (link_numbers net)) ∙ numbered (λ l. r l % net.shares) (length net.links) l h;
            falls = omega (arith, level);
            rises = omega (arith, level);
            within = at_in (λ l. entry st.levels l ≤ net.per * (link_at net l).burst) l (link_numbers net) h on.within;
          });
      queues = each_in _ (movement_numbers net) (λ k h. numbered (λ k. new_queue net (q k) (passed net stages q k) (entry st.phases (from_of net k)) (got net stages q a (from_of net k)) k) (length net.movements) k h);
    }

-- a period with greatest stages keeps the drift value low
pub low_after : (s : Bounded) → IsBounded s → (stages counts : List ℕ) → AllGreatest s.net (entry s.at.queues) s.net.junctions stages → HasLowDrift s.net (numerator s.slack) (denominator s.slack) (closed s.net s.at stages counts)
low_after s b stages counts greatest =
    drift_kept s.net b.acceptable.network b.certified.0 b.certified.1 (numerator s.slack) (denominator s.slack) b.certified.2 stages (arrivals_of s.net counts) (entry s.at.queues) (entry s.at.phases) (entry s.at.levels) _ _ _ (nearly s.net (entry s.at.queues) s.net.junctions stages greatest)
    (closed_period s.net s.at b.on stages counts) b.on.within b.drift

pub bounded_after : (s : Bounded) → IsBounded s → (stages counts last : List ℕ) (new : Standing) → AllGreatest s.net (entry s.at.queues) s.net.junctions stages → new ≡ closed s.net s.at stages counts → IsOn s.net new →
    IsBounded (record s { at = new; stages = last })
bounded_after s b stages counts last new greatest is on = record {
  acceptable = b.acceptable;
  certified = b.certified;
  bounds = b.bounds;
  on = on;
  drift = subst (HasLowDrift s.net (numerator s.slack) (denominator s.slack)) (sym is) (low_after s b stages counts greatest);
}

-- the drift value reads queues, phases and levels alone
same_value : (net : Network) → IsNetwork net → (q q' phase phase' level level' : ℕ → ℕ) → AllByRecursion (λ k. q k ≡ q' k) (movement_numbers net) → AllByRecursion (λ l. phase l ≡ phase' l) (link_numbers net) → AllByRecursion (λ l. level l ≡ level' l) (link_numbers net) →
    drift_value net q phase level ≡ drift_value net q' phase' level'
same_value net ok q q' phase phase' level level' qs ps ls = sum_by-same_at
    (λ k. nat_abs (corrected_queue net q phase level k) * nat_abs (corrected_queue net q phase level k)) (λ k. nat_abs (corrected_queue net q' phase' level' k) * nat_abs (corrected_queue net q' phase' level' k)) (movement_numbers net)
    (each_in _ (movement_numbers net) (λ k i.
    let l = from_of net k in
    let there : has (link_numbers net) l ≡ true = at_in (λ k. has (link_numbers net) (from_of net k) ≡ true) k (movement_numbers net) i ok.from in
    let value : ℕ → ℕ → ℕ → ℤ = λ a b c. pos (net.shares * net.per * a) +ℤ pos net.per *ℤ credit net.shares (share_of net) (out_of net l) b k -ℤ pos (share_of net k * c) in
    ap (λ x. nat_abs x * nat_abs x)
    (ap (λ a. value a (phase l) (level l)) (at_in (λ k. q k ≡ q' k) k (movement_numbers net) i qs)
    ∙ ap (λ b. value (q' k) b (level l)) (at_in (λ l. phase l ≡ phase' l) l (link_numbers net) there ps)
    ∙ ap (λ c. value (q' k) (phase' l) c) (at_in (λ l. level l ≡ level' l) l (link_numbers net) there ls))))

-- at the opening the drift value is that of the start queues
pub low_at_opening : (net : Network) → IsNetwork net → (st : Standing) → Stands net st (opening net) → HasTaken net st [] → (E D : ℕ) → HasLowDrift net E D st
low_at_opening net ok st stands taken E D =
    let same = same_value net ok (entry st.queues) (queue (opening net)) (entry st.phases) (phase_of net (opening net)) (entry st.levels) (λ l. 0)
    (each_in (λ k. entry st.queues k ≡ queue (opening net) k) (movement_numbers net) (λ k i. ap (λ xs. entry xs k) stands.queues)) stands.phases taken.levels in
    omega (arith, same, opening_value net ok E D)

-- each queue is at most its bound
pub within_bounds : (s : Bounded) → (b : IsBounded s) → AllByRecursion (λ k. entry s.at.queues k ≤ entry b.bounds.bounds k) (movement_numbers s.net)
within_bounds s b = queues_bounded s.net b.acceptable.network (numerator s.slack) (denominator s.slack) b.bounds.bounds b.bounds.are (entry s.at.queues) (entry s.at.phases) (entry s.at.levels) b.on.within b.drift

entry_signed : (xs : List ℕ) (i : ℕ) → slice_index_or (map pos xs) i (pos 0) ≡ pos (slice_index xs i)
entry_signed [] i = refl
entry_signed (x ∷ xs) zero = refl
entry_signed (x ∷ xs) (suc i) = entry_signed xs i

pub queue_within : (s : Bounded) → IsBounded s → (k : ℕ) → 1 ≤ k → k ≤ length s.net.movements → entry s.at.queues k ≤ unsigned_abs (slice_index_or s.bounds (k - 1) (pos 0))
queue_within s b k some few =
    let at : entry s.at.queues k ≤ entry b.bounds.bounds k = at_range (λ k. entry s.at.queues k ≤ entry b.bounds.bounds k) 1 (length s.net.movements) k some (omega arith) (within_bounds s b) in
    subst (λ (n : ℤ). entry s.at.queues k ≤ unsigned_abs n) (sym (ap (λ xs. slice_index_or xs (k - 1) (pos 0)) b.bounds.listed ∙ entry_signed b.bounds.bounds (k - 1))) at

-- there is a bound for each movement
pub bounds_size : (s : Bounded) → IsBounded s → length s.bounds ≡ length s.net.movements
bounds_size s b = ap length b.bounds.listed ∙ length-map b.bounds.bounds pos ∙ ap length b.bounds.are.are ∙ length-map (movement_numbers s.net) (queue_bound s.net b.bounds.are.root) ∙ length-range_with_len 1 (length s.net.movements)

-- the step of the greatest stages goes on
pub stands_next : (net : Network) (st new : Standing) (stages counts : List ℕ) → stages ≡ greatest_stages net (entry st.queues) → ((state : State) → Stands net st state → Stands net new (step net stages (arrivals_of net counts) state))
    → (state : State) → Stands net st state → Stands net new (advance net counts state)
stands_next net st new stages counts chosen closes state stands =
    subst (λ (ss : List ℕ). Stands net new (step net ss (arrivals_of net counts) state)) (chosen ∙ ap (λ q. greatest_stages net (entry q)) stands.queues) (closes state stands)
