-- What a session keeps bounds its queues, and what its junctions have heard.
use Rattle.std.proofs.Common.{◌≡◌, ◌≤◌, ℕ, ◌-◌, List, [], ◌∷◌, zero, suc, length, map, pos, true, Some, unsigned_abs, arith, refl, sym, ◌∙◌, ap, subst}
use Rattle.std.specs.List.{AllByRecursion}
use Rattle.std.specs.Prelude.{slice_index_or, slice_index}
use Rattle.std.proofs.lemmas.List.{length-map}
use Rattle.std.proofs.lemmas.List.FromFn.{length-range_with_len}
use Rattle.mp_model.specs.Arrivals.{count_in}
use Rattle.mp_model.specs.Bounds.{queue_bound}
use Rattle.mp_model.specs.EventCore.{Copy, Core, copy_of, core_after, core_opening, decided_at}
use Rattle.mp_model.specs.Network.{entry, has, junction_at, junction_numbers, movement_numbers, out_of}
use Rattle.mp_laws.specs.Copies.{IsNear, KeepsCopies}
use Rattle.mp_laws.specs.Stages.{IsNearlyGreatest}
use Rattle.mp_laws.proofs.Heard.{copies_bounded, copies_kept}
use Rattle.mp_laws.proofs.Keeps.{core_bounded}
use Rattle.mp_laws.proofs.Lists.{AllOf-map, at_range}
use Rattle.mp_num.specs.Fraction.{numerator, denominator}
use Rattle.mp_round.specs.RoundView.{core_of}
use Rattle.mp_session.specs.SessionView.{SessionView, IsBounded, HearsNearly, StaysBounded, bound_of}

entry_signed : (xs : List ℕ) (i : ℕ) → slice_index_or (map pos xs) i (pos 0) ≡ pos (slice_index xs i)
entry_signed [] i = refl
entry_signed (x ∷ xs) zero = refl
entry_signed (x ∷ xs) (suc i) = entry_signed xs i

-- the bounds of the session are those of its slack
bound_is : (s : SessionView) → (b : IsBounded s) → (k : ℕ) → bound_of s k ≡ entry b.bounds.bounds k
bound_is s b k = ap unsigned_abs (ap (λ xs. slice_index_or xs (k - 1) (pos 0)) b.bounds.listed ∙ entry_signed b.bounds.bounds (k - 1))

-- each queue is at most its bound
low_queues : (s : SessionView) → IsBounded s → AllByRecursion (λ k. entry s.round.standing.queues k ≤ bound_of s k) (movement_numbers s.net)
low_queues s b =
    let low = core_bounded s.net b.acceptable.network b.certified.0 b.certified.1 (numerator s.slack) (denominator s.slack) b.certified.2 b.bounds.bounds b.bounds.are b.reached.events b.reached.counts in
    let now : AllByRecursion (λ k. entry s.round.standing.queues k ≤ entry b.bounds.bounds k) (movement_numbers s.net) =
    subst (λ (core : Core). AllByRecursion (λ k. entry core.queues k ≤ entry b.bounds.bounds k) (movement_numbers s.net)) (sym b.reached.core) low in
    AllOf-map _ (λ k. entry s.round.standing.queues k ≤ bound_of s k) (λ k h. subst (λ (n : ℕ). entry s.round.standing.queues k ≤ n) (sym (bound_is s b k)) h) (movement_numbers s.net) now

-- what holds of the copies and decisions after the events holds of those of the round
kept_now : (s : SessionView) → (b : IsBounded s) → KeepsCopies s.net b.reached.events
kept_now s b = copies_kept s.net b.acceptable.network b.reached.events b.reached.counts

heard_nearly : (s : SessionView) → IsBounded s → (j l : ℕ) (copy : Copy) → copy_of s.net (core_of s.round) j l ≡ Some copy → HearsNearly s l copy
heard_nearly s b j l copy has' =
    let there : copy_of s.net (core_after s.net (core_opening s.net) b.reached.events) j l ≡ Some copy = subst (λ (core : Core). copy_of s.net core j l ≡ Some copy) b.reached.core has' in
    let low = copies_bounded s.net b.acceptable.network b.certified.0 b.certified.1 (numerator s.slack) (denominator s.slack) b.certified.2 b.bounds.bounds b.bounds.are b.reached.events b.reached.counts j l copy there in
    record {
      near = subst (λ (core : Core). IsNear s.net core.period core.queues l copy) (sym b.reached.core) ((kept_now s b).copies j l copy there);
      within = AllOf-map (λ k. count_in (out_of s.net l) copy.counts k ≤ entry b.bounds.bounds k) (λ k. count_in (out_of s.net l) copy.counts k ≤ bound_of s k)
          (λ k h. subst (λ (n : ℕ). count_in (out_of s.net l) copy.counts k ≤ n) (sym (bound_is s b k)) h) (out_of s.net l) low;
    }

decided_nearly : (s : SessionView) → IsBounded s → (j stage : ℕ) → has (junction_numbers s.net) j ≡ true → decided_at (core_of s.round) j ≡ Some stage → IsNearlyGreatest s.net (entry s.round.standing.queues) (junction_at s.net j) stage
decided_nearly s b j stage known chosen =
    subst (λ (core : Core). IsNearlyGreatest s.net (entry core.queues) (junction_at s.net j) stage) (sym b.reached.core)
    ((kept_now s b).decided j stage known (subst (λ (core : Core). decided_at core j ≡ Some stage) b.reached.core chosen))

pub stays_bounded : (s : SessionView) → IsBounded s → StaysBounded s
stays_bounded s b = record { queues = low_queues s b; copies = heard_nearly s b; decided = decided_nearly s b }

-- the queue of a movement is at most its bound
pub queue_within : (s : SessionView) → IsBounded s → (k : ℕ) → 1 ≤ k → k ≤ length s.net.movements → entry s.round.standing.queues k ≤ bound_of s k
queue_within s b k some few = at_range (λ k. entry s.round.standing.queues k ≤ bound_of s k) 1 (length s.net.movements) k some (omega arith) (low_queues s b)

-- there is a bound for each movement
pub bounds_size : (s : SessionView) → IsBounded s → length s.bounds ≡ length s.net.movements
bounds_size s b = ap length b.bounds.listed ∙ length-map b.bounds.bounds pos ∙ ap length b.bounds.are.are ∙ length-map (movement_numbers s.net) (queue_bound s.net b.bounds.are.root) ∙ length-range_with_len 1 (length s.net.movements)
