-- The account of a frame, over one period and for the queues.
use Rattle.std.proofs.Common.{◌≡◌, ◌≤◌, ◌-◌, ◌*◌, ◌%◌, ℕ, ℤ, zero, suc, List, [], ◌∷◌, length, map, pos, unsigned_abs, refl, sym, ◌∙◌, ap, subst, arith, Result, Ok, Err, OnOk, OnErr}
use Rattle.std.specs.List.{AllByRecursion}
use Rattle.std.specs.Prelude.{slice_index, slice_index_or}
use Rattle.mp_framed.proofs.Runs.{begun, bounded_at, kept, opens, same_state}
use Rattle.mp_framed.specs.Accounts.{InFrame}
use Rattle.mp_laws.proofs.Lists.{at_in, at_range, each_in, numbered}
use Rattle.mp_laws.specs.Periods.{IsWithin}
use Rattle.mp_model.specs.Arrivals.{arrivals_of, next_level}
use Rattle.mp_model.specs.Frames.{FramedState, framed_advance, framed_opening, in_frame}
use Rattle.mp_model.specs.Network.{entry, link_at, link_numbers, movement_numbers}
use Rattle.mp_model.specs.NetworkRules.{IsNetwork}
use Rattle.mp_model.specs.Step.{queue}
use Rattle.mp_num.specs.Fraction.{numerator, denominator}
use Rattle.mp_step.specs.BucketLevels.{level_then}
use Rattle.mp_step.specs.Standing.{Standing, IsOn}
use Rattle.mp_step.specs.Taken.{HasTaken}
use Rattle.mp_frame_run.specs.FrameNow.{FrameNow, StandsFramed}
use Rattle.mp_frame_run.specs.Framed.{Framed, HasLowQueues, IsAccounted, IsFramed}

-- the levels of the account are within the buckets
levels_within : (s : Framed) → IsOn s.net s.at → (level : ℕ → ℕ) → AllByRecursion (λ l. entry s.at.levels l ≡ level l) (link_numbers s.net) → IsWithin s.net level
levels_within s on level same =
    each_in _ (link_numbers s.net) (λ l h.
    let here : entry s.at.levels l ≤ s.net.per * (link_at s.net l).burst = at_in (λ l. entry s.at.levels l ≤ s.net.per * (link_at s.net l).burst) l (link_numbers s.net) h on.within in
    subst (λ (n : ℕ). n ≤ s.net.per * (link_at s.net l).burst) (at_in (λ l. entry s.at.levels l ≡ level l) l (link_numbers s.net) h same) here)

-- a period leads the account on
accounted_after : (s : Framed) → IsFramed s → (counts : List ℕ) (new : Standing) (next : FrameNow) → ((now : FramedState) → StandsFramed s.net s.periods s.at s.frame now → StandsFramed s.net s.periods new next (framed_advance s.net s.periods counts now)) →
    new.levels ≡ map (level_then s.net (entry s.at.levels) counts) (link_numbers s.net) → IsAccounted (record s { at = new; frame = next })
accounted_after s b counts new next leads levels =
    let a = b.account in
    let net = s.net in
    let F = s.periods in
    let E = numerator s.slack in
    let D = denominator s.slack in
    let within : IsWithin net a.level = levels_within s b.on a.level a.levels in
    let here : InFrame net F E D (in_frame net F a.now) a.level (a.now.state.period % F) = begun net b.acceptable.network F b.periods.0 b.certified.0 b.certified.1 E D b.certified.2 a.now a.level within a.keeps in
    let there : InFrame net F E D (in_frame net F a.now) a.level ((in_frame net F a.now).state.period % F) = subst (λ p. InFrame net F E D (in_frame net F a.now) a.level (p % F)) (sym (ap (λ s. s.period) (same_state net F a.now))) here in
    record {
      now = framed_advance net F counts a.now;
      level = λ l. next_level net.per (link_at net l).rate (a.level l) (arrivals_of net counts l);
      stands = leads a.now a.stands;
      levels = each_in _ (link_numbers net) (λ l h.
          ap (λ ls. entry ls l) levels ∙ numbered (level_then net (entry s.at.levels) counts) (length net.links) l h ∙ ap (λ n. next_level net.per (link_at net l).rate n (arrivals_of net counts l)) (at_in (λ l. entry s.at.levels l ≡ a.level l) l (link_numbers net) h a.levels));
      keeps = kept net b.acceptable.network F b.periods.0 b.certified.0 b.certified.1 E D b.certified.2 counts (in_frame net F a.now) a.level within there;
    }

pub framed_after : (s : Framed) → IsFramed s → (counts : List ℕ) (new : Standing) (next : FrameNow) → IsOn s.net new → ((now : FramedState) → StandsFramed s.net s.periods s.at s.frame now → StandsFramed s.net s.periods new next (framed_advance s.net s.periods counts now)) →
    new.levels ≡ map (level_then s.net (entry s.at.levels) counts) (link_numbers s.net) → IsFramed (record s { at = new; frame = next })
framed_after s b counts new next on leads levels = record {
  acceptable = b.acceptable;
  periods = b.periods;
  certified = b.certified;
  bounds = b.bounds;
  on = on;
  account = accounted_after s b counts new next leads levels;
}

-- and a refused one leaves it
pub framed_either : {T E : Type 0} (r : Result T E) (s : Framed) → IsFramed s → (counts : List ℕ) (new : Standing) (next : FrameNow) → IsOn s.net new →
    OnOk r ((now : FramedState) → StandsFramed s.net s.periods s.at s.frame now → StandsFramed s.net s.periods new next (framed_advance s.net s.periods counts now)) → OnOk r (new.levels ≡ map (level_then s.net (entry s.at.levels) counts) (link_numbers s.net)) →
    OnErr r (new ≡ s.at) → OnErr r (next ≡ s.frame) → IsFramed (record s { at = new; frame = next })
framed_either (Ok x) s b counts new next on leads levels stays same = framed_after s b counts new next on leads levels
framed_either (Err e) s b counts new next on leads levels stays same =
    subst (λ (f : FrameNow). IsFramed (record s { at = new; frame = f })) (sym same) (subst (λ (st : Standing). IsFramed (record s { at = st })) (sym stays) b)

-- at the opening a frame begins
pub accounted_at_opening : (s : Framed) → IsNetwork s.net → StandsFramed s.net s.periods s.at s.frame (framed_opening s.net) → HasTaken s.net s.at [] → IsAccounted s
accounted_at_opening s ok stands taken = record {
  now = framed_opening s.net;
  level = λ l. 0;
  stands = stands;
  levels = taken.levels;
  keeps = opens s.net ok s.periods (numerator s.slack) (denominator s.slack);
}

entry_signed : (xs : List ℕ) (i : ℕ) → slice_index_or (map pos xs) i (pos 0) ≡ pos (slice_index xs i)
entry_signed [] i = refl
entry_signed (x ∷ xs) zero = refl
entry_signed (x ∷ xs) (suc i) = entry_signed xs i

-- each queue is at most its bound
pub low_queues : (s : Framed) → IsFramed s → HasLowQueues s
low_queues s b =
    let a = b.account in
    let all : AllByRecursion (λ k. queue a.now.state k ≤ entry b.bounds.bounds k) (movement_numbers s.net) =
    bounded_at s.net b.acceptable.network s.periods b.periods.0 b.certified.0 b.certified.1 (numerator s.slack) (denominator s.slack) b.certified.2 b.bounds.bounds b.bounds.are a.now a.level (levels_within s b.on a.level a.levels) a.keeps in
    each_in _ (movement_numbers s.net) (λ k h.
    let here : queue a.now.state k ≤ entry b.bounds.bounds k = at_in (λ k. queue a.now.state k ≤ entry b.bounds.bounds k) k (movement_numbers s.net) h all in
    subst (λ (z : ℤ). entry s.at.queues k ≤ unsigned_abs z) (sym (ap (λ xs. slice_index_or xs (k - 1) (pos 0)) b.bounds.listed ∙ entry_signed b.bounds.bounds (k - 1)))
    (subst (λ (qs : List ℕ). entry qs k ≤ entry b.bounds.bounds k) (sym a.stands.stands.queues) here))

pub queue_within : (s : Framed) → IsFramed s → (k : ℕ) → 1 ≤ k → k ≤ length s.net.movements → entry s.at.queues k ≤ unsigned_abs (slice_index_or s.bounds (k - 1) (pos 0))
queue_within s b k some few = at_range (λ k. entry s.at.queues k ≤ unsigned_abs (slice_index_or s.bounds (k - 1) (pos 0))) 1 (length s.net.movements) k some (omega arith) (low_queues s b)
