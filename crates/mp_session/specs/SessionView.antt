-- What a session by events shows: a certified network, its bounds, and a round within them.
use Rattle.std.specs.Prelude.{◌≡◌, ◌≤◌, ◌-◌, ℕ, ℤ, pos, true, List, Some, slice_index_or, unsigned_abs}
use Rattle.std.specs.List.{AllByRecursion}
use Rattle.mp_model.specs.Arrivals.{HasCounts, count_in}
use Rattle.mp_model.specs.EventCore.{Copy, Event, closed_of, copy_of, core_after, core_opening, decided_at}
use Rattle.mp_model.specs.Network.{Network, entry, has, junction_at, junction_numbers, movement_numbers, out_of}
use Rattle.mp_model.specs.NetworkRules.{IsAcceptable}
use Rattle.mp_laws.specs.Copies.{IsNear}
use Rattle.mp_laws.specs.Stages.{IsNearlyGreatest}
use Rattle.mp_num.specs.Fraction.{Fraction, numerator, denominator}
use Rattle.mp_drift.specs.Bounded.{HoldsBounds}
use Rattle.mp_drift.specs.Session.{IsCertified}
use Rattle.mp_round.specs.RoundView.{RoundView, IsRoundOn, core_of}

-- A session shows its network, a slack, the bounds of the movements, and its round.
pub record SessionView : Type 0 where
  pub net : Network
  pub slack : Fraction
  pub bounds : List ℤ
  pub round : RoundView

-- Some events, each of which closed no period or one with a count per fed link, lead from the opening to where the round stands.
pub record IsReached (net : Network) (round : RoundView) : Type 0 where
  pub events : List Event
  pub core : core_of round ≡ core_after net (core_opening net) events
  pub counts : AllByRecursion (HasCounts net) (closed_of net (core_opening net) events)

-- The network is certified with the slack, the bounds are those of the slack, the round is one of the network, and some events lead to where it stands.
pub record IsBounded (s : SessionView) : Type 0 where
  pub acceptable : IsAcceptable s.net
  pub certified : IsCertified s.net (numerator s.slack) (denominator s.slack)
  pub bounds : HoldsBounds s.net (numerator s.slack) (denominator s.slack) s.bounds
  pub on : IsRoundOn s.net s.round
  pub reached : IsReached s.net s.round

-- This is the bound of movement k.
abbrev pub bound_of : SessionView → ℕ → ℕ
bound_of s k = unsigned_abs (slice_index_or s.bounds (k - 1) (pos 0))

-- A copy of link l was made in no later period than now, and each copied count is at most the bound of its movement, and differs from the queue of now by at most so many greatest changes as the copy is periods old.
pub record HearsNearly (s : SessionView) (l : ℕ) (copy : Copy) : Type 0 where
  pub near : IsNear s.net s.round.standing.period s.round.standing.queues l copy
  pub within : AllByRecursion (λ k. count_in (out_of s.net l) copy.counts k ≤ bound_of s k) (out_of s.net l)

-- Each queue is at most its bound, what each junction has heard is near the queues of now and within the bounds, and each stage that is decided in this period is nearly greatest at the queues of now.
pub record StaysBounded (s : SessionView) : Type 0 where
  pub queues : AllByRecursion (λ k. entry s.round.standing.queues k ≤ bound_of s k) (movement_numbers s.net)
  pub copies : (j l : ℕ) (copy : Copy) → copy_of s.net (core_of s.round) j l ≡ Some copy → HearsNearly s l copy
  pub decided : (j stage : ℕ) → has (junction_numbers s.net) j ≡ true → decided_at (core_of s.round) j ≡ Some stage → IsNearlyGreatest s.net (entry s.round.standing.queues) (junction_at s.net j) stage
