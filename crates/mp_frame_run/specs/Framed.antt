-- What a session by frames keeps: a network with a certified frame network, its bounds, and a framed run.
use Rattle.std.specs.Prelude.{◌≡◌, ◌≤◌, ◌-◌, ℕ, ℤ, pos, List, Err, slice_index_or, unsigned_abs}
use Rattle.std.specs.List.{AllByRecursion}
use Rattle.mp_model.specs.Certificate.{Cert, Certifies}
use Rattle.mp_model.specs.Frames.{FramedState, frame_network, framed_run}
use Rattle.mp_model.specs.Network.{Network, entry, link_numbers, movement_numbers}
use Rattle.mp_model.specs.NetworkRules.{IsAcceptable}
use Rattle.mp_model.specs.Slack.{IsSlack}
use Rattle.mp_model.specs.Step.{queue}
use Rattle.mp_flow.specs.declared.network.CalcFault.{CalcFault}
use Rattle.mp_flow.specs.declared.network.CalcFault.TheVariants as calc
use Rattle.mp_flow.specs.declared.network.Place.TheVariants as at
use Rattle.mp_num.specs.Fraction.{Fraction, numerator, denominator}
use Rattle.mp_drift.specs.Session.{IsAccepted, IsCertified}
use Rattle.mp_cert.specs.Checking.{check_outcome}
use Rattle.mp_step.specs.Standing.{Standing, IsOn}
use Rattle.mp_framed.specs.Accounts.{Keeps}
use Rattle.mp_frame.specs.FrameBounds.{HoldsFrameBounds, HasNoFrameRoom, PassesFrameBound}
use Rattle.mp_frame_run.specs.FrameNow.{FrameNow, StandsFramed}
use Rattle.mp_frame_run.specs.declared.session.FrameOpen.{FrameOpen}
use Rattle.mp_frame_run.specs.declared.session.FrameOpen.TheVariants.{Cert as RefusesCert, Bound, Room, NoMemory}

-- A session by frames has a network, the periods of a frame, the slack of the frame network, the bounds of the movements, where its run stands, and its frame.
pub record Framed : Type 0 where
  pub net : Network
  pub periods : ℕ
  pub slack : Fraction
  pub bounds : List ℤ
  pub at : Standing
  pub frame : FrameNow

-- A session has an account of its frame: it stands at a framed state with these bucket levels, and there either the next period begins a frame, and the drift value is at most its greatest, or the periods of this frame so far have passed.
pub record IsAccounted (s : Framed) : Type 0 where
  pub now : FramedState
  pub level : ℕ → ℕ
  pub stands : StandsFramed s.net s.periods s.at s.frame now
  pub levels : AllByRecursion (λ l. entry s.at.levels l ≡ level l) (link_numbers s.net)
  pub keeps : Keeps s.net s.periods (numerator s.slack) (denominator s.slack) now level

-- A frame has 2 to 60 periods, some certificate with the slack certifies the frame network, the bounds are those of frames under the slack, the run stands on the network, and it has an account of its frame.
pub record IsFramed (s : Framed) : Type 0 where
  pub acceptable : IsAcceptable s.net
  pub periods : (2 ≤ s.periods) × (s.periods ≤ 60)
  pub certified : IsCertified (frame_network s.net s.periods) (numerator s.slack) (denominator s.slack)
  pub bounds : HoldsFrameBounds s.net s.periods (numerator s.slack) (denominator s.slack) s.bounds
  pub on : IsOn s.net s.at
  pub account : IsAccounted s

-- Each queue is at most its bound.
abbrev pub HasLowQueues : Framed → Type 0
HasLowQueues s = AllByRecursion (λ k. entry s.at.queues k ≤ unsigned_abs (slice_index_or s.bounds (k - 1) (pos 0))) (movement_numbers s.net)

-- The check accepts the certificate of the frame network, and the bounds of frames under its slack exceed 128 bits, or one has no room.
pub record IsUnbounded (net : Network) (F : ℕ) (cert : Cert) (IsSo : Network → ℕ → ℕ → ℕ → Type 0) : Type 0 where
  pub accepted : IsAccepted (frame_network net F) cert
  pub certifies : Certifies (frame_network net F) cert
  pub num : ℕ
  pub den : ℕ
  pub slack : IsSlack cert num den
  pub is : IsSo net F num den

-- A session by frames is not opened where the check refuses the certificate of the frame network, where it accepts it and the bounds under its slack exceed 128 bits or have no room, or since memory ran out.
abbrev pub IsRefused : Network → ℕ → Cert → FrameOpen → Type 0
IsRefused net F cert (RefusesCert fault) = check_outcome (frame_network net F) cert ≡ Err fault
IsRefused net F cert Bound = IsUnbounded net F cert PassesFrameBound
IsRefused net F cert Room = IsUnbounded net F cert HasNoFrameRoom
IsRefused net F cert NoMemory = Unit {0}

-- A fault of the bounds of frames refuses the opening; they have no others than these.
abbrev pub open_fault : CalcFault → FrameOpen
open_fault (calc.Overflow at.Bound) = Bound
open_fault (calc.Overflow at.Room) = Room
open_fault fault = NoMemory

-- Each queue of each state of the framed run over these arrivals is at most its bound, also within frames.
abbrev pub FramesStayWithin : Network → ℕ → List ℕ → List (List ℕ) → Type 0
FramesStayWithin net F bounds A = AllByRecursion (λ now. AllByRecursion (λ k. queue now.state k ≤ entry bounds k) (movement_numbers net)) (framed_run net F A)
