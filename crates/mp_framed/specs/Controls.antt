-- Sharper forms of the frame bound, which do not hold.
use Rattle.std.specs.Prelude.{◌≤◌, ◌==◌, ℕ, zero, suc, ◌+◌, ◌%◌, min, Bool, cond, not, ◌&&◌, nat_lt, List, [], ◌∷◌, None, codes}
use Rattle.std.specs.List.{AllByRecursion}
use Rattle.mp_model.specs.Arrivals.{IsPermitted, arrivals_of}
use Rattle.mp_model.specs.Certificate.{Cert, Certifies}
use Rattle.mp_model.specs.Frames.{AreFrameBounds, FramedState, frame_network, framed_opening, framed_run, in_frame, is_chosen}
use Rattle.mp_model.specs.Network.{Network, entry, flow_of, junction_of_movement, movement_numbers}
use Rattle.mp_model.specs.NetworkRules.{IsAcceptable}
use Rattle.mp_model.specs.Slack.{IsSlack}
use Rattle.mp_model.specs.Step.{queue, step_by}

-- In a network that can be accepted each queue of each state of the framed run is below its bound by so much or more.
abbrev pub FrameBoundLower : ℕ → Type 0
FrameBoundLower less = (net : Network) → IsAcceptable net → (F : ℕ) → 2 ≤ F → (cert : Cert) → Certifies (frame_network net F) cert → (E D : ℕ) → IsSlack cert E D →
    (bounds : List ℕ) → AreFrameBounds net F E D bounds → (A : List (List ℕ)) → IsPermitted net A →
    AllByRecursion (λ now. AllByRecursion (λ k. queue now.state k + less ≤ entry bounds k) (movement_numbers net)) (framed_run net F A)

-- A lane on which six vehicles stand at the start has a burst of 1, no rate and the flow 1.
abbrev pub lane_from_six : Network
lane_from_six = record {
  shares = 1;
  per = 1;
  delay = 0;
  links = record { name = codes "x"; burst = 1; rate = 0 } ∷ [];
  movements = record { name = codes "xo"; from = 1; to = None; share = 1; flow = 1; start = 6 } ∷ [];
  junctions = record { name = codes "j"; stages = (1 ∷ []) ∷ [] } ∷ [];
}

-- Not each queue stays at least 2 below its bound: by frames of two periods the bound of this lane is 8, and in its first period the queue rises to 7.
abbrev pub NotFrameBoundTwoLower : Type 0
NotFrameBoundTwoLower = ¬ FrameBoundLower 2

-- A change loses the first two periods of a frame.
abbrev pub is_lost_twice : ℕ → FramedState → ℕ → Bool
is_lost_twice F frame j = nat_lt (frame.state.period % F) 2 && not (entry frame.before j == entry frame.stages j)

-- This is what passes in a period then.
abbrev pub passed_twice_lost : Network → ℕ → FramedState → ℕ → ℕ
passed_twice_lost net F frame k = cond (is_chosen net frame.stages (entry frame.first) k && not (is_lost_twice F frame (junction_of_movement net k))) (min (flow_of net k) (queue frame.state k)) 0

-- This is the framed state after a period then.
abbrev pub advance_twice_lost : Network → ℕ → List ℕ → FramedState → FramedState
advance_twice_lost net F counts now =
    let frame : FramedState = in_frame net F now in
    record frame { state = step_by net (passed_twice_lost net F frame) (arrivals_of net counts) frame.state }

-- This is the framed state after a list of periods then.
abbrev pub after_twice_lost : Network → ℕ → FramedState → List (List ℕ) → FramedState
after_twice_lost net F now [] = now
after_twice_lost net F now (counts ∷ A) = after_twice_lost net F (advance_twice_lost net F counts now) A

-- Where a change loses two periods, each queue is at most its bound for one lost period.
abbrev pub TwiceLostBound : Type 0
TwiceLostBound = (net : Network) → IsAcceptable net → (F : ℕ) → 2 ≤ F → (cert : Cert) → Certifies (frame_network net F) cert → (E D : ℕ) → IsSlack cert E D →
    (bounds : List ℕ) → AreFrameBounds net F E D bounds → (A : List (List ℕ)) → IsPermitted net A →
    AllByRecursion (λ k. queue (after_twice_lost net F (framed_opening net) A).state k ≤ entry bounds k) (movement_numbers net)

-- In each four periods one vehicle arrives on the second of two approaches, and then one on the first.
abbrev pub turns : ℕ → List (List ℕ)
turns zero = []
turns (suc n) = (0 ∷ 1 ∷ []) ∷ (0 ∷ 0 ∷ []) ∷ (1 ∷ 0 ∷ []) ∷ (0 ∷ 0 ∷ []) ∷ turns n

-- It is not: with such arrivals on two approaches each frame of two periods has another stage than the one before, and nothing ever passes.
abbrev pub NotTwiceLostBound : Type 0
NotTwiceLostBound = ¬ TwiceLostBound
