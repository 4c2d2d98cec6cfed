-- Frames: junctions decide every F periods, a change of stage loses the first period of a frame, and each queue has a bound.
use Rattle.std.specs.Prelude.{◌≡◌, ◌==◌, ℕ, ◌+◌, ◌-◌, ◌*◌, ◌/◌, ◌%◌, min, max, Bool, cond, not, ◌&&◌, nat_lt, List, [], ◌∷◌, ◌++◌, map, sum_by}
use Rattle.mp_model.specs.Arrivals.{arrivals_of}
use Rattle.mp_model.specs.Bounds.{credit_term, step_term, start_drift, IsRoot}
use Rattle.mp_model.specs.Log.{header_lines, period_line, end_line, text_of}
use Rattle.mp_model.specs.Network.{Network, Link, movement_numbers, junction_of_movement, flow_of, entry}
use Rattle.mp_model.specs.Pressure.{positive_weight}
use Rattle.mp_model.specs.Run.{opening, greatest_stages}
use Rattle.mp_model.specs.Step.{State, queue, has_green, step_by}

-- In the network of frames of F periods a link has F times its rate.
abbrev pub frame_link : ℕ → Link → Link
frame_link F link = record link { rate = F * link.rate }

-- The frame network of frames of F periods has F - 1 times the rate length, F times each rate, and the same parts else.
abbrev pub frame_network : Network → ℕ → Network
frame_network net F = record net { per = (F - 1) * net.per; links = map (frame_link F) net.links }

-- A framed state has beside the state the queues at the beginning of its frame, the frame's stages, and those of the frame before; the stages are 0 where there is no such frame.
pub record FramedState : Type 0 where
  pub state : State
  pub first : List ℕ
  pub stages : List ℕ
  pub before : List ℕ

-- At the opening there is no frame.
abbrev pub framed_opening : Network → FramedState
framed_opening net = record { state = opening net; first = (opening net).queues; stages = map (λ j. 0) net.junctions; before = map (λ j. 0) net.junctions }

-- A frame begins at the opening and after each F periods.
abbrev pub begins : ℕ → FramedState → Bool
begins F now = now.state.period % F == 0

-- Where a frame begins, each junction takes its greatest stage at the queues.
abbrev pub in_frame : Network → ℕ → FramedState → FramedState
in_frame net F now = cond (begins F now) (record { state = now.state; first = now.state.queues; stages = greatest_stages net (queue now.state); before = now.stages }) now

-- The first period of a frame is lost at junction j where its stage is not that of the frame before, or there was none.
abbrev pub is_lost : ℕ → FramedState → ℕ → Bool
is_lost F frame j = begins F frame && not (entry frame.before j == entry frame.stages j)

-- Movement k is chosen where it has green in these stages and a positive weight at these queues.
abbrev pub is_chosen : Network → List ℕ → (ℕ → ℕ) → ℕ → Bool
is_chosen net stages q k = has_green net stages k && nat_lt 0 (positive_weight net q k)

-- A movement may pass in a period where the frame's stages and first queues choose it and the period is not lost at its junction.
abbrev pub may_pass : Network → ℕ → FramedState → ℕ → Bool
may_pass net F frame k = is_chosen net frame.stages (entry frame.first) k && not (is_lost F frame (junction_of_movement net k))

-- A movement that may pass passes the lesser of its flow and its queue, and every other movement passes 0.
abbrev pub framed_passed : Network → ℕ → FramedState → ℕ → ℕ
framed_passed net F frame k = cond (may_pass net F frame k) (min (flow_of net k) (queue frame.state k)) 0

-- This is the framed state after a period of a frame that has begun.
abbrev pub framed_step : Network → ℕ → List ℕ → FramedState → FramedState
framed_step net F counts frame = record frame { state = step_by net (framed_passed net F frame) (arrivals_of net counts) frame.state }

-- This is the framed state after a period, at whose beginning a frame may begin.
abbrev pub framed_advance : Network → ℕ → List ℕ → FramedState → FramedState
framed_advance net F counts now = framed_step net F counts (in_frame net F now)

-- These are the framed states from one on, one more than the periods.
abbrev pub framed_run_from : Network → ℕ → FramedState → List (List ℕ) → List FramedState
framed_run_from net F now [] = now ∷ []
framed_run_from net F now (counts ∷ A) = now ∷ framed_run_from net F (framed_advance net F counts now) A

-- The framed run over the arrivals of a list of periods is the list of its framed states from the opening on.
abbrev pub framed_run : Network → ℕ → List (List ℕ) → List FramedState
framed_run net F A = framed_run_from net F (framed_opening net) A

-- This is the framed state after a list of periods, from one on.
abbrev pub framed_after : Network → ℕ → FramedState → List (List ℕ) → FramedState
framed_after net F now [] = now
framed_after net F now (counts ∷ A) = framed_after net F (framed_advance net F counts now) A

-- The line of a period gives the stages of its frame.
abbrev pub framed_line : Network → ℕ → FramedState → List ℕ → List ℕ
framed_line net F now counts =
    let next : FramedState = framed_advance net F counts now in
    period_line next.state.period counts next.stages next.state.queues

-- These are the lines of the periods that follow a framed state.
abbrev pub framed_lines_from : Network → ℕ → FramedState → List (List ℕ) → List (List ℕ)
framed_lines_from net F now [] = []
framed_lines_from net F now (counts ∷ A) = framed_line net F now counts ∷ framed_lines_from net F (framed_advance net F counts now) A

-- The lines of a framed run are a line per period, and the end line.
abbrev pub framed_lines : Network → ℕ → List (List ℕ) → List (List ℕ)
framed_lines net F A = framed_lines_from net F (framed_opening net) A ++ end_line net (framed_after net F (framed_opening net) A).state ∷ []

-- The log of a framed run is the text of the header and these lines.
abbrev pub framed_log : Network → ℕ → ℕ → ℕ → List ℕ → List (List ℕ) → List ℕ
framed_log net F E D bounds A = text_of (header_lines net E D bounds ++ framed_lines net F A)

-- The drift constant of a frame is twice the square of the share total times the rate length times the sum of the quarters of the squares of what the flows pass in F - 1 periods, each rounded down, plus 2F times the sum of the products of the two terms, plus the square of F times the sum of the squared step terms.
abbrev pub frame_constant : Network → ℕ → ℕ
frame_constant net F = 2 * (net.shares * net.per * (net.shares * net.per)) * sum_by (λ k. (F - 1) * flow_of net k * ((F - 1) * flow_of net k) / 4) (movement_numbers net)
    + 2 * F * sum_by (λ k. credit_term net k * step_term net k) (movement_numbers net)
    + F * F * sum_by (λ k. step_term net k * step_term net k) (movement_numbers net)

-- The queue threshold of frames under the slack E/D is D times the drift constant of a frame, divided by E times F - 1 times twice the square of the share total times the rate length, and rounded down.
abbrev pub frame_threshold : Network → ℕ → ℕ → ℕ → ℕ
frame_threshold net F E D = D * frame_constant net F / (2 * (net.shares * net.per * (net.shares * net.per)) * (F - 1) * E)

-- The greatest drift value at the beginning of a frame is the greater of that of the start queues and of what it rises to from queues at the threshold.
abbrev pub greatest_frame_drift : Network → ℕ → ℕ → ℕ → ℕ
greatest_frame_drift net F E D =
    let root = net.shares * net.per * frame_threshold net F E D + sum_by (credit_term net) (movement_numbers net) in
    max (root * root + frame_constant net F) (start_drift net)

-- The bound of movement k is the root of this greatest drift value plus the credit-and-burst term plus F - 1 step terms, divided by the share total times the rate length, and rounded down.
abbrev pub frame_bound : Network → ℕ → ℕ → ℕ → ℕ
frame_bound net F root k = (root + credit_term net k + (F - 1) * step_term net k) / (net.shares * net.per)

-- These are the bounds of the movements for frames of F periods under the slack E/D of the frame network.
pub record AreFrameBounds (net : Network) (F E D : ℕ) (bounds : List ℕ) : Type 0 where
  pub root : ℕ
  pub is_root : IsRoot root (greatest_frame_drift net F E D)
  pub are : bounds ≡ map (frame_bound net F root) (movement_numbers net)
