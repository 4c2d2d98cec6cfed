-- A frame lets pass what its flags say.
use Rattle.std.proofs.Common.{◌≡◌, ℕ, ◌-◌, false, cond, min, length, arith, sym, ap}
use Rattle.std.specs.List.{AllByRecursion}
use Rattle.std.proofs.lemmas.List.FromFn.{get_or-map-range_with_len}
use Rattle.mp_laws.proofs.Lists.{each_in, in_numbers}
use Rattle.mp_model.specs.Arrivals.{arrivals_of}
use Rattle.mp_model.specs.Frames.{FramedState, framed_passed, may_pass}
use Rattle.mp_model.specs.Network.{Network, flow_of, movement_numbers}
use Rattle.mp_model.specs.Step.{queue}
use Rattle.mp_step.proofs.SamePasses.{step_same}
use Rattle.mp_step.specs.OpenStep.{flag, passed_open}
use Rattle.mp_frame.specs.Flags.{FrameFlagsLaw, frame_flags}

as_flags : (net : Network) (F : ℕ) (frame : FramedState) → AllByRecursion (λ k. framed_passed net F frame k ≡ passed_open net (frame_flags net F frame) (queue frame.state) k) (movement_numbers net)
as_flags net F frame = each_in _ (movement_numbers net) (λ k h.
    let i = in_numbers (length net.movements) k h in
    let read : flag (frame_flags net F frame) k ≡ may_pass net F frame k = get_or-map-range_with_len (may_pass net F frame) 1 (length net.movements) (k - 1) k false (omega (arith, i)) (omega (arith, i)) in
    ap (λ b. cond b (min (flow_of net k) (queue frame.state k)) 0) (sym read))

pub flags_agree : FrameFlagsLaw
flags_agree net F frame counts = step_same net _ _ (as_flags net F frame) (arrivals_of net counts) frame.state
