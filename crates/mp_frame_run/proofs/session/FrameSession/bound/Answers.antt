use Rattle.std.proofs.Common.{◌≤◌, ◌-◌, ◌∙◌, ap, arith, length, ℤ, pos, subst, sym, unsigned_abs, FitsSigned, to_z-of_z, rules}
use Rattle.std.specs.Int.{w128}
use Rattle.std.specs.Prelude.{slice_index_or}
use Rattle.mp_model.specs.Network.{entry}
use Rattle.mp_frame_run.specs.Framed.{Framed}
use Rattle.mp_frame_run.specs.FramedView.{framed_of}
use Rattle.mp_frame_run.proofs.Accounts.{queue_within}
use Rattle.mp_frame_run.proofs.Bounds.{bounds_size}
use Rattle.mp_frame_run.proofs.session.FrameSession.bound.Goals as goal

pub bound_at-requires : goal.bound_at-requires
bound_at-requires c =
    let size = ap length c.as_slice.ensures ∙ bounds_size (framed_of c.self.inside) c.self.invariant.framed in
    let same = ap (λ (s : Framed). length s.net.movements) c.self.view_is in
    (c.requires.0, omega (arith, size, same, c.requires.1))

pub returns-clause-holds : goal.returns-clause-holds
returns-clause-holds c =
    let s = framed_of c.self.inside in
    let few : c.args.k ≤ length s.net.movements = subst (λ (b : Framed). c.args.k ≤ length b.net.movements) (sym c.self.view_is) c.requires.1 in
    let here : entry c.args.self.now.at.queues c.args.k ≤ unsigned_abs (slice_index_or s.bounds (c.args.k - 1) (pos 0)) =
    subst (λ (b : Framed). entry b.at.queues c.args.k ≤ unsigned_abs (slice_index_or s.bounds (c.args.k - 1) (pos 0))) c.self.view_is (queue_within s c.self.invariant.framed c.args.k c.requires.0 few) in
    let fits : FitsSigned w128 c.bound_at.result = search rules in
    let read : entry c.args.self.now.at.queues c.args.k ≤ unsigned_abs c.bound_at.result =
    subst (λ (n : ℤ). entry c.args.self.now.at.queues c.args.k ≤ unsigned_abs n) (sym (c.bound_at.ensures ∙ ap (λ xs. slice_index_or xs (c.args.k - 1) (pos 0)) c.as_slice.ensures)) here in
    simp to_z-of_z read
