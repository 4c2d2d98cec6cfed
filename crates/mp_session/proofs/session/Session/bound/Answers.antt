use Rattle.std.proofs.Common.{◌≤◌, ◌-◌, ◌∙◌, ap, subst, sym, arith, length, ℤ, pos, unsigned_abs, FitsSigned, to_z-of_z, rules}
use Rattle.std.specs.Int.{w128}
use Rattle.std.specs.Prelude.{slice_index_or}
use Rattle.mp_model.specs.Network.{entry}
use Rattle.mp_session.specs.SessionView.{SessionView}
use Rattle.mp_session.specs.Showing.{shown_of}
use Rattle.mp_session.proofs.Bounding.{bounds_size, queue_within}
use Rattle.mp_session.proofs.session.Session.bound.Goals as goal

pub bound_at-requires : goal.bound_at-requires
bound_at-requires c =
    let size = ap length c.as_slice.ensures ∙ bounds_size (shown_of c.self.inside) c.self.invariant in
    let same = ap (λ (s : SessionView). length s.net.movements) c.self.view_is in
    (c.requires.0, omega (arith, size, same, c.requires.1))

pub returns-clause-holds : goal.returns-clause-holds
returns-clause-holds c =
    let s = shown_of c.self.inside in
    let few : c.args.k ≤ length s.net.movements = subst (λ (b : SessionView). c.args.k ≤ length b.net.movements) (sym c.self.view_is) c.requires.1 in
    let here : entry c.args.self.now.round.standing.queues c.args.k ≤ unsigned_abs (slice_index_or s.bounds (c.args.k - 1) (pos 0)) =
    subst (λ (b : SessionView). entry b.round.standing.queues c.args.k ≤ unsigned_abs (slice_index_or s.bounds (c.args.k - 1) (pos 0))) c.self.view_is (queue_within s c.self.invariant c.args.k c.requires.0 few) in
    let fits : FitsSigned w128 c.bound_at.result = search rules in
    let read : entry c.args.self.now.round.standing.queues c.args.k ≤ unsigned_abs c.bound_at.result =
    subst (λ (n : ℤ). entry c.args.self.now.round.standing.queues c.args.k ≤ unsigned_abs n) (sym (c.bound_at.ensures ∙ ap (λ xs. slice_index_or xs (c.args.k - 1) (pos 0)) c.as_slice.ensures)) here in
    simp to_z-of_z read
