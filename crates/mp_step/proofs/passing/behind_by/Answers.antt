use Rattle.std.proofs.Common.{◌≡◌, ◌-◌, ◌*◌, ◌∙◌, ℕ, Some, sym, arith, ap, get_or, length, sum_by}
use Rattle.mp_model.specs.Network.{to_of, out_of_target, share_of, entry}
use Rattle.mp_press.proofs.Known.{to_known}
use Rattle.mp_press.specs.Queues.{naturals}
use Rattle.mp_press.specs.Written.{IsAmong}
use Rattle.mp_press.specs.LinkSums.{AreSums}
use Rattle.mp_step.proofs.passing.behind_by.Goals as goal

pub overflow_sub-result : goal.overflow_sub-result
overflow_sub-result c = let l = to_known c.args.net.now c.requires.acceptable.network c.args.k c.in-Some-to.l c.requires.known (sym c.turn.ensures.to ∙ c.in-Some-to.is) in omega (arith, l, c.from.ensures)

pub bounds-queued-from : goal.bounds-queued-from
bounds-queued-from c =
    let l = to_known c.args.net.now c.requires.acceptable.network c.args.k c.in-Some-to.l c.requires.known (sym c.turn.ensures.to ∙ c.in-Some-to.is) in
    let sums : AreSums c.args.net.now (entry (naturals c.args.queues.now)) c.in-Some.queued.now = rw c.in-Some.is at c.requires.queued in
    omega (arith, l, c.from.ensures, sums.size)

pub returns-in-Some-to : goal.returns-in-Some-to
returns-in-Some-to c =
    let net = c.args.net.now in
    let q : ℕ → ℕ = entry (naturals c.args.queues.now) in
    let to : to_of net c.args.k ≡ Some c.in-Some-to.l = sym c.turn.ensures.to ∙ c.in-Some-to.is in
    let l : IsAmong (length net.links) c.in-Some-to.l = to_known net c.requires.acceptable.network c.args.k c.in-Some-to.l c.requires.known to in
    let sums : AreSums net q c.in-Some.queued.now = rw c.in-Some.is at c.requires.queued in
    ap (λ n. get_or c.in-Some.queued.now (n - 1) 0) c.from.ensures ∙ sums.each c.in-Some-to.l l.0 l.1 ∙ sym (ap (λ t. sum_by (λ j. share_of net j * q j) (out_of_target net t)) to)
