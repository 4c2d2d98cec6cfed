use Rattle.std.proofs.Common.{◌==◌, length, sym}
use Rattle.mp_model.specs.Network.{from_of}
use Rattle.mp_press.proofs.Known.{all_known}
use Rattle.mp_step.proofs.state.shares_of.Goals as goal

pub movement-requires : goal.movement-requires
movement-requires c =
    let net = c.args.net.now in
    let known = rw (sym c.out_of-ks.ensures) at (all_known (λ k. from_of net k == c.args.l) (length net.movements)) in
    known c.loop-k.k-index 0 c.loop-k-test.true
