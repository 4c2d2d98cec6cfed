use Rattle.std.proofs.Common.{length, arith}
use Rattle.mp_model.specs.Network.{to_of, goes_to}
use Rattle.mp_cert.proofs.PlaceLemmas.{kept_known}
use Rattle.mp_cert.proofs.rules.inflow.Goals as goal

pub rate-requires : goal.rate-requires
rate-requires c =
    let net = c.args.net.now in
    let known = kept_known (λ k. goes_to (to_of net k) c.from.result) (length net.movements) c.into_link-j-items.result.now c.loop-j.j-index c.into_link-j-items.ensures c.loop-j-test.true in
    (known.0, omega (arith, known.1, c.requires.lengths.rates))
