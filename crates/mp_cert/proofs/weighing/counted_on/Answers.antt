use Rattle.std.proofs.Common.{◌==◌, length}
use Rattle.mp_model.specs.Network.{from_of}
use Rattle.mp_cert.proofs.PlaceLemmas.{kept_known}
use Rattle.mp_cert.proofs.weighing.counted_on.Goals as goal

pub add_counted-requires-clause-movement : goal.add_counted-requires-clause-movement
add_counted-requires-clause-movement c = kept_known (λ k. from_of c.args.net.now k == c.args.l) (length c.args.net.now.movements) c.out_of-j-items.result.now c.loop-j.j-index c.out_of-j-items.ensures c.loop-j-test.true
