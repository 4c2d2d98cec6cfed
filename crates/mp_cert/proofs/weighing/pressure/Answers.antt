use Rattle.mp_cert.proofs.PlaceLemmas.{staged_known}
use Rattle.mp_cert.proofs.weighing.pressure.Goals as goal

pub add_pressed-requires-clause-movement : goal.add_pressed-requires-clause-movement
add_pressed-requires-clause-movement c = staged_known c.args.net.now c.requires.acceptable.network c.args.j c.args.s c.stage-k-items.result.now c.loop-k.k-index c.stage-k-items.ensures c.loop-k-test.true
