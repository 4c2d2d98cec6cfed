use Rattle.mp_growth.proofs.EvenCounts.{fed_at}
use Rattle.mp_growth.proofs.evens.uneven_link.Goals as goal

pub is_uneven-requires-clause-link : goal.is_uneven-requires-clause-link
is_uneven-requires-clause-link c = fed_at c.args.net.now c.fed-l-items.result.now c.loop-l.l-index c.fed-l-items.ensures c.loop-l-test.true
