use Rattle.std.proofs.Common.{ap, length, arith}
use Rattle.mp_growth.proofs.EvenCounts.{fed_at, fed_few, filled_end}
use Rattle.mp_growth.proofs.evens.even_arrivals.Goals as goal

pub even_count-requires-clause-link : goal.even_count-requires-clause-link
even_count-requires-clause-link c = fed_at c.args.net.now c.fed-l-items.result.now c.loop-l.l-index c.fed-l-items.ensures c.loop-l-test.true

pub push-requires : goal.push-requires
push-requires c = (omega arith, omega (arith, c.loop-l-test.true, c.loop-l.invariant.count, ap length c.fed-l-items.ensures, fed_few c.args.net.now, c.links-links.ensures.count, c.links-links.ensures.few))

pub returns-clause-value : goal.returns-clause-value
returns-clause-value c = filled_end c.args.net.now c.args.period c.loop-l.into.items c.loop-l.l-index c.loop-l.invariant (omega (arith, c.loop-l-test.false, ap length c.fed-l-items.ensures))
