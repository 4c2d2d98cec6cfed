use Rattle.std.proofs.Common.{arith}
use Rattle.mp_guard.proofs.ReadLemmas.{naturals_more, naturals_end}
use Rattle.mp_guard.proofs.read.all_naturals.Goals as goal

pub loop-row-preserved : goal.loop-row-preserved
loop-row-preserved c = naturals_more c.loop-row.greens.items c.push.new.self.items c.args.rows.now c.loop-row.row-index c.in_ok-naturals.field-0 c.row-item.result c.loop-row.invariant c.loop-row-test.true c.row-item.is (rw c.as_slice.ensures.value at c.in_ok-naturals.ensures) c.in_ok-push.ensures.items

pub returns : goal.returns
returns c = naturals_end c.loop-row.greens.items c.args.rows.now c.loop-row.row-index c.loop-row.invariant (omega arith)
