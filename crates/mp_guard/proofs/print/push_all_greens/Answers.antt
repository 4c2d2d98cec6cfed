use Rattle.mp_guard.proofs.PrintLemmas.{greening_next}
use Rattle.mp_guard.proofs.print.push_all_greens.Goals as goal

pub loop-index-preserved : goal.loop-index-preserved
loop-index-preserved c = greening_next c.args.text.now.items c.loop-index.text.items c.push_greens.new.text.items c.args.greens.now c.index-greens-index.result c.loop-index.index c.loop-index.invariant c.loop-index-test.true c.index-greens-index.is (rw c.as_slice.ensures.value at c.in_ok-push_greens.ensures)
