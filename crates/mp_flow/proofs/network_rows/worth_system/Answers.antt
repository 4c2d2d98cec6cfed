use Rattle.mp_flow.proofs.RowLoopLemmas.{worth_stack_more}
use Rattle.mp_flow.proofs.network_rows.worth_system.Goals as goal

pub loop-l-preserved : goal.loop-l-preserved
loop-l-preserved c = worth_stack_more _ _ _ _ _ c.loop-l.invariant c.in_ok-push_worth_row.ensures
