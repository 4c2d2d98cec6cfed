use Rattle.mp_flow.proofs.RowLoopLemmas.{FlowStack}
use Rattle.mp_flow.proofs.network_rows.flow_system.Given as goal

abbrev pub invariant-loop-l : goal.invariant-loop-l
invariant-loop-l l = FlowStack l.net l.l l.cells.items
