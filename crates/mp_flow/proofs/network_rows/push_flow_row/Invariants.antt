use Rattle.mp_flow.specs.Systems.{flow_cell}
use Rattle.mp_flow.proofs.RowLoopLemmas.{Lining}
use Rattle.mp_flow.proofs.network_rows.push_flow_row.Given as goal

abbrev pub invariant-loop-m : goal.invariant-loop-m
invariant-loop-m l = Lining (flow_cell l.net l.l) l.fn.cells.items l.m l.cells.items
