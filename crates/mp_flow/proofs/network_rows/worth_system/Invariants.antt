use Rattle.mp_flow.proofs.RowLoopLemmas.{WorthStack}
use Rattle.mp_flow.proofs.network_rows.worth_system.Given as goal

abbrev pub invariant-loop-l : goal.invariant-loop-l
invariant-loop-l l = WorthStack l.net l.u l.l l.cells.items
