use Rattle.mp_netfile.specs.Printed.{movement_tree}
use Rattle.mp_netfile.proofs.Rows.{RowsTo}
use Rattle.mp_netfile.proofs.print.movement_tables.Given as goal

abbrev pub invariant-loop-k : goal.invariant-loop-k
invariant-loop-k l = RowsTo (movement_tree l.net) l.net.movements l.k l.tables.items
