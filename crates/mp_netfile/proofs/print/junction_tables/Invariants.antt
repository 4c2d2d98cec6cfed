use Rattle.mp_netfile.specs.Printed.{junction_tree}
use Rattle.mp_netfile.proofs.Rows.{RowsTo}
use Rattle.mp_netfile.proofs.print.junction_tables.Given as goal

abbrev pub invariant-loop-j : goal.invariant-loop-j
invariant-loop-j l = RowsTo (junction_tree l.net) l.net.junctions l.j l.tables.items
