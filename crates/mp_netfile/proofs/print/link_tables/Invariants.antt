use Rattle.mp_netfile.specs.Printed.{link_tree}
use Rattle.mp_netfile.proofs.Rows.{RowsTo}
use Rattle.mp_netfile.proofs.print.link_tables.Given as goal

abbrev pub invariant-loop-l : goal.invariant-loop-l
invariant-loop-l l = RowsTo link_tree l.net.links l.l l.tables.items
