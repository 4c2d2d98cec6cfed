use Rattle.mp_model.specs.Network.{junction_at}
use Rattle.mp_netfile.specs.Printed.{stage_tree}
use Rattle.mp_netfile.proofs.Rows.{RowsTo}
use Rattle.mp_netfile.proofs.print.stage_arrays.Given as goal

abbrev pub invariant-loop-s : goal.invariant-loop-s
invariant-loop-s l = RowsTo (stage_tree l.net) (junction_at l.net l.j).stages l.s l.stages.items
