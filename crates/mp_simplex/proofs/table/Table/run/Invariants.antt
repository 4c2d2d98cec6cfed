use Rattle.std.proofs.Common.{◌-◌}
use Rattle.mp_simplex.proofs.RunLemmas.{Turning}
use Rattle.mp_simplex.proofs.table.Table.run.Given as goal

abbrev pub invariant-turns : goal.invariant-turns
invariant-turns l = Turning l.limit l.fn.self l.done l.self

abbrev pub decreases-turns : goal.decreases-turns
decreases-turns l = l.limit - l.done
