use Rattle.mp_model.specs.Network.{junction_at}
use Rattle.mp_net.specs.Parts.{network_of}
use Rattle.mp_net.specs.Rows.{IsJunctionRow}
use Rattle.mp_net.proofs.Filled.{FilledTo}
use Rattle.mp_net.proofs.tables.junction_rows.Given as goal

abbrev pub invariant-loop-j : goal.invariant-loop-j
invariant-loop-j l = FilledTo (λ j. IsJunctionRow (network_of l.parts) (junction_at (network_of l.parts) j)) l.j l.rows.items
