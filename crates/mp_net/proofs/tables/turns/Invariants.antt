use Rattle.mp_net.specs.Parts.{network_of}
use Rattle.mp_net.specs.Rows.{IsTurn}
use Rattle.mp_net.proofs.Filled.{FilledTo}
use Rattle.mp_net.proofs.tables.turns.Given as goal

abbrev pub invariant-loop-k : goal.invariant-loop-k
invariant-loop-k l = FilledTo (IsTurn (network_of l.parts)) l.k l.rows.items
