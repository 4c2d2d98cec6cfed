use Rattle.mp_net.specs.Parts.{network_of}
use Rattle.mp_net.specs.Rows.{IsLinkRow}
use Rattle.mp_net.proofs.Filled.{FilledTo}
use Rattle.mp_net.proofs.tables.link_rows.Given as goal

abbrev pub invariant-loop-l : goal.invariant-loop-l
invariant-loop-l l = FilledTo (IsLinkRow (network_of l.parts)) l.l l.rows.items
