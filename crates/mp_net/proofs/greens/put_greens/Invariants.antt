use Rattle.mp_model.specs.Network.{junction_at}
use Rattle.mp_net.specs.Parts.{network_of}
use Rattle.mp_net.specs.Rows.{AreSpans}
use Rattle.mp_net.proofs.Filled.{FilledTo}
use Rattle.mp_net.proofs.greens.put_greens.Given as goal

abbrev pub invariant-loop-j : goal.invariant-loop-j
invariant-loop-j l = FilledTo (λ j spans. AreSpans l.greens.items (junction_at (network_of l.parts) j).stages spans.items) l.j l.rows.items
