use Rattle.std.proofs.Common.{length, []}
use Rattle.mp_verdict.specs.Vector.{link_value}
use Rattle.mp_admit.proofs.PushLemmas.{Numbering}
use Rattle.mp_admit.proofs.vector.link_values.Given as goal

abbrev pub invariant-loop-l : goal.invariant-loop-l
invariant-loop-l l = Numbering (link_value l.net l.values) (length l.net.links) [] l.l l.row.items
