use Rattle.mp_net.specs.Parts.{network_of}
use Rattle.mp_net.specs.Marks.{is_marked}
use Rattle.mp_net.proofs.Marks.{MarkedBelow}
use Rattle.mp_net.proofs.outlets.next_marks.Given as goal

abbrev pub invariant-loop-k : goal.invariant-loop-k
invariant-loop-k l = MarkedBelow (network_of l.parts) (is_marked l.marks) l.k l.next.items
