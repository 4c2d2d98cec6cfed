use Rattle.mp_net.specs.Parts.{network_of}
use Rattle.mp_net.proofs.Marks.{MarksAfter}
use Rattle.mp_net.proofs.outlets.first_without_way.Given as goal

abbrev pub invariant-loop-round : goal.invariant-loop-round
invariant-loop-round l = MarksAfter (network_of l.parts) l._round l.marks.items
