use Rattle.std.proofs.Common.{length, []}
use Rattle.mp_flow.specs.Calculating.{worths_of}
use Rattle.mp_verdict.specs.Vector.{vector_entry}
use Rattle.mp_admit.proofs.PushLemmas.{Numbering}
use Rattle.mp_admit.proofs.vector.vector_entries.Given as goal

abbrev pub invariant-loop-k : goal.invariant-loop-k
invariant-loop-k l = Numbering (vector_entry l.net l.values (worths_of l.worths)) (length l.net.movements) [] l.k l.row.items
