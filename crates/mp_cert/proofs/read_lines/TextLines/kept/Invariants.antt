use Rattle.std.proofs.Common.{length}
use Rattle.mp_cert.specs.TextReading.{SameAhead, HasRoom}
use Rattle.mp_cert.proofs.read_lines.TextLines.kept.Given as goal

abbrev pub invariant-loop-line : goal.invariant-loop-line
invariant-loop-line l = record { room : HasRoom l.self.number l.self.rest.now; same : SameAhead l.initial.self.number l.initial.self.rest.now l.self.number l.self.rest.now }

abbrev pub decreases-loop-line : goal.decreases-loop-line
decreases-loop-line l = length l.self.rest.now
