use Rattle.std.proofs.Common.{pos, length}
use Rattle.mp_model.specs.Network.{junction_at, numbers_to}
use Rattle.mp_cert.specs.Rules.{part_added}
use Rattle.mp_cert.specs.Views.{cert_of}
use Rattle.mp_cert.proofs.RunLemmas.{Running}
use Rattle.mp_cert.proofs.rules.parts_for.Given as goal

abbrev pub invariant-loop-s : goal.invariant-loop-s
invariant-loop-s l = Running (part_added l.net (cert_of l.cert) l.j l.k) (pos 0) (numbers_to (length (junction_at l.net l.j).stages)) l.s l.sum
