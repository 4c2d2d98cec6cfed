use Rattle.std.proofs.Common.{pos, Some}
use Rattle.mp_model.specs.Certificate.{rate_of}
use Rattle.mp_num.specs.Operations.{added}
use Rattle.mp_cert.specs.Views.{cert_of}
use Rattle.mp_cert.proofs.RunLemmas.{Running}
use Rattle.mp_cert.proofs.rules.inflow.Given as goal

abbrev pub invariant-loop-j : goal.invariant-loop-j
invariant-loop-j l = Running (added (λ j. Some (rate_of (cert_of l.cert) j))) (pos 0) l.j-items l.j-index l.sum
