use Rattle.mp_cert.specs.Views.{cert_of}
use Rattle.mp_cert.proofs.LengthLemmas.{Fitting}
use Rattle.mp_cert.proofs.lengths.have_parts.Given as goal

abbrev pub invariant-loop-j : goal.invariant-loop-j
invariant-loop-j l = Fitting l.net (cert_of l.cert) l.j
