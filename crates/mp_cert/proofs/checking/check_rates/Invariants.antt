use Rattle.std.proofs.Common.{length}
use Rattle.mp_cert.specs.Checking.{tried}
use Rattle.mp_cert.specs.Views.{cert_of}
use Rattle.mp_cert.specs.declared.types.CertFault.TheVariants.{H}
use Rattle.mp_cert.proofs.FirstLemmas.{Trying}
use Rattle.mp_cert.proofs.checking.check_rates.Given as goal

abbrev pub invariant-loop-k : goal.invariant-loop-k
invariant-loop-k l = Trying (λ k. tried l.net (cert_of l.cert) (H k)) (length l.net.movements) l.k
