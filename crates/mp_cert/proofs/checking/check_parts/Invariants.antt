use Rattle.std.proofs.Common.{length}
use Rattle.mp_model.specs.Network.{junction_at}
use Rattle.mp_cert.specs.Checking.{tried}
use Rattle.mp_cert.specs.Views.{cert_of}
use Rattle.mp_cert.specs.declared.types.CertFault.TheVariants.{Part}
use Rattle.mp_cert.proofs.FirstLemmas.{Trying}
use Rattle.mp_cert.proofs.checking.check_parts.Given as goal

abbrev pub invariant-loop-s : goal.invariant-loop-s
invariant-loop-s l = Trying (λ s. tried l.net (cert_of l.cert) (Part l.j s)) (length (junction_at l.net l.j).stages) l.s
