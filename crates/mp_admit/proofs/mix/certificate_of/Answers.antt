use Rattle.std.proofs.Common.{map, Vec, Global}
use Rattle.mp_cert.specs.declared.types.Mix.{Mix}
use Rattle.mp_cert.specs.declared.types.Cert.{Cert}
use Rattle.mp_cert.specs.Views.{mix_of, cert_of}
use Rattle.mp_admit.proofs.MixLemmas.{with_refused}
use Rattle.mp_admit.proofs.mix.certificate_of.Goals as goal

pub returns-in-Err : goal.returns-in-Err
returns-in-Err c = with_refused {X = Vec Mix Global} {X' = Cert} (λ v. map mix_of v.items) cert_of _ _ c.in-Err.fault c.in-Err.ensures
