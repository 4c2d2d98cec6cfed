use Rattle.std.proofs.Common.{refl, inl, inr}
use Rattle.mp_netfile.specs.Meaning.{file_meaning}
use Rattle.mp_cli.proofs.OpeningLemmas.{reads_more}
use Rattle.mp_cert.specs.Views.{cert_of}
use Rattle.mp_cli.proofs.SessionLemmas.{admits, has_greatest}
use Rattle.mp_cli.proofs.certifying.certify.Goals as goal

pub returns-in-Err-clause-means : goal.returns-in-Err-clause-means
returns-in-Err-clause-means g c = λ left. inl (c.in-Err.ensures.refused, record { input = refl; output = refl })

pub returns-in-Err-admitted-clause-means : goal.returns-in-Err-admitted-clause-means
returns-in-Err-admitted-clause-means g c = λ left. inr (reads_more file_meaning _ _ c.in-Ok.net _ c.in-Ok.ensures.net (c.in-Ok.ensures.acceptable, inl (c.in-Err-admitted.ensures.refused, record { input = refl; output = refl })))

pub returns-in-Ok-print_cert-clause-means : goal.returns-in-Ok-print_cert-clause-means
returns-in-Ok-print_cert-clause-means g c = λ left. inr (reads_more file_meaning _ _ c.in-Ok.net _ c.in-Ok.ensures.net (c.in-Ok.ensures.acceptable, inr (admits c.in-Ok.net (cert_of c.in-Ok-admitted.cert) c.in-Ok-admitted.ensures.admitted _ (record { has = has_greatest c.in-Ok.net (cert_of c.in-Ok-admitted.cert) c.in-Ok-admitted.ensures.admitted; answers = (refl, c.in-Ok-print_cert.ensures.bytes) }))))

pub returns-clause-means : goal.returns-clause-means
returns-clause-means g c = λ left. inr (reads_more file_meaning _ _ c.in-Ok.net _ c.in-Ok.ensures.net (c.in-Ok.ensures.acceptable, inr (admits c.in-Ok.net (cert_of c.in-Ok-admitted.cert) c.in-Ok-admitted.ensures.admitted _ (record { has = has_greatest c.in-Ok.net (cert_of c.in-Ok-admitted.cert) c.in-Ok-admitted.ensures.admitted; answers = (refl, c.in-Err-print_cert.ensures.bytes) }))))
