use Rattle.std.proofs.Common.{refl, inl, inr}
use Rattle.mp_cert.specs.TextMeaning.{cert_meaning}
use Rattle.mp_cert.specs.Views.{cert_of}
use Rattle.mp_netfile.specs.Meaning.{file_meaning}
use Rattle.mp_cli.proofs.OpeningLemmas.{reads_more, reads_before, text_before}
use Rattle.mp_cli.proofs.auditing_with.audit_with.Goals as goal

pub returns-in-Err-clause-means : goal.returns-in-Err-clause-means
returns-in-Err-clause-means g c = inl (c.in-Err.ensures.refused, record { input = refl; output = refl })

pub returns-in-Ok-open_cert-clause-means : goal.returns-in-Ok-open_cert-clause-means
returns-in-Ok-open_cert-clause-means g c = inr (reads_more file_meaning _ _ c.in-Ok.net _ c.in-Ok.ensures.net (c.in-Ok.ensures.acceptable, inr (reads_before (cert_meaning c.in-Ok.net) _ _ _ _ c.in-Ok.ensures.same (reads_more (cert_meaning c.in-Ok.net) _ _ (cert_of c.in-Ok-open_cert.cert) _ c.in-Ok-open_cert.ensures.ok (c.audit_under.ensures.so (g.St.Store.files c.args.store.now))))))

pub returns-clause-means : goal.returns-clause-means
returns-clause-means g c = inr (reads_more file_meaning _ _ c.in-Ok.net _ c.in-Ok.ensures.net (c.in-Ok.ensures.acceptable, inl (text_before _ _ (cert_meaning c.in-Ok.net) _ _ _ c.in-Ok.ensures.same c.in-Err-open_cert.ensures.refused, record { input = refl; output = refl })))
