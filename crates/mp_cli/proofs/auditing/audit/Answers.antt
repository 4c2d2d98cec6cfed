use Rattle.std.proofs.Common.{refl, inl, inr}
use Rattle.mp_cert.specs.Views.{cert_of}
use Rattle.mp_netfile.specs.Meaning.{file_meaning}
use Rattle.mp_cli.proofs.OpeningLemmas.{reads_more}
use Rattle.mp_cli.proofs.SessionLemmas.{on_session}
use Rattle.mp_cli.proofs.auditing.audit.Goals as goal

pub returns-in-Err-clause-means : goal.returns-in-Err-clause-means
returns-in-Err-clause-means g c = inl (c.in-Err.ensures.refused, record { input = refl; output = refl })

pub returns-in-Ok-admitted-clause-means : goal.returns-in-Ok-admitted-clause-means
returns-in-Ok-admitted-clause-means g c = inr (reads_more file_meaning _ _ c.in-Ok.net _ c.in-Ok.ensures.net (c.in-Ok.ensures.acceptable, inr (on_session c.in-Ok.net (cert_of c.in-Ok-admitted.cert) c.in-Ok-admitted.ensures.admitted c.audit_under.result _ _ (c.audit_under.ensures.so (g.St.Store.files c.args.store.now)))))

pub returns-clause-means : goal.returns-clause-means
returns-clause-means g c = inr (reads_more file_meaning _ _ c.in-Ok.net _ c.in-Ok.ensures.net (c.in-Ok.ensures.acceptable, inl (c.in-Err-admitted.ensures.refused, record { input = refl; output = refl })))
