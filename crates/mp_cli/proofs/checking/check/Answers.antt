use Rattle.std.proofs.Common.{refl, inl, inr, sym, subst, arith}
use Rattle.std.proofs.lemmas.Int.{ints}
use Rattle.mp_cert.specs.TextMeaning.{cert_meaning}
use Rattle.mp_cert.specs.Views.{cert_of}
use Rattle.mp_netfile.specs.Meaning.{file_meaning}
use Rattle.mp_cli.specs.declared.outcome.Outcome.{Outcome}
use Rattle.mp_cli.specs.Checking.{RefusesCert}
use Rattle.mp_cli.proofs.OpeningLemmas.{reads_more, reads_before, text_before}
use Rattle.mp_cli.proofs.SessionLemmas.{fault_so}
use Rattle.mp_cli.proofs.checking.check.Goals as goal

pub returns-in-Err-clause-means : goal.returns-in-Err-clause-means
returns-in-Err-clause-means g c = λ left. inl (c.in-Err.ensures.refused, record { input = refl; output = refl })

pub returns-in-Err-open_cert-clause-means : goal.returns-in-Err-open_cert-clause-means
returns-in-Err-open_cert-clause-means g c = λ left. inr (reads_more file_meaning _ _ c.in-Ok.net _ c.in-Ok.ensures.net (c.in-Ok.ensures.acceptable, inl (text_before _ _ (cert_meaning c.in-Ok.net) _ _ _ c.in-Ok.ensures.same c.in-Err-open_cert.ensures.refused, record { input = refl; output = refl })))

pub returns-in-Err-check-clause-means : goal.returns-in-Err-check-clause-means
returns-in-Err-check-clause-means g c = λ left. inr (reads_more file_meaning _ _ c.in-Ok.net _ c.in-Ok.ensures.net (c.in-Ok.ensures.acceptable, inr (reads_before (cert_meaning c.in-Ok.net) _ _ _ _ c.in-Ok.ensures.same (reads_more (cert_meaning c.in-Ok.net) _ _ (cert_of c.in-Ok-open_cert.cert) _ c.in-Ok-open_cert.ensures.ok (inl (subst (λ (outcome : Outcome). RefusesCert outcome c.in-Ok.net (cert_of c.in-Ok-open_cert.cert)) (sym c.outcome_of_fault.ensures) (fault_so c.in-Err-check.fault c.in-Ok.net (cert_of c.in-Ok-open_cert.cert) c.in-Ok-open_cert.ensures.lengths (sym c.in-Err-check.ensures.outcome)), record { input = refl; output = refl }))))))

pub returns-in-Ok-put_accepted-clause-means : goal.returns-in-Ok-put_accepted-clause-means
returns-in-Ok-put_accepted-clause-means g c = λ left.
    let certifies = (c.in_default.ensures.accepts.0 refl).0 in
    let some = certifies.excess in
    inr (reads_more file_meaning _ _ c.in-Ok.net _ c.in-Ok.ensures.net (c.in-Ok.ensures.acceptable, inr (reads_before (cert_meaning c.in-Ok.net) _ _ _ _ c.in-Ok.ensures.same (reads_more (cert_meaning c.in-Ok.net) _ _ (cert_of c.in-Ok-open_cert.cert) _ c.in-Ok-open_cert.ensures.ok (inr (sym c.in_default.ensures.outcome, record { certifies = certifies; num = _; den = _; slack = c.slack.ensures.slack (omega (arith, ints, some)); answers = (refl, c.in-Ok-put_accepted.ensures.bytes) }))))))

pub returns-clause-means : goal.returns-clause-means
returns-clause-means g c = λ left.
    let certifies = (c.in_default.ensures.accepts.0 refl).0 in
    let some = certifies.excess in
    inr (reads_more file_meaning _ _ c.in-Ok.net _ c.in-Ok.ensures.net (c.in-Ok.ensures.acceptable, inr (reads_before (cert_meaning c.in-Ok.net) _ _ _ _ c.in-Ok.ensures.same (reads_more (cert_meaning c.in-Ok.net) _ _ (cert_of c.in-Ok-open_cert.cert) _ c.in-Ok-open_cert.ensures.ok (inr (sym c.in_default.ensures.outcome, record { certifies = certifies; num = _; den = _; slack = c.slack.ensures.slack (omega (arith, ints, some)); answers = (refl, c.in-Err-put_accepted.ensures.bytes) }))))))
