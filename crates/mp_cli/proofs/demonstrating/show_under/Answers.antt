use Rattle.std.proofs.Common.{refl, inl, inr}
use Rattle.mp_cert.specs.Views.{cert_of}
use Rattle.mp_cli.specs.declared.outcome.Outcome.TheVariants.{Done, Write}
use Rattle.mp_cli.proofs.SessionLemmas.{stood_of, shown_run}
use Rattle.mp_cli.proofs.demonstrating.show_under.Goals as goal

pub returns-in-Err-clause-so : goal.returns-in-Err-clause-so
returns-in-Err-clause-so g c = λ files left. inl (c.in-Err.ensures.refused, record { input = refl; output = refl })

pub returns-in-Ok-put_demo-clause-so : goal.returns-in-Ok-put_demo-clause-so
returns-in-Ok-put_demo-clause-so g c = λ files left.
    let session = c.in-Ok.session in
    let net = c.args.net.now in
    let stood = stood_of net (cert_of c.args.cert.now) session c.round.ensures.kept c.in-Ok.ensures.net c.in-Ok.ensures.checked c.in-Ok.ensures.certifies c.in-Ok.ensures.slack c.in-Ok.ensures.found in
    inr (shown_run net (cert_of c.args.cert.now) c.args.n session c.demonstrate-greatest.new.session c.demonstrate-greatest.result Done _ stood c.in-Ok.ensures.net c.demonstrate-greatest.ensures.same c.demonstrate-greatest.ensures.shown (λ shown. (refl, c.in-Ok-put_demo.ensures.summary shown)))

pub returns-clause-so : goal.returns-clause-so
returns-clause-so g c = λ files left.
    let session = c.in-Ok.session in
    let net = c.args.net.now in
    let stood = stood_of net (cert_of c.args.cert.now) session c.round.ensures.kept c.in-Ok.ensures.net c.in-Ok.ensures.checked c.in-Ok.ensures.certifies c.in-Ok.ensures.slack c.in-Ok.ensures.found in
    inr (shown_run net (cert_of c.args.cert.now) c.args.n session c.demonstrate-greatest.new.session c.demonstrate-greatest.result Write _ stood c.in-Ok.ensures.net c.demonstrate-greatest.ensures.same c.demonstrate-greatest.ensures.shown (λ shown. (refl, c.in-Err-put_demo.ensures.summary shown)))
