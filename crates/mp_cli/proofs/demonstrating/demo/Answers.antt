use Rattle.std.proofs.Common.{refl, inl, inr, sym, subst}
use Rattle.mp_model.specs.Certificate.{Cert, Certifies}
use Rattle.mp_model.specs.Network.{Network}
use Rattle.mp_cert.specs.Views.{cert_of}
use Rattle.mp_cli.specs.Ports.{Ports}
use Rattle.mp_cli.specs.Demonstrating.{IsShownRun}
use Rattle.mp_cli.specs.Sessions.{OnSession, AtGreatest}
use Rattle.mp_cli.specs.Verdicts.{IsUnfinished, OfAdmitted}
use Rattle.mp_cli.proofs.SessionLemmas.{on_session, demo_unfinished}
use Rattle.mp_cli.proofs.demonstrating.demo.Goals as goal

pub returns-in-Ok-admitted-clause-means : goal.returns-in-Ok-admitted-clause-means
returns-in-Ok-admitted-clause-means g c = λ files left.
    let ports : Ports = record { files = files; input_before = left; input_after = left; output_before = g.Out.Sink.held c.args.out.now; output_after = g.Out.Sink.held c.show_under.new.out } in
    let outcome = c.show_under.result in
    inr (subst (λ (net : Network). OfAdmitted net (λ cert. OnSession outcome net cert ports (AtGreatest net (IsShownRun outcome net c.args.n ports)))) c.in-Ok.ensures
    (on_session c.in-Ok.net (cert_of c.in-Ok-admitted.cert) c.in-Ok-admitted.ensures.admitted outcome ports (IsShownRun outcome c.in-Ok.net c.args.n ports) (c.show_under.ensures.so files left)))

pub returns-clause-means : goal.returns-clause-means
returns-clause-means g c = λ files left.
    let certified = subst (λ (net : Network). (cert : Cert) × Certifies net cert) (sym c.in-Ok.ensures) (c.demo_certified_law.ensures c.args.n) in
    let is = demo_unfinished c.in-Err.outcome c.in-Ok.net c.shares.ensures.acceptable.network certified c.in-Err.ensures.refused in
    inl (subst (λ (net : Network). IsUnfinished c.in-Err.outcome net) c.in-Ok.ensures is, record { input = refl; output = refl })
