use Rattle.std.proofs.Common.{arith, refl, sym, subst}
use Rattle.std.proofs.lemmas.Int.{ints}
use Rattle.mp_model.specs.Certificate.{Certifies}
use Rattle.mp_model.specs.Network.{Network}
use Rattle.mp_cert.specs.Views.{cert_of}
use Rattle.mp_num.specs.Fraction.{numerator, denominator}
use Rattle.mp_drift.proofs.Opening.{slack_above}
use Rattle.mp_drift.specs.Session.{IsAccepted}
use Rattle.mp_frame_run.specs.Framed.{IsRefused}
use Rattle.mp_frame_run.proofs.Accounts.{accounted_at_opening}
use Rattle.mp_frame_run.proofs.Openings.{bounds_refused}
use Rattle.mp_frame_run.proofs.session.FrameSession.open.Goals as goal

pub frame_bounds-requires-clause-above : goal.frame_bounds-requires-clause-above
frame_bounds-requires-clause-above c =
    let certifies : Certifies c.args.framed.now (cert_of c.args.cert.now) = (c.in_default.ensures.accepts.0 refl).0 in
    slack_above c.slack-slack.result.num c.slack-slack.result.den c.args.cert.now.e c.args.cert.now.d (let d = c.slack-slack.ensures.lowest.positive in omega (arith, ints)) certifies.excess certifies.rules.denominator c.slack-slack.ensures.same

pub returns-in-Err-frame_bounds-clause-refused : goal.returns-in-Err-frame_bounds-clause-refused
returns-in-Err-frame_bounds-clause-refused c =
    let net = c.args.net.now in
    let cert = cert_of c.args.cert.now in
    let certifies : Certifies c.args.framed.now cert = (c.in_default.ensures.accepts.0 refl).0 in
    let slack = c.slack-slack.ensures.slack (let some = certifies.excess in omega (arith, ints)) in
    let refused = bounds_refused net c.args.f cert (numerator c.slack-slack.result) (denominator c.slack-slack.result) c.in-Err-frame_bounds.fault (subst (λ (n : Network). IsAccepted n cert) c.requires.framed (sym c.in_default.ensures.outcome))
    (subst (λ (n : Network). Certifies n cert) c.requires.framed certifies) slack c.in-Err-frame_bounds.ensures.calculation in
    subst (IsRefused net c.args.f cert) (sym c.open_fault.ensures) refused

pub invariant_of-result : goal.invariant_of-result
invariant_of-result c =
    let cert = cert_of c.args.cert.now in
    let certifies : Certifies c.args.framed.now cert = (c.in_default.ensures.accepts.0 refl).0 in
    let slack = c.slack-slack.ensures.slack (let some = certifies.excess in omega (arith, ints)) in
    record {
      framed = record {
        acceptable = c.shares.ensures.acceptable;
        periods = c.requires.frames;
        certified = (cert, subst (λ (n : Network). Certifies n cert) c.requires.framed certifies, slack);
        bounds = c.in-Ok.ensures.bounds;
        on = c.in-Ok-empty.ensures.on;
        account = accounted_at_opening _ c.shares.ensures.acceptable.network (c.in-Ok-no_frame.ensures.opening c.args.f) c.in-Ok-empty.ensures.taken;
      };
      set = c.in-Ok-no_frame.ensures.set c.args.f;
    }

pub returns-clause-slack : goal.returns-clause-slack
returns-clause-slack c =
    let certifies : Certifies c.args.framed.now (cert_of c.args.cert.now) = (c.in_default.ensures.accepts.0 refl).0 in
    c.slack-slack.ensures.slack (let some = certifies.excess in omega (arith, ints))

pub returns-clause-opening : goal.returns-clause-opening
returns-clause-opening c = record { stands = c.in-Ok-no_frame.ensures.opening c.args.f; taken = c.in-Ok-empty.ensures.taken }
