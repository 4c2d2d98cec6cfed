use Rattle.std.proofs.Common.{arith, refl, sym, subst}
use Rattle.std.proofs.lemmas.Int.{ints}
use Rattle.mp_model.specs.Certificate.{Certifies}
use Rattle.mp_cert.specs.Views.{cert_of}
use Rattle.mp_num.specs.Fraction.{numerator, denominator}
use Rattle.mp_drift.specs.Session.{IsRefused}
use Rattle.mp_drift.proofs.Opening.{slack_above, calc_refused}
use Rattle.mp_session.proofs.Reaching.{reached_first}
use Rattle.mp_session.proofs.session.Session.open.Goals as goal

pub bounds-requires-clause-above : goal.bounds-requires-clause-above
bounds-requires-clause-above c =
    let certifies : Certifies c.args.net.now (cert_of c.args.cert.now) = (c.in_default.ensures.accepts.0 refl).0 in
    slack_above c.slack-slack.result.num c.slack-slack.result.den c.args.cert.now.e c.args.cert.now.d (let d = c.slack-slack.ensures.lowest.positive in omega (arith, ints)) certifies.excess certifies.rules.denominator c.slack-slack.ensures.same

pub returns-in-Err-bounds-clause-refused : goal.returns-in-Err-bounds-clause-refused
returns-in-Err-bounds-clause-refused c =
    let certifies : Certifies c.args.net.now (cert_of c.args.cert.now) = (c.in_default.ensures.accepts.0 refl).0 in
    let slack = c.slack-slack.ensures.slack (let some = certifies.excess in omega (arith, ints)) in
    let refused = calc_refused c.args.net.now (cert_of c.args.cert.now) (numerator c.slack-slack.result) (denominator c.slack-slack.result) c.in-Err-bounds.fault (sym c.in_default.ensures.outcome) certifies slack c.in-Err-bounds.ensures.calculation in
    subst (IsRefused c.args.net.now (cert_of c.args.cert.now)) (sym c.open_fault.ensures) refused

pub invariant_of-result : goal.invariant_of-result
invariant_of-result c =
    let certifies : Certifies c.args.net.now (cert_of c.args.cert.now) = (c.in_default.ensures.accepts.0 refl).0 in
    let slack = c.slack-slack.ensures.slack (let some = certifies.excess in omega (arith, ints)) in
    record {
      acceptable = c.shares.ensures.acceptable;
      certified = (cert_of c.args.cert.now, certifies, slack);
      bounds = c.in-Ok-bounds.ensures.bounds;
      on = c.in-Ok-new.ensures.on;
      reached = reached_first c.args.net.now c.in-Ok-new.round c.in-Ok-new.ensures.opening;
    }

pub returns-clause-slack : goal.returns-clause-slack
returns-clause-slack c =
    let certifies : Certifies c.args.net.now (cert_of c.args.cert.now) = (c.in_default.ensures.accepts.0 refl).0 in
    c.slack-slack.ensures.slack (let some = certifies.excess in omega (arith, ints))
