use Rattle.std.proofs.Common.{◌≡◌, ◌≤◌, ◌∙◌, map, pos, sym, ap, subst, false, is_err, List, ℕ, arith}
use Rattle.mp_model.specs.EventCore.{all_lacking, apply, core_after}
use Rattle.mp_model.specs.EventCore.Event.{close}
use Rattle.mp_model.specs.Log.{period_line}
use Rattle.mp_model.specs.Network.{Network}
use Rattle.mp_model.specs.NetworkRules.{IsNetwork}
use Rattle.mp_model.specs.Step.{AreStages}
use Rattle.mp_model.specs.Arrivals.{HasCounts}
use Rattle.mp_round.specs.Advancing.{Advances}
use Rattle.mp_round.specs.RoundView.{RoundView, core_of}
use Rattle.mp_session.specs.SessionView.{SessionView}
use Rattle.mp_step.specs.Standing.{IsOn, Standing}
use Rattle.mp_step.specs.declared.state.AboveAt.{AboveAt}
use Rattle.mp_run.proofs.AuditLemmas.{above_refutes, on_ok}
use Rattle.mp_run.proofs.PeriodLemmas.{line_fits, signed_is}
use Rattle.mp_event_audit.proofs.Taking.{closed_answer, closes_logged}
use Rattle.mp_event_audit.proofs.auditing.is_period.Goals as goal

pub returns-then-is_err-clause-closes : goal.returns-then-is_err-clause-closes
returns-then-is_err-clause-closes c = λ A stands permitted e.
    above_refutes c.close_all.result (λ (x : AboveAt). x.link) c.args.session.now.net c.args.session.now.round.standing c.args.arrivals.now (sym c.is_err.ensures.value ∙ c.if-is_err.true) c.close_all.ensures.excess A stands.taken permitted

pub push_period-requires-clause-fits : goal.push_period-requires-clause-fits
push_period-requires-clause-fits c =
    let ok : is_err c.close_all.result ≡ false = sym c.is_err.ensures.value ∙ c.if-is_err.false in
    let old = c.args.session.now in
    let new = c.close_all.new.self in
    let counts : List ℕ = c.args.arrivals.now in
    let kept = c.round-round.ensures.kept in
    let net : new.net ≡ old.net = ap (λ (s : SessionView). s.net) c.close_all.ensures.same in
    let at : c.state-state.result.now ≡ new.round.standing = c.state-state.ensures ∙ ap (λ (r : RoundView). r.standing) c.round-round.ensures.value in
    let stages : c.stages.result.now ≡ new.round.last = c.stages.ensures ∙ ap (λ (r : RoundView). r.last) c.round-round.ensures.value in
    let advances = on_ok c.close_all.result (Advances old.net old.round.standing new.round.standing new.round.last counts) ok c.close_all.ensures.advances in
    let some : 1 ≤ new.round.standing.period = let period = advances.period in omega (arith, period) in
    line_fits new.net c.period.result counts c.stages.result.now c.queues-queues.result.now c.state-state.result.now kept.acceptable.range (subst (λ (st : Standing). IsOn new.net st) (sym at) kept.on.on)
    (subst (λ (n : Network). HasCounts n counts) (sym net) c.requires.can.fits) (subst (λ (ss : List ℕ). AreStages new.net.junctions ss) (sym stages) (kept.on.last some)) c.requires.can.digits c.period.ensures.few
    (signed_is c.queues-queues.result.now c.state-state.result.now.queues c.queues-queues.ensures.counts.none_negative c.queues-queues.ensures.value) c.queues-queues.ensures.few

pub returns-clause-closes : goal.returns-clause-closes
returns-clause-closes c =
    let ok : is_err c.close_all.result ≡ false = sym c.is_err.ensures.value ∙ c.if-is_err.false in
    let old = c.args.session.now in
    let new = c.close_all.new.self in
    let counts : List ℕ = c.args.arrivals.now in
    let kept = c.round-round.ensures.kept in
    let net : new.net ≡ old.net = ap (λ (s : SessionView). s.net) c.close_all.ensures.same in
    let network : IsNetwork old.net = subst (λ (n : Network). IsNetwork n) net kept.acceptable.network in
    let at : c.state-state.result.now ≡ new.round.standing = c.state-state.ensures ∙ ap (λ (r : RoundView). r.standing) c.round-round.ensures.value in
    let stages : c.stages.result.now ≡ new.round.last = c.stages.ensures ∙ ap (λ (r : RoundView). r.last) c.round-round.ensures.value in
    let advances = on_ok c.close_all.result (Advances old.net old.round.standing new.round.standing new.round.last counts) ok c.close_all.ensures.advances in
    let queues : c.queues-queues.result.now ≡ map pos new.round.standing.queues =
    signed_is c.queues-queues.result.now new.round.standing.queues c.queues-queues.ensures.counts.none_negative (c.queues-queues.ensures.value ∙ ap (λ (st : Standing). st.queues) at) in
    let number : c.period.result ≡ new.round.standing.period = c.period.ensures.value ∙ ap (λ (st : Standing). st.period) at in
    let closes = closed_answer c.close_all.result (apply old.net (core_after old.net (core_of old.round) (all_lacking old.net (core_of old.round))) (close counts)).0 ok c.close_all.ensures.answer in
    closes_logged c.is_same.result old.net network c.args.line.now counts c.bytes.result.now old.round new.round
    (c.bytes.ensures.value ∙ c.push_period.ensures.held new.round.standing.queues queues ∙ ap (λ p. period_line p counts c.stages.result.now new.round.standing.queues) number
    ∙ ap (λ (ss : List ℕ). period_line new.round.standing.period counts ss new.round.standing.queues) stages)
    closes c.close_all.ensures.core advances.taken advances.period c.is_same.ensures
