use Rattle.std.proofs.Common.{◌≡◌, ◌∙◌, ◌+◌, ◌++◌, ◌∷◌, [], map, pos, sym, ap, false, is_err, List, ℕ}
use Rattle.mp_model.specs.Network.{entry}
use Rattle.mp_model.specs.Step.{State}
use Rattle.mp_model.specs.Run.{greatest_stages, advance}
use Rattle.mp_model.specs.Log.{period_line}
use Rattle.mp_step.specs.Standing.{Standing, Stands}
use Rattle.mp_step.specs.Taken.{HasTaken}
use Rattle.mp_step.specs.declared.state.AboveAt.{AboveAt}
use Rattle.mp_run.proofs.AuditLemmas.{above_refutes, on_ok, closes_logged}
use Rattle.mp_run.proofs.BoundLemmas.{closed_line_fits}
use Rattle.mp_run.proofs.PeriodLemmas.{signed_is, line_after_is}
use Rattle.mp_run.proofs.auditing.is_period.Goals as goal

pub returns-then-is_err-clause-closes : goal.returns-then-is_err-clause-closes
returns-then-is_err-clause-closes c = λ A state taken stands permitted e.
    above_refutes c.period.result (λ (x : AboveAt). x.link) c.args.session.now.net c.args.session.now.at c.args.arrivals.now (sym c.is_err.ensures.value ∙ c.if-is_err.true) c.period.ensures.excess A taken permitted

pub push_period-requires-clause-fits : goal.push_period-requires-clause-fits
push_period-requires-clause-fits c =
    let ok : is_err c.period.result ≡ false = sym c.is_err.ensures.value ∙ c.if-is_err.false in
    let stages = on_ok c.period.result (c.period.new.self.stages ≡ greatest_stages c.args.session.now.net (entry c.args.session.now.at.queues)) ok c.period.ensures.stages in
    let same = on_ok c.period.result (c.period.new.self ≡ record c.args.session.now { at = c.period.new.self.at; stages = c.period.new.self.stages }) ok c.period.ensures.same in
    closed_line_fits c.args.session.now c.period.new.self c.state-state.ensures.bounded same stages c.state-state.result.now c.period-2.result c.args.arrivals.now c.stages-stages.result.now c.queues-queues.result.now
    c.state-state.ensures.value c.stages-stages.ensures c.requires.counts c.requires.digits c.period-2.ensures.few
    (signed_is c.queues-queues.result.now c.state-state.result.now.queues c.queues-queues.ensures.counts.none_negative c.queues-queues.ensures.value) c.queues-queues.ensures.few

pub returns-clause-closes : goal.returns-clause-closes
returns-clause-closes c =
    let ok : is_err c.period.result ≡ false = sym c.is_err.ensures.value ∙ c.if-is_err.false in
    let net = c.args.session.now.net in
    let old = c.args.session.now.at in
    let new = c.period.new.self.at in
    let counts : List ℕ = c.args.arrivals.now in
    let at = c.state-state.ensures.value in
    let stages = on_ok c.period.result (c.period.new.self.stages ≡ greatest_stages net (entry old.queues)) ok c.period.ensures.stages in
    let step = on_ok c.period.result ((state : State) → Stands net old state → Stands net new (advance net counts state)) ok c.period.ensures.step in
    let taken = on_ok c.period.result ((A : List (List ℕ)) → HasTaken net old A → HasTaken net new (A ++ counts ∷ [])) ok c.period.ensures.taken in
    let period = on_ok c.period.result (new.period ≡ old.period + 1) ok c.period.ensures.period in
    let queues : c.queues-queues.result.now ≡ map pos new.queues = signed_is c.queues-queues.result.now new.queues c.queues-queues.ensures.counts.none_negative (c.queues-queues.ensures.value ∙ ap (λ (st : Standing). st.queues) at) in
    let number : c.period-2.result ≡ new.period = c.period-2.ensures.value ∙ ap (λ (st : Standing). st.period) at in
    closes_logged c.is_same.result net c.args.line.now counts c.bytes.result.now old new
    (λ state stands. c.bytes.ensures.value ∙ c.push_period.ensures.held new.queues queues ∙ ap (λ p. period_line p counts c.stages-stages.result.now new.queues) number
    ∙ line_after_is net c.stages-stages.result.now counts old new (c.stages-stages.ensures ∙ stages) state stands (step state stands)) step taken period c.is_same.ensures
