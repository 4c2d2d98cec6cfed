use Rattle.std.proofs.Common.{◌≡◌, ◌∙◌, ◌+◌, ◌++◌, ◌∷◌, [], map, pos, sym, ap, false, is_err, List, ℕ}
use Rattle.mp_guard_run.proofs.Bounded.{closed_line_fits}
use Rattle.mp_guard_run.specs.Accounts.{AreKnown, stages_by}
use Rattle.mp_guard_run.specs.Session.{StandsAt}
use Rattle.mp_model.specs.GuardedChoice.{GuardedState, guarded_advance}
use Rattle.mp_model.specs.Network.{entry}
use Rattle.mp_run.proofs.AuditLemmas.{above_refutes, on_ok}
use Rattle.mp_run.proofs.PeriodLemmas.{signed_is}
use Rattle.mp_step.specs.Standing.{Standing}
use Rattle.mp_step.specs.Taken.{HasTaken}
use Rattle.mp_step.specs.declared.state.AboveAt.{AboveAt}
use Rattle.mp_guard_audit.proofs.LineLemmas.{closes_logged, line_is}
use Rattle.mp_guard_audit.proofs.auditing.is_period.Goals as goal

pub returns-then-is_err-clause-closes : goal.returns-then-is_err-clause-closes
returns-then-is_err-clause-closes c = λ A now taken stands permitted e.
    above_refutes c.period.result (λ (x : AboveAt). x.link) c.args.session.now.net c.args.session.now.at c.args.arrivals.now (sym c.is_err.ensures.value ∙ c.if-is_err.true) c.period.ensures.excess A taken permitted

pub push_period-requires-clause-fits : goal.push_period-requires-clause-fits
push_period-requires-clause-fits c =
    let old = c.args.session.now in
    let new = c.period.new.self in
    let ok : is_err c.period.result ≡ false = sym c.is_err.ensures.value ∙ c.if-is_err.false in
    let stages = on_ok c.period.result (new.stages ≡ stages_by old.net old.guard (entry old.at.queues) old.at.period old.accounts) ok c.period.ensures.stages in
    let known = on_ok c.period.result (AreKnown old.net new.stages) ok c.period.ensures.known in
    let same = on_ok c.period.result (new ≡ record old { at = new.at; accounts = new.accounts; stages = new.stages }) ok c.period.ensures.same in
    closed_line_fits old new c.state-state.ensures.guarding same stages known c.state-state.result.now c.period-2.result c.args.arrivals.now c.stages-stages.result.now c.queues-queues.result.now
    c.state-state.ensures.value c.stages-stages.ensures c.requires.counts c.requires.digits c.period-2.ensures.few
    (signed_is c.queues-queues.result.now c.state-state.result.now.queues c.queues-queues.ensures.counts.none_negative c.queues-queues.ensures.value) c.queues-queues.ensures.few

pub returns-clause-closes : goal.returns-clause-closes
returns-clause-closes c =
    let old = c.args.session.now in
    let new = c.period.new.self in
    let ok : is_err c.period.result ≡ false = sym c.is_err.ensures.value ∙ c.if-is_err.false in
    let counts : List ℕ = c.args.arrivals.now in
    let at = c.state-state.ensures.value in
    let stages = on_ok c.period.result (new.stages ≡ stages_by old.net old.guard (entry old.at.queues) old.at.period old.accounts) ok c.period.ensures.stages in
    let step = on_ok c.period.result ((now : GuardedState) → StandsAt old now → StandsAt new (guarded_advance old.net old.guard counts now)) ok c.period.ensures.step in
    let taken = on_ok c.period.result ((A : List (List ℕ)) → HasTaken old.net old.at A → HasTaken old.net new.at (A ++ counts ∷ [])) ok c.period.ensures.taken in
    let period = on_ok c.period.result (new.at.period ≡ old.at.period + 1) ok c.period.ensures.period in
    let queues : c.queues-queues.result.now ≡ map pos new.at.queues = signed_is c.queues-queues.result.now new.at.queues c.queues-queues.ensures.counts.none_negative (c.queues-queues.ensures.value ∙ ap (λ (st : Standing). st.queues) at) in
    let number : c.period-2.result ≡ new.at.period = c.period-2.ensures.value ∙ ap (λ (st : Standing). st.period) at in
    closes_logged c.is_same.result c.args.line.now counts c.bytes.result.now old new
    (λ now stands. c.bytes.ensures.value ∙ c.push_period.ensures.held new.at.queues queues ∙ line_is old new counts c.stages-stages.result.now c.period-2.result step number (c.stages-stages.ensures ∙ stages) now stands) step taken period c.is_same.ensures
