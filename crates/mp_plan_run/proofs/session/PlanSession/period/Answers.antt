use Rattle.std.proofs.Common.{◌≡◌, ℕ, ◌+◌, ◌∙◌, Bool, List, ap, length, subst, sym}
use Rattle.std.proofs.lemmas.List.FromFn.{length-map-range_with_len}
use Rattle.mp_model.specs.Arrivals.{arrivals_of}
use Rattle.mp_model.specs.Plans.{planned_advance}
use Rattle.mp_model.specs.Step.{State}
use Rattle.mp_step.specs.OpenStep.{open_step}
use Rattle.mp_step.specs.Standing.{Stands}
use Rattle.mp_plan_run.specs.Green.{AreRunning, is_green_in, plan_flags}
use Rattle.mp_plan_run.specs.Planned.{Planned}
use Rattle.mp_plan_run.specs.SessionView.{planned_of}
use Rattle.mp_plan_run.proofs.GreenLemmas.{are_running, flags_shown}
use Rattle.mp_plan_run.proofs.RunLemmas.{planned_next, stands_next}
use Rattle.mp_plan_run.proofs.session.PlanSession.period.Goals as goal

pub list_green-requires : goal.list_green-requires
list_green-requires c =
    let s = planned_of c.self.inside in
    record { running = subst (λ (stages : List ℕ). AreRunning s.net stages) (sym (c.deref.ensures.0 ∙ c.list_running.ensures)) (are_running s.net s.plan c.self.invariant.plan _) }

pub close_open-requires-clause-flags : goal.close_open-requires-clause-flags
close_open-requires-clause-flags c =
    let net = c.self.inside.net.now in
    ap (λ (flags : List Bool). length flags) (c.deref-2.ensures.0 ∙ c.list_green.ensures) ∙ length-map-range_with_len (is_green_in net c.deref.result.now) 1 (length net.movements)

pub invariant_of-self-2 : goal.invariant_of-self-2
invariant_of-self-2 c =
    let s = planned_of c.self.inside in
    let flags : c.deref-2.result.now ≡ plan_flags s.net s.plan s.at.period =
    flags_shown s.net c.shares.ensures.acceptable.network s.plan s.at.period (c.period.result + 1) c.list_running.new.into.items c.deref.result.now c.deref-2.result.now (ap (λ n. n + 1) c.period.ensures.value) c.list_running.ensures c.deref.ensures.0
    (c.deref-2.ensures.0 ∙ c.list_green.ensures) in
    planned_next s c.self.invariant c.args.arrivals.now c.list_running.new.into.items c.close_open.new.self c.close_open.ensures.on c.in_ok-close_open.ensures.taken
    (stands_next s.net s.plan s.at c.close_open.new.self c.args.arrivals.now
    (subst (λ (fs : List Bool). (state : State) → Stands s.net s.at state → Stands s.net c.close_open.new.self (open_step s.net fs (arrivals_of s.net c.args.arrivals.now) state)) flags c.in_ok-close_open.ensures.step))

pub returns-clause-step : goal.returns-clause-step
returns-clause-step c =
    let s = planned_of c.self.inside in
    let flags : c.deref-2.result.now ≡ plan_flags s.net s.plan s.at.period =
    flags_shown s.net c.shares.ensures.acceptable.network s.plan s.at.period (c.period.result + 1) c.list_running.new.into.items c.deref.result.now c.deref-2.result.now (ap (λ n. n + 1) c.period.ensures.value) c.list_running.ensures c.deref.ensures.0
    (c.deref-2.ensures.0 ∙ c.list_green.ensures) in
    subst (λ (b : Planned). (state : State) → Stands b.net b.at state → Stands b.net c.close_open.new.self (planned_advance b.net b.plan c.args.arrivals.now state)) c.self.view_is
    (stands_next s.net s.plan s.at c.close_open.new.self c.args.arrivals.now
    (subst (λ (fs : List Bool). (state : State) → Stands s.net s.at state → Stands s.net c.close_open.new.self (open_step s.net fs (arrivals_of s.net c.args.arrivals.now) state)) flags c.in_ok-close_open.ensures.step))
