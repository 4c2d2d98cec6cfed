use Rattle.std.proofs.Common.{◌≡◌, ◌∙◌, ℕ, List, ap, sym, subst}
use Rattle.mp_model.specs.Network.{entry}
use Rattle.mp_model.specs.Pressure.{AllGreatest}
use Rattle.mp_model.specs.Run.{greatest_stages, advance}
use Rattle.mp_model.specs.Step.{State}
use Rattle.mp_step.specs.Standing.{Stands}
use Rattle.mp_drift.specs.Session.{Bounded}
use Rattle.mp_drift.specs.SessionView.{bounded_of}
use Rattle.mp_drift.proofs.Periods.{bounded_after, stands_next}
use Rattle.mp_drift.proofs.session.Session.period.Goals as goal

pub invariant_of-self-2 : goal.invariant_of-self-2
invariant_of-self-2 c =
    let s = bounded_of c.self.inside in
    let greatest = subst (λ (qs : List ℕ). AllGreatest s.net (entry qs) s.net.junctions c.choose_all.new.into.items) c.self.invariant.counts c.choose_all.ensures.greatest in
    let shown = subst (λ (ss : List ℕ). AllGreatest s.net (entry s.at.queues) s.net.junctions ss) (sym c.deref.ensures.0) greatest in
    record {
      bounded = bounded_after s c.self.invariant.bounded c.deref.result.now c.args.arrivals.now c.choose_all.new.into.items c.close_queued.new.self shown c.in_ok-close_queued.ensures.closed c.close_queued.ensures.on;
      cache = c.renew.ensures.is;
      counts = c.renew.ensures.value ∙ c.queues.ensures.value;
    }

pub returns-clause-step : goal.returns-clause-step
returns-clause-step c =
    let s = bounded_of c.self.inside in
    let chosen : c.deref.result.now ≡ greatest_stages s.net (entry s.at.queues) = c.deref.ensures.0 ∙ c.choose_all.ensures.value ∙ ap (λ qs. greatest_stages s.net (entry qs)) c.self.invariant.counts in
    subst (λ (b : Bounded). (state : State) → Stands b.net b.at state → Stands b.net c.close_queued.new.self (advance b.net c.args.arrivals.now state)) c.self.view_is
    (stands_next s.net s.at c.close_queued.new.self c.deref.result.now c.args.arrivals.now chosen c.in_ok-close_queued.ensures.step)
