use Rattle.std.proofs.Common.{◌≡◌, ◌∙◌, ℕ, Bool, List, ap, subst}
use Rattle.std.proofs.lemmas.List.{with_items_is}
use Rattle.mp_model.specs.Arrivals.{arrivals_of}
use Rattle.mp_model.specs.GuardedChoice.{GuardedState, guarded_advance}
use Rattle.mp_model.specs.Network.{entry}
use Rattle.mp_model.specs.Step.{State}
use Rattle.mp_press.specs.Queues.{naturals}
use Rattle.mp_step.specs.OpenStep.{open_step}
use Rattle.mp_step.specs.Standing.{Stands}
use Rattle.mp_guard_run.specs.Accounts.{accounts_after, green_flags, stages_by}
use Rattle.mp_guard_run.specs.Session.{Guarded, StandsAt}
use Rattle.mp_guard_run.specs.SessionView.{guarded_of}
use Rattle.mp_guard_run.proofs.Steps.{paid_next, stands_next}
use Rattle.mp_guard_run.proofs.session.GuardSession.period.Goals as goal

pub returns-clause-step : goal.returns-clause-step
returns-clause-step c =
    let s : Guarded = guarded_of c.self.inside in
    let stages : List ℕ = c.choose.new.into.items in
    let queues : naturals c.as_slice-counts.result.now ≡ s.at.queues = ap naturals (c.as_slice-counts.ensures.value ∙ with_items_is c.self.inside.counts c.copy.new.into (c.copy.auto.into ∙ c.deref_mut.ensures.len) ∙ c.copy.ensures) ∙ c.queues.ensures.value in
    let chosen : stages ≡ stages_by s.net s.guard (entry s.at.queues) s.at.period s.accounts =
    c.choose.ensures.value ∙ ap (λ qs. stages_by s.net s.guard (entry qs) c.period-period.result s.accounts) queues ∙ ap (λ t. stages_by s.net s.guard (entry s.at.queues) t s.accounts) c.period-period.ensures.value in
    let flags : c.deref-2.result.now ≡ green_flags s.net s.guard s.accounts stages =
    c.deref-2.ensures.value ∙ with_items_is c.self.inside.green c.put_green.new.green (c.put_green.auto.green ∙ c.deref_mut-2.ensures.len) ∙ c.put_green.ensures ∙ ap (λ ss. green_flags s.net s.guard s.accounts ss) c.deref.ensures.0 in
    let closes : (state : State) → Stands s.net s.at state → Stands s.net c.close_open.new.self (open_step s.net (green_flags s.net s.guard s.accounts stages) (arrivals_of s.net c.args.arrivals.now) state) =
    subst (λ (fs : List Bool). (state : State) → Stands s.net s.at state → Stands s.net c.close_open.new.self (open_step s.net fs (arrivals_of s.net c.args.arrivals.now) state)) flags c.in_ok-close_open.ensures.step in
    let paid : c.pay.new.self ≡ accounts_after s.net s.guard (entry s.at.queues) s.at.period s.accounts stages =
    c.pay.ensures.value ∙ ap (λ qs. accounts_after s.net s.guard (entry qs) c.period-period.result s.accounts c.deref-3.result.now) queues
    ∙ ap (λ t. accounts_after s.net s.guard (entry s.at.queues) t s.accounts c.deref-3.result.now) c.period-period.ensures.value ∙ ap (λ ss. accounts_after s.net s.guard (entry s.at.queues) s.at.period s.accounts ss) c.deref-3.ensures.0 in
    λ now at. record {
      stands = subst (λ (b : Guarded). (now : GuardedState) → StandsAt b now → Stands s.net c.close_open.new.self (guarded_advance b.net b.guard c.args.arrivals.now now).state) c.self.view_is
          (λ now at. stands_next s.net s.guard s.at s.accounts now at.stands at.paid stages c.args.arrivals.now chosen c.close_open.new.self closes) now at;
      paid = subst (λ (b : Guarded). (now : GuardedState) → StandsAt b now → c.pay.new.self ≡ (guarded_advance b.net b.guard c.args.arrivals.now now).accounts) c.self.view_is
          (λ now at. paid_next s.net s.guard s.at s.accounts now at.stands at.paid stages c.args.arrivals.now chosen c.pay.new.self paid) now at;
    }
