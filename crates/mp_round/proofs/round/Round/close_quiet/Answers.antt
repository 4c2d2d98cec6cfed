use Rattle.std.proofs.Common.{◌≡◌, ◌∙◌, ℕ, List, ap, arith, subst, sym}
use Rattle.mp_model.specs.EventCore.{all_lacking, apply, arrivals_events, core_after}
use Rattle.mp_model.specs.EventCore.Answer.{closed}
use Rattle.mp_model.specs.EventCore.Event.{close}
use Rattle.mp_model.specs.Network.{entry}
use Rattle.mp_model.specs.Arrivals.{arrivals_of}
use Rattle.mp_model.specs.Run.{greatest_stages}
use Rattle.mp_model.specs.Step.{State, step}
use Rattle.mp_step.specs.Standing.{Stands, closed as closed_standing}
use Rattle.mp_round.specs.RoundView.{IsRoundOn, RoundView, core_of}
use Rattle.mp_round.specs.Advancing.{Advances}
use Rattle.mp_round.specs.Showing.{shown_of}
use Rattle.mp_round.proofs.Placing.{shown_by}
use Rattle.mp_round.proofs.Quiet.{ClosesAtOnce, closes_at_once}
use Rattle.mp_round.proofs.round.Round.close_quiet.Goals as goal

at_once : (c : goal.After-self-1) → ClosesAtOnce c.args.net.now (shown_of c.self.inside) c.args.arrivals.now (shown_by (closed_standing c.args.net.now c.self.inside.state c.choose_all.new.into.items c.args.arrivals.now) c.renew.new.self c.self.inside.copies c.self.inside.decided.items c.choose_all.new.into.items)
at_once c =
    let net = c.args.net.now in
    let s = c.self.inside in
    let on = subst (IsRoundOn net) (sym c.self.view_is) c.requires.on in
    closes_at_once net c.shares.ensures.acceptable.network (omega (arith, c.delay.ensures, c.if-delay-gt0.false)) (shown_of s) c.renew.new.self c.choose_all.new.into.items c.args.arrivals.now on (c.self.invariant c.if-not-self.false) c.in-Ok.ensures.within (c.choose_all.ensures.value ∙ ap (λ qs. greatest_stages net (entry qs)) on.counts)

pub returns-clause-core : goal.returns-clause-core
returns-clause-core c = λ e.
    let net = c.args.net.now in
    let s = c.self.inside in
    let counts = c.args.arrivals.now in
    let standing : c.close_queued.new.self ≡ closed_standing net s.state c.choose_all.new.into.items counts = c.in-Ok.ensures.closed ∙ ap (λ ss. closed_standing net s.state ss counts) c.deref.ensures.0 in
    subst (λ (round : RoundView). core_of (shown_by c.close_queued.new.self c.renew.new.self s.copies s.decided.items c.choose_all.new.into.items) ≡ core_after net (core_of round) (arrivals_events net (core_of round) counts)) c.self.view_is
    (ap (λ st. core_of (shown_by st c.renew.new.self s.copies s.decided.items c.choose_all.new.into.items)) standing ∙ (at_once c).core)

pub returns-clause-answer : goal.returns-clause-answer
returns-clause-answer c = λ e.
    let net = c.args.net.now in
    subst (λ (round : RoundView). closed ≡ (apply net (core_after net (core_of round) (all_lacking net (core_of round))) (close c.args.arrivals.now)).0) c.self.view_is (at_once c).answer

pub returns-clause-advances : goal.returns-clause-advances
returns-clause-advances c = λ e.
    let net = c.args.net.now in
    let s = c.self.inside in
    subst (λ (round : RoundView). Advances net round.standing c.close_queued.new.self c.choose_all.new.into.items c.args.arrivals.now) c.self.view_is
    (record {
      taken = c.in-Ok.ensures.taken;
      step = subst (λ (ss : List ℕ). (state : State) → Stands net s.state state → Stands net c.close_queued.new.self (step net ss (arrivals_of net c.args.arrivals.now) state)) c.deref.ensures.0 c.in-Ok.ensures.step;
      period = c.in-Ok.ensures.period;
    })
