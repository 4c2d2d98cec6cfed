use Rattle.std.proofs.Common.{subst, sym}
use Rattle.mp_round.specs.Events.{CanApply, answer_of, event_of}
use Rattle.mp_round.specs.RoundView.{core_of}
use Rattle.mp_session.specs.SessionView.{SessionView}
use Rattle.mp_session.specs.Showing.{shown_of}
use Rattle.mp_session.proofs.Reaching.{reached_more}
use Rattle.mp_session.proofs.session.Session.apply.Goals as goal

pub invariant_of-self : goal.invariant_of-self
invariant_of-self c =
    let s = shown_of c.self.inside in
    let event = event_of c.args.ev.now in
    let can : CanApply s.net (core_of s.round) event = subst (λ (b : SessionView). CanApply b.net (core_of b.round) event) (sym c.self.view_is) c.requires.can in
    record {
      acceptable = c.self.invariant.acceptable;
      certified = c.self.invariant.certified;
      bounds = c.self.invariant.bounds;
      on = c.apply.ensures.on;
      reached = reached_more s.net s.round c.apply.new.self event (answer_of c.apply.result) c.self.invariant.reached can c.apply.ensures.applied;
    }
