use Rattle.std.proofs.Common.{◌≡◌, subst, sym}
use Rattle.std.specs.Prelude.{OnOk}
use Rattle.mp_model.specs.Arrivals.{HasCounts}
use Rattle.mp_model.specs.Network.{entry}
use Rattle.mp_model.specs.Run.{greatest_stages}
use Rattle.mp_session.specs.SessionView.{SessionView}
use Rattle.mp_session.specs.Showing.{shown_of}
use Rattle.mp_session.proofs.Prompt.{line_prompt}
use Rattle.mp_session.proofs.Reaching.{reached_line}
use Rattle.mp_session.proofs.session.Session.close_all.Goals as goal

pub invariant_of-self : goal.invariant_of-self
invariant_of-self c =
    let s = shown_of c.self.inside in
    let counts : HasCounts s.net c.args.arrivals.now = subst (λ (b : SessionView). HasCounts b.net c.args.arrivals.now) (sym c.self.view_is) c.requires.can.fits in
    record {
      acceptable = c.self.invariant.acceptable;
      certified = c.self.invariant.certified;
      bounds = c.self.invariant.bounds;
      on = c.close_all.ensures.on;
      reached = reached_line s.net c.self.invariant.acceptable.network s.round c.close_all.new.self c.self.invariant.reached c.args.arrivals.now counts c.close_all.ensures.core;
    }

pub returns-clause-prompt : goal.returns-clause-prompt
returns-clause-prompt c =
    let s = shown_of c.self.inside in
    let next = c.close_all.new.self in
    subst (λ (b : SessionView). b.net.delay ≡ 0 → OnOk c.close_all.result (next.last ≡ greatest_stages b.net (entry b.round.standing.queues))) c.self.view_is
    (line_prompt s.net c.self.invariant.acceptable.network s.round next c.self.invariant.reached c.args.arrivals.now c.close_all.result c.close_all.ensures.core c.close_all.ensures.answer)
