use Rattle.std.proofs.Common.{subst}
use Rattle.mp_session.specs.SessionView.{SessionView, StaysBounded}
use Rattle.mp_session.specs.Showing.{shown_of}
use Rattle.mp_session.proofs.Bounding.{stays_bounded}
use Rattle.mp_session.proofs.session.Session.round.Goals as goal

pub returns-clause-bounded : goal.returns-clause-bounded
returns-clause-bounded c = subst (λ (s : SessionView). StaysBounded s) c.self.view_is (stays_bounded (shown_of c.self.inside) c.self.invariant)
