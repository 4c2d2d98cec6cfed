use Rattle.std.proofs.Common.{[], sym, subst}
use Rattle.mp_model.specs.Network.{Network}
use Rattle.mp_model.specs.Run.{opening}
use Rattle.mp_step.specs.Standing.{Stands}
use Rattle.mp_step.specs.Taken.{HasTaken}
use Rattle.mp_cases.proofs.demonstrations.demonstration.Goals as goal

pub demonstrate-greatest-requires-clause-start : goal.demonstrate-greatest-requires-clause-start
demonstrate-greatest-requires-clause-start c = subst (λ (net : Network). Stands net c.in_ok-session.session.round.standing (opening net)) (sym c.in_ok-session.ensures.network) c.in_ok-session.ensures.start

pub demonstrate-greatest-requires-clause-taken : goal.demonstrate-greatest-requires-clause-taken
demonstrate-greatest-requires-clause-taken c = subst (λ (net : Network). HasTaken net c.in_ok-session.session.round.standing []) (sym c.in_ok-session.ensures.network) c.in_ok-session.ensures.taken
