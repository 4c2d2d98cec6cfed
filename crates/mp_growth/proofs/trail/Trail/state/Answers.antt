use Rattle.mp_growth.proofs.Going.{trail_grown}
use Rattle.mp_growth.proofs.trail.Trail.state.Goals as goal

pub returns-clause-grown : goal.returns-clause-grown
returns-clause-grown c = λ net is p. trail_grown net c.args.self.now is p
