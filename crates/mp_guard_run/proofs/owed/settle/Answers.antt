use Rattle.mp_guard_run.proofs.Places.{few_greens, small_greens}
use Rattle.mp_guard_run.proofs.owed.settle.Goals as goal

pub new-requires-clause-few : goal.new-requires-clause-few
new-requires-clause-few c = few_greens c.args.net.now c.requires.acceptable c.args.guard.now c.requires.guards c.args.j c.requires.junction.0 c.requires.junction.1 _ c.greens.ensures

pub new-requires-clause-small : goal.new-requires-clause-small
new-requires-clause-small c = small_greens c.args.net.now c.args.guard.now c.requires.guards c.args.j c.requires.junction.0 c.requires.junction.1 _ c.greens.ensures
