use Rattle.std.proofs.Common.{arith, ap, length}
use Rattle.mp_guard.proofs.RuleLemmas.{greens_small, greens_count, stages_few}
use Rattle.mp_guard.proofs.rules.greens_fit.Goals as goal

pub taken-requires-clause-few : goal.taken-requires-clause-few
taken-requires-clause-few c = rw c.greens.ensures (greens_small c.args.net.now c.args.guard.now c.requires.numbers c.requires.greens c.args.j c.requires.junction.0 c.requires.junction.1)

pub taken-requires-clause-size : goal.taken-requires-clause-size
taken-requires-clause-size c = omega (arith, ap length c.greens.ensures, greens_count c.args.net.now c.args.guard.now c.requires.lengths c.args.j c.requires.junction.0 c.requires.junction.1, stages_few c.args.net.now c.requires.acceptable c.args.j)
