use Rattle.std.proofs.Common.{arith, ap, length}
use Rattle.mp_guard.proofs.RuleLemmas.{greens_count}
use Rattle.mp_guard.proofs.rules.green.Goals as goal

pub bounds-greens-from : goal.bounds-greens-from
bounds-greens-from c = omega (arith, ap length c.greens.ensures, greens_count c.args.net.now c.args.guard.now c.requires.lengths c.args.j c.requires.junction.0 c.requires.junction.1)
