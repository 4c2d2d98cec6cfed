use Rattle.std.proofs.Common.{arith}
use Rattle.mp_finder.proofs.Wanting.{known_in_stage}
use Rattle.mp_finder.proofs.greens.greatest_lack.Goals as goal

pub overflow_sub-wanted : goal.overflow_sub-wanted
overflow_sub-wanted c = omega (arith, c.from.ensures, known_in_stage c.args.net.now c.requires.acceptable.network c.args.j c.args.s c.stage-k-items.result.now c.loop-k.k-index c.stage-k-items.ensures (omega arith))

pub bounds-wants-from : goal.bounds-wants-from
bounds-wants-from c = omega (arith, c.from.ensures, c.requires.wants, known_in_stage c.args.net.now c.requires.acceptable.network c.args.j c.args.s c.stage-k-items.result.now c.loop-k.k-index c.stage-k-items.ensures (omega arith))
