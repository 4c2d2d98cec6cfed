use Rattle.std.proofs.Common.{◌∙◌, length, ap}
use Rattle.mp_guard.proofs.RuleLemmas.{greens_count, greens_small}
use Rattle.mp_guard.proofs.rules.given.Goals as goal

pub sum_with-requires-clause-size : goal.sum_with-requires-clause-size
sum_with-requires-clause-size c = ap length c.greens.ensures ∙ greens_count c.args.net.now c.args.guard.now c.requires.lengths c.junction_of-j.result c.junction_of-j.ensures.known.0 c.junction_of-j.ensures.known.1

pub sum_with-requires-clause-few : goal.sum_with-requires-clause-few
sum_with-requires-clause-few c = rw c.greens.ensures (greens_small c.args.net.now c.args.guard.now c.requires.numbers c.requires.greens c.junction_of-j.result c.junction_of-j.ensures.known.0 c.junction_of-j.ensures.known.1)
