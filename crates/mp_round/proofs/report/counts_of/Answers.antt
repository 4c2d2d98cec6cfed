use Rattle.std.proofs.Common.{arith}
use Rattle.std.proofs.lemmas.Grind.{common_steps}
use Rattle.mp_model.specs.Network.{entry}
use Rattle.mp_round.proofs.Counting.{are_counts, entries_few}
use Rattle.mp_round.proofs.report.counts_of.Goals as goal

pub returns-clause-items : goal.returns-clause-items
returns-clause-items c = grind (arith, common_steps)

pub returns-clause-counts : goal.returns-clause-counts
returns-clause-counts c = let q = c.args.state.now.queues in rw (returns-clause-items c) (are_counts (entry q) c.args.ks.now (entries_few q c.queues.ensures.few))
