use Rattle.mp_netfile.proofs.PrintedRules.{tree_meaning-tree}
use Rattle.mp_netfile.proofs.print.network_table.Goals as goal

pub returns-clause-means : goal.returns-clause-means
returns-clause-means c = tree_meaning-tree c.args.net.now c.shares-shares.ensures.acceptable c.shares-shares.ensures.sound
