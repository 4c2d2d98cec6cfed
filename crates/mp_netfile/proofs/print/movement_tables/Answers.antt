use Rattle.std.proofs.Common.{arith}
use Rattle.mp_netfile.proofs.Inside.{between_links}
use Rattle.mp_netfile.proofs.print.movement_tables.Goals as goal

pub movement_table-requires-clause-ends : goal.movement_table-requires-clause-ends
movement_table-requires-clause-ends c = between_links c.args.net.now c.loop-k.k c.requires.network (omega arith, omega arith)
