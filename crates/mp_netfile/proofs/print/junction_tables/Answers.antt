use Rattle.std.proofs.Common.{arith}
use Rattle.mp_netfile.proofs.Inside.{stages_at}
use Rattle.mp_netfile.proofs.print.junction_tables.Goals as goal

pub junction_table-requires-clause-stages : goal.junction_table-requires-clause-stages
junction_table-requires-clause-stages c = stages_at c.args.net.now c.loop-j.j c.requires.network (omega arith, omega arith)
