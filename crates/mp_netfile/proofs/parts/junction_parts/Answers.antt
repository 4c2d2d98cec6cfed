use Rattle.mp_netfile.specs.Right.{HasName}
use Rattle.mp_netfile.proofs.Places.{all_at}
use Rattle.mp_netfile.proofs.parts.junction_parts.Goals as goal

pub junction_part-requires-clause-name : goal.junction_part-requires-clause-name
junction_part-requires-clause-name c = all_at HasName c.args.tables.now c.loop-table.table-index c.table-item.result c.requires.names c.loop-table-test.true c.table-item.is
