use Rattle.mp_netfile.specs.Right.{IsMovementTable}
use Rattle.mp_netfile.proofs.Places.{all_at}
use Rattle.mp_netfile.proofs.parts.movement_parts.Goals as goal

pub movement_part-requires-clause-table : goal.movement_part-requires-clause-table
movement_part-requires-clause-table c = all_at IsMovementTable c.args.tables.now c.loop-table.table-index c.table-item.result c.requires.tables c.loop-table-test.true c.table-item.is
