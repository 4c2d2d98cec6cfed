use Rattle.mp_netfile.specs.Right.{IsLinkTable}
use Rattle.mp_netfile.proofs.Places.{all_at}
use Rattle.mp_netfile.proofs.parts.link_parts.Goals as goal

pub link_part-requires : goal.link_part-requires
link_part-requires c = all_at IsLinkTable c.args.tables.now c.loop-table.table-index c.table-item.result c.requires c.loop-table-test.true c.table-item.is
