use Rattle.std.proofs.Common.{◌≡◌, map, take}
use Rattle.toml.specs.View.{view}
use Rattle.mp_net.specs.Parts.{link_of}
use Rattle.mp_netfile.specs.Meaning.{link_from}
use Rattle.mp_netfile.proofs.parts.link_parts.Given as goal

abbrev pub invariant-loop-table : goal.invariant-loop-table
invariant-loop-table l = map link_of l.parts.items ≡ map link_from (map view (take l.table-index l.tables))
