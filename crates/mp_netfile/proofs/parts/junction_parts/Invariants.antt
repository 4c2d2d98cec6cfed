use Rattle.std.proofs.Common.{◌≡◌, map, take}
use Rattle.toml.specs.View.{view}
use Rattle.mp_net.specs.declared.parts.MovementPart.{MovementPart}
use Rattle.mp_net.specs.Parts.{junction_of}
use Rattle.mp_netfile.specs.Meaning.{junction_from}
use Rattle.mp_netfile.proofs.parts.junction_parts.Given as goal

abbrev pub invariant-loop-table : goal.invariant-loop-table
invariant-loop-table l = map junction_of l.parts.items ≡ map (junction_from (map (λ (movement : MovementPart). movement.name) l.movements)) (map view (take l.table-index l.tables))
