use Rattle.std.proofs.Common.{◌≡◌, map, drop}
use Rattle.std.specs.List.{list_all}
use Rattle.mp_model.specs.Names.{is_name}
use Rattle.mp_net.specs.Parts.{junction_of}
use Rattle.mp_net.proofs.rules.names.junctions_have_names.Given as goal

abbrev pub invariant-loop-junction : goal.invariant-loop-junction
invariant-loop-junction l = list_all (λ junction. is_name junction.name) (map junction_of l.junctions) ≡ list_all (λ junction. is_name junction.name) (map junction_of (drop l.junction-index l.junctions))
