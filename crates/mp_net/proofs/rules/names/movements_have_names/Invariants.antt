use Rattle.std.proofs.Common.{◌≡◌, map, drop}
use Rattle.std.specs.List.{list_all}
use Rattle.mp_model.specs.Names.{is_name}
use Rattle.mp_net.specs.Parts.{movement_of}
use Rattle.mp_net.proofs.rules.names.movements_have_names.Given as goal

abbrev pub invariant-loop-movement : goal.invariant-loop-movement
invariant-loop-movement l = list_all (λ movement. is_name movement.name) (map movement_of l.movements) ≡ list_all (λ movement. is_name movement.name) (map movement_of (drop l.movement-index l.movements))
