use Rattle.std.proofs.Common.{◌≡◌, map, take}
use Rattle.toml.specs.View.{view}
use Rattle.mp_net.specs.declared.parts.MovementPart.{MovementPart}
use Rattle.mp_netfile.specs.Meaning.{number_of, texts_of}
use Rattle.mp_netfile.proofs.parts.stage_part.Given as goal

abbrev pub invariant-loop-text : goal.invariant-loop-text
invariant-loop-text l = l.stage.items ≡ map (number_of (map (λ (movement : MovementPart). movement.name) l.movements)) (texts_of (map view (take l.text-index l.texts)))
