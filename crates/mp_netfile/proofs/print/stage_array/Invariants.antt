use Rattle.std.proofs.Common.{◌≡◌, ℕ, map, take}
use Rattle.toml.specs.Data.{string}
use Rattle.toml.specs.View.{view}
use Rattle.mp_model.specs.Network.{movement_at}
use Rattle.mp_netfile.proofs.print.stage_array.Given as goal

abbrev pub invariant-loop-k : goal.invariant-loop-k
invariant-loop-k l = map view l.names.items ≡ map (λ (k : ℕ). string (movement_at l.net k).name) (take l.k-index l.stage)
