-- The constants and bounds of the demonstration network 7, and those of its slack, 921/1100.
use Rattle.std.proofs.Common.{◌≡◌, [], ◌∷◌, map, sum_by, refl, lit≤, lit<}
use Rattle.mp_model.specs.Network.{movement_numbers}
use Rattle.mp_model.specs.Bounds.{credit_term, drift_constant, queue_threshold, greatest_drift, IsRoot, queue_bound}
use Rattle.mp_model.specs.Load.{greatest as greatest_of}
use Rattle.mp_gen.specs.DemoNetwork.{demo_network}

seven_credit_sum : sum_by (credit_term (demo_network 7)) (movement_numbers (demo_network 7)) ≡ 5440
seven_credit_sum = refl

seven_drift : drift_constant (demo_network 7) ≡ 39897600
seven_drift = refl

seven_threshold : queue_threshold (demo_network 7) 921 1100 ≡ 595
seven_threshold = refl

seven_value : greatest_drift (demo_network 7) 921 1100 ≡ 15525211200
seven_value = refl

seven_root : IsRoot 124600 (greatest_drift (demo_network 7) 921 1100)
seven_root = record { within = lit≤ tt; most = lit< tt }

seven_bounds : map (queue_bound (demo_network 7) 124600) (movement_numbers (demo_network 7)) ≡ 627 ∷ 624 ∷ 626 ∷ 626 ∷ 623 ∷ 623 ∷ 626 ∷ 626 ∷ 623 ∷ 628 ∷ []
seven_bounds = refl

seven_greatest : greatest_of (map (queue_bound (demo_network 7) 124600) (movement_numbers (demo_network 7))) ≡ 628
seven_greatest = refl
