-- The laws on weights and greatest stages.
use Rattle.std.specs.Prelude.{◌≡◌, ◌≤◌, ℕ, ◌+◌, ◌*◌, List, [], ◌∷◌, length, sum_by, ℤ, pos, ◌≤ℤ◌}
use Rattle.mp_model.specs.Bounds.{report_shift}
use Rattle.mp_model.specs.Network.{Network, Junction, flow_of, own, stage_at}
use Rattle.mp_model.specs.NetworkRules.{IsNetwork}
use Rattle.mp_model.specs.Pressure.{weight, positive_weight, pressure, AllGreatest, IsGreatestStage}
use Rattle.mp_model.specs.Run.{greatest_stages}

-- The positive weight is the weight where that is above 0, and else 0.
pub record IsPositiveWeight (w : ℤ) (p : ℕ) : Type 0 where
  pub weight : pos 0 ≤ℤ w → pos p ≡ w
  pub zero : w ≤ℤ pos 0 → p ≡ 0

-- This holds of every movement and all queues.
abbrev pub WeightLaw : Type 0
WeightLaw = (net : Network) (q : ℕ → ℕ) (k : ℕ) → IsPositiveWeight (weight net q k) (positive_weight net q k)

-- The greatest stages are greatest at each junction.
abbrev pub GreatestLaw : Type 0
GreatestLaw = (net : Network) → IsNetwork net → (q : ℕ → ℕ) → AllGreatest net q net.junctions (greatest_stages net q)

-- A junction has one greatest stage.
abbrev pub OneStageLaw : Type 0
OneStageLaw = (net : Network) (q : ℕ → ℕ) (j : Junction) (s t : ℕ) → IsGreatestStage net q j s → IsGreatestStage net q j t → s ≡ t

-- What old reports can shift the pressures of a junction by: the sum over its movements of the flow times what they can shift the weight by.
abbrev pub pressure_shift : Network → Junction → ℕ
pressure_shift net j = sum_by (λ k. flow_of net k * report_shift net k) (own net j)

-- Stage s of a junction is nearly greatest where its pressure is at least that of each stage less twice what old reports can shift the pressures by.
pub record IsNearlyGreatest (net : Network) (q : ℕ → ℕ) (j : Junction) (s : ℕ) : Type 0 where
  pub is_stage : (1 ≤ s) × (s ≤ length j.stages)
  pub near : (t : ℕ) → 1 ≤ t → t ≤ length j.stages → pressure net q (stage_at j t) ≤ pressure net q (stage_at j s) + 2 * pressure_shift net j

-- Each stage of a list is nearly greatest at the junction of its place.
abbrev pub AllNearlyGreatest : Network → (ℕ → ℕ) → List Junction → List ℕ → Type 0
AllNearlyGreatest net q [] [] = Unit {0}
AllNearlyGreatest net q (j ∷ js) (s ∷ ss) = IsNearlyGreatest net q j s × AllNearlyGreatest net q js ss
AllNearlyGreatest net q [] (s ∷ ss) = ⊥
AllNearlyGreatest net q (j ∷ js) [] = ⊥

-- Greatest stages are nearly greatest.
abbrev pub NearLaw : Type 0
NearLaw = (net : Network) (q : ℕ → ℕ) (stages : List ℕ) → AllGreatest net q net.junctions stages → AllNearlyGreatest net q net.junctions stages
