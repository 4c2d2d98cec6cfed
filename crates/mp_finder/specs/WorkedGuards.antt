-- The finder on the worked networks.
use Rattle.std.specs.Prelude.{◌≡◌, [], ◌∷◌}
use Rattle.mp_model.specs.Worked.{two_approaches_at, two_approaches, tandem, roundabout}
use Rattle.mp_finder.specs.Finding.{Guarded, NoRates, FullAt, finding, guard_with}

-- A cycle of 4 periods guards the two approaches, also with lost periods, and cycles of 3 with lost periods and of 1 are full; at capacity a cycle of 2 guards them, and with lost periods one of 12 is full; above it no rates fit. The tandem and the roundabout have one stage a junction, in which each movement is always green.
pub record AreWorkedGuards : Type 0 where
  pub four : finding two_approaches 4 0 4 ≡ Guarded (guard_with 4 0 4 (1 ∷ 1 ∷ []) ((1 ∷ 1 ∷ []) ∷ []))
  pub losing : finding two_approaches 4 1 4 ≡ Guarded (guard_with 4 1 4 (1 ∷ 1 ∷ []) ((1 ∷ 1 ∷ []) ∷ []))
  pub three : finding two_approaches 3 1 4 ≡ FullAt 1
  pub one : finding two_approaches 1 0 4 ≡ FullAt 1
  pub at_capacity : finding (two_approaches_at 4) 2 0 4 ≡ Guarded (guard_with 2 0 4 (4 ∷ 4 ∷ []) ((1 ∷ 1 ∷ []) ∷ []))
  pub twelve : finding (two_approaches_at 4) 12 1 4 ≡ FullAt 1
  pub above : finding (two_approaches_at 5) 4 0 4 ≡ NoRates
  pub queues : finding tandem 2 0 2 ≡ Guarded (guard_with 2 0 2 (1 ∷ 1 ∷ []) ((0 ∷ []) ∷ (0 ∷ []) ∷ []))
  pub circle : finding roundabout 4 0 100 ≡ Guarded (guard_with 4 0 100 (25 ∷ 25 ∷ []) ((0 ∷ []) ∷ []))
