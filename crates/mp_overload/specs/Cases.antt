-- Worked networks that are overloaded, and how little the law of growth can be sharpened.
use Rattle.std.specs.Prelude.{◌≡◌, ℕ, List, [], ◌∷◌, length, codes, pos, ◌+ℤ◌, ◌-ℤ◌, ◌*ℤ◌, ◌≤ℤ◌, Some, None}
use Rattle.mp_model.specs.Load.{ShowsOverload}
use Rattle.mp_model.specs.Network.{Network, entry}
use Rattle.mp_model.specs.NetworkRules.{IsNetwork, IsAcceptable}
use Rattle.mp_model.specs.Step.{queue}
use Rattle.mp_model.specs.Worked.{two_approaches_at, roundabout}
use Rattle.mp_overload.specs.Evens.{uneven_link}
use Rattle.mp_overload.specs.Forming.{lost_formed, least_formed}
use Rattle.mp_overload.specs.Growing.{growth, lost_to_rounding, weighed_queues}
use Rattle.mp_overload.specs.Laws.{IsFormed}
use Rattle.mp_overload.specs.Trails.{trail, even_run, IsOnTrail}

-- Two approaches of rate 5, the first of which has a burst of 0.
abbrev pub five_without_burst : Network
five_without_burst = record (two_approaches_at 5) {
  links = record { name = codes "a"; burst = 0; rate = 5 } ∷ record { name = codes "b"; burst = 2; rate = 5 } ∷ [];
}

-- This vector weighs both approaches alike.
abbrev pub both : List ℕ
both = 1 ∷ 1 ∷ []

-- The premises of the laws of growth are met by two approaches of rate 5: they can be accepted, the vector 1, 1 shows an overload, no link is uneven, and each run over even arrivals is on a trail.
pub record OverloadedCase : Type 0 where
  pub acceptable : IsAcceptable (two_approaches_at 5)
  pub overloaded : ShowsOverload (two_approaches_at 5) both
  pub even : uneven_link (two_approaches_at 5) ≡ None
  pub on : (T : ℕ) → IsOnTrail (two_approaches_at 5) (even_run (two_approaches_at 5) T)

-- Worked numbers. On two approaches of rate 5 the vector 1, 1 grows by 2 a period and 6 is lost to rounding, so it weighs at least 1994 after 1,000 periods; at rate 4 it doesn't grow. At the roundabout 14 is lost, also to the split. Without a burst the first approach is uneven.
pub record WorkedGrowths : Type 0 where
  pub growth_so : growth (two_approaches_at 5) (entry both) ≡ pos 2
  pub lost_so : lost_to_rounding (two_approaches_at 5) (entry both) ≡ 6
  pub lost_form : lost_formed (two_approaches_at 5) (pos 1 ∷ pos 1 ∷ []) ≡ Some (pos 6)
  pub least_form : least_formed 1000 (pos 2) (pos 6) ≡ Some (pos 1994)
  pub critical : growth (two_approaches_at 4) (entry both) ≡ pos 0
  pub split : lost_to_rounding roundabout (entry both) ≡ 14
  pub uneven : uneven_link five_without_burst ≡ Some 1

-- Two approaches of rate 5 that take turns, on which these vehicles stand at the start.
abbrev pub five_from : ℕ → ℕ → Network
five_from a b = record (two_approaches_at 5) {
  movements = record { name = codes "ao"; from = 1; to = None; share = 1; flow = 2; start = a } ∷ record { name = codes "bo"; from = 2; to = None; share = 1; flow = 2; start = b } ∷ [];
}

-- Two approaches of rate 5 after 1,000 periods of greatest stages. The vector 1, 1 grows by 2 a period and 6 is lost to rounding, so it weighs at least 1994; it weighs 2012, and 1,997 of 2,500 vehicles have left. Where 50 and 30 vehicles stand at the start it weighs 2320, and 2,000 have left.
pub record WorkedRuns : Type 0 where
  pub five : IsFormed (two_approaches_at 5) (pos 1 ∷ pos 1 ∷ []) (even_run (two_approaches_at 5) 1000) (pos 2) (pos 6) (pos 2012) (pos 1994)
  pub entered : (even_run (two_approaches_at 5) 1000).total_in ≡ 2500
  pub departed : (even_run (two_approaches_at 5) 1000).total_out ≡ 1997
  pub started : IsFormed (five_from 50 30) (pos 1 ∷ pos 1 ∷ []) (even_run (five_from 50 30) 1000) (pos 2) (pos 6) (pos 2320) (pos 1994)
  pub started_departed : (even_run (five_from 50 30) 1000).total_out ≡ 2000

-- A link that brings two vehicles a period leads to a movement that passes one, and nothing is rounded.
abbrev pub narrow : Network
narrow = record {
  shares = 1;
  per = 1;
  delay = 0;
  links = record { name = codes "a"; burst = 0; rate = 2 } ∷ [];
  movements = record { name = codes "ao"; from = 1; to = None; share = 1; flow = 1; start = 0 } ∷ [];
  junctions = record { name = codes "j"; stages = (1 ∷ []) ∷ [] } ∷ [];
}

-- With the growth a period one higher the law of growth is false.
abbrev pub NotFaster : Type 0
NotFaster = ¬ ((net : Network) → IsNetwork net → (p : ℕ → ℕ) (choices : List (List ℕ)) → (pos (length choices) *ℤ (growth net p +ℤ pos 1) -ℤ pos (lost_to_rounding net p)) ≤ℤ pos (weighed_queues net p (queue (trail net choices))))

-- With one less lost to rounding it is false.
abbrev pub NotLessLost : Type 0
NotLessLost = ¬ ((net : Network) → IsNetwork net → (p : ℕ → ℕ) (choices : List (List ℕ)) → (pos (length choices) *ℤ growth net p -ℤ (pos (lost_to_rounding net p) -ℤ pos 1)) ≤ℤ pos (weighed_queues net p (queue (trail net choices))))
