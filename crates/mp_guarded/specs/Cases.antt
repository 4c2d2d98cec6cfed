-- A worked guard whose counts are wrong, one where a count of 0 is, and one under which the longest wait occurs.
use Rattle.std.specs.Prelude.{◌≡◌, ◌==◌, ◌<◌, ℕ, ◌%◌, cond, List, [], ◌∷◌, codes}
use Rattle.std.specs.List.{AllByRecursion}
use Rattle.mp_model.specs.Arrivals.{IsPermitted}
use Rattle.mp_model.specs.Guard.{Guard, Guards, CarryBursts, IsGuardedBound}
use Rattle.mp_model.specs.GuardedChoice.{guarded_run}
use Rattle.mp_model.specs.GuardedRun.{Play, IsCandidate, account_of, stage_of, guarded_state, lights_of}
use Rattle.mp_model.specs.Lights.{lit_arrivals}
use Rattle.mp_model.specs.Network.{Network, junction_at, junction_numbers}
use Rattle.mp_model.specs.Step.{queue}
use Rattle.mp_model.specs.Worked.{two_approaches}
use Rattle.mp_guarded.specs.Bounds.{IsGuarded}
use Rattle.mp_guarded.specs.Waits.{IsServedWithin, wait_of}

-- Each of the two approaches is owed one green in a cycle of four periods.
abbrev pub two_guard : Guard
two_guard = record { cycle = 4; lost = 0; denominator = 4; rates = 1 ∷ 1 ∷ []; greens = (1 ∷ 1 ∷ []) ∷ [] }

-- Both arrivals come at once, then none; whatever stands there, nine are counted; and the approaches take turns.
abbrev pub miscounted_play : Play
miscounted_play = record {
  arrivals = λ t. cond (t == 0) (2 ∷ 1 ∷ []) (0 ∷ 0 ∷ []);
  counts = λ t k. 9;
  stages = λ t. cond (t % 2 == 0) (1 ∷ []) (2 ∷ []);
}

-- The greediest arrivals come to the first approach, where none is ever counted, and the second has green all the time.
abbrev pub unseen_play : Play
unseen_play = record {
  arrivals = λ t. cond (t == 0) (2 ∷ 0 ∷ []) (cond (t % 4 == 3) (1 ∷ 0 ∷ []) (0 ∷ 0 ∷ []));
  counts = λ t k. cond (k == 1) 0 1;
  stages = λ t. 2 ∷ [];
}

-- The guard guards the network, with bursts of 4 and bounds of 4, and the premises of the bound law are met though the counts are wrong.
pub record MiscountedCase : Type 0 where
  pub guards : Guards two_approaches two_guard
  pub carry : CarryBursts two_approaches two_guard (λ k. 0) (4 ∷ 4 ∷ [])
  pub first : IsGuardedBound two_approaches two_guard (λ k. 0) (4 ∷ 4 ∷ []) 1 4
  pub second : IsGuardedBound two_approaches two_guard (λ k. 0) (4 ∷ 4 ∷ []) 2 4
  pub guarded : IsGuarded two_approaches two_guard miscounted_play 4

-- Where a movement with somebody waiting is counted as empty, permitted arrivals and candidates lead above that bound.
pub record UnseenCase : Type 0 where
  pub permitted : IsPermitted two_approaches (lit_arrivals (lights_of two_approaches two_guard unseen_play) 12)
  pub candidates : (t : ℕ) → t < 12 → AllByRecursion (λ j. IsCandidate two_guard (junction_at two_approaches j) (unseen_play.counts t) t (account_of two_approaches two_guard unseen_play j t) (stage_of unseen_play j t)) (junction_numbers two_approaches)
  pub above : queue (guarded_state two_approaches two_guard unseen_play 12) 1 ≡ 5

-- Two approaches of a junction take turns, and a crowd may come to the second.
abbrev pub crowded_approaches : Network
crowded_approaches = record two_approaches { links = record { name = codes "a"; burst = 2; rate = 1 } ∷ record { name = codes "b"; burst = 14; rate = 1 } ∷ [] }

-- In the first period one arrives at the first approach and the crowd at the second, and nobody in the six periods after it.
abbrev pub crowd_arrivals : List (List ℕ)
crowd_arrivals = (1 ∷ 14 ∷ []) ∷ (0 ∷ 0 ∷ []) ∷ (0 ∷ 0 ∷ []) ∷ (0 ∷ 0 ∷ []) ∷ (0 ∷ 0 ∷ []) ∷ (0 ∷ 0 ∷ []) ∷ (0 ∷ 0 ∷ []) ∷ []

-- Over permitted arrivals the one at the first approach, whose wait is 6, waits for 6 periods without green: a wait of 5 is not kept.
pub record LongestWaitCase : Type 0 where
  pub guards : Guards crowded_approaches two_guard
  pub permitted : IsPermitted crowded_approaches crowd_arrivals
  pub wait : wait_of crowded_approaches two_guard 1 ≡ 6
  pub longest : ¬ IsServedWithin crowded_approaches two_guard 1 5 (guarded_run crowded_approaches two_guard crowd_arrivals)
