-- Worked plans, computed from the stated calculation.
use Rattle.std.proofs.Common.{◌≡◌, ℕ, ◌^◌, List, [], ◌∷◌, Some, None, refl}
use Rattle.mp_model.specs.Network.{Network, junction_at}
use Rattle.mp_model.specs.Worked.{tandem, two_approaches, two_approaches_at, two_approaches_from}
use Rattle.mp_num.specs.Passing.{each, stepped}
use Rattle.mp_plan.specs.Stated.{bound_from, coming_from, early_from, fitting, green_with, stated_bound, stated_bounds, stated_coming, stated_green, stated_greens, stated_sum, stated_wanted, wanted_from, with_room}

two_greens : stated_greens two_approaches (1 ∷ 1 ∷ []) 1 4 (junction_at two_approaches 1) ≡ Some (1 ∷ 1 ∷ [])
unfolding each stepped fitting wanted_from stated_wanted green_with stated_green stated_sum stated_greens
two_greens = refl

-- at five times the rates they do not fit into the cycle
full_greens : stated_greens (two_approaches_at 5) (5 ∷ 5 ∷ []) 1 4 (junction_at (two_approaches_at 5) 1) ≡ Some (3 ∷ 3 ∷ [])
unfolding each stepped fitting wanted_from stated_wanted green_with stated_green stated_sum stated_greens
full_greens = refl

-- over a great denominator they exceed 128 bits
greens_beyond : stated_greens two_approaches (1 ∷ 1 ∷ []) (2 ^ 124) 4 (junction_at two_approaches 1) ≡ None
unfolding each stepped fitting wanted_from stated_wanted green_with stated_green stated_sum stated_greens
greens_beyond = refl

two_bounds : stated_bounds two_approaches (1 ∷ 1 ∷ []) 1 4 (3 ∷ 3 ∷ []) ≡ Some (3 ∷ 3 ∷ [])
unfolding each fitting coming_from early_from with_room bound_from stated_coming stated_bound stated_bounds
two_bounds = refl

-- with queues at the start
started_bounds : stated_bounds (two_approaches_from 50 30) (1 ∷ 1 ∷ []) 1 4 (53 ∷ 33 ∷ []) ≡ Some (53 ∷ 33 ∷ [])
unfolding each fitting coming_from early_from with_room bound_from stated_coming stated_bound stated_bounds
started_bounds = refl

-- the second of a tandem from what the first lets through
tandem_bounds : stated_bounds tandem (1 ∷ 1 ∷ []) 1 2 (2 ∷ 3 ∷ []) ≡ Some (2 ∷ 3 ∷ [])
unfolding each fitting coming_from early_from with_room bound_from stated_coming stated_bound stated_bounds
tandem_bounds = refl

-- a bound above 2^62 is none
bound_beyond : stated_bounds tandem (1 ∷ 1 ∷ []) 1 2 (2 ^ 62 ∷ 3 ∷ []) ≡ None
unfolding each fitting coming_from early_from with_room bound_from stated_coming stated_bound stated_bounds
bound_beyond = refl
