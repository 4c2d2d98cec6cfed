-- Worked plans and runs by them, each computed from the definitions.
use Rattle.std.proofs.Common.{◌≡◌, ℕ, List, [], ◌∷◌, codes, refl, lit≤}
use Rattle.std.specs.Fmt.{digits}
use Rattle.mp_model.specs.Network.{junction_at}
use Rattle.mp_model.specs.Plans.{IsPlan, Plan, planned_greens, planned_log}
use Rattle.mp_model.specs.Worked.{tandem, two_approaches, two_approaches_at}

-- two approaches by a cycle of four periods
abbrev two_plan : Plan
two_plan = record { cycle = 4; greens = (1 ∷ 1 ∷ []) ∷ []; bounds = 3 ∷ 3 ∷ [] }

two_is : IsPlan two_approaches (1 ∷ 1 ∷ []) 1 two_plan
two_is = record { carry = record { some = lit≤ tt; carried = (refl, (refl, tt)) }; cycle = lit≤ tt; greens = refl; fit = (lit≤ tt, tt); bounds = (refl, (refl, tt)) }

abbrev none : List ℕ
none = 0 ∷ 0 ∷ []

two_log : planned_log two_approaches two_plan ((2 ∷ 1 ∷ []) ∷ none ∷ none ∷ none ∷ none ∷ [])
    ≡ codes "plan 1\ncycle 4\ngreen 1 1 1\nbound 1 ao 3\nbound 2 bo 3\np 1 a 2 1 s 1 q 2 1\np 2 a 0 0 s 2 q 2 0\np 3 a 0 0 s 0 q 2 0\np 4 a 0 0 s 0 q 2 0\np 5 a 0 0 s 1 q 0 0\nend 5 in 3 out 3 queued 0\n"
unfolding digits
two_log = refl

-- a tandem by a cycle of two periods
abbrev tandem_plan : Plan
tandem_plan = record { cycle = 2; greens = (1 ∷ []) ∷ (1 ∷ []) ∷ []; bounds = 2 ∷ 3 ∷ [] }

tandem_log : planned_log tandem tandem_plan ((1 ∷ []) ∷ (0 ∷ []) ∷ (0 ∷ []) ∷ [])
    ≡ codes "plan 1\ncycle 2\ngreen 1 1\ngreen 2 1\nbound 1 xy 2\nbound 2 yo 3\np 1 a 1 s 1 1 q 1 0\np 2 a 0 s 0 0 q 1 0\np 3 a 0 s 1 1 q 0 1\nend 3 in 1 out 0 queued 1\n"
unfolding digits
tandem_log = refl

-- at five times the rates the greens of two approaches do not fit
full : planned_greens (two_approaches_at 5) (5 ∷ 5 ∷ []) 1 4 (junction_at (two_approaches_at 5) 1) ≡ 3 ∷ 3 ∷ []
full = refl
