-- What becomes of a network under even arrivals where its junctions show any stages.
use Rattle.std.specs.Prelude.{◌≡◌, ℕ, ◌+◌, List, [], ◌∷◌}
use Rattle.mp_model.specs.Arrivals.{arrivals_of}
use Rattle.mp_model.specs.Network.{Network}
use Rattle.mp_model.specs.Run.{opening, state_after}
use Rattle.mp_model.specs.Step.{State, step}
use Rattle.mp_overload.specs.Evens.{even_arrivals, even_periods}

-- This is the state after a period with even arrivals in which the junctions show these stages.
abbrev pub trail_period : Network → List ℕ → State → State
trail_period net stages state = step net stages (arrivals_of net (even_arrivals net (state.period + 1))) state

-- This is the state after such periods from a state on, where the stages are chosen for each period.
abbrev pub trail_from : Network → State → List (List ℕ) → State
trail_from net state [] = state
trail_from net state (stages ∷ choices) = trail_from net (trail_period net stages state) choices

-- The trail of a list of choices is the state after them; it begins at the opening, so at the start queues.
abbrev pub trail : Network → List (List ℕ) → State
trail net choices = trail_from net (opening net) choices

-- A state is on a trail where some choices lead to it.
abbrev pub IsOnTrail : Network → State → Type 0
IsOnTrail net state = (choices : List (List ℕ)) × (state ≡ trail net choices)

-- This is the state of the run over T periods of even arrivals, in which the junctions show the greatest stages.
abbrev pub even_run : Network → ℕ → State
even_run net T = state_after net (opening net) (even_periods net T)
