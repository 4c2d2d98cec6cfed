-- The text of a demonstration.
use Rattle.std.specs.Prelude.{ℕ, List, [], ◌∷◌, ◌++◌, codes, decimal}
use Rattle.mp_model.specs.Network.{Network}
use Rattle.mp_model.specs.Step.{State, queued}
use Rattle.mp_model.specs.Run.{opening, state_after}
use Rattle.mp_model.specs.Log.{slack_line, text_of}
use Rattle.mp_model.specs.Load.{greatest as greatest_of}
use Rattle.mp_gen.specs.Demonstration.{greatest_queue}

-- The six lines give the number of the demonstration, the slack, the greatest bound, the periods, how many vehicles entered, departed and are queued, and the greatest queue.
abbrev pub demo_lines : ℕ → ℕ → ℕ → ℕ → ℕ → ℕ → ℕ → ℕ → List (List ℕ)
demo_lines n E D bound total_in total_out queued greatest =
    (codes "demo " ++ decimal n)
    ∷ slack_line E D
    ∷ (codes "bound " ++ decimal bound)
    ∷ codes "periods 1048576"
    ∷ (codes "in " ++ decimal total_in ++ codes " out " ++ decimal total_out ++ codes " queued " ++ decimal queued)
    ∷ (codes "greatest " ++ decimal greatest)
    ∷ []

-- The text of a demonstration is that of its six lines.
abbrev pub demo_text : ℕ → ℕ → ℕ → ℕ → ℕ → ℕ → ℕ → ℕ → List ℕ
demo_text n E D bound total_in total_out queued greatest = text_of (demo_lines n E D bound total_in total_out queued greatest)

-- This is the text of the demonstration n of a network with the slack E/D and the bounds, by the run over its arrivals.
abbrev pub demo_summary : ℕ → Network → ℕ → ℕ → List ℕ → List (List ℕ) → List ℕ
demo_summary n net E D bounds A =
    let state : State = state_after net (opening net) A in
    demo_text n E D (greatest_of bounds) state.total_in state.total_out (queued net state) (greatest_queue net A)
