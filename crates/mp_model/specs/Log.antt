-- The text of a log, line by line, where each line is written with a line feed at its end.
use Rattle.std.specs.Prelude.{ℕ, List, [], ◌∷◌, ◌++◌, codes, decimal, map}
use Rattle.std.specs.List.{flat_map}
use Rattle.mp_model.specs.Network.{Network, movement_numbers, movement_at, entry}
use Rattle.mp_model.specs.Step.{State, queue, queued}
use Rattle.mp_model.specs.Run.{opening, greatest_stages, advance, state_after}

-- Each number is written with a space before it.
abbrev pub spaced : List ℕ → List ℕ
spaced ns = flat_map (λ n. 32 ∷ decimal n) ns

-- A text of lines is each line with a line feed after it.
abbrev pub text_of : List (List ℕ) → List ℕ
text_of lines = flat_map (λ line. line ++ 10 ∷ []) lines

-- The slack line gives the slack in lowest terms.
abbrev pub slack_line : ℕ → ℕ → List ℕ
slack_line E D = codes "slack " ++ decimal E ++ codes "/" ++ decimal D

-- The bound line of movement k gives its number, its name and its bound.
abbrev pub bound_line : Network → List ℕ → ℕ → List ℕ
bound_line net bounds k = codes "bound " ++ decimal k ++ codes " " ++ (movement_at net k).name ++ codes " " ++ decimal (entry bounds k)

-- The first line names the program and the version of its log.
abbrev pub first_line : List ℕ
first_line = codes "maxpressure 1"

-- The header is the first line, the slack line and a bound line per movement.
abbrev pub header_lines : Network → ℕ → ℕ → List ℕ → List (List ℕ)
header_lines net E D bounds = first_line ∷ slack_line E D ∷ map (bound_line net bounds) (movement_numbers net)

-- A period line gives the period, the arrivals of the fed links, the stages of the junctions, and the queues of the movements after the period.
abbrev pub period_line : ℕ → List ℕ → List ℕ → List ℕ → List ℕ
period_line period arrivals stages queues = codes "p " ++ decimal period ++ codes " a" ++ spaced arrivals ++ codes " s" ++ spaced stages ++ codes " q" ++ spaced queues

-- This is the line of the period with these arrivals that follows a state.
abbrev pub line_after : Network → State → List ℕ → List ℕ
line_after net state counts = period_line (advance net counts state).period counts (greatest_stages net (queue state)) (advance net counts state).queues

-- These are the lines of the periods that follow a state.
abbrev pub lines_from : Network → State → List (List ℕ) → List (List ℕ)
lines_from net state [] = []
lines_from net state (counts ∷ A) = line_after net state counts ∷ lines_from net (advance net counts state) A

-- These are the lines of all periods of a run.
abbrev pub period_lines : Network → List (List ℕ) → List (List ℕ)
period_lines net A = lines_from net (opening net) A

-- The end line gives the number of periods, how many vehicles entered, how many departed, and how many are queued.
abbrev pub end_line_of : ℕ → ℕ → ℕ → ℕ → List ℕ
end_line_of period total_in total_out queued = codes "end " ++ decimal period ++ codes " in " ++ decimal total_in ++ codes " out " ++ decimal total_out ++ codes " queued " ++ decimal queued

-- This is the end line after a state.
abbrev pub end_line : Network → State → List ℕ
end_line net state = end_line_of state.period state.total_in state.total_out (queued net state)

-- The lines of a run are a line per period, and the end line.
abbrev pub run_lines : Network → List (List ℕ) → List (List ℕ)
run_lines net A = period_lines net A ++ end_line net (state_after net (opening net) A) ∷ []

-- The text of a run is that of these lines.
abbrev pub run_text : Network → List (List ℕ) → List ℕ
run_text net A = text_of (run_lines net A)

-- The lines of a log without slack and bounds are the first line and those of the run.
abbrev pub plain_log_lines : Network → List (List ℕ) → List (List ℕ)
plain_log_lines net A = first_line ∷ run_lines net A

-- The log without slack and bounds is the text of these lines.
abbrev pub plain_log_text : Network → List (List ℕ) → List ℕ
plain_log_text net A = text_of (plain_log_lines net A)

-- The lines of a log are the header and those of the run.
abbrev pub log_lines : Network → ℕ → ℕ → List ℕ → List (List ℕ) → List (List ℕ)
log_lines net E D bounds A = header_lines net E D bounds ++ run_lines net A

-- The log is the text of these lines.
abbrev pub log_text : Network → ℕ → ℕ → List ℕ → List (List ℕ) → List ℕ
log_text net E D bounds A = text_of (log_lines net E D bounds A)
