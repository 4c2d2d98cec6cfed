-- The periods that a stream closes, with the ages of the reports by which junctions decided.
use Rattle.std.specs.Prelude.{ℕ, ◌+◌, List, [], ◌∷◌, ◌++◌}
use Rattle.mp_model.specs.EventCore.{Core, core_after, core_opening}
use Rattle.mp_model.specs.EventPeriods.{ages_after, no_ages, periods_from}
use Rattle.mp_model.specs.Network.{Network}
use Rattle.mp_model.specs.Reports.{Period}
use Rattle.mp_model.specs.Stream.{LineKind, kinds, line_events}
use Rattle.mp_model.specs.StreamEnd.{closed_at, line_refusal}

-- These are the periods that the lines from a number on close, from a core and the ages by which its junctions have decided.
abbrev pub stream_periods_from : Network → ℕ → Core → List (List ℕ) → List LineKind → List Period
stream_periods_from net line core ages [] = []
stream_periods_from net line core ages (kind ∷ rest) =
    closed_at (line_refusal net line core kind)
    (periods_from net core ages (line_events net core kind) ++ stream_periods_from net (line + 1) (core_after net core (line_events net core kind)) (ages_after net core ages (line_events net core kind)) rest)

-- These are the periods that a stream closes.
abbrev pub stream_periods : Network → List ℕ → List Period
stream_periods net text = stream_periods_from net 1 (core_opening net) (no_ages net) (kinds net text)
