-- What lines of some kinds do to the event core.
use Rattle.std.specs.Prelude.{◌≡◌, ℕ, ◌+◌, List, [], ◌∷◌, ◌++◌, length, Option, None}
use Rattle.std.specs.List.{AllByRecursion}
use Rattle.mp_model.specs.Arrivals.{HasCounts}
use Rattle.mp_model.specs.EventCore.{Core, Event, core_after, core_opening}
use Rattle.mp_model.specs.EventPeriods.{periods_of}
use Rattle.mp_model.specs.Network.{Network}
use Rattle.mp_model.specs.Reports.{History, Period, first_history, history_after}
use Rattle.mp_model.specs.Stream.{LineKind, arrivals_of_kinds, line_events}
use Rattle.mp_model.specs.StreamEnd.{StreamEnd, first_refusal}

-- These are the events of lines of these kinds, line after line, from a core.
abbrev pub events_from : Network → Core → List LineKind → List Event
events_from net core [] = []
events_from net core (kind ∷ rest) = line_events net core kind ++ events_from net (core_after net core (line_events net core kind)) rest

-- These are the events of lines of these kinds.
abbrev pub events_behind : Network → List LineKind → List Event
events_behind net kinds = events_from net (core_opening net) kinds

-- This is the core after the events of lines of these kinds.
abbrev pub core_behind : Network → List LineKind → Core
core_behind net kinds = core_after net (core_opening net) (events_behind net kinds)

-- These are the periods that lines of these kinds close.
abbrev pub periods_behind : Network → List LineKind → List Period
periods_behind net kinds = periods_of net (events_behind net kinds)

-- This is the run up to now by the periods that lines of these kinds close.
abbrev pub history_behind : Network → List LineKind → History
history_behind net kinds = history_after net (first_history net) (periods_behind net kinds)

-- This is the first refusal among the events of the line of this kind that follows lines of these kinds, if there is one.
abbrev pub refusal_behind : Network → List LineKind → LineKind → Option StreamEnd
refusal_behind net kinds kind = first_refusal net (length kinds + 1) (core_behind net kinds) (line_events net (core_behind net kinds) kind)

-- No event of the lines of these kinds from a number on, from a core, is refused.
abbrev pub AreUnrefused : Network → ℕ → Core → List LineKind → Type 0
AreUnrefused net line core [] = Unit {0}
AreUnrefused net line core (kind ∷ rest) = (first_refusal net line core (line_events net core kind) ≡ None) × AreUnrefused net (line + 1) (core_after net core (line_events net core kind)) rest

-- Lines of these kinds are permitted where none of their events is refused, and lines of arrivals have one count per fed link.
pub record ArePermitted (net : Network) (kinds : List LineKind) : Type 0 where
  pub unrefused : AreUnrefused net 1 (core_opening net) kinds
  pub counts : AllByRecursion (HasCounts net) (arrivals_of_kinds kinds)
