-- The laws on the periods that a stream closes.
use Rattle.std.specs.Prelude.{◌≡◌, ℕ, List, map}
use Rattle.std.specs.List.{AllByRecursion}
use Rattle.mp_model.specs.Network.{Network}
use Rattle.mp_model.specs.NetworkRules.{IsNetwork}
use Rattle.mp_model.specs.Reports.{AllTimely, renewed_periods}
use Rattle.mp_model.specs.Stream.{LineKind, kinds, without_events}
use Rattle.mp_model.specs.StreamEnd.{stream_closed}
use Rattle.mp_model.specs.StreamPeriods.{stream_periods}

-- The periods that a stream closes have the arrivals that it closes, and timely reports.
pub record ClosesPeriods (net : Network) (text : List ℕ) : Type 0 where
  pub arrivals : map (λ period. period.counts) (stream_periods net text) ≡ stream_closed net text
  pub timely : AllTimely net 0 (stream_periods net text)

-- This holds of every stream.
abbrev pub StreamPeriodsLaw : Type 0
StreamPeriodsLaw = (net : Network) → IsNetwork net → (text : List ℕ) → ClosesPeriods net text

-- The line is neither a hearing nor a decision.
abbrev pub IsPlain : LineKind → Type 0
IsPlain kind = without_events kind ≡ kind

-- Where no line of a stream is a hearing or a decision, each junction hears a link anew only when the report that it has would be too old.
abbrev pub RenewedLaw : Type 0
RenewedLaw = (net : Network) (text : List ℕ) → AllByRecursion IsPlain (kinds net text) → stream_periods net text ≡ renewed_periods net 0 (stream_closed net text)
