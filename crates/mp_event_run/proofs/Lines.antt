-- The events of lines, one line further.
use Rattle.std.proofs.Common.{◌≡◌, ℕ, List, [], ◌∷◌, ◌++◌, refl, sym, ◌∙◌, ap, append_assoc}
use Rattle.std.proofs.lemmas.List.{append-nil}
use Rattle.mp_model.specs.EventCore.{Answer, Core, Event, apply, core_after, core_opening}
use Rattle.mp_model.specs.EventCore.Answer.{closed}
use Rattle.mp_model.specs.EventCore.Event.{hear, decide}
use Rattle.mp_model.specs.EventPeriods.{ages_after, no_ages, noted, period_by, periods_from, periods_of}
use Rattle.mp_model.specs.Network.{Network}
use Rattle.mp_model.specs.Reports.{Period}
use Rattle.mp_model.specs.Stream.{LineKind, line_events}
use Rattle.mp_laws.proofs.LineEvents.{after_append}
use Rattle.mp_laws.proofs.Renewed.{periods_append}
use Rattle.mp_event_run.specs.Behind.{core_behind, events_behind, events_from, periods_behind}

pub events_append : (net : Network) (ks ms : List LineKind) (core : Core) → events_from net core (ks ++ ms) ≡ events_from net core ks ++ events_from net (core_after net core (events_from net core ks)) ms
events_append net [] ms core = refl
events_append net (k ∷ ks) ms core =
    let es = line_events net core k in
    let next = core_after net core es in
    let rest = events_from net next ks in
    ap (λ (xs : List Event). es ++ xs) (events_append net ks ms next)
    ∙ sym (append_assoc es rest (events_from net (core_after net next rest) ms))
    ∙ ap (λ c. (es ++ rest) ++ events_from net c ms) (sym (after_append net es rest core))

pub events_more : (net : Network) (kinds : List LineKind) (kind : LineKind) → events_behind net (kinds ++ kind ∷ []) ≡ events_behind net kinds ++ line_events net (core_behind net kinds) kind
events_more net kinds kind =
    events_append net kinds (kind ∷ []) (core_opening net) ∙ ap (λ (xs : List Event). events_behind net kinds ++ xs) (append-nil (line_events net (core_behind net kinds) kind))

pub core_more : (net : Network) (kinds : List LineKind) (kind : LineKind) → core_behind net (kinds ++ kind ∷ []) ≡ core_after net (core_behind net kinds) (line_events net (core_behind net kinds) kind)
core_more net kinds kind = ap (core_after net (core_opening net)) (events_more net kinds kind) ∙ after_append net (events_behind net kinds) (line_events net (core_behind net kinds) kind) (core_opening net)

-- the ages by which the junctions have decided behind some lines
abbrev pub ages_behind : Network → List LineKind → List (List ℕ)
ages_behind net kinds = ages_after net (core_opening net) (no_ages net) (events_behind net kinds)

pub periods_more : (net : Network) (kinds : List LineKind) (kind : LineKind) →
    periods_behind net (kinds ++ kind ∷ []) ≡ periods_behind net kinds ++ periods_from net (core_behind net kinds) (ages_behind net kinds) (line_events net (core_behind net kinds) kind)
periods_more net kinds kind = ap (periods_of net) (events_more net kinds kind) ∙ periods_append net (events_behind net kinds) (line_events net (core_behind net kinds) kind) (core_opening net) (no_ages net)

pub ages_append : (net : Network) (xs ys : List Event) (core : Core) (ages : List (List ℕ)) → ages_after net core ages (xs ++ ys) ≡ ages_after net (core_after net core xs) (ages_after net core ages xs) ys
ages_append net [] ys core ages = refl
ages_append net (x ∷ xs) ys core ages = ages_append net xs ys (apply net core x).1 (noted net core x ages)

-- only a close closes a period
pub hear_no_period : (a : Answer) (j l : ℕ) (ages : List (List ℕ)) (rest : List Period) → period_by a (hear j l) ages rest ≡ rest
hear_no_period closed j l ages rest = refl
hear_no_period Answer.heard j l ages rest = refl
hear_no_period (Answer.not_adjacent i m) j l ages rest = refl
hear_no_period (Answer.chose s) j l ages rest = refl
hear_no_period (Answer.stale i m) j l ages rest = refl
hear_no_period (Answer.undecided i) j l ages rest = refl
hear_no_period (Answer.above_at m) j l ages rest = refl

pub decide_no_period : (a : Answer) (j : ℕ) (ages : List (List ℕ)) (rest : List Period) → period_by a (decide j) ages rest ≡ rest
decide_no_period closed j ages rest = refl
decide_no_period Answer.heard j ages rest = refl
decide_no_period (Answer.not_adjacent i m) j ages rest = refl
decide_no_period (Answer.chose s) j ages rest = refl
decide_no_period (Answer.stale i m) j ages rest = refl
decide_no_period (Answer.undecided i) j ages rest = refl
decide_no_period (Answer.above_at m) j ages rest = refl
