-- The periods that a list of events closes: their arrivals, and how old the copies were by which the junctions decided.
use Rattle.std.specs.Prelude.{ℕ, ◌-◌, List, [], ◌∷◌, map, Option, Some, None, slice_set}
use Rattle.mp_model.specs.EventCore.{Event, Answer, Copy, Core, apply, copies_of, core_opening, decided_at}
use Rattle.mp_model.specs.EventCore.Answer.{chose, closed}
use Rattle.mp_model.specs.EventCore.Event.{hear, decide, close}
use Rattle.mp_model.specs.Network.{Network}
use Rattle.mp_model.specs.Reports.{Period}

-- A copy is as old as the periods since it was made.
abbrev pub age_of : ℕ → Option Copy → ℕ
age_of period None = 0
age_of period (Some copy) = period - copy.period

-- These are the ages of the copies of junction j, one for each link that it feeds.
abbrev pub ages_of : Core → ℕ → List ℕ
ages_of core j = map (age_of core.period) (copies_of core j)

-- At the beginning of a period no junction has decided by any copies.
abbrev pub no_ages : Network → List (List ℕ)
no_ages net = map (λ j. []) net.junctions

-- A junction that had not decided and now has is noted with the ages of its copies.
abbrev pub noted_decision : Core → ℕ → Option ℕ → Answer → List (List ℕ) → List (List ℕ)
noted_decision core j None (chose s) ages = slice_set ages (j - 1) (ages_of core j)
noted_decision core j decided answer ages = ages

-- Where a period closes nothing is noted of the next.
abbrev pub noted_close : Network → Answer → List (List ℕ) → List (List ℕ)
noted_close net closed ages = no_ages net
noted_close net answer ages = ages

-- These are the ages by which the junctions have decided in this period, after an event.
abbrev pub noted : Network → Core → Event → List (List ℕ) → List (List ℕ)
noted net core (hear j l) ages = ages
noted net core (decide j) ages = noted_decision core j (decided_at core j) (apply net core (decide j)).0 ages
noted net core (close counts) ages = noted_close net (apply net core (close counts)).0 ages

-- An event that closed a period puts it before the later ones.
abbrev pub period_by : Answer → Event → List (List ℕ) → List Period → List Period
period_by closed (close counts) ages rest = record { counts = counts; ages = ages } ∷ rest
period_by answer event ages rest = rest

-- These are the periods that events close, from a core and the ages by which its junctions have decided.
abbrev pub periods_from : Network → Core → List (List ℕ) → List Event → List Period
periods_from net core ages [] = []
periods_from net core ages (e ∷ es) = period_by (apply net core e).0 e ages (periods_from net (apply net core e).1 (noted net core e ages) es)

-- These are the periods that a list of events closes.
abbrev pub periods_of : Network → List Event → List Period
periods_of net es = periods_from net (core_opening net) (no_ages net) es

-- These are the ages by which the junctions have decided in the period that is open after some events.
abbrev pub ages_after : Network → Core → List (List ℕ) → List Event → List (List ℕ)
ages_after net core ages [] = ages
ages_after net core ages (e ∷ es) = ages_after net (apply net core e).1 (noted net core e ages) es
