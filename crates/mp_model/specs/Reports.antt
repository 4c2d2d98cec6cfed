-- A run in which junctions decide by reports that may be some periods old.
use Rattle.std.specs.Prelude.{◌≡◌, ◌≤◌, ℕ, ◌+◌, ◌%◌, List, [], ◌∷◌, length, map, zip, get_or}
use Rattle.std.specs.List.{AllByRecursion}
use Rattle.mp_model.specs.Arrivals.{arrivals_of, count_in}
use Rattle.mp_model.specs.Network.{Network, Junction, from_of, targets}
use Rattle.mp_model.specs.Pressure.{greatest_stage_by}
use Rattle.mp_model.specs.Run.{opening}
use Rattle.mp_model.specs.Step.{State, queue, step}

-- A period has its arrivals, one count per fed link, and for each junction the ages of the reports by which it decides: for each link that it feeds, how many periods old the report is.
pub record Period : Type 0 where
  pub counts : List ℕ
  pub ages : List (List ℕ)

-- A run up to now has the state of now and the earlier ones, latest first.
pub record History : Type 0 where
  pub now : State
  pub earlier : List State

-- This is the state so many periods ago.
abbrev pub state_ago : History → ℕ → State
state_ago history age = get_or (history.now ∷ history.earlier) age history.now

-- This is the queue of movement k by the report of its link, where the ages are those of a junction.
abbrev pub reported_queue : Network → History → Junction → List ℕ → ℕ → ℕ
reported_queue net history j ages k = queue (state_ago history (count_in (targets net j) ages (from_of net k))) k

-- A junction takes the stage of greatest pressure by its own queues of now and the reported queues of the links that it feeds.
abbrev pub reported_stage : Network → History → Junction → List ℕ → ℕ
reported_stage net history j ages = greatest_stage_by net (queue history.now) (reported_queue net history j ages) j

-- These are the stages that the junctions take by reports of these ages.
abbrev pub reported_stages : Network → History → List (List ℕ) → List ℕ
reported_stages net history ages = map (λ p. reported_stage net history p.0 p.1) (zip net.junctions ages)

-- An age is timely where it is at most the delay of the network and at most the number of periods before.
abbrev pub IsTimelyAge : Network → ℕ → ℕ → Type 0
IsTimelyAge net before age = (age ≤ net.delay) × (age ≤ before)

-- The reports of a period are timely where each junction has one age per link that it feeds, and each age is timely.
pub record AreTimely (net : Network) (before : ℕ) (ages : List (List ℕ)) : Type 0 where
  pub junctions : length ages ≡ length net.junctions
  pub targets : AllByRecursion (λ p. length p.1 ≡ length (targets net p.0)) (zip net.junctions ages)
  pub timely : AllByRecursion (AllByRecursion (IsTimelyAge net before)) ages

-- This is the run up to the end of a period.
abbrev pub advance_by : Network → Period → History → History
advance_by net period history = record { now = step net (reported_stages net history period.ages) (arrivals_of net period.counts) history.now; earlier = history.now ∷ history.earlier }

-- The run starts at the opening.
abbrev pub first_history : Network → History
first_history net = record { now = opening net; earlier = [] }

-- This is the run after a list of periods, from a run up to now on.
abbrev pub history_after : Network → History → List Period → History
history_after net history [] = history
history_after net history (period ∷ periods) = history_after net (advance_by net period history) periods

-- The reports of each of these periods are timely, after so many periods.
abbrev pub AllTimely : Network → ℕ → List Period → Type 0
AllTimely net before [] = Unit {0}
AllTimely net before (period ∷ periods) = AreTimely net before period.ages × AllTimely net (before + 1) periods

-- These are the states from now on.
abbrev pub reported_run_from : Network → History → List Period → List State
reported_run_from net history [] = history.now ∷ []
reported_run_from net history (period ∷ periods) = history.now ∷ reported_run_from net (advance_by net period history) periods

-- The run over a list of periods is the list of its states from the opening on.
abbrev pub reported_run : Network → List Period → List State
reported_run net periods = reported_run_from net (first_history net) periods

-- These are the ages of reports of now, one per link that the junction feeds.
abbrev pub ages_of_now : Network → Junction → List ℕ
ages_of_now net j = map (λ l. 0) (targets net j)

-- Where a junction hears a link anew only when the report that it has would be too old, each report is as old as the periods before this one, modulo one more than the delay.
abbrev pub renewed_ages : Network → ℕ → List (List ℕ)
renewed_ages net before = map (λ j. map (λ l. before % (net.delay + 1)) (targets net j)) net.junctions

-- These are periods of these arrivals with reports of such ages, after so many periods.
abbrev pub renewed_periods : Network → ℕ → List (List ℕ) → List Period
renewed_periods net before [] = []
renewed_periods net before (counts ∷ A) = record { counts = counts; ages = renewed_ages net before } ∷ renewed_periods net (before + 1) A

-- This is a period of these arrivals in which each junction decides by reports of now.
abbrev pub prompt_period : Network → List ℕ → Period
prompt_period net counts = record { counts = counts; ages = map (ages_of_now net) net.junctions }
