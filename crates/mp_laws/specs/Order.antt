-- The law that the event core follows the run by its reports, in whatever order its events come.
use Rattle.std.specs.Prelude.{◌≡◌, ℕ, ◌%◌, List, map}
use Rattle.std.specs.List.{AllByRecursion}
use Rattle.mp_model.specs.EventCore.{Event, apply, core_opening, core_after, closed_of, Core}
use Rattle.mp_model.specs.EventCore.Answer.{closed}
use Rattle.mp_model.specs.EventCore.Event.{close}
use Rattle.mp_model.specs.EventPeriods.{ages_after, no_ages, periods_of}
use Rattle.mp_model.specs.Network.{link_numbers, Network, entry}
use Rattle.mp_model.specs.NetworkRules.{IsNetwork}
use Rattle.mp_model.specs.Reports.{AllTimely, History, first_history, history_after, reported_stages}
use Rattle.mp_model.specs.Run.{opening, state_after}
use Rattle.mp_model.specs.Step.{State, received_by}

-- The core has the queues, phases, period and totals of a state.
pub record Agrees (net : Network) (core : Core) (state : State) : Type 0 where
  pub queues : core.queues ≡ state.queues
  pub phases : AllByRecursion (λ l. entry core.phases l ≡ received_by state l % net.shares) (link_numbers net)
  pub period : core.period ≡ state.period
  pub total_in : core.total_in ≡ state.total_in
  pub total_out : core.total_out ≡ state.total_out

-- This is the run up to now by the periods that the events closed.
abbrev pub history_of : Network → List Event → History
history_of net es = history_after net (first_history net) (periods_of net es)

-- After any events the periods that they closed have the arrivals that they closed and timely reports; the core has the queues, phases, period and totals of the run by these; and whatever closes next closes with the stages of greatest pressure by the reports at which the junctions decided.
pub record FollowsRun (net : Network) (es : List Event) : Type 0 where
  pub arrivals : map (λ period. period.counts) (periods_of net es) ≡ closed_of net (core_opening net) es
  pub timely : AllTimely net 0 (periods_of net es)
  pub agrees : Agrees net (core_after net (core_opening net) es) (history_of net es).now
  pub greatest : (counts : List ℕ) → (apply net (core_after net (core_opening net) es) (close counts)).0 ≡ closed →
      (apply net (core_after net (core_opening net) es) (close counts)).1.last ≡ reported_stages net (history_of net es) (ages_after net (core_opening net) (no_ages net) es)

-- This holds of every list of events.
abbrev pub OrderLaw : Type 0
OrderLaw = (net : Network) → IsNetwork net → (es : List Event) → FollowsRun net es

-- Where the delay is 0, the core after any events has the queues, phases, period and totals of the run of the arrivals that they closed.
abbrev pub PromptOrderLaw : Type 0
PromptOrderLaw = (net : Network) → IsNetwork net → net.delay ≡ 0 → (es : List Event) → Agrees net (core_after net (core_opening net) es) (state_after net (opening net) (closed_of net (core_opening net) es))
