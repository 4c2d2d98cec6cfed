-- The laws on what junctions have heard, and on when two runs of the event core are the same.
use Rattle.std.specs.Prelude.{◌≡◌, ◌≤◌, ℕ, ◌-◌, ◌*◌, List, Some, true}
use Rattle.std.specs.List.{AllByRecursion}
use Rattle.mp_model.specs.Arrivals.{HasCounts, count_in}
use Rattle.mp_model.specs.Bounds.{AreBounds, greatest_change}
use Rattle.mp_model.specs.Certificate.{Cert, Certifies}
use Rattle.mp_model.specs.EventCore.{Copy, Event, closed_of, copy_of, core_after, core_opening, decided_at}
use Rattle.mp_model.specs.EventPeriods.{periods_of}
use Rattle.mp_model.specs.Network.{Network, entry, has, junction_at, junction_numbers, out_of}
use Rattle.mp_model.specs.NetworkRules.{IsNetwork}
use Rattle.mp_model.specs.Slack.{IsSlack}
use Rattle.mp_laws.specs.Order.{history_of}
use Rattle.mp_laws.specs.Reports.{DifferBy}
use Rattle.mp_laws.specs.Stages.{IsNearlyGreatest}

-- A copy of link l was made in no later period than now, and each copied count differs from the queue of now by at most so many greatest changes as it is periods old.
pub record IsNear (net : Network) (period : ℕ) (queues : List ℕ) (l : ℕ) (copy : Copy) : Type 0 where
  pub past : copy.period ≤ period
  pub near : AllByRecursion (λ k. DifferBy ((period - copy.period) * greatest_change net k) (entry queues k) (count_in (out_of net l) copy.counts k)) (out_of net l)

-- After events that closed lists of one count per fed link each copy is near the queues of now, and each stage that is decided in this period is nearly greatest at them.
pub record KeepsCopies (net : Network) (es : List Event) : Type 0 where
  pub copies : (j l : ℕ) (copy : Copy) → copy_of net (core_after net (core_opening net) es) j l ≡ Some copy → IsNear net (core_after net (core_opening net) es).period (core_after net (core_opening net) es).queues l copy
  pub decided : (j s : ℕ) → has (junction_numbers net) j ≡ true → decided_at (core_after net (core_opening net) es) j ≡ Some s → IsNearlyGreatest net (entry (core_after net (core_opening net) es).queues) (junction_at net j) s

-- This holds of all such events.
abbrev pub CopyLaw : Type 0
CopyLaw = (net : Network) → IsNetwork net → (es : List Event) → AllByRecursion (HasCounts net) (closed_of net (core_opening net) es) → KeepsCopies net es

-- Each copied count is at most the bound of its movement.
abbrev pub CopyBoundLaw : Type 0
CopyBoundLaw = (net : Network) → IsNetwork net → (cert : Cert) → Certifies net cert → (E D : ℕ) → IsSlack cert E D → (bounds : List ℕ) → AreBounds net E D bounds → (es : List Event) → AllByRecursion (HasCounts net) (closed_of net (core_opening net) es) →
    (j l : ℕ) (copy : Copy) → copy_of net (core_after net (core_opening net) es) j l ≡ Some copy → AllByRecursion (λ k. count_in (out_of net l) copy.counts k ≤ entry bounds k) (out_of net l)

-- Two lists of events are alike where the states of their runs up to now are the same, and the queues of their cores.
pub record AreAlike (net : Network) (es es' : List Event) : Type 0 where
  pub states : history_of net es ≡ history_of net es'
  pub queues : (core_after net (core_opening net) es).queues ≡ (core_after net (core_opening net) es').queues

-- They are alike where they closed the same arrivals by reports of the same ages.
abbrev pub SameLaw : Type 0
SameLaw = (net : Network) → IsNetwork net → (es es' : List Event) → periods_of net es ≡ periods_of net es' → AreAlike net es es'

-- Where the delay is 0, the same arrivals give the same queues, in whatever order junctions hear and decide.
abbrev pub PromptSameLaw : Type 0
PromptSameLaw = (net : Network) → IsNetwork net → net.delay ≡ 0 → (es es' : List Event) → closed_of net (core_opening net) es ≡ closed_of net (core_opening net) es' → (core_after net (core_opening net) es).queues ≡ (core_after net (core_opening net) es').queues
