-- The law on the levels of the event core, and on what it closes or refuses.
use Rattle.std.specs.Prelude.{◌≡◌, ◌<◌, ◌++◌, ℕ, List, [], ◌∷◌, true}
use Rattle.std.specs.List.{AllByRecursion}
use Rattle.mp_model.specs.Arrivals.{counts_of, KeepsTo, excess}
use Rattle.mp_model.specs.EventCore.{Event, apply, core_opening, core_after, closed_of}
use Rattle.mp_model.specs.EventCore.Answer.{above_at}
use Rattle.mp_model.specs.EventCore.Event.{close}
use Rattle.mp_model.specs.Network.{link_numbers, link_at, fed, Network, entry, has}

-- Link l is the least fed link that does not keep to its bucket when a period with these counts follows the others.
pub record IsFirstAbove (net : Network) (A : List (List ℕ)) (counts : List ℕ) (l : ℕ) : Type 0 where
  pub of_fed : has (fed net) l ≡ true
  pub above : ¬ KeepsTo net.per (link_at net l).burst (link_at net l).rate (counts_of net (A ++ counts ∷ []) l)
  pub first : AllByRecursion (λ m. m < l → KeepsTo net.per (link_at net m).burst (link_at net m).rate (counts_of net (A ++ counts ∷ []) m)) (fed net)

-- After any events each level is the greatest excess of the arrivals that were closed, these keep to the buckets, and a period that is refused as above a bucket names the least link that does not keep to it.
pub record KeepsBuckets (net : Network) (es : List Event) : Type 0 where
  pub levels : AllByRecursion (λ l. entry (core_after net (core_opening net) es).levels l ≡ excess net.per (link_at net l).rate (counts_of net (closed_of net (core_opening net) es) l)) (link_numbers net)
  pub windows : AllByRecursion (λ l. KeepsTo net.per (link_at net l).burst (link_at net l).rate (counts_of net (closed_of net (core_opening net) es) l)) (fed net)
  pub above : (counts : List ℕ) (l : ℕ) → (apply net (core_after net (core_opening net) es) (close counts)).0 ≡ above_at l → IsFirstAbove net (closed_of net (core_opening net) es) counts l

-- This holds of every list of events.
abbrev pub BucketLaw : Type 0
BucketLaw = (net : Network) (es : List Event) → KeepsBuckets net es
