-- A sharper form of the law that the event core follows the run, which does not hold.
use Rattle.std.specs.Prelude.{◌≡◌, ℕ, List}
use Rattle.mp_model.specs.EventCore.{Event, apply, core_opening, core_after}
use Rattle.mp_model.specs.EventCore.Event.{close}
use Rattle.mp_model.specs.Network.{Network, entry}
use Rattle.mp_model.specs.NetworkRules.{IsNetwork}
use Rattle.mp_model.specs.Run.{greatest_stages}

-- After any events a list of arrivals is taken with the greatest stages, also where it does not close the period.
abbrev pub GreatestWithoutClosing : Type 0
GreatestWithoutClosing = (net : Network) → IsNetwork net → (es : List Event) (counts : List ℕ) →
    (apply net (core_after net (core_opening net) es) (close counts)).1.last ≡ greatest_stages net (entry (core_after net (core_opening net) es).queues)

-- It is not: at the opening of two approaches nothing is decided, and no stage was shown.
abbrev pub NotGreatestWithoutClosing : Type 0
NotGreatestWithoutClosing = ¬ GreatestWithoutClosing
