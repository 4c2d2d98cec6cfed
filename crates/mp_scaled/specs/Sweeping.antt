-- What the code's sweeps come to.
use Rattle.std.specs.Prelude.{◌≡◌, ℕ, ◌+◌, ◌*◌, suc, Bool, true, false, List, Option, Some, None}
use Rattle.mp_model.specs.Network.{Network, from_of, share_of, entry}
use Rattle.mp_trial.specs.Sweeps.{rounded_up, rates_after, is_above}
use Rattle.mp_scaled.specs.declared.sweep.Swept.{Swept}
use Rattle.mp_scaled.specs.declared.sweep.Swept.TheVariants.{Above, Stable, Moving}

-- This is the rate of movement k after a sweep, where this comes to the links.
abbrev pub carried : Network → ℕ → List ℕ → ℕ → ℕ
carried net e brought k = rounded_up (share_of net k * entry brought (from_of net k) + net.shares * net.per * e) (net.shares * net.per)

-- A sweep ends by whether it brings some rate above its flow, and whether it leaves the rates as they are.
abbrev pub EndsSweep : Swept → Bool → Bool → Type 0
EndsSweep Above above stable = above ≡ true
EndsSweep Stable above stable = (above ≡ false) × (stable ≡ true)
EndsSweep Moving above stable = (above ≡ false) × (stable ≡ false)

-- This holds where a sweep brings no rate above its flow.
abbrev pub IfNotAbove : Swept → Type 0 → Type 0
IfNotAbove Above fact = Unit {0}
IfNotAbove Stable fact = fact
IfNotAbove Moving fact = fact

-- The sweeps end with a rate above its flow, with rates that the next sweep leaves as they are, or at the limit.
abbrev pub EndsSweeps : Network → ℕ → ℕ → Swept → Option ℕ → List ℕ → Type 0
EndsSweeps net D e Above before rates = (i : ℕ) × (before ≡ Some i) × (is_above net D (rates_after net D e (suc i)) ≡ true)
EndsSweeps net D e Stable before rates = (i : ℕ) × (before ≡ Some i) × (is_above net D (rates_after net D e (suc i)) ≡ false) × (rates ≡ rates_after net D e i)
EndsSweeps net D e Moving before rates = before ≡ None
