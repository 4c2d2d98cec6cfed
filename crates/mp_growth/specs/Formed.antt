-- What the code's results say of the stated calculations.
use Rattle.std.specs.Prelude.{◌≡◌, ℕ, ℤ, pos, ◌-ℤ◌, ◌*ℤ◌, List, if◌then◌else◌, nat_lt, Option, Some, None, option_map, option_and_then, Result, Ok, Err}
use Rattle.std.specs.Int.{int_max}
use Rattle.mp_model.specs.Network.{Network, rate_before}
use Rattle.mp_num.specs.Operations.{added}
use Rattle.mp_cert.specs.Weighing.{weighed}
use Rattle.mp_cert.specs.declared.types.Weighed.{Weighed}
use Rattle.mp_overload.specs.Forming.{growth_formed, lost_formed}
use Rattle.mp_growth.specs.declared.growing.GrowthRate.{GrowthRate}
use Rattle.mp_growth.specs.declared.fault.GrowthFault.{GrowthFault}
use Rattle.mp_growth.specs.declared.fault.GrowthFault.TheVariants.{Vector, Growth}

-- A sum takes in the term of movement k where the movement is out of a link with a rate above 0.
unfoldable pub rated_added : Network → (ℕ → Option ℤ) → ℤ → ℕ → Option ℤ
rated_added net term sum k = if nat_lt 0 (rate_before net k) then added term sum k else Some sum

-- The growth is formed by the two sums of a vector, and then what is lost.
unfoldable pub rate_formed : Network → List ℤ → Weighed → Option GrowthRate
rate_formed net p sums = option_and_then (λ per. option_map (λ lost. record { per = per; lost = lost }) (lost_formed net p)) (growth_formed sums.load sums.served)

-- The two sums of a vector are formed, and the fact is true of them.
pub record OfSums (net : Network) (p : List ℤ) (P : Weighed → Type 0) : Type 0 where
  pub sums : Weighed
  pub formed : weighed net p ≡ Some sums
  pub is : P sums

-- A result is the growth that the stated calculation forms, and a fault where its two sums, or what comes after them, exceed 128 bits.
abbrev pub GrowsTo : Result GrowthRate GrowthFault → Network → List ℤ → Type 0
GrowsTo (Ok rate) net p = OfSums net p (λ sums. rate_formed net p sums ≡ Some rate)
GrowsTo (Err Vector) net p = weighed net p ≡ None
GrowsTo (Err Growth) net p = OfSums net p (λ sums. rate_formed net p sums ≡ None)

-- A result is the number that a stated calculation forms, and a fault of the growth where it exceeds 128 bits.
abbrev pub ComesTo : Result ℤ GrowthFault → Option ℤ → Type 0
ComesTo (Ok number) calculation = calculation ≡ Some number
ComesTo (Err Growth) calculation = calculation ≡ None
ComesTo (Err Vector) calculation = ⊥

-- By this much the queues have grown at least after so many periods, and by no less than 0.
abbrev pub least_at : ℕ → ℤ → ℤ → ℤ
least_at periods per lost = int_max (pos 0) (pos periods *ℤ per -ℤ lost)
