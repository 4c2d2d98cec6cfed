-- The laws of trials and of the search over a denominator.
use Rattle.std.specs.Prelude.{◌≡◌, ◌≤◌, ℕ, suc, ◌*◌, ◌-◌, true, length, pos, ◌≤ℤ◌, ◌<ℤ◌, ◌↔◌}
use Rattle.mp_model.specs.Network.{Network, movement_numbers, has, entry}
use Rattle.mp_model.specs.NetworkRules.{IsNetwork}
use Rattle.mp_model.specs.Certificate.{Cert, rate_of, MeetsRules}
use Rattle.mp_trial.specs.Sweeps.{rounded_up, rates_after}
use Rattle.mp_trial.specs.Trials.{Fits, Unfit, trial}
use Rattle.mp_trial.specs.Search.{halved, scaled, HoldsOver}

-- A number divided and rounded up is at most n exactly where the number is at most n times the divisor.
abbrev pub RoundingLaw : Type 0
RoundingLaw = (a b n : ℕ) → 1 ≤ b → ((rounded_up a b ≤ n) ↔ (a ≤ b * n))

-- After each sweep of the trial of e the rates are at most those of any certificate over the denominator that meets the rules with an excess of at least e.
abbrev pub LeastRatesLaw : Type 0
LeastRatesLaw = (net : Network) → IsNetwork net → (D e : ℕ) (cert : Cert) → MeetsRules net cert → cert.d ≡ pos D → pos e ≤ℤ cert.e →
    (i k : ℕ) → has (movement_numbers net) k ≡ true → pos (entry (rates_after net D e i) k) ≤ℤ rate_of cert k

-- Where the trial of e is unfit, by its rates or by the program of a junction, the excess of each certificate over the denominator that meets the rules is below e.
abbrev pub UnfitLaw : Type 0
UnfitLaw = (net : Network) → IsNetwork net → (D e : ℕ) → trial net D e ≡ Unfit → (cert : Cert) → MeetsRules net cert → cert.d ≡ pos D → cert.e <ℤ pos e

-- Where the trial of an excess fits, its certificate meets the rules and has the denominator and the excess; where that is at least 1, it certifies the network.
abbrev pub FitsLaw : Type 0
FitsLaw = (net : Network) → IsNetwork net → (D e : ℕ) → 1 ≤ D → (cert : Cert) → trial net D e ≡ Fits cert → MeetsRules net cert × (cert.d ≡ pos D) × (cert.e ≡ pos e)

-- A smaller excess is never harder: where the trial of an excess fits, no trial of a smaller one is unfit.
abbrev pub EasierLaw : Type 0
EasierLaw = (net : Network) → IsNetwork net → (D e : ℕ) → 1 ≤ D → (cert : Cert) → trial net D e ≡ Fits cert → (smaller : ℕ) → smaller ≤ e → ¬ (trial net D smaller ≡ Unfit)

-- With at least as many halvings as lie between the two excesses, the search doesn't depend on how many.
abbrev pub HalvingsLaw : Type 0
HalvingsLaw = (net : Network) (D halvings lo hi : ℕ) (cert : Cert) → hi - lo ≤ halvings → halved net D halvings lo hi cert ≡ halved net D (suc halvings) lo hi cert

-- What the search over a denominator comes to holds of a network with movements: a certificate that it finds has the greatest excess, and where it finds none there is none.
abbrev pub SearchLaw : Type 0
SearchLaw = (net : Network) → IsNetwork net → 1 ≤ length net.movements → (D : ℕ) → 1 ≤ D → HoldsOver net D (scaled net D)
