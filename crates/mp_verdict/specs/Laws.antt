-- The laws of the game and of the verdict.
use Rattle.std.specs.Prelude.{◌≡◌, ◌≤◌, ℕ, ◌*◌, List, length, map, ℤ, pos, ◌+ℤ◌, ◌*ℤ◌, ◌≤ℤ◌, unsigned_abs, Option, Some, None, All, ◌↔◌}
use Rattle.std.specs.List.{AllByRecursion}
use Rattle.mp_model.specs.Sums.{int_sum_by}
use Rattle.mp_model.specs.Network.{Network, Junction, junction_at, numbers_to, from_of, share_of, flow_of, own}
use Rattle.mp_model.specs.NetworkRules.{IsNetwork}
use Rattle.mp_model.specs.Certificate.{Cert, Mix, int_entry, parts_with, Certifies, Carries}
use Rattle.mp_model.specs.Load.{IsCritical, IsOverloaded, IsTight, ShowsOverload}
use Rattle.mp_model.specs.Slack.{IsSlack, ShowsSlack, IsGreatestSlack}
use Rattle.mp_num.specs.Fraction.{Fraction, IsLowest}
use Rattle.mp_flow.specs.Systems.{Flows, AreFlows}
use Rattle.mp_simplex.specs.Outcome.{Ray, maximised}
use Rattle.mp_verdict.specs.Stated.{Reached, run_reached}
use Rattle.mp_verdict.specs.Rates.{Rates, rates_at}
use Rattle.mp_verdict.specs.Program.{program}
use Rattle.mp_verdict.specs.Game.{Score, after_junction, game}
use Rattle.mp_verdict.specs.Mixes.{certificate_at}
use Rattle.mp_verdict.specs.Verdict.{Verdict, Admitted, Critical, Overloaded, Motionless, verdict}
use Rattle.mp_verdict.specs.Worst.{naturals_in, IsWorst}

-- ---- the game
-- This is the need of movement k at a slack, exactly.
abbrev pub exact_need : Network → Flows → Fraction → ℕ → ℤ
exact_need net flows slack k =
    (pos (share_of net k) *ℤ int_entry flows.rate (from_of net k)) *ℤ slack.den
    +ℤ (pos net.per *ℤ slack.num) *ℤ (pos (share_of net k) *ℤ int_entry flows.unit (from_of net k) +ℤ pos net.shares *ℤ flows.d)

-- A junction carries a slack where a mix of its stages serves the need of each of its movements at the slack.
pub record CarriesSlack (net : Network) (flows : Flows) (slack : Fraction) (j : Junction) : Type 0 where
  pub mix : Mix
  pub whole : pos 1 ≤ℤ mix.whole
  pub lengths : length mix.parts ≡ length j.stages
  pub parts : AllByRecursion (λ part. pos 0 ≤ℤ part) mix.parts
  pub mass : int_sum_by (λ part. part) mix.parts ≤ℤ (mix.whole *ℤ ((pos (net.shares * net.per) *ℤ flows.d) *ℤ slack.den))
  pub serve : AllByRecursion (λ k. (mix.whole *ℤ exact_need net flows slack k) ≤ℤ (pos (flow_of net k) *ℤ parts_with j.stages mix.parts k)) (own net j)

-- A score stands after the first n junctions where its slack is in lowest terms and is that of a worst junction, its values are at least 0, and each of these junctions carries the slack.
pub record StandsAfter (net : Network) (flows : Flows) (n : ℕ) (score : Score) : Type 0 where
  pub lowest : IsLowest score.slack.num score.slack.den
  pub worst : (Z : ℕ → ℕ) × (z : ℕ) × IsWorst net (unsigned_abs flows.d) (naturals_in flows.rate) (naturals_in flows.unit) score.junction Z z score.slack.num (unsigned_abs score.slack.den)
  pub values : AllByRecursion (λ z. pos 0 ≤ℤ z) score.values
  pub carries : (i : ℕ) → 1 ≤ i → i ≤ n → CarriesSlack net flows score.slack (junction_at net i)

-- Earlier junctions stay satisfied: the score after the first n junctions is one whose slack all of them carry.
abbrev pub SatisfiedLaw : Type 0
SatisfiedLaw = (net : Network) → IsNetwork net → (flows : Flows) → AreFlows net flows → (n : ℕ) → n ≤ length net.junctions → (score : Score) →
    run_reached (after_junction net flows) None (numbers_to n) ≡ Reached (Some score) → StandsAfter net flows n score

-- No program of a junction grows without end.
abbrev pub BoundedLaw : Type 0
BoundedLaw = (net : Network) → IsNetwork net → (j : ℕ) → 1 ≤ j → j ≤ length net.junctions → (h : List ℤ) (limit : ℕ) (ray : List ℤ) → ¬ (maximised (program net (junction_at net j) h) limit ≡ Ray ray)

-- Only a network without movements ends its game without a score.
abbrev pub MotionLaw : Type 0
MotionLaw = (net : Network) → IsNetwork net → (flows : Flows) → AreFlows net flows → game net flows ≡ Reached None → length net.movements ≡ 0

-- In the rates at the slack of the game's end nothing exceeds 128 bits.
abbrev pub RatesLaw : Type 0
RatesLaw = (net : Network) (flows : Flows) (score : Score) → game net flows ≡ Reached (Some score) → (rates : Rates) × (rates_at net flows score.slack ≡ Some rates)

-- The certificate at a slack above 0 of the game's end certifies the network, and has this slack.
abbrev pub CertifiedLaw : Type 0
CertifiedLaw = (net : Network) → IsNetwork net → (flows : Flows) → AreFlows net flows → (score : Score) → game net flows ≡ Reached (Some score) → pos 1 ≤ℤ score.slack.num →
    (cert : Cert) → certificate_at net flows score.slack ≡ Reached cert → Certifies net cert × IsSlack cert (unsigned_abs score.slack.num) (unsigned_abs score.slack.den)

-- ---- the verdict
-- A network is admitted with a certificate, a vector and a slack where the certificate certifies it, the slack is that of the certificate and above 0, the vector shows it, and it is the greatest.
pub record IsAdmitted (net : Network) (cert : Cert) (vector : List ℤ) (slack : Fraction) : Type 0 where
  pub above : pos 1 ≤ℤ slack.num
  pub denominator : pos 1 ≤ℤ slack.den
  pub certifies : Certifies net cert
  pub reaches : IsSlack cert (unsigned_abs slack.num) (unsigned_abs slack.den)
  pub shows : ShowsSlack net (map unsigned_abs vector) (unsigned_abs slack.num) (unsigned_abs slack.den)
  pub greatest : IsGreatestSlack net (unsigned_abs slack.num) (unsigned_abs slack.den)

-- The numbers of a vector are at least 0, one per movement.
pub record IsNatural (net : Network) (vector : List ℤ) : Type 0 where
  pub lengths : length vector ≡ length net.movements
  pub signs : All (λ v. pos 0 ≤ℤ v) vector

-- A network carries its rates with nothing to spare where some certificate with the excess 0 meets all other rules, and none with a greater excess does.
pub record CarriesJust (net : Network) : Type 0 where
  pub carries : Carries net
  pub none : (cert : Cert) → ¬ Certifies net cert

-- A verdict holds of a network: it is admitted, critical with a tight vector and its rates just carried, overloaded as its vector shows, or has no movement.
abbrev pub Holds : Network → Verdict → Type 0
Holds net (Admitted cert vector slack) = IsNatural net vector × IsAdmitted net cert vector slack
Holds net (Critical vector) = IsNatural net vector × IsTight net (map unsigned_abs vector) × IsCritical net × CarriesJust net
Holds net (Overloaded vector) = IsNatural net vector × ShowsOverload net (map unsigned_abs vector)
Holds net Motionless = length net.movements ≡ 0

-- The verdict of the stated calculation holds of the network, whatever the two sums of a vector are.
abbrev pub VerdictLaw : Type 0 → Type 0
VerdictLaw X = (net : Network) → IsNetwork net → (weighed : List ℤ → Option X) → (v : Verdict) → verdict net weighed ≡ Reached v → Holds net v

-- A network that the stated calculation calls critical carries its rates with nothing to spare.
abbrev pub CriticalLaw : Type 0 → Type 0
CriticalLaw X = (net : Network) → IsNetwork net → (weighed : List ℤ → Option X) → (vector : List ℤ) → verdict net weighed ≡ Reached (Critical vector) → CarriesJust net

-- No two verdicts hold of one network.
pub record IsApart (net : Network) : Type 0 where
  pub critical : IsCritical net → ¬ IsOverloaded net
  pub admitted : (E D : ℕ) → IsGreatestSlack net E D → ¬ IsOverloaded net
  pub not_critical : (E D : ℕ) → IsGreatestSlack net E D → ¬ IsCritical net

abbrev pub ApartLaw : Type 0
ApartLaw = (net : Network) → IsNetwork net → IsApart net

-- The verdict admits the network.
abbrev pub SaysAdmitted : Verdict → Type 0
SaysAdmitted (Admitted cert vector slack) = Unit {0}
SaysAdmitted (Critical vector) = ⊥
SaysAdmitted (Overloaded vector) = ⊥
SaysAdmitted Motionless = ⊥

-- The verdict is that the network is critical.
abbrev pub SaysCritical : Verdict → Type 0
SaysCritical (Admitted cert vector slack) = ⊥
SaysCritical (Critical vector) = Unit {0}
SaysCritical (Overloaded vector) = ⊥
SaysCritical Motionless = ⊥

-- The verdict is that the network is overloaded.
abbrev pub SaysOverloaded : Verdict → Type 0
SaysOverloaded (Admitted cert vector slack) = ⊥
SaysOverloaded (Critical vector) = ⊥
SaysOverloaded (Overloaded vector) = Unit {0}
SaysOverloaded Motionless = ⊥

-- A verdict is exact where it admits a network exactly if this has a greatest slack, and says critical or overloaded exactly if it is so.
pub record IsExact (net : Network) (v : Verdict) : Type 0 where
  pub admitted : SaysAdmitted v ↔ ((E : ℕ) × (D : ℕ) × IsGreatestSlack net E D)
  pub critical : SaysCritical v ↔ IsCritical net
  pub overloaded : SaysOverloaded v ↔ IsOverloaded net

-- A verdict that holds is exact.
abbrev pub ExactLaw : Type 0
ExactLaw = (net : Network) → IsNetwork net → (v : Verdict) → Holds net v → IsExact net v
