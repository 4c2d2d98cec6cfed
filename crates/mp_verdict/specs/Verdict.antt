-- The verdict on a network, by the stated calculation.
use Rattle.std.specs.Prelude.{zero, suc, ℤ, pos, negsuc, List, Option, Some, None}
use Rattle.mp_num.specs.Fraction.{Fraction}
use Rattle.mp_model.specs.Network.{Network}
use Rattle.mp_model.specs.Certificate.{Cert}
use Rattle.mp_flow.specs.declared.network.Place.{Place}
use Rattle.mp_flow.specs.Systems.{Flows, stated_flows}
use Rattle.mp_verdict.specs.Stated.{Stated, Reached, then, at_place}
use Rattle.mp_verdict.specs.Game.{Score, game}
use Rattle.mp_verdict.specs.Vector.{vector_of}
use Rattle.mp_verdict.specs.Mixes.{certificate_at}

-- The verdict admits a network with a certificate, a vector and the slack of both, or shows with a vector that it is critical or overloaded. A network without movements has none of these.
pub data Verdict : Type 0 where
  Admitted : Cert → List ℤ → Fraction → Verdict
  Critical : List ℤ → Verdict
  Overloaded : List ℤ → Verdict
  Motionless : Verdict

-- This is the verdict by the sign of the slack, which is the last number; only above 0 there is a certificate.
unfoldable pub judged : Network → Flows → Fraction → List ℤ → ℤ → Stated Verdict
judged net flows slack vector (pos zero) = Reached (Critical vector)
judged net flows slack vector (pos (suc n)) = then (certificate_at net flows slack) (λ cert. Reached (Admitted cert vector slack))
judged net flows slack vector (negsuc n) = Reached (Overloaded vector)

-- This is the verdict after the game: the vector is found, its two sums are formed for their overflow alone, and the slack's sign decides.
unfoldable pub verdict_after : {X : Type 0} → Network → (List ℤ → Option X) → Flows → Option Score → Stated Verdict
verdict_after net weighed flows None = Reached Motionless
verdict_after net weighed flows (Some score) =
    then (at_place Place.Adjoint (vector_of net score)) (λ vector.
    then (at_place Place.Vector (weighed vector)) (λ sums.
    judged net flows score.slack vector score.slack.num))

-- This is the verdict on a network: the flows of its links are found and the game is played; the two sums of a vector are those of a calculation that is given.
unfoldable pub verdict : {X : Type 0} → Network → (List ℤ → Option X) → Stated Verdict
verdict net weighed = then (at_place Place.Flow (stated_flows net)) (λ flows. then (game net flows) (λ score. verdict_after net weighed flows score))
