-- The verdicts on the worked networks.
use Rattle.std.specs.Prelude.{◌≡◌, [], ◌∷◌, ◌==◌, ℕ, ◌+◌, ◌-◌, ◌*◌, cond, ℤ, pos, List, map, codes, Option, Some, None}
use Rattle.mp_model.specs.Network.{Network, Movement, numbers_to}
use Rattle.mp_model.specs.Worked.{two_approaches, two_approaches_at, two_approaches_cert, tandem, tandem_cert, roundabout, roundabout_cert, corridor}
use Rattle.mp_num.specs.Fraction.{Fraction}
use Rattle.mp_flow.specs.declared.network.Place.{Place}
use Rattle.mp_verdict.specs.Stated.{Stated, Reached, PassesAt, LimitAt}
use Rattle.mp_verdict.specs.Verdict.{Verdict, Admitted, Critical, Overloaded, Motionless, verdict}

-- This is the verdict on a network where the two sums of a vector exceed nothing.
abbrev pub verdict_on : Network → Stated Verdict
verdict_on net = verdict net (λ (p : List ℤ). Some p)

-- These are two sums that exceed 128 bits.
abbrev pub no_sums : Option (List ℤ)
no_sums = None

-- This is the slack of a verdict that admits.
abbrev pub slack_in : Stated Verdict → Option Fraction
slack_in (Reached (Admitted cert vector slack)) = Some slack
slack_in (Reached (Critical vector)) = None
slack_in (Reached (Overloaded vector)) = None
slack_in (Reached Motionless) = None
slack_in (PassesAt place) = None
slack_in (LimitAt j) = None

-- These are the movements out of some links of a ring of n links: on to the next link, and out.
abbrev pub around : ℕ → List ℕ → List Movement
around n [] = []
around n (i ∷ is) =
    record { name = []; from = i; to = Some (cond (i == n) 1 (i + 1)); share = 999; flow = 1000; start = 0 } ∷ record { name = []; from = i; to = None; share = 1; flow = 1000; start = 0 } ∷ around n is

-- In a ring of n links nearly all vehicles of a link go on to the next one, each link at a junction of its own.
abbrev pub ring : ℕ → Network
ring n = record {
  shares = 1000;
  per = 1;
  delay = 0;
  links = record { name = codes "r1"; burst = 1; rate = 1 } ∷ map (λ i. record { name = []; burst = 0; rate = 0 }) (numbers_to (n - 1));
  movements = around n (numbers_to n);
  junctions = map (λ i. record { name = []; stages = ((2 * i - 1) ∷ (2 * i) ∷ []) ∷ [] }) (numbers_to n);
}

-- The worked networks are admitted with their certificates and slacks; two approaches of rate 4 are critical, and of rate 5 overloaded, as the vector 1, 1 shows; the corridor has the slack 57387/9974, and a ring of 40 links exceeds 128 bits in its flows. Where the two sums of the vector exceed them, their place is reported before the slack's sign.
pub record AreWorkedVerdicts : Type 0 where
  pub one : verdict_on two_approaches ≡ Reached (Admitted two_approaches_cert (pos 1 ∷ pos 1 ∷ []) (record { num = pos 3; den = pos 4 }))
  pub queues : verdict_on tandem ≡ Reached (Admitted tandem_cert (pos 1 ∷ pos 1 ∷ []) (record { num = pos 1; den = pos 4 }))
  pub circle : verdict_on roundabout ≡ Reached (Admitted roundabout_cert (pos 1 ∷ pos 0 ∷ []) (record { num = pos 7; den = pos 8 }))
  pub four : verdict_on (two_approaches_at 4) ≡ Reached (Critical (pos 1 ∷ pos 1 ∷ []))
  pub five : verdict_on (two_approaches_at 5) ≡ Reached (Overloaded (pos 1 ∷ pos 1 ∷ []))
  pub streets : slack_in (verdict_on corridor) ≡ Some (record { num = pos 57387; den = pos 9974 })
  pub sums : verdict two_approaches (λ (p : List ℤ). no_sums) ≡ PassesAt Place.Vector
  pub critical_sums : verdict (two_approaches_at 4) (λ (p : List ℤ). no_sums) ≡ PassesAt Place.Vector
  pub round : verdict_on (ring 40) ≡ PassesAt Place.Flow
