-- How a session opens, or does not.
use Rattle.std.proofs.Common.{◌≡◌, ℕ, ℤ, pos, ◌*ℤ◌, neg_ℤ, ◌≤ℤ◌, ◌<ℤ◌, arith, sym, subst, Err, ⊎_elim}
use Rattle.std.proofs.lemmas.Int.{ints}
use Rattle.mp_model.specs.Certificate.{Cert, Certifies}
use Rattle.mp_model.specs.Network.{Network}
use Rattle.mp_model.specs.Slack.{IsSlack}
use Rattle.mp_laws.proofs.Signed.{ring, mul_not_negative}
use Rattle.mp_num.proofs.OrderLemmas.{cases_le}
use Rattle.mp_num.proofs.RowLemmas.{positive_product}
use Rattle.mp_flow.specs.declared.network.CalcFault.{CalcFault}
use Rattle.mp_flow.specs.declared.network.CalcFault.TheVariants as calc
use Rattle.mp_flow.specs.declared.network.Place.TheVariants as at
use Rattle.mp_drift.specs.Bounded.{EndsAs}
use Rattle.mp_drift.specs.Session.{IsAccepted, IsRefused, open_fault}

positive_side : (x d : ℤ) → pos 1 ≤ℤ d → pos 1 ≤ℤ (x *ℤ d) → pos 1 ≤ℤ x
positive_side x d some above =
    ⊎_elim
    (λ (low : x ≤ℤ pos 0).
    let p = simp ring at (mul_not_negative (neg_ℤ x) d (omega (arith, ints)) (omega (arith, ints))) in
    absurd (omega (arith, ints)))
    (λ (high : pos 0 <ℤ x). omega (arith, ints))
    (cases_le x (pos 0))

-- the slack of a certificate that holds is above 0
pub slack_above : (num den e d : ℤ) → pos 1 ≤ℤ den → pos 1 ≤ℤ e → pos 1 ≤ℤ d → num *ℤ d ≡ e *ℤ den → pos 1 ≤ℤ num
slack_above num den e d den_some e_some d_some same = positive_side num d d_some (subst (λ (z : ℤ). pos 1 ≤ℤ z) (sym same) (positive_product e den e_some den_some))

-- what a fault of the bounds says
pub calc_refused : (net : Network) (cert : Cert) (E D : ℕ) (fault : CalcFault) → IsAccepted net cert → Certifies net cert → IsSlack cert E D → EndsAs net E D (Err fault) → IsRefused net cert (open_fault fault)
calc_refused net cert E D (calc.Overflow at.Bound) accepted certifies slack ends = record { accepted = accepted; certifies = certifies; num = E; den = D; slack = slack; is = ends }
calc_refused net cert E D (calc.Overflow at.Room) accepted certifies slack ends = record { accepted = accepted; certifies = certifies; num = E; den = D; slack = slack; is = ends }
calc_refused net cert E D calc.NoMemory accepted certifies slack ends = tt
calc_refused net cert E D fault accepted certifies slack ends = absurd ends
