-- The slack as the model has it.
use Rattle.std.proofs.Common.{◌≡◌, ℕ, ℤ, pos, negsuc, ◌*ℤ◌, ◌≤ℤ◌, unsigned_abs, arith, subst}
use Rattle.std.specs.Int.{IsGcd}
use Rattle.std.proofs.lemmas.Int.{ints}
use Rattle.mp_laws.proofs.Signed.{mul_not_negative}
use Rattle.mp_model.specs.Certificate.{Cert, DenominatorRule}
use Rattle.mp_model.specs.Slack as model
use Rattle.mp_num.specs.Fraction.{IsLowest}
use Rattle.mp_num.proofs.DivisorLemmas.{IsGcd-gcd_of}

negative_product : (n : ℕ) (d : ℤ) → pos 1 ≤ℤ d → (negsuc n *ℤ d) ≤ℤ negsuc 0
negative_product n d h = grind (arith, ints)

pub slack_of : (cert : Cert) (num den : ℤ) → DenominatorRule cert → pos 0 ≤ℤ cert.e → (num *ℤ cert.d) ≡ (cert.e *ℤ den) → IsLowest num den → model.IsSlack cert (unsigned_abs num) (unsigned_abs den)
slack_of cert (negsuc n) den rule sign same low = absurd (omega (arith, ints, negative_product n cert.d rule, mul_not_negative cert.e den sign (omega (arith, ints, low.positive)), same))
slack_of cert (pos n) (negsuc m) rule sign same low = absurd (omega (arith, ints, low.positive))
slack_of cert (pos n) (pos m) rule sign same low = record {
  lowest = record {
    denominator = omega (arith, ints, low.positive);
    coprime = let g : IsGcd m n 1 = subst (λ g. IsGcd m n g) low.lowest (IsGcd-gcd_of m n) in (g.1, g.0, λ d hn hm. g.2 d hm hn);
  };
  equal = same;
}
