-- What a certificate says, in natural numbers: its rates are at least its excess, and at most the flows over its denominator.
use Rattle.std.proofs.Common.{◌≡◌, ℕ, zero, suc, ◌+◌, ◌-◌, ◌*◌, ◌≤◌, ◌<◌, Bool, true, false, cond, List, [], ◌∷◌, length, get_or, sum_by, pos, ◌≤ℤ◌, nat_abs, arith, ◌∙◌, ap, zero-le, mul-le-mul, mul-le-mul_left}
use Rattle.std.proofs.Math.ListN.{get_or-map}
use Rattle.std.proofs.lemmas.Int.{ints}
use Rattle.std.proofs.lemmas.List.Sums.{sum_by-cons}
use Rattle.mp_model.specs.Network.{Network, Junction, movement_numbers, junction_at, junction_of_movement, share_of, flow_of, rate_before, own, has, no_junction}
use Rattle.mp_model.specs.NetworkRules.{IsNetwork}
use Rattle.mp_model.specs.Certificate.{Cert, MeetsRules, RateRule, rate_of}
use Rattle.mp_laws.proofs.PlainCertificate.{PlainMix, PlainCert, Holds, Serves, AllServe, Balances, plain_h, plain_inflow, plain_parts_with}
use Rattle.mp_laws.proofs.Bridge.{not_negative, to_plain, plain_holds}
use Rattle.mp_laws.proofs.Lists.{at_in}
use Rattle.mp_verdict.proofs.Duality.{cancel_le}
use Rattle.mp_verdict.proofs.Holders.{has_junction}

-- ---- from the signed certificate to the natural one
pub record IsPlain (net : Network) (D : ℕ) (cert : Cert) : Type 0 where
  pub holds : Holds net (to_plain cert)
  pub denominator : (to_plain cert).d ≡ D
  pub excess : pos (to_plain cert).e ≡ cert.e
  pub rate : (k : ℕ) → has (movement_numbers net) k ≡ true → pos (plain_h (to_plain cert) k) ≡ rate_of cert k

pub plain_is : (net : Network) → IsNetwork net → (D : ℕ) (cert : Cert) → MeetsRules net cert → cert.d ≡ pos D → pos 0 ≤ℤ cert.e → IsPlain net D cert
plain_is net ok D cert rules d sign = record {
  holds = plain_holds net ok cert rules sign;
  denominator = ap nat_abs d;
  excess = not_negative cert.e sign;
  rate = λ k i. ap pos (get_or-map nat_abs cert.h (k - 1) (pos 0)) ∙ not_negative (rate_of cert k) (at_in (RateRule cert) k (movement_numbers net) i rules.rates);
}

-- ---- the mix of a junction
pub served_at : (net : Network) (d : ℕ) (h : ℕ → ℕ) (js : List Junction) (mixes : List PlainMix) (n : ℕ) → AllServe net d h js mixes → n < length js → (mix : PlainMix) × Serves net d h (get_or js n no_junction) mix
served_at net d h [] mixes n s l = absurd (omega arith)
served_at net d h (j ∷ js) [] n s l = absurd s
served_at net d h (j ∷ js) (mix ∷ mixes) zero s l = (mix, s.0)
served_at net d h (j ∷ js) (mix ∷ mixes) (suc n) s l = served_at net d h js mixes n s.1 (omega arith)

part_or_none : (b : Bool) (part : ℕ) → cond b part 0 ≤ part
part_or_none true part = omega arith
part_or_none false part = omega arith

parts_le : (stages : List (List ℕ)) (parts : List ℕ) (k : ℕ) → plain_parts_with stages parts k ≤ sum_by (λ x. x) parts
parts_le [] parts k = zero-le
parts_le (stage ∷ stages) [] k = zero-le
parts_le (stage ∷ stages) (part ∷ parts) k = omega (arith, part_or_none (has stage k) part, parts_le stages parts k, sum_by-cons (λ x. x) part parts)

rate_numbers : (w h c r s d : ℕ) → 1 ≤ w → w * h ≤ c * r → r ≤ s → s ≤ w * d → h ≤ c * d
rate_numbers w h c r s d some row part mass = cancel_le w h (c * d) some (omega (arith, row, mul-le-mul_left c part, mul-le-mul_left c mass))

excess_numbers : (A b e h : ℕ) → 1 ≤ A → b + A * e ≤ A * h → e ≤ h
excess_numbers A b e h some le = cancel_le A e h some (omega (arith, le))

module _ (net : Network) (ok : IsNetwork net) (p : PlainCert) (holds : Holds net p) (k : ℕ) (there : has (movement_numbers net) k ≡ true) where
  -- a rate is at most the flow
  pub rate_most : plain_h p k ≤ flow_of net k * p.d
  rate_most =
      let h = has_junction net ok k there in
      let j = junction_at net (junction_of_movement net k) in
      let s = served_at net p.d (plain_h p) net.junctions p.mixes (junction_of_movement net k - 1) holds.served (omega (arith, h.inside)) in
      let row = at_in (λ k. s.0.whole * plain_h p k ≤ flow_of net k * plain_parts_with j.stages s.0.parts k) k (own net j) h.mine s.1.serve in
      rate_numbers s.0.whole (plain_h p k) (flow_of net k) (plain_parts_with j.stages s.0.parts k) (sum_by (λ x. x) s.0.parts) p.d s.1.whole row (parts_le j.stages s.0.parts k) s.1.mass

  -- and at least the excess
  pub rate_least : p.e ≤ plain_h p k
  rate_least =
      excess_numbers (net.shares * net.per) (share_of net k * (p.d * rate_before net k + net.per * plain_inflow net (plain_h p) k)) p.e (plain_h p k) (mul-le-mul ok.shares ok.per)
      (at_in (Balances net p) k (movement_numbers net) there holds.balance)
