-- The rules of a certificate whose numbers are natural ones.
use Rattle.std.proofs.Common.{◌≡◌, ℕ, suc, ◌+◌, ◌-◌, ◌*◌, ◌≤◌, Bool, true, false, cond, List, [], ◌∷◌, length, map, sum_by, ℤ, pos, ◌+ℤ◌, ◌*ℤ◌, ◌≤ℤ◌, unsigned_abs, arith, refl, sym, ◌∙◌, ap, ap₂, subst}
use Rattle.std.specs.List.{AllByRecursion}
use Rattle.std.proofs.lemmas.Int.{ints}
use Rattle.std.proofs.lemmas.List.{length-map}
use Rattle.std.proofs.lemmas.List.Sums.{sum_by-cons}
use Rattle.std.proofs.Math.ListN.{get_or-map}
use Rattle.mp_model.specs.Sums.{int_sum_by}
use Rattle.mp_model.specs.Network.{Network, movement_numbers, junction_numbers, stage_numbers, numbers_to, junction_at, junction_of_movement, from_of, to_of, share_of, flow_of, rate_before, into_link, own, stands_in, has, goes_to}
use Rattle.mp_model.specs.NetworkRules.{IsNetwork}
use Rattle.mp_model.specs.Certificate.{Cert, Mix, mix_at, rate_of, rate_into, parts_with, int_entry, HasLengths, MeetsRules, RateRule, WholeRule, PartRule, MassRule, ServeRule, BalanceRule}
use Rattle.mp_laws.proofs.PlainCertificate.{PlainMix, Serves, plain_parts_with}
use Rattle.mp_laws.proofs.Lists.{at_in, at_number, all_in, each_in, filter_sub}
use Rattle.mp_simplex.specs.declared.Optimum.{Optimum}
use Rattle.mp_verdict.specs.Mixes.{mix_of}
use Rattle.mp_verdict.proofs.Signed.{ints-pos, mul_posℤ}
use Rattle.mp_verdict.proofs.Falls.{ints-same_in}
use Rattle.mp_verdict.proofs.FlowNumbers.{abs_is, positive_is}
use Rattle.mp_verdict.proofs.Holders.{has_junction}
use Rattle.mp_verdict.proofs.Reduce.{of_filter}
use Rattle.mp_verdict.proofs.Solved.{IsSolved, plan_of}

abbrev pub signed_mix : PlainMix → Mix
signed_mix mix = record { whole = pos mix.whole; parts = map pos mix.parts }

part_sign : (parts : List ℕ) (s : ℕ) → pos 0 ≤ℤ int_entry (map pos parts) s
part_sign parts s = omega (arith, ints, get_or-map pos parts (s - 1) 0)

parts_signed : (stages : List (List ℕ)) (parts : List ℕ) (k : ℕ) → parts_with stages (map pos parts) k ≡ pos (plain_parts_with stages parts k)
parts_signed [] parts k = refl
parts_signed (stage ∷ stages) [] k = refl
parts_signed (stage ∷ stages) (part ∷ parts) k = step (has stage k) part (plain_parts_with stages parts k) (parts_with stages (map pos parts) k) (parts_signed stages parts k)
  where
    step : (b : Bool) (p m : ℕ) (z : ℤ) → z ≡ pos m → cond b (pos p) (pos 0) +ℤ z ≡ pos (cond b p 0 + m)
    step true p m z e = omega (arith, ints)
    step false p m z e = omega (arith, ints)

mass_is : (parts : List ℕ) → int_sum_by (λ part. part) (map pos parts) ≡ pos (sum_by (λ x. x) parts)
mass_is [] = refl
mass_is (part ∷ parts) = omega (arith, ints, sum_by-cons (λ x. x) part parts, mass_is parts)

mass_signed : (s w D : ℕ) (S d : ℤ) → S ≡ pos s → d ≡ pos D → s ≤ w * D → S ≤ℤ (pos w *ℤ d)
mass_signed s w D S d es ed le = let p : pos w *ℤ d ≡ pos (w * D) = ap (λ t. pos w *ℤ t) ed ∙ mul_posℤ w D in omega (arith, ints, p, es, le)

serve_signed : (w h c r : ℕ) (H R : ℤ) → H ≡ pos h → R ≡ pos r → w * h ≤ c * r → (pos w *ℤ H) ≤ℤ (pos c *ℤ R)
serve_signed w h c r H R eh er le =
    let p : pos w *ℤ H ≡ pos (w * h) = ap (λ t. pos w *ℤ t) eh ∙ mul_posℤ w h in
    let q : pos c *ℤ R ≡ pos (c * r) = ap (λ t. pos c *ℤ t) er ∙ mul_posℤ c r in
    omega (arith, ints, p, q, le)

balance_signed : (w D n per inflow unit E h : ℕ) (d I e H : ℤ) → d ≡ pos D → I ≡ pos inflow → e ≡ pos E → H ≡ pos h → w * (D * n + per * inflow) + unit * E ≤ unit * h →
    (pos w *ℤ (d *ℤ pos n +ℤ pos per *ℤ I) +ℤ pos unit *ℤ e) ≤ℤ (pos unit *ℤ H)
balance_signed w D n per inflow unit E h d I e H ed ei ee eh le =
    let p : pos w *ℤ (d *ℤ pos n +ℤ pos per *ℤ I) ≡ pos (w * (D * n + per * inflow)) = ap₂ (λ x y. pos w *ℤ (x *ℤ pos n +ℤ pos per *ℤ y)) ed ei in
    let q : pos unit *ℤ e ≡ pos (unit * E) = ap (λ t. pos unit *ℤ t) ee ∙ mul_posℤ unit E in
    let r : pos unit *ℤ H ≡ pos (unit * h) = ap (λ t. pos unit *ℤ t) eh ∙ mul_posℤ unit h in
    omega (arith, ints, p, q, r, le)

pub number_in : (m j : ℕ) → (1 ≤ j) × (j ≤ m) → has (numbers_to m) j ≡ true
number_in m j b = let e : suc (j - 1) ≡ j = omega (arith, b) in subst (λ (t : ℕ). has (numbers_to m) t ≡ true) e (at_number (λ k. has (numbers_to m) k ≡ true) m (j - 1) (omega (arith, b)) (all_in (numbers_to m)))

-- the numbers of the certificate are D, E, the rates h and the mixes, and the rules hold of them
pub record IsNatural (net : Network) (cert : Cert) (D E : ℕ) (h : ℕ → ℕ) (mix : ℕ → PlainMix) : Type 0 where
  pub lengths : HasLengths net cert
  pub d : cert.d ≡ pos D
  pub e : cert.e ≡ pos E
  pub some : 1 ≤ D
  pub rate : (k : ℕ) → has (movement_numbers net) k ≡ true → rate_of cert k ≡ pos (h k)
  pub mixed : (j : ℕ) → has (junction_numbers net) j ≡ true → mix_at cert j ≡ signed_mix (mix j)
  pub serves : (j : ℕ) → has (junction_numbers net) j ≡ true → Serves net D h (junction_at net j) (mix j)
  pub balance : (k : ℕ) → has (movement_numbers net) k ≡ true → share_of net k * (D * rate_before net k + net.per * sum_by h (into_link net (from_of net k))) + net.shares * net.per * E ≤ net.shares * net.per * h k

module _ (net : Network) (ok : IsNetwork net) (cert : Cert) (D E : ℕ) (h : ℕ → ℕ) (mix : ℕ → PlainMix) (n : IsNatural net cert D E h mix) where
  serve_rule : (k : ℕ) → has (movement_numbers net) k ≡ true → ServeRule net cert k
  serve_rule k i =
      let j = junction_of_movement net k in
      let holder = has_junction net ok k i in
      let ij : has (junction_numbers net) j ≡ true = number_in (length net.junctions) j holder.inside in
      let row = at_in (λ k. (mix j).whole * h k ≤ flow_of net k * plain_parts_with (junction_at net j).stages (mix j).parts k) k (own net (junction_at net j)) holder.mine (n.serves j ij).serve in
      let P : Mix → Type 0 = λ m. (m.whole *ℤ rate_of cert k) ≤ℤ (pos (flow_of net k) *ℤ parts_with (junction_at net j).stages m.parts k) in
      subst P (sym (n.mixed j ij))
      (serve_signed (mix j).whole (h k) (flow_of net k) (plain_parts_with (junction_at net j).stages (mix j).parts k) (rate_of cert k) (parts_with (junction_at net j).stages (map pos (mix j).parts) k)
      (n.rate k i) (parts_signed (junction_at net j).stages (mix j).parts k) row)

  mass_rule : (j : ℕ) → has (junction_numbers net) j ≡ true → MassRule cert j
  mass_rule j i =
      let P : Mix → Type 0 = λ m. int_sum_by (λ part. part) m.parts ≤ℤ (m.whole *ℤ cert.d) in
      subst P (sym (n.mixed j i)) (mass_signed (sum_by (λ x. x) (mix j).parts) (mix j).whole D (int_sum_by (λ part. part) (map pos (mix j).parts)) cert.d (mass_is (mix j).parts) n.d (n.serves j i).mass)

  inflow_is : (k : ℕ) → rate_into net cert k ≡ pos (sum_by h (into_link net (from_of net k)))
  inflow_is k =
      ints-same_in (rate_of cert) (λ m. pos (h m)) (into_link net (from_of net k)) (λ m im. n.rate m (filter_sub (λ t. goes_to (to_of net t) (from_of net k)) (movement_numbers net) m im))
      ∙ ints-pos h (into_link net (from_of net k))

  -- so the certificate meets its rules
  pub meets_rules : MeetsRules net cert
  meets_rules = record {
    lengths = n.lengths;
    denominator = omega (arith, ints, n.d, n.some);
    rates = each_in (RateRule cert) (movement_numbers net) (λ k i. omega (arith, ints, n.rate k i));
    wholes = each_in (WholeRule cert) (junction_numbers net)
        (λ j i. (let P : Mix → Type 0 = λ m. pos 1 ≤ℤ m.whole in let some = (n.serves j i).whole in subst P (sym (n.mixed j i)) (omega (arith, ints))));
    parts = each_in (λ j. AllByRecursion (PartRule cert j) (stage_numbers (junction_at net j))) (junction_numbers net)
        (λ j i. each_in (PartRule cert j) (stage_numbers (junction_at net j)) (λ s is. (let P : Mix → Type 0 = λ m. pos 0 ≤ℤ int_entry m.parts s in subst P (sym (n.mixed j i)) (part_sign (mix j).parts s))));
    masses = each_in (MassRule cert) (junction_numbers net) mass_rule;
    serves = each_in (ServeRule net cert) (movement_numbers net) serve_rule;
    balances = each_in (BalanceRule net cert) (movement_numbers net)
        (λ k i. balance_signed (share_of net k) D (rate_before net k) net.per (sum_by h (into_link net (from_of net k))) (net.shares * net.per) E (h k) cert.d (rate_into net cert k) cert.e (rate_of cert k) n.d (inflow_is k) n.e (n.rate k i) (n.balance k i));
  }

-- ---- mixes from solved programs
natural_parts : (parts : List ℤ) → AllByRecursion (λ z. pos 0 ≤ℤ z) parts → parts ≡ map pos (map unsigned_abs parts)
natural_parts [] h = refl
natural_parts (part ∷ parts) h = ap₂ (λ x xs. x ∷ xs) (abs_is part h.0) (natural_parts parts h.1)

natural_row : (w n c r : ℕ) (h : ℤ) → h ≡ pos n → (pos w *ℤ h) ≤ℤ pos (c * r) → w * n ≤ c * r
natural_row w n c r h e le = let p : pos w *ℤ h ≡ pos (w * n) = ap (λ t. pos w *ℤ t) e ∙ mul_posℤ w n in omega (arith, ints, p, le)

-- the mix of junction j is the dual of its program, solved within D
pub record IsSolvedMix (net : Network) (cert : Cert) (D j : ℕ) : Type 0 where
  pub o : Optimum
  pub same : mix_at cert j ≡ mix_of o
  pub solved : IsSolved net (junction_at net j) (rate_of cert) o
  pub mass : sum_by (λ x. x) (plan_of o).parts ≤ (plan_of o).whole * D

abbrev pub plain_mix : Mix → PlainMix
plain_mix mix = record { whole = unsigned_abs mix.whole; parts = map unsigned_abs mix.parts }

module _ (net : Network) (cert : Cert) (D : ℕ) (h : ℕ → ℕ) (rate : (k : ℕ) → has (movement_numbers net) k ≡ true → rate_of cert k ≡ pos (h k)) (j : ℕ) (s : IsSolvedMix net cert D j) where
  pub solved_length : length (mix_at cert j).parts ≡ length (junction_at net j).stages
  solved_length = ap (λ mix. length mix.parts) s.same ∙ sym (length-map s.o.dual unsigned_abs) ∙ s.solved.optimum.lengths

  pub solved_mixed : mix_at cert j ≡ signed_mix (plain_mix (mix_at cert j))
  solved_mixed =
      let P : Mix → Type 0 = λ mix. mix ≡ signed_mix (plain_mix mix) in
      subst P (sym s.same) (ap₂ (λ a b. record { whole = a; parts = b }) (positive_is s.o.dual_den s.solved.whole) (natural_parts s.o.dual s.solved.parts))

  pub solved_serves : Serves net D h (junction_at net j) (plain_mix (mix_at cert j))
  solved_serves =
      let P : Mix → Type 0 = λ mix. Serves net D h (junction_at net j) (plain_mix mix) in
      subst P (sym s.same) (record {
        whole = s.solved.optimum.whole;
        mass = s.mass;
        serve = each_in (λ k. (plan_of s.o).whole * h k ≤ flow_of net k * plain_parts_with (junction_at net j).stages (plan_of s.o).parts k) (own net (junction_at net j))
            (λ k i. (let row = at_in (λ k. (pos (plan_of s.o).whole *ℤ rate_of cert k) ≤ℤ pos (flow_of net k * plain_parts_with (junction_at net j).stages (plan_of s.o).parts k)) k (own net (junction_at net j)) i s.solved.optimum.dual in
            natural_row (plan_of s.o).whole (h k) (flow_of net k) (plain_parts_with (junction_at net j).stages (plan_of s.o).parts k) (rate_of cert k) (rate k (of_filter (stands_in (junction_at net j)) k (movement_numbers net) i)) row));
      })

-- a certificate over natural rates with such mixes meets its rules where it balances
pub meets_solved : (net : Network) → IsNetwork net → (cert : Cert) (D E : ℕ) (h : ℕ → ℕ) → length cert.h ≡ length net.movements → length cert.mixes ≡ length net.junctions → cert.d ≡ pos D → cert.e ≡ pos E → 1 ≤ D →
    ((k : ℕ) → has (movement_numbers net) k ≡ true → rate_of cert k ≡ pos (h k)) → ((j : ℕ) → has (junction_numbers net) j ≡ true → IsSolvedMix net cert D j) →
    ((k : ℕ) → has (movement_numbers net) k ≡ true → share_of net k * (D * rate_before net k + net.per * sum_by h (into_link net (from_of net k))) + net.shares * net.per * E ≤ net.shares * net.per * h k) → MeetsRules net cert
meets_solved net ok cert D E h rates mixes d e some rate solved balance = meets_rules net ok cert D E h (λ j. plain_mix (mix_at cert j)) (record {
  lengths = record {
    rates = rates;
    mixes = mixes;
    parts = each_in (λ j. length (mix_at cert j).parts ≡ length (junction_at net j).stages) (junction_numbers net) (λ j i. solved_length net cert D h rate j (solved j i));
  };
  d = d;
  e = e;
  some = some;
  rate = rate;
  mixed = λ j i. solved_mixed net cert D h rate j (solved j i);
  serves = λ j i. solved_serves net cert D h rate j (solved j i);
  balance = balance;
})
