-- Where all junctions carry the slack 0, no vector has more load than capacity.
use Rattle.std.proofs.Common.{◌≡◌, ℕ, ◌+◌, ◌-◌, ◌*◌, ◌≤◌, true, List, [], ◌∷◌, length, map, ℤ, pos, ◌+ℤ◌, ◌*ℤ◌, ◌≤ℤ◌, arith, sym, ◌∙◌, ap}
use Rattle.std.proofs.Math.Nat.{le_of_mul-le-mul_left}
use Rattle.std.specs.List.{AllByRecursion}
use Rattle.std.proofs.lemmas.Int.{ints}
use Rattle.std.proofs.lemmas.List.FromFn.{get_or-map-range_with_len}
use Rattle.mp_model.specs.Network.{Network, Junction, movement_numbers, from_of, share_of, flow_of, rate_before, own, stands_in, has}
use Rattle.mp_model.specs.NetworkRules.{IsNetwork}
use Rattle.mp_model.specs.Load.{load, capacity}
use Rattle.mp_laws.proofs.PlainCertificate.{PlainMix, PlainCert, Holds, Serves, AllServe, Balances, plain_h, plain_inflow, plain_parts_with}
use Rattle.mp_laws.proofs.Lists.{at_in, each_in, in_numbers}
use Rattle.mp_laws.proofs.Margin.{margin}
use Rattle.mp_laws.proofs.Drift.{is_covered}
use Rattle.mp_verdict.specs.Worst.{IsFlow}
use Rattle.mp_verdict.proofs.Plain.{AreRates, CarriesAt, asked, unit_asked}
use Rattle.mp_verdict.proofs.Reduce.{of_filter}
use Rattle.mp_verdict.proofs.Signed.{mul_posℤ}
use Rattle.mp_verdict.proofs.Balance.{balance_is, whole_some}

abbrev pub need_of : Network → ℕ → (ℕ → ℕ) → (ℕ → ℕ) → ℕ → ℕ → ℕ → ℕ
need_of net c f g a q k = share_of net k * f (from_of net k) * q + a * (net.per * unit_asked net c g k)

abbrev pub mixes_of : (net : Network) (c : ℕ) (f g : ℕ → ℕ) (e : ℤ) (q : ℕ) (js : List Junction) → AllByRecursion (CarriesAt net c f g e q) js → List PlainMix
mixes_of net c f g e q [] h = []
mixes_of net c f g e q (j ∷ js) h = h.0.plan ∷ mixes_of net c f g e q js h.1

-- the needs themselves, and the mixes that carry them, as a certificate
abbrev pub cert_of : (net : Network) (c : ℕ) (f g : ℕ → ℕ) (a q : ℕ) → AllByRecursion (CarriesAt net c f g (pos a) q) net.junctions → PlainCert
cert_of net c f g a q s = record { d = net.shares * net.per * c * q; e = net.shares * net.per * c * a; h = map (need_of net c f g a q) (movement_numbers net); mixes = mixes_of net c f g (pos a) q net.junctions s }

h_is : (net : Network) (c : ℕ) (f g : ℕ → ℕ) (a q : ℕ) (s : AllByRecursion (CarriesAt net c f g (pos a) q) net.junctions) (k : ℕ) → has (movement_numbers net) k ≡ true → plain_h (cert_of net c f g a q s) k ≡ need_of net c f g a q k
h_is net c f g a q s k m =
    let i = in_numbers (length net.movements) k m in
    get_or-map-range_with_len (need_of net c f g a q) 1 (length net.movements) (k - 1) k 0 (omega (arith, i)) (omega (arith, i))

need_is : (x a u : ℕ) → pos x +ℤ (pos a *ℤ pos u) ≡ pos (x + a * u)
need_is x a u = omega (arith, ints, mul_posℤ a u)

one_times : (n : ℤ) → n ≡ pos 1 *ℤ n
one_times n = omega (arith, ints)

le-of_eq : (m n : ℕ) → m ≡ n → m ≤ n
le-of_eq m n e = omega arith

module _ (net : Network) (ok : IsNetwork net) (c : ℕ) (f g : ℕ → ℕ) (flow : IsFlow net c f g) (a q : ℕ) (some : 1 ≤ q) (s : AllByRecursion (CarriesAt net c f g (pos a) q) net.junctions) where
  rates_are : AreRates net c f g (pos a) q (cert_of net c f g a q s).d (pos (cert_of net c f g a q s).e) (λ k. pos (plain_h (cert_of net c f g a q s) k))
  rates_are = record {
    factor = 1;
    some = omega arith;
    whole = omega arith;
    excess = mul_posℤ (net.shares * net.per * c) a ∙ one_times (pos (net.shares * net.per * c * a));
    rate = λ k m. need_is (share_of net k * f (from_of net k) * q) a (net.per * unit_asked net c g k) ∙ ap pos (sym (h_is net c f g a q s k m)) ∙ one_times (pos (plain_h (cert_of net c f g a q s) k));
  }

  serves : (j : Junction) → (t : CarriesAt net c f g (pos a) q j) → Serves net (net.shares * net.per * c * q) (plain_h (cert_of net c f g a q s)) j t.plan
  serves j t = record {
    whole = t.whole;
    mass = t.mass;
    serve = each_in (λ k. t.plan.whole * plain_h (cert_of net c f g a q s) k ≤ flow_of net k * plain_parts_with j.stages t.plan.parts k) (own net j)
        (λ k i.
        (let row = at_in (λ k. (pos t.plan.whole *ℤ asked net c f g (pos a) q k) ≤ℤ pos (flow_of net k * plain_parts_with j.stages t.plan.parts k)) k (own net j) i t.serve in
        let n = need_is (share_of net k * f (from_of net k) * q) a (net.per * unit_asked net c g k) in
        let h = h_is net c f g a q s k (of_filter (stands_in j) k (movement_numbers net) i) in
        omega (arith, ints, row, ap (λ t'. pos t.plan.whole *ℤ t') n, mul_posℤ t.plan.whole (need_of net c f g a q k), ap (λ t'. t.plan.whole * t') h)));
  }

  all_serve : (js : List Junction) (t : AllByRecursion (CarriesAt net c f g (pos a) q) js) → AllServe net (net.shares * net.per * c * q) (plain_h (cert_of net c f g a q s)) js (mixes_of net c f g (pos a) q js t)
  all_serve [] t = tt
  all_serve (j ∷ js) t = (serves j t.0, all_serve js t.1)

  -- what every junction carries is a certificate
  pub carried_holds : Holds net (cert_of net c f g a q s)
  carried_holds =
      let cert = cert_of net c f g a q s in
      record {
        d = whole_some net ok c f g flow a q some cert.d cert.e (plain_h cert) rates_are;
        served = all_serve net.junctions s;
        balance = each_in (Balances net cert) (movement_numbers net)
            (λ k i. le-of_eq (share_of net k * (cert.d * rate_before net k + net.per * plain_inflow net (plain_h cert) k) + net.shares * net.per * cert.e) (net.shares * net.per * plain_h cert k) (balance_is net ok c f g flow a q some cert.d cert.e (plain_h cert) rates_are k i));
      }

  -- so no vector has more load than capacity
  pub none_overloads : (p : ℕ → ℕ) → load net p ≤ net.per * capacity net p
  none_overloads p =
      let cert = cert_of net c f g a q s in
      le_of_mul-le-mul_left {k = cert.d} (omega (arith, margin net (is_covered net ok) cert carried_holds p)) carried_holds.d
