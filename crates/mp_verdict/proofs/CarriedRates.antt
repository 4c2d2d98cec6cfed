-- Where all junctions carry the slack 0, the network carries its rates.
use Rattle.std.proofs.Common.{◌≡◌, ℕ, zero, suc, ◌-◌, ◌*◌, ◌≤◌, ◌<◌, List, [], ◌∷◌, length, get_or, map, ℤ, pos, arith, refl, ◌∙◌, ap, mul-zero}
use Rattle.std.specs.List.{AllByRecursion}
use Rattle.std.proofs.lemmas.List.{length-map}
use Rattle.std.proofs.lemmas.List.FromFn.{length-map-range_with_len}
use Rattle.std.proofs.Math.ListN.{get_or-map}
use Rattle.mp_model.specs.Network.{Network, Junction, no_junction, movement_numbers, junction_numbers, junction_at}
use Rattle.mp_model.specs.NetworkRules.{IsNetwork}
use Rattle.mp_model.specs.Certificate.{Cert, mix_at, Carries}
use Rattle.mp_laws.proofs.PlainCertificate.{PlainMix, PlainCert, Serves, AllServe, Balances, plain_h}
use Rattle.mp_laws.proofs.Lists.{at_in, each_in, in_numbers}
use Rattle.mp_verdict.specs.Worst.{IsFlow}
use Rattle.mp_verdict.proofs.Plain.{CarriesAt}
use Rattle.mp_verdict.proofs.Carried.{mixes_of, cert_of, need_of, carried_holds}
use Rattle.mp_verdict.proofs.NaturalRules.{signed_mix, IsNatural, meets_rules}

abbrev signed : PlainCert → Cert
signed cert = record { d = pos cert.d; e = pos cert.e; h = map pos cert.h; mixes = map signed_mix cert.mixes }

abbrev no_plain : PlainMix
no_plain = record { whole = 0; parts = [] }

abbrev plain_at : PlainCert → ℕ → PlainMix
plain_at cert j = get_or cert.mixes (j - 1) no_plain

serves_at : (net : Network) (d : ℕ) (h : ℕ → ℕ) (js : List Junction) (mixes : List PlainMix) (i : ℕ) → i < length js → AllServe net d h js mixes → Serves net d h (get_or js i no_junction) (get_or mixes i no_plain)
serves_at net d h [] mixes i l s = absurd (omega arith)
serves_at net d h (j ∷ js) [] i l s = absurd s
serves_at net d h (j ∷ js) (mix ∷ mixes) zero l s = s.0
serves_at net d h (j ∷ js) (mix ∷ mixes) (suc i) l s = serves_at net d h js mixes i (omega arith) s.1

module _ (net : Network) (c : ℕ) (f g : ℕ → ℕ) (e : ℤ) (q : ℕ) where
  same_count : (js : List Junction) (s : AllByRecursion (CarriesAt net c f g e q) js) → length (mixes_of net c f g e q js s) ≡ length js
  same_count [] s = refl
  same_count (j ∷ js) s = ap suc (same_count js s.1)

  parts_there : (js : List Junction) (s : AllByRecursion (CarriesAt net c f g e q) js) (i : ℕ) → i < length js → length (get_or (mixes_of net c f g e q js s) i no_plain).parts ≡ length (get_or js i no_junction).stages
  parts_there [] s i l = absurd (omega arith)
  parts_there (j ∷ js) s zero l = s.0.lengths
  parts_there (j ∷ js) s (suc i) l = parts_there js s.1 i (omega arith)

module _ (net : Network) (ok : IsNetwork net) (c : ℕ) (f g : ℕ → ℕ) (flow : IsFlow net c f g) (q : ℕ) (some : 1 ≤ q) (s : AllByRecursion (CarriesAt net c f g (pos 0) q) net.junctions) where
  abbrev cert : PlainCert
  cert = cert_of net c f g 0 q s

  mix_is : (j : ℕ) → mix_at (signed cert) j ≡ signed_mix (plain_at cert j)
  mix_is j = get_or-map signed_mix cert.mixes (j - 1) no_plain

  -- the needs at the slack 0, and the mixes that carry them
  natural : IsNatural net (signed cert) cert.d cert.e (plain_h cert) (plain_at cert)
  natural =
      let holds = carried_holds net ok c f g flow 0 q some s in
      record {
        lengths = record {
          rates = length-map cert.h pos ∙ length-map-range_with_len (need_of net c f g 0 q) 1 (length net.movements);
          mixes = length-map cert.mixes signed_mix ∙ same_count net c f g (pos 0) q net.junctions s;
          parts = each_in (λ j. length (mix_at (signed cert) j).parts ≡ length (junction_at net j).stages) (junction_numbers net)
              (λ j i. (let b = in_numbers (length net.junctions) j i in
              ap (λ mix. length mix.parts) (mix_is j) ∙ length-map (plain_at cert j).parts pos ∙ parts_there net c f g (pos 0) q net.junctions s (j - 1) (omega (arith, b))));
        };
        d = refl;
        e = refl;
        some = holds.d;
        rate = λ k i. get_or-map pos cert.h (k - 1) 0;
        mixed = λ j i. mix_is j;
        serves = λ j i. (let b = in_numbers (length net.junctions) j i in serves_at net cert.d (plain_h cert) net.junctions cert.mixes (j - 1) (omega (arith, b)) holds.served);
        balance = λ k i. at_in (Balances net cert) k (movement_numbers net) i holds.balance;
      }

  pub carries_rates : Carries net
  carries_rates = (signed cert, ap pos (mul-zero (net.shares * net.per * c)), meets_rules net ok (signed cert) cert.d cert.e (plain_h cert) (plain_at cert) natural)
