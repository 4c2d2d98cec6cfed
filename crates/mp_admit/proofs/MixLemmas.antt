-- The mixes of the junctions, and the certificate that they make.
use Rattle.std.proofs.Common.{to_z-of_z, ◌≡◌, ℕ, suc, ◌+◌, ◌<◌, ◌≤◌, List, [], ◌∷◌, ◌++◌, map, drop, get_or, length, ℤ, Result, Ok, Err, refl, ap, ap₂, sym, ◌∙◌, subst, arith}
use Rattle.std.proofs.lemmas.List.{drop_all, drop_more, append-nil, append_assoc}
use Rattle.std.proofs.lemmas.List.FromFn.{length-range_with_len}
use Rattle.mp_num.specs.Fraction.{Fraction}
use Rattle.mp_num.specs.Row.{entry}
use Rattle.mp_model.specs.Network.{Network, junction_at, junction_numbers}
use Rattle.mp_model.specs.Certificate as model
use Rattle.mp_cert.specs.Views.{mix_of, cert_of}
use Rattle.mp_cert.specs.declared.types.Mix.{Mix}
use Rattle.mp_cert.specs.declared.types.Cert.{Cert}
use Rattle.mp_flow.specs.Systems.{Flows}
use Rattle.mp_flow.specs.declared.network.Place.{Place}
use Rattle.mp_flow.specs.declared.network.CalcFault.{CalcFault}
use Rattle.mp_simplex.specs.declared.Optimum.{Optimum}
use Rattle.mp_simplex.specs.Outcome.{maximised}
use Rattle.mp_verdict.specs.Rates.{Rates, rates_at, rates_in}
use Rattle.mp_verdict.specs.Program.{program, optimum_at}
use Rattle.mp_verdict.specs.declared.TheConstants.{TURN_LIMIT}
use Rattle.mp_verdict.specs.Mixes as stated
use Rattle.mp_verdict.specs.Mixes.{mixed, mixes, certificate_of, certificate_at}
use Rattle.mp_verdict.specs.Stated.{Stated, Reached, at_place, then, each_reached, Gives}
use Rattle.mp_admit.specs.Mixings.{certified_with}
use Rattle.mp_admit.proofs.FaultLemmas.{fault_then}
use Rattle.mp_admit.proofs.PushLemmas.{number_at}

-- ---- one mix
pub mixed_to : (net : Network) (row : List ℤ) (j : ℕ) (o : Optimum) → optimum_at (Place.Mix j) j (maximised (program net (junction_at net j) (drop 2 row)) TURN_LIMIT) ≡ Reached o → mixed net (rates_in row) j ≡ Reached (stated.mix_of o)
unfolding mixed
mixed_to net row j o e = rw e refl

pub mixed_refused : {X X' : Type 0} (seen : X → Optimum) (seen' : X' → model.Mix) (net : Network) (row : List ℤ) (j : ℕ) (fault : CalcFault) → Gives seen (Err fault) (optimum_at (Place.Mix j) j (maximised (program net (junction_at net j) (drop 2 row)) TURN_LIMIT)) → Gives seen' (Err fault) (mixed net (rates_in row) j)
unfolding mixed
mixed_refused seen seen' net row j fault g = fault_then seen seen' fault (optimum_at (Place.Mix j) j (maximised (program net (junction_at net j) (drop 2 row)) TURN_LIMIT)) _ _ refl g

-- ---- all mixes
abbrev pub behind : List model.Mix → Stated (List model.Mix) → Stated (List model.Mix)
behind done rest = then rest (λ ys. Reached (done ++ ys))

behind_nil : (s : Stated (List model.Mix)) → behind [] s ≡ s
behind_nil (Reached ys) = refl
behind_nil (Stated.PassesAt place) = refl
behind_nil (Stated.LimitAt j) = refl

behind_one : (done : List model.Mix) (y : model.Mix) (s : Stated (List model.Mix)) → behind done (then s (λ ys. Reached (y ∷ ys))) ≡ behind (done ++ y ∷ []) s
behind_one done y (Reached ys) = ap Reached (sym (append_assoc done (y ∷ []) ys))
behind_one done y (Stated.PassesAt place) = refl
behind_one done y (Stated.LimitAt j) = refl

pub record Mixing (net : Network) (rates : Rates) (t : ℕ) (now : List Mix) : Type 0 where
  pub rest : mixes net rates ≡ behind (map mix_of now) (each_reached (mixed net rates) (drop t (junction_numbers net)))

pub mixing_start : (net : Network) (rates : Rates) → Mixing net rates 0 []
unfolding mixes
mixing_start net rates = record { rest = sym (behind_nil (each_reached (mixed net rates) (junction_numbers net))) }

each_at : (net : Network) (rates : Rates) (t : ℕ) → t < length net.junctions →
    each_reached (mixed net rates) (drop t (junction_numbers net)) ≡ then (mixed net rates (t + 1)) (λ y. then (each_reached (mixed net rates) (drop (t + 1) (junction_numbers net))) (λ ys. Reached (y ∷ ys)))
unfolding each_reached
each_at net rates t h =
    let l = length-range_with_len 1 (length net.junctions) in
    rw (drop_more (junction_numbers net) t 0 (omega (arith, l))) (ap (λ k. then (mixed net rates k) (λ y. then (each_reached (mixed net rates) (drop (t + 1) (junction_numbers net))) (λ ys. Reached (y ∷ ys)))) (sym (number_at (length net.junctions) t h)))

mixes-append : (xs : List Mix) (y : Mix) → map mix_of (xs ++ y ∷ []) ≡ map mix_of xs ++ mix_of y ∷ []
mixes-append [] y = refl
mixes-append (x ∷ xs) y = ap (λ zs. mix_of x ∷ zs) (mixes-append xs y)

pub mixing_more : (net : Network) (rates : Rates) (t : ℕ) (now : List Mix) (mix : Mix) → Mixing net rates t now → t < length net.junctions → mixed net rates (t + 1) ≡ Reached (mix_of mix) → Mixing net rates (t + 1) (now ++ mix ∷ [])
mixing_more net rates t now mix s h e = record {
  rest =
      s.rest ∙ ap (behind (map mix_of now)) (each_at net rates t h ∙ ap (λ m. then m (λ y. then (each_reached (mixed net rates) (drop (t + 1) (junction_numbers net))) (λ ys. Reached (y ∷ ys)))) e)
      ∙ behind_one (map mix_of now) (mix_of mix) (each_reached (mixed net rates) (drop (t + 1) (junction_numbers net)))
      ∙ ap (λ l. behind l (each_reached (mixed net rates) (drop (t + 1) (junction_numbers net)))) (sym (mixes-append now mix));
}

then_twice : {X Y Z : Type 0} (s : Stated X) (f : X → Stated Y) (g : Y → Stated Z) → then (then s f) g ≡ then s (λ x. then (f x) g)
then_twice (Reached x) f g = refl
then_twice (Stated.PassesAt place) f g = refl
then_twice (Stated.LimitAt j) f g = refl

pub mixing_refused : {X X' : Type 0} (seen : X → model.Mix) (seen' : X' → List model.Mix) (net : Network) (rates : Rates) (t : ℕ) (now : List Mix) (fault : CalcFault) → Mixing net rates t now → t < length net.junctions → Gives seen (Err fault) (mixed net rates (t + 1)) → Gives seen' (Err fault) (mixes net rates)
mixing_refused seen seen' net rates t now fault s h g =
    fault_then seen seen' fault (mixed net rates (t + 1)) (λ y. behind (map mix_of now) (then (each_reached (mixed net rates) (drop (t + 1) (junction_numbers net))) (λ ys. Reached (y ∷ ys)))) (mixes net rates)
    (s.rest ∙ ap (behind (map mix_of now)) (each_at net rates t h) ∙ then_twice (mixed net rates (t + 1)) _ _) g

pub mixing_end : (net : Network) (rates : Rates) (t : ℕ) (now : List Mix) → Mixing net rates t now → length net.junctions ≤ t → mixes net rates ≡ Reached (map mix_of now)
unfolding each_reached
mixing_end net rates t now s h = let l = length-range_with_len 1 (length net.junctions) in s.rest ∙ rw (drop_all t (junction_numbers net) (omega (arith, l))) (ap Reached (append-nil (map mix_of now)))

pub ruleset mixing = (to_z-of_z, mixed_to, mixing_start, mixing_more, mixing_end)

-- ---- the certificate
pub with_refused : {X X' : Type 0} (seen : X → List model.Mix) (seen' : X' → model.Cert) (net : Network) (rates : Rates) (fault : CalcFault) → Gives seen (Err fault) (mixes net rates) → Gives seen' (Err fault) (certified_with net rates)
with_refused seen seen' net rates fault g = fault_then seen seen' fault (mixes net rates) _ _ refl g

pub with_reached : (net : Network) (row h : List ℤ) (d e : ℤ) (list : List Mix) (cert : Cert) → mixes net (rates_in row) ≡ Reached (map mix_of list) → d ≡ entry row 0 → e ≡ entry row 1 → h ≡ drop 2 row → cert ≡ record { d = d; e = e; h = h; mix = list } → certified_with net (rates_in row) ≡ Reached (cert_of cert)
with_reached net row h d e list cert m dd ee hh c = ap (λ t. then t (λ list. Reached (certificate_of (rates_in row) list))) m ∙ sym (rw (c, dd, ee, hh) refl)

pub at_refused : {X X' : Type 0} (seen : X → Rates) (seen' : X' → model.Cert) (net : Network) (flows : Flows) (slack : Fraction) (fault : CalcFault) → Gives seen (Err fault) (at_place (Place.Mix 1) (rates_at net flows slack)) → Gives seen' (Err fault) (certificate_at net flows slack)
unfolding certificate_at
at_refused seen seen' net flows slack fault g = fault_then seen seen' fault (at_place (Place.Mix 1) (rates_at net flows slack)) _ _ refl g

pub at_with : (net : Network) (flows : Flows) (slack : Fraction) (row slice : List ℤ) → at_place (Place.Mix 1) (rates_at net flows slack) ≡ Reached (rates_in row) → slice ≡ row → certificate_at net flows slack ≡ certified_with net (rates_in slice)
unfolding certificate_at
at_with net flows slack row slice e s = rw (e, s) refl

pub ruleset certifying = (to_z-of_z)
