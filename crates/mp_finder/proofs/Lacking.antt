-- What the finder's answers say of all guards with its denominator: each of them shows that rates fit, and has at least those of the finder.
use Rattle.std.proofs.Common.{◌≡◌, ◌≤◌, ◌<◌, ℕ, suc, ◌+◌, ◌-◌, ◌*◌, Bool, true, false, cond, nat_le, Option, Some, None, Result, Ok, Err, IfOk, IfErr, List, [], ◌∷◌, ◌++◌, length, get_or, map, sum, sum_by, pos, unsigned_abs, arith, refl, sym, ◌∙◌, ap, subst, mul-le-mul_left}
use Rattle.std.specs.List.{list_all}
use Rattle.std.proofs.lemmas.Bool.{and_parts}
use Rattle.std.proofs.lemmas.List.Sums.{sum_by-cons}
use Rattle.mp_laws.proofs.Lists.{at_in, back_one, each_in, filter_has, filter_sub, at_number}
use Rattle.mp_laws.proofs.PlainCertificate.{AllServe, PlainCert, PlainMix, Holds, Balances, Serves, plain_h, plain_parts_with}
use Rattle.mp_model.specs.Certificate.{Cert, mix_at}
use Rattle.mp_model.specs.Guard.{Guard, Guards, GreensFit, GuardedBalanceRule, GuardedServeRule, given, greens_at, is_always_green, sum_with}
use Rattle.mp_model.specs.Network.{Network, Junction, no_junction, movement_numbers, junction_numbers, junction_at, junction_of_movement, flow_of, own, stands_in, has, entry}
use Rattle.mp_model.specs.NetworkRules.{IsNetwork}
use Rattle.mp_net.proofs.StageConverse.{holder_of}
use Rattle.mp_press.proofs.Known.{some_stage}
use Rattle.mp_trial.proofs.Fitting.{stable_trial}
use Rattle.mp_trial.proofs.Least.{least}
use Rattle.mp_trial.proofs.Served.{fitting}
use Rattle.mp_trial.proofs.Unfitness.{not_unfit}
use Rattle.mp_trial.specs.Sweeps.{rates_after}
use Rattle.mp_trial.specs.Trials.{Fits, Unfit, trial}
use Rattle.mp_finder.specs.Finding.{Finding, Guarded, NoRates, FullAt, HasNoGuard, AreLeast, by_greens, finding, found_by, guard_with, taken}
use Rattle.mp_finder.specs.Giving.{GivesFinding}
use Rattle.mp_finder.specs.Greens.{all_wanted, greens_by}
use Rattle.mp_finder.specs.declared.fault.FindFault.{FindFault}
use Rattle.mp_finder.specs.declared.fault.FindFault.TheVariants as fault
use Rattle.mp_finder.proofs.Guarding.{finding_guards, full_or, same_guard}

-- ---- greens over the whole cycle: what is left of it goes to the first stage
abbrev padded : ℕ → List ℕ → List ℕ
padded C [] = []
padded C (n ∷ ns) = (n + (C - sum (n ∷ ns))) ∷ ns

padded_sum : (C : ℕ) (ns : List ℕ) → 1 ≤ length ns → sum ns ≤ C → sum (padded C ns) ≡ C
padded_sum C [] some fits = absurd (omega arith)
padded_sum C (n ∷ ns) some fits = omega (arith, fits, sum_by-cons (λ x. x) n ns, sum_by-cons (λ x. x) (n + (C - sum (n ∷ ns))) ns)

padded_size : (C : ℕ) (ns : List ℕ) → length (padded C ns) ≡ length ns
padded_size C [] = refl
padded_size C (n ∷ ns) = refl

padded_more : (C : ℕ) (stages : List (List ℕ)) (ns : List ℕ) (k : ℕ) → sum_with stages ns k ≤ sum_with stages (padded C ns) k
padded_more C [] ns k = omega arith
padded_more C (stage ∷ stages) [] k = omega arith
padded_more C (stage ∷ stages) (n ∷ ns) k = one (has stage k)
  where
    one : (b : Bool) → cond b n 0 + sum_with stages ns k ≤ cond b (n + (C - sum (n ∷ ns))) 0 + sum_with stages ns k
    one true = omega arith
    one false = omega arith

all_given : (stages : List (List ℕ)) (ns : List ℕ) (k : ℕ) → length ns ≡ length stages → list_all (λ stage. has stage k) stages ≡ true → sum_with stages ns k ≡ sum ns
all_given [] [] k size always = refl
all_given [] (n ∷ ns) k size always = absurd (omega arith)
all_given (stage ∷ stages) [] k size always = absurd (omega arith)
all_given (stage ∷ stages) (n ∷ ns) k size always =
    let b = and_parts (has stage k) (list_all (λ stage. has stage k) stages) always in
    let one : cond {A = ℕ} (has stage k) n 0 ≡ n = ap {B = ℕ} (λ b. cond b n 0) b.0 in
    omega (arith, one, all_given stages ns k (omega arith) b.1, sum_by-cons (λ x. x) n ns)

-- ---- the mix of greens
abbrev mix_with : ℕ → ℕ → List ℕ → PlainMix
mix_with C D ns = record { whole = C; parts = map (λ n. n * D) (padded C ns) }

parts_over : (D : ℕ) (stages : List (List ℕ)) (ns : List ℕ) (k : ℕ) → plain_parts_with stages (map (λ n. n * D) ns) k ≡ D * sum_with stages ns k
parts_over D [] ns k = omega arith
parts_over D (stage ∷ stages) [] k = omega arith
parts_over D (stage ∷ stages) (n ∷ ns) k = one (has stage k) (parts_over D stages ns k)
  where
    one : (b : Bool) → plain_parts_with stages (map (λ n. n * D) ns) k ≡ D * sum_with stages ns k → cond b (n * D) 0 + plain_parts_with stages (map (λ n. n * D) ns) k ≡ D * (cond b n 0 + sum_with stages ns k)
    one true e = omega (arith, e)
    one false e = omega (arith, e)

sum_over : (D : ℕ) (ns : List ℕ) → sum_by (λ x. x) (map (λ n. n * D) ns) ≡ sum ns * D
sum_over D [] = omega arith
sum_over D (n ∷ ns) = omega (arith, sum_over D ns, sum_by-cons (λ x. x) (n * D) (map (λ n. n * D) ns), ap (λ t. t * D) (sum_by-cons (λ x. x) n ns))

serve_numbers : (C h D c g G P : ℕ) → C * h ≤ (D * c) * g → g ≤ G → P ≡ D * G → C * h ≤ c * P
serve_numbers C h D c g G P row le is = omega (arith, row, mul-le-mul_left (D * c) le, ap (λ t. c * t) is)

all_serve : (net : Network) (d : ℕ) (h : ℕ → ℕ) (js : List Junction) (mix : List ℕ → PlainMix) (rows : List (List ℕ)) → length rows ≡ length js →
    ((n : ℕ) → n < length js → Serves net d h (get_or js n no_junction) (mix (get_or rows n []))) → AllServe net d h js (map mix rows)
all_serve net d h [] mix [] size each = tt
all_serve net d h [] mix (row ∷ rows) size each = absurd (omega arith)
all_serve net d h (j ∷ js) mix [] size each = absurd (omega arith)
all_serve net d h (j ∷ js) mix (row ∷ rows) size each = (each 0 (omega arith), all_serve net d h js mix rows (omega arith) (λ n lt. each (suc n) (omega arith)))

module _ (net : Network) (ok : IsNetwork net) (guard : Guard) (g : Guards net guard) where
  abbrev C : ℕ
  C = guard.cycle

  abbrev D : ℕ
  D = guard.denominator

  -- the guard as a certificate without excess
  abbrev pub as_certificate : PlainCert
  as_certificate = record { d = D; e = 0; h = guard.rates; mixes = map (mix_with C D) guard.greens }

  serves : (n : ℕ) → n < length net.junctions → Serves net D (plain_h as_certificate) (get_or net.junctions n no_junction) (mix_with C D (get_or guard.greens n []))
  serves n lt =
      let back = back_one n in
      let J : Junction = get_or net.junctions n no_junction in
      let greens : List ℕ = get_or guard.greens n [] in
      let size : length greens ≡ length J.stages = subst (λ (i : ℕ). length (get_or guard.greens i []) ≡ length (get_or net.junctions i no_junction).stages) back (at_number (λ j. length (greens_at guard j) ≡ length (junction_at net j).stages) (length net.junctions) n lt g.lengths.greens) in
      let fits : GreensFit guard greens = subst (λ (i : ℕ). GreensFit guard (get_or guard.greens i [])) back (at_number (λ j. GreensFit guard (greens_at guard j)) (length net.junctions) n lt g.masses) in
      let some : 1 ≤ length J.stages = subst (λ (i : ℕ). 1 ≤ length (get_or net.junctions i no_junction).stages) back (some_stage net ok (suc n) (omega arith) lt) in
      let whole : sum (padded C greens) ≡ C = padded_sum C greens (omega (arith, size, some)) (omega (arith, fits)) in
      record {
        whole = g.cycle.0;
        mass = omega (arith, sum_over D (padded C greens), ap (λ t. t * D) whole);
        serve = each_in (λ k. C * plain_h as_certificate k ≤ flow_of net k * plain_parts_with J.stages (map (λ n. n * D) (padded C greens)) k) (own net J)
            (λ k mine.
            (let known = filter_sub (stands_in J) (movement_numbers net) k mine in
            let stands = filter_has (stands_in J) (movement_numbers net) k mine in
            let place : junction_of_movement net k ≡ 1 + n = holder_of net ok.placed k n known lt stands in
            let at : junction_of_movement net k - 1 ≡ n = omega (arith, place) in
            let rule = at_in (GuardedServeRule net guard) k (movement_numbers net) known g.serves in
            let is : given net guard k ≡ cond (is_always_green J k) C (sum_with J.stages greens k) = ap (λ i. cond (is_always_green (get_or net.junctions i no_junction) k) C (sum_with (get_or net.junctions i no_junction).stages (get_or guard.greens i []) k)) at in
            let most = given_most J greens k (is_always_green J k) refl size whole in
            serve_numbers C (plain_h as_certificate k) D (flow_of net k) (given net guard k) (sum_with J.stages (padded C greens) k) (plain_parts_with J.stages (map (λ n. n * D) (padded C greens)) k) rule.serves (omega (arith, is, most)) (parts_over D J.stages (padded C greens) k)));
      }
    where
      given_most : (J : Junction) (greens : List ℕ) (k : ℕ) (b : Bool) → is_always_green J k ≡ b → length greens ≡ length J.stages → sum (padded C greens) ≡ C → cond (is_always_green J k) C (sum_with J.stages greens k) ≤ sum_with J.stages (padded C greens) k
      given_most J greens k true e size whole =
          let is : cond (is_always_green J k) C (sum_with J.stages greens k) ≡ C = ap (λ b. cond b C (sum_with J.stages greens k)) e in
          omega (arith, is, all_given J.stages (padded C greens) k (padded_size C greens ∙ size) e, whole)
      given_most J greens k false e size whole =
          let is : cond (is_always_green J k) C (sum_with J.stages greens k) ≡ sum_with J.stages greens k = ap (λ b. cond b C (sum_with J.stages greens k)) e in
          omega (arith, is, padded_more C J.stages greens k)

  pub certificate_holds : Holds net as_certificate
  certificate_holds = record {
    d = g.denominator.0;
    served = all_serve net D (plain_h as_certificate) net.junctions (mix_with C D) guard.greens g.lengths.junctions serves;
    balance = each_in (Balances net as_certificate) (movement_numbers net) (λ k known. (let row = at_in (GuardedBalanceRule net guard) k (movement_numbers net) known g.balances in omega (arith, row)));
  }

-- where no rates fit over a denominator, no guard of the network has it
pub none_guards : (net : Network) → IsNetwork net → (D : ℕ) → trial net D 0 ≡ Unfit → HasNoGuard net D
none_guards net ok D t guard g same = not_unfit net ok D 0 (as_certificate net ok guard g) (certificate_holds net ok guard g) same (omega arith) t

-- the rates of the trial are the least of all guards with the denominator
pub least_guards : (net : Network) → IsNetwork net → (D : ℕ) (cert : Cert) → trial net D 0 ≡ Fits cert → AreLeast net D (map unsigned_abs cert.h)
least_guards net ok D cert t guard g same k known =
    let s = stable_trial net D 0 cert t in
    let h = rates_after net D 0 s.before in
    let r = fitting net D 0 h (junction_numbers net) [] cert s.served in
    let is : cert.h ≡ map pos h = sym (ap (λ (c : Cert). c.h) r.same) in
    let back : map unsigned_abs cert.h ≡ h = ap (map unsigned_abs) is ∙ round_trip h in
    omega (arith, least net ok D 0 (as_certificate net ok guard g) (certificate_holds net ok guard g) same (omega arith) s.before k known, ap (λ xs. entry xs k) back)
  where
    round_trip : (xs : List ℕ) → map unsigned_abs (map pos xs) ≡ xs
    round_trip [] = refl
    round_trip (x ∷ xs) = ap (λ t. x ∷ t) (round_trip xs)

-- ---- what is found, and what isn't
found_rates : (net : Network) (C L D : ℕ) (cert : Cert) (h js : List ℕ) (before : List (List ℕ)) (guard : Guard) → found_by net C L D cert h before js ≡ Guarded guard → guard.rates ≡ h
unfolding found_by
found_rates net C L D cert h [] before guard e = sym (ap (λ (g : Guard). g.rates) (same_guard (guard_with C L D h before) guard e))
found_rates net C L D cert h (j ∷ js) before guard e =
    full_or C L j (greens_by net C D (all_wanted net C D h) j (mix_at cert j)) _ guard e (λ greens is few e'. found_rates net C L D cert h js (before ++ greens ∷ []) guard e')

no_rates_by : {P : Type 0} (C L j : ℕ) (o : Option (List ℕ)) (go : List ℕ → Finding) → by_greens C L j o go ≡ NoRates → ((greens : List ℕ) → go greens ≡ NoRates → P) → P
no_rates_by C L j None go e k = absurd (cc)
no_rates_by {P = P} C L j (Some greens) go e k = by (nat_le (taken L greens) C) e
  where
    by : (b : Bool) → cond b (go greens) (FullAt j) ≡ NoRates → P
    by true e = k greens e
    by false e = absurd (cc)

never_no_rates : (net : Network) (C L D : ℕ) (cert : Cert) (h js : List ℕ) (before : List (List ℕ)) → found_by net C L D cert h before js ≡ NoRates → ⊥
unfolding found_by
never_no_rates net C L D cert h [] before e = cc
never_no_rates net C L D cert h (j ∷ js) before e =
    no_rates_by C L j (greens_by net C D (all_wanted net C D h) j (mix_at cert j)) _ e (λ greens e'. never_no_rates net C L D cert h js (before ++ greens ∷ []) e')

pub found_guards : (net : Network) → IsNetwork net → (C L D : ℕ) → (1 ≤ C) × (C ≤ 3600) → L ≤ 1 → (1 ≤ D) × (D ≤ 999999999) → (result : Result Guard FindFault) → GivesFinding result (finding net C L D) → IfOk result (Guards net)
found_guards net ok C L D cycle lost over (Ok guard) g = finding_guards net ok C L D cycle lost over guard g
found_guards net ok C L D cycle lost over (Err f) g = tt

pub found_least : (net : Network) → IsNetwork net → (C L D : ℕ) (cert : Cert) → trial net D 0 ≡ Fits cert → (result : Result Guard FindFault) → GivesFinding result (found_by net C L D cert (map unsigned_abs cert.h) [] (junction_numbers net)) → IfOk result (λ guard. AreLeast net D guard.rates)
found_least net ok C L D cert t (Ok guard) g = subst (AreLeast net D) (sym (found_rates net C L D cert (map unsigned_abs cert.h) (junction_numbers net) [] guard g)) (least_guards net ok D cert t)
found_least net ok C L D cert t (Err f) g = tt

pub found_none : (net : Network) (C L D : ℕ) (cert : Cert) (result : Result Guard FindFault) → GivesFinding result (found_by net C L D cert (map unsigned_abs cert.h) [] (junction_numbers net)) → IfErr result (λ f. f ≡ fault.NoRates → HasNoGuard net D)
found_none net C L D cert (Ok guard) g = tt
found_none net C L D cert (Err fault.NoRates) g = absurd (never_no_rates net C L D cert (map unsigned_abs cert.h) (junction_numbers net) [] g)
found_none net C L D cert (Err fault.Sweeps) g = λ e. absurd (cc)
found_none net C L D cert (Err (fault.Overflow j)) g = λ e. absurd (cc)
found_none net C L D cert (Err (fault.PivotLimit j)) g = λ e. absurd (cc)
found_none net C L D cert (Err (fault.Full j)) g = λ e. absurd (cc)
found_none net C L D cert (Err fault.NoMemory) g = λ e. absurd (cc)
