-- The certificate of a trial that fits meets the rules.
use Rattle.std.proofs.Common.{◌≡◌, ℕ, zero, suc, ◌+◌, ◌-◌, ◌*◌, ◌≤◌, Bool, true, false, cond, List, [], ◌∷◌, length, get_or, map, sum_by, pos, ◌==◌, Option, Some, None, arith, refl, sym, ◌∙◌, ap, subst, eqb-true, mul-le-mul, ⊎_elim}
use Rattle.std.specs.List.{AllByRecursion, list_all, range_with_len}
use Rattle.std.proofs.lemmas.Bool.{and_parts, or_cases, false≢true}
use Rattle.std.proofs.lemmas.List.{length-map}
use Rattle.std.proofs.lemmas.List.FromFn.{length-range_with_len, get_or-range_with_len}
use Rattle.mp_model.specs.Network.{Network, movement_numbers, junction_numbers, junction_at, from_of, share_of, rate_before, into_link, has, entry}
use Rattle.mp_model.specs.NetworkRules.{IsNetwork}
use Rattle.mp_model.specs.Certificate.{Cert, Mix, no_mix, mix_at, int_entry, MeetsRules}
use Rattle.mp_laws.proofs.Lists.{at_in, in_numbers}
use Rattle.mp_verdict.proofs.Solved.{IsSolved}
use Rattle.mp_verdict.proofs.NaturalRules.{IsSolvedMix, meets_solved}
use Rattle.mp_trial.specs.Laws.{FitsLaw}
use Rattle.mp_trial.specs.Sweeps.{burden, swept_rate, swept, rates_after, is_above, is_stable, is_last_after, sweep_limit, sweeps_before_last}
use Rattle.mp_trial.specs.Trials.{Trial, Fits, Unfit, certificate_with, served_by, by_sweeps, trial}
use Rattle.mp_trial.proofs.Rounding.{rounding}
use Rattle.mp_trial.proofs.Programs.{entry_is, solved_at, mass_most}
use Rattle.mp_trial.proofs.Served.{IsMixAt, AllMixed, mixed_length, mixed_at, fitting, found_passes}

-- ---- stable rates and the mixes at them
module _ (net : Network) (ok : IsNetwork net) (D e : ℕ) (some : 1 ≤ D) (h : List ℕ) (count : length h ≡ length net.movements)
    (stable : (k : ℕ) → has (movement_numbers net) k ≡ true → swept_rate net D e h k ≡ entry h k) (mixes : List Mix) (all : AllMixed net D h (junction_numbers net) mixes) where
  abbrev cert : Cert
  cert = certificate_with D e h mixes

  number_there : (j : ℕ) → has (junction_numbers net) j ≡ true → get_or (junction_numbers net) (j - 1) 0 ≡ j
  number_there j i = let b = in_numbers (length net.junctions) j i in get_or-range_with_len 1 (length net.junctions) (j - 1) 0 (omega (arith, b)) ∙ omega (arith, b)

  mix_is : (j : ℕ) → has (junction_numbers net) j ≡ true → IsMixAt net D h j (mix_at cert j)
  mix_is j i =
      let b = in_numbers (length net.junctions) j i in
      subst (λ (m : ℕ). IsMixAt net D h m (get_or mixes (j - 1) no_mix)) (number_there j i)
      (mixed_at net D h (junction_numbers net) mixes (j - 1) all (omega (arith, b, length-range_with_len 1 (length net.junctions))))

  solved_is : (j : ℕ) → (i : has (junction_numbers net) j ≡ true) → IsSolved net (junction_at net j) (int_entry (map pos h)) (mix_is j i).o
  solved_is j i = solved_at net ok h j i (mix_is j i).o (mix_is j i).optimal

  solved_mix : (j : ℕ) → has (junction_numbers net) j ≡ true → IsSolvedMix net cert D j
  solved_mix j i =
      let o = (mix_is j i).o in
      let s = solved_is j i in
      record { o = o; same = (mix_is j i).same; solved = s; mass = mass_most net (junction_at net j) (int_entry (map pos h)) D o s (mix_is j i).most }

  balance_at : (k : ℕ) → has (movement_numbers net) k ≡ true → share_of net k * (D * rate_before net k + net.per * sum_by (entry h) (into_link net (from_of net k))) + net.shares * net.per * e ≤ net.shares * net.per * entry h k
  unfolding swept_rate
  balance_at k i = (rounding (burden net D e h k) (net.shares * net.per) (entry h k) (mul-le-mul ok.shares ok.per)).0 (omega (arith, stable k i))

  pub meets : MeetsRules net cert
  meets = meets_solved net ok cert D e (entry h) (length-map h pos ∙ count) (mixed_length net D h (junction_numbers net) mixes all ∙ length-range_with_len 1 (length net.junctions)) refl refl some (λ k i. entry_is h k) solved_mix balance_at

-- ---- the trial
stable_at : (net : Network) (D e : ℕ) (h ks : List ℕ) (k : ℕ) → list_all (λ k. swept_rate net D e h k == entry h k) ks ≡ true → has ks k ≡ true → swept_rate net D e h k ≡ entry h k
stable_at net D e h ks k t there = at_in (λ k. swept_rate net D e h k ≡ entry h k) k ks there (each ks t)
  where
    each : (ks : List ℕ) → list_all (λ k. swept_rate net D e h k == entry h k) ks ≡ true → AllByRecursion (λ k. swept_rate net D e h k ≡ entry h k) ks
    each [] t = tt
    each (k ∷ ks) t = (let p = and_parts (swept_rate net D e h k == entry h k) (list_all (λ k. swept_rate net D e h k == entry h k) ks) t in (eqb-true (swept_rate net D e h k) (entry h k) p.0, each ks p.1))

pub rates_count : (net : Network) (D e i : ℕ) → length (rates_after net D e i) ≡ length net.movements
unfolding rates_after swept
rates_count net D e zero = length-map (movement_numbers net) (λ k. 0) ∙ length-range_with_len 1 (length net.movements)
rates_count net D e (suc i) = length-map (movement_numbers net) (swept_rate net D e (rates_after net D e i)) ∙ length-range_with_len 1 (length net.movements)

fits_within : (b : Bool) (t : Trial) (cert : Cert) → cond b Unfit t ≡ Fits cert → (b ≡ false) × (t ≡ Fits cert)
fits_within true t cert e = absurd (cc)
fits_within false t cert e = (refl, e)

-- what a trial that fits went through
pub record IsStable (net : Network) (D e : ℕ) (cert : Cert) : Type 0 where
  pub before : ℕ
  pub still : is_stable net D e (rates_after net D e before) ≡ true
  pub served : served_by net D e (rates_after net D e before) [] (junction_numbers net) ≡ Fits cert

stable_from : (net : Network) (D e : ℕ) (cert : Cert) (n : Option ℕ) → sweeps_before_last net D e ≡ n → by_sweeps net D e n ≡ Fits cert → IsStable net D e cert
unfolding sweeps_before_last is_last_after
stable_from net D e cert None f s = absurd (cc)
stable_from net D e cert (Some i) f s =
    let r = fits_within (is_above net D (rates_after net D e (suc i))) (served_by net D e (rates_after net D e i) [] (junction_numbers net)) cert s in
    let last = found_passes (is_last_after net D e) (range_with_len 0 sweep_limit) i f in
    record {
      before = i;
      still = ⊎_elim (λ (t : is_above net D (rates_after net D e (suc i)) ≡ true). absurd (false≢true (sym r.0 ∙ t))) (λ (t : is_stable net D e (rates_after net D e i) ≡ true). t)
          (or_cases (is_above net D (rates_after net D e (suc i))) (is_stable net D e (rates_after net D e i)) last);
      served = r.1;
    }

pub stable_trial : (net : Network) (D e : ℕ) (cert : Cert) → trial net D e ≡ Fits cert → IsStable net D e cert
unfolding trial
stable_trial net D e cert t = stable_from net D e cert (sweeps_before_last net D e) refl t

pub fits : FitsLaw
fits net ok D e some cert t =
    let s = stable_trial net D e cert t in
    let h = rates_after net D e s.before in
    let r = fitting net D e h (junction_numbers net) [] cert s.served in
    let c = meets net ok D e some h (rates_count net D e s.before) (λ k i. stable_at net D e h (movement_numbers net) k s.still i) r.rest r.all in
    (subst (MeetsRules net) r.same c, sym (ap (λ (c : Cert). c.d) r.same), sym (ap (λ (c : Cert). c.e) r.same))
