-- Where a trial is unfit, each certificate over the denominator has a lower excess.
use Rattle.std.proofs.Common.{◌≡◌, ℕ, suc, ◌*◌, ◌≤◌, Bool, true, false, cond, List, [], ◌∷◌, nat_lt, pos, ◌≤ℤ◌, Option, Some, None, arith, refl, ap, ltb-true, eq-eqb, ◌==◌, ⊎_elim}
use Rattle.std.specs.List.{list_any}
use Rattle.std.proofs.lemmas.Bool.{false≢true, or_cases, or_left, or_right}
use Rattle.std.proofs.lemmas.Int.{ints, by_lt_z}
use Rattle.mp_model.specs.Network.{Network, movement_numbers, junction_numbers, flow_of, has, entry}
use Rattle.mp_model.specs.NetworkRules.{IsNetwork}
use Rattle.mp_laws.proofs.PlainCertificate.{PlainCert, Holds}
use Rattle.mp_laws.proofs.Bridge.{to_plain}
use Rattle.mp_laws.proofs.Lists.{all_in}
use Rattle.mp_trial.specs.Laws.{UnfitLaw, EasierLaw}
use Rattle.mp_trial.specs.Sweeps.{rates_after, is_above, sweeps_before_last}
use Rattle.mp_trial.specs.Trials.{Trial, Unfit, served_by, by_sweeps, trial}
use Rattle.mp_trial.proofs.Bounds.{plain_is, rate_most}
use Rattle.mp_trial.proofs.Least.{least}
use Rattle.mp_trial.proofs.Programs.{solved_at, mass_above, mass_least}
use Rattle.mp_trial.proofs.Served.{never_unfit}
use Rattle.mp_trial.proofs.Fitting.{fits}

-- an entry that passes a test
record IsFoundIn (p : ℕ → Bool) (ks : List ℕ) : Type 0 where
  k : ℕ
  there : has ks k ≡ true
  test : p k ≡ true

found_in : (p : ℕ → Bool) (ks : List ℕ) → list_any p ks ≡ true → IsFoundIn p ks
found_in p [] t = absurd (false≢true t)
found_in p (k ∷ ks) t =
    ⊎_elim (λ (e : p k ≡ true). record { k = k; there = or_left (k == k) (has ks k) (eq-eqb k k refl); test = e })
    (λ (e : list_any p ks ≡ true). let r = found_in p ks e in record { k = r.k; there = or_right (k == r.k) (has ks r.k) r.there; test = r.test })
    (or_cases (p k) (list_any p ks) t)

cases_unfit : {P : Type 0} (b : Bool) (t : Trial) → cond b Unfit t ≡ Unfit → (b ≡ true → P) → (t ≡ Unfit → P) → P
cases_unfit true t e h k = h refl
cases_unfit false t e h k = k e

module _ (net : Network) (ok : IsNetwork net) (D e : ℕ) (p : PlainCert) (holds : Holds net p) (same : p.d ≡ D) (above : e ≤ p.e) where
  not_above : (i : ℕ) → is_above net D (rates_after net D e i) ≡ true → ⊥
  not_above i t =
      let h = rates_after net D e i in
      let a = found_in (λ k. nat_lt (flow_of net k * D) (entry h k)) (movement_numbers net) t in
      let over = ltb-true (flow_of net a.k * D) (entry h a.k) a.test in
      let low = least net ok D e p holds same above i a.k a.there in
      let most = rate_most net ok p holds a.k a.there in
      omega (arith, over, low, most, ap (λ d. flow_of net a.k * d) same)

  not_served : (i : ℕ) → served_by net D e (rates_after net D e i) [] (junction_numbers net) ≡ Unfit → ⊥
  not_served i s =
      let h = rates_after net D e i in
      never_unfit net D e h (junction_numbers net) [] (all_in (junction_numbers net))
      (λ j ij o optimal over.
      (let solved = solved_at net ok h j ij o optimal in
      let more = mass_above net _ _ D o solved over in
      let most = mass_least net D h p holds same (λ k m. least net ok D e p holds same above i k m) j ij o solved in
      omega (arith, more, most))) s

  not_by_sweeps : (n : Option ℕ) → by_sweeps net D e n ≡ Unfit → ⊥
  not_by_sweeps None s = cc
  not_by_sweeps (Some i) s = cases_unfit (is_above net D (rates_after net D e (suc i))) (served_by net D e (rates_after net D e i) [] (junction_numbers net)) s (not_above (suc i)) (not_served i)

  pub not_unfit : trial net D e ≡ Unfit → ⊥
  unfolding trial
  not_unfit t = not_by_sweeps (sweeps_before_last net D e) t

pub unfit : UnfitLaw
unfit net ok D e t cert c d =
    by_lt_z cert.e (pos e) (λ l. l) (λ (l : pos e ≤ℤ cert.e).
    let p = plain_is net ok D cert c d (omega (arith, ints, l)) in
    let over = p.excess in
    absurd (not_unfit net ok D e (to_plain cert) p.holds p.denominator (omega (arith, ints, l, over)) t))

pub easier : EasierLaw
easier net ok D e some cert t smaller le unfit_there =
    let f = fits net ok D e some cert t in
    let l = unfit net ok D smaller unfit_there cert f.0 f.1 in
    let s = f.2 in
    omega (arith, ints, l, s, le)
