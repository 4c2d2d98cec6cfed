-- The trials of the search, one after the other.
use Rattle.std.proofs.Common.{◌≡◌, ℕ, zero, suc, ◌+◌, ◌-◌, ◌/◌, ◌<◌, ◌≤◌, cond, Option, Some, None, Result, Ok, Err, List, [], IfOk, IfSome, IfNone, subst, refl, ap, sym, ◌∙◌, arith}
use Rattle.std.proofs.lemmas.Bool.{lt-ltb, le-ltb}
use Rattle.std.proofs.lemmas.Nat.{div-add-mod', mod_below}
use Rattle.mp_model.specs.Network.{Network, junction_numbers}
use Rattle.mp_model.specs.Certificate as model
use Rattle.mp_model.specs.NetworkRules.{IsAcceptable}
use Rattle.mp_cert.specs.Views.{cert_of}
use Rattle.mp_cert.specs.declared.types.Cert.{Cert}
use Rattle.mp_trial.specs.Sweeps.{rates_after, sweeps_before_last}
use Rattle.mp_trial.specs.Trials.{Unfit, Endless, served_by, by_sweeps, trial}
use Rattle.mp_trial.specs.Search.{Scaled, Found, NoneAt, SweepsAt, after_trial, middle, halved, too_great, scaled, HasGreatestExcess, HasNone, HoldsOver}
use Rattle.mp_trial.proofs.Searching.{searched}
use Rattle.mp_scaled.specs.declared.fault.ScaleFault.{ScaleFault}
use Rattle.mp_scaled.specs.declared.fault.ScaleFault.TheVariants as fault
use Rattle.mp_scaled.specs.declared.sweep.Swept.TheVariants as Swept
use Rattle.mp_scaled.specs.Sweeping.{EndsSweeps}
use Rattle.mp_scaled.specs.Giving.{GivesTrial, GivesFound, GivesScaled}

-- ---- one trial
pub trial_above : (net : Network) (D e : ℕ) (rates : List ℕ) → EndsSweeps net D e Swept.Above (sweeps_before_last net D e) rates → trial net D e ≡ Unfit
unfolding trial
trial_above net D e rates s = ap (by_sweeps net D e) s.1 ∙ ap (λ b. cond b Unfit (served_by net D e (rates_after net D e s.0) [] (junction_numbers net))) s.2

pub trial_stable : (net : Network) (D e : ℕ) (rates : List ℕ) → EndsSweeps net D e Swept.Stable (sweeps_before_last net D e) rates → trial net D e ≡ served_by net D e rates [] (junction_numbers net)
unfolding trial
trial_stable net D e rates s =
    ap (by_sweeps net D e) s.1 ∙ ap (λ b. cond b Unfit (served_by net D e (rates_after net D e s.0) [] (junction_numbers net))) s.2
    ∙ ap (λ h. served_by net D e h [] (junction_numbers net)) (sym s.3)

pub trial_endless : (net : Network) (D e : ℕ) (rates : List ℕ) → EndsSweeps net D e Swept.Moving (sweeps_before_last net D e) rates → trial net D e ≡ Endless
unfolding trial
trial_endless net D e rates s = ap (by_sweeps net D e) s

pub trial_same : (net : Network) (D d e : ℕ) (result : Result (Option Cert) ScaleFault) → d ≡ D → GivesTrial e result (trial net d e) → GivesTrial e result (trial net D e)
trial_same net D d e result is g = subst (λ (n : ℕ). GivesTrial e result (trial net n e)) is g

pub ruleset trying = (trial_same)

-- ---- the halving
pub record Halving (net : Network) (D limit : ℕ) (first : model.Cert) (low high : ℕ) (cert : model.Cert) : Type 0 where
  pub halvings : ℕ
  pub enough : high - low ≤ halvings
  pub rest : halved net D limit 1 limit first ≡ halved net D halvings low high cert

pub halving_start : (net : Network) (D limit : ℕ) (first : model.Cert) → Halving net D limit first 1 limit first
halving_start net D limit first = record { halvings = limit; enough = omega arith; rest = refl }

pub middle_within : (low high : ℕ) → low + 1 < high → (low < (low + high) / 2) × ((low + high) / 2 < high)
middle_within low high h =
    let m = mod_below (low + high) 2 (omega arith) in
    let d = div-add-mod' (low + high) 2 in
    (omega (arith, m, d), omega (arith, m, d))

-- the next trial of a search
record Next (net : Network) (D : ℕ) (whole : Scaled) (low high : ℕ) (cert : model.Cert) (n : ℕ) : Type 0 where
  left : ℕ
  one : n ≡ suc left
  rest : whole ≡ after_trial (middle low high) (trial net D (middle low high)) (halved net D left (middle low high) high) (halved net D left low (middle low high) cert)

next_of : (net : Network) (D : ℕ) (whole : Scaled) (low high : ℕ) (cert : model.Cert) (n : ℕ) → high - low ≤ n → low + 1 < high → whole ≡ halved net D n low high cert → Next net D whole low high cert n
unfolding halved
next_of net D whole low high cert zero enough lt e = absurd (omega arith)
next_of net D whole low high cert (suc n) enough lt e =
    let go : Scaled = after_trial (middle low high) (trial net D (middle low high)) (halved net D n (middle low high) high) (halved net D n low (middle low high) cert) in
    record { left = n; one = refl; rest = e ∙ ap (λ b. cond b go (Found cert)) (lt-ltb (low + 1) high lt) }

found_of : (net : Network) (D : ℕ) (low high : ℕ) (cert : model.Cert) (n : ℕ) → high ≤ low + 1 → halved net D n low high cert ≡ Found cert
unfolding halved
found_of net D low high cert zero le = refl
found_of net D low high cert (suc n) le =
    let go : Scaled = after_trial (middle low high) (trial net D (middle low high)) (halved net D n (middle low high) high) (halved net D n low (middle low high) cert) in
    ap (λ b. cond b go (Found cert)) (le-ltb (low + 1) high le)

module _ (net : Network) (D limit : ℕ) (first : model.Cert) (low high : ℕ) (cert : model.Cert) (s : Halving net D limit first low high cert) (lt : low + 1 < high) (m : ℕ) (is : m ≡ (low + high) / 2) where
  abbrev whole : Scaled
  whole = halved net D limit 1 limit first

  next : Next net D whole low high cert s.halvings
  next = next_of net D whole low high cert s.halvings s.enough lt s.rest

  between : (low < m) × (m < high)
  between = let b = middle_within low high lt in (omega (arith, b, is), omega (arith, b, is))

  -- the rest, with the middle as it was computed
  rest_at : whole ≡ after_trial m (trial net D m) (halved net D next.left m high) (halved net D next.left low m cert)
  rest_at = next.rest ∙ ap (λ t. after_trial t (trial net D t) (halved net D next.left t high) (halved net D next.left low t cert)) (sym is)

  pub halving_fits : (better : Cert) → GivesTrial m (Ok (Some better)) (trial net D m) → Halving net D limit first m high (cert_of better)
  halving_fits better g = record {
    halvings = next.left;
    enough = omega (arith, between, next.one, s.enough);
    rest = rest_at ∙ ap (λ t. after_trial m t (halved net D next.left m high) (halved net D next.left low m cert)) g;
  }

  pub halving_unfit : GivesTrial m (Ok None) (trial net D m) → Halving net D limit first low m cert
  halving_unfit g = record {
    halvings = next.left;
    enough = omega (arith, between, next.one, s.enough);
    rest = rest_at ∙ ap (λ t. after_trial m t (halved net D next.left m high) (halved net D next.left low m cert)) g;
  }

  pub halving_fault : (f : ScaleFault) → GivesTrial m (Err f) (trial net D m) → GivesFound (Err f) (halved net D limit 1 limit first)
  halving_fault (fault.Sweeps e) g = rest_at ∙ ap (λ t. after_trial m t (halved net D next.left m high) (halved net D next.left low m cert)) g.0 ∙ ap SweepsAt (sym g.1)
  halving_fault (fault.Overflow j) g = rest_at ∙ ap (λ t. after_trial m t (halved net D next.left m high) (halved net D next.left low m cert)) g
  halving_fault (fault.PivotLimit j) g = rest_at ∙ ap (λ t. after_trial m t (halved net D next.left m high) (halved net D next.left low m cert)) g
  halving_fault fault.NoMemory g = tt

pub halving_end : (net : Network) (D limit : ℕ) (first : model.Cert) (low high : ℕ) (cert : Cert) → Halving net D limit first low high (cert_of cert) → high ≤ low + 1 → GivesFound (Ok cert) (halved net D limit 1 limit first)
halving_end net D limit first low high cert s le = s.rest ∙ found_of net D low high (cert_of cert) s.halvings le

pub ruleset halving = (halving_start, halving_fits, halving_unfit, halving_end)

-- ---- the whole search
pub scaled_found : (net : Network) (D limit : ℕ) (first : Cert) → limit ≡ too_great net D → GivesTrial 1 (Ok (Some first)) (trial net D 1) → scaled net D ≡ halved net D limit 1 limit (cert_of first)
unfolding scaled
scaled_found net D limit first is g =
    ap (λ t. after_trial 1 t (halved net D (too_great net D) 1 (too_great net D)) NoneAt) g ∙ ap (λ n. halved net D n 1 n (cert_of first)) (sym is)

pub scaled_none : (net : Network) (D : ℕ) → GivesTrial 1 (Ok None) (trial net D 1) → scaled net D ≡ NoneAt
unfolding scaled
scaled_none net D g = ap (λ t. after_trial 1 t (halved net D (too_great net D) 1 (too_great net D)) NoneAt) g

pub scaled_fault : (net : Network) (D : ℕ) (f : ScaleFault) → GivesTrial 1 (Err f) (trial net D 1) → GivesScaled (Err f) (scaled net D)
unfolding scaled
scaled_fault net D (fault.Sweeps e) g = ap (λ t. after_trial 1 t (halved net D (too_great net D) 1 (too_great net D)) NoneAt) g.0 ∙ ap SweepsAt (sym g.1)
scaled_fault net D (fault.Overflow j) g = ap (λ t. after_trial 1 t (halved net D (too_great net D) 1 (too_great net D)) NoneAt) g
scaled_fault net D (fault.PivotLimit j) g = ap (λ t. after_trial 1 t (halved net D (too_great net D) 1 (too_great net D)) NoneAt) g
scaled_fault net D fault.NoMemory g = tt

pub found_fault : (f : ScaleFault) (found all : Scaled) → all ≡ found → GivesFound (Err f) found → GivesScaled (Err f) all
found_fault (fault.Sweeps e) found all is g = is ∙ g
found_fault (fault.Overflow j) found all is g = is ∙ g
found_fault (fault.PivotLimit j) found all is g = is ∙ g
found_fault fault.NoMemory found all is g = tt

-- ---- what the search says of the network
pub search_found : (net : Network) → IsAcceptable net → (D : ℕ) → 1 ≤ D → (result : Result (Option Cert) ScaleFault) → GivesScaled result (scaled net D) → IfOk result (λ answer. IfSome answer (λ cert. HasGreatestExcess net D (cert_of cert)))
search_found net ok D some (Ok (Some cert)) g = subst (HoldsOver net D) g (searched net ok.network (omega (arith, ok.range.movements)) D some)
search_found net ok D some (Ok None) g = tt
search_found net ok D some (Err f) g = tt

pub search_none : (net : Network) → IsAcceptable net → (D : ℕ) → 1 ≤ D → (result : Result (Option Cert) ScaleFault) → GivesScaled result (scaled net D) → IfOk result (λ answer. IfNone answer (HasNone net D))
search_none net ok D some (Ok (Some cert)) g = tt
search_none net ok D some (Ok None) g = subst (HoldsOver net D) g (searched net ok.network (omega (arith, ok.range.movements)) D some)
search_none net ok D some (Err f) g = tt

pub ruleset searching = (search_found, search_none)
