-- How a trial goes through the junctions.
use Rattle.std.proofs.Common.{◌≡◌, ℕ, zero, suc, ◌<◌, Bool, true, false, cond, List, [], ◌∷◌, ◌++◌, length, get_or, map, pos, Option, Some, None, find, arith, refl, sym, ◌∙◌, ap, append_assoc, append-nil}
use Rattle.std.specs.List.{AllByRecursion}
use Rattle.std.proofs.lemmas.Option.{same_Some}
use Rattle.mp_model.specs.Network.{Network, junction_at, junction_numbers, has}
use Rattle.mp_model.specs.Certificate.{Cert, Mix, no_mix}
use Rattle.mp_simplex.specs.declared.Optimum.{Optimum}
use Rattle.mp_simplex.specs.Outcome.{Outcome, Optimal, Ray, Passes, Limit, maximised}
use Rattle.mp_verdict.specs.Program.{program}
use Rattle.mp_verdict.specs.declared.TheConstants.{TURN_LIMIT}
use Rattle.mp_verdict.specs.Mixes.{mix_of}
use Rattle.mp_trial.specs.Trials.{Trial, Fits, Unfit, is_above_whole, by_value, by_outcome, certificate_with, served_by}

pub same_fits : (a b : Cert) → Fits a ≡ Fits b → a ≡ b
same_fits a b e = cc

-- ---- a junction
unfit_value : {P : Type 0} (j : ℕ) (o : Optimum) (r : Option Bool) (go : Mix → Trial) → by_value j o r go ≡ Unfit → (r ≡ Some true → P) → (r ≡ Some false → go (mix_of o) ≡ Unfit → P) → P
unfit_value j o None go e h k = absurd (cc)
unfit_value j o (Some true) go e h k = h refl
unfit_value j o (Some false) go e h k = k refl e

unfit_outcome : {P : Type 0} (D j : ℕ) (outcome : Outcome) (go : Mix → Trial) → by_outcome D j outcome go ≡ Unfit → ((o : Optimum) → outcome ≡ Optimal o → is_above_whole D o ≡ Some true → P) → ((o : Optimum) → go (mix_of o) ≡ Unfit → P) → P
unfit_outcome D j (Optimal o) go e h k = unfit_value j o (is_above_whole D o) go e (h o refl) (λ no. k o)
unfit_outcome D j (Ray x) go e h k = absurd (cc)
unfit_outcome D j (Passes pivots) go e h k = absurd (cc)
unfit_outcome D j Limit go e h k = absurd (cc)

fits_value : {P : Type 0} (j : ℕ) (o : Optimum) (r : Option Bool) (go : Mix → Trial) (cert : Cert) → by_value j o r go ≡ Fits cert → (r ≡ Some false → go (mix_of o) ≡ Fits cert → P) → P
fits_value j o None go cert e k = absurd (cc)
fits_value j o (Some true) go cert e k = absurd (cc)
fits_value j o (Some false) go cert e k = k refl e

fits_outcome : {P : Type 0} (D j : ℕ) (outcome : Outcome) (go : Mix → Trial) (cert : Cert) → by_outcome D j outcome go ≡ Fits cert → ((o : Optimum) → outcome ≡ Optimal o → is_above_whole D o ≡ Some false → go (mix_of o) ≡ Fits cert → P) → P
fits_outcome D j (Optimal o) go cert e k = fits_value j o (is_above_whole D o) go cert e (k o refl)
fits_outcome D j (Ray x) go cert e k = absurd (cc)
fits_outcome D j (Passes pivots) go cert e k = absurd (cc)
fits_outcome D j Limit go cert e k = absurd (cc)

-- ---- the junctions
-- the mix of a junction comes from an optimum of its program that is at most the denominator
pub record IsMixAt (net : Network) (D : ℕ) (h : List ℕ) (j : ℕ) (mix : Mix) : Type 0 where
  pub o : Optimum
  pub optimal : maximised (program net (junction_at net j) (map pos h)) TURN_LIMIT ≡ Optimal o
  pub most : is_above_whole D o ≡ Some false
  pub same : mix ≡ mix_of o

abbrev pub AllMixed : Network → ℕ → List ℕ → List ℕ → List Mix → Type 0
AllMixed net D h [] [] = Unit {0}
AllMixed net D h [] (mix ∷ mixes) = ⊥
AllMixed net D h (j ∷ js) [] = ⊥
AllMixed net D h (j ∷ js) (mix ∷ mixes) = IsMixAt net D h j mix × AllMixed net D h js mixes

pub mixed_length : (net : Network) (D : ℕ) (h js : List ℕ) (mixes : List Mix) → AllMixed net D h js mixes → length mixes ≡ length js
mixed_length net D h [] [] all = refl
mixed_length net D h [] (mix ∷ mixes) all = absurd all
mixed_length net D h (j ∷ js) [] all = absurd all
mixed_length net D h (j ∷ js) (mix ∷ mixes) all = ap suc (mixed_length net D h js mixes all.1)

pub mixed_at : (net : Network) (D : ℕ) (h js : List ℕ) (mixes : List Mix) (i : ℕ) → AllMixed net D h js mixes → i < length js → IsMixAt net D h (get_or js i 0) (get_or mixes i no_mix)
mixed_at net D h [] mixes i all l = absurd (omega arith)
mixed_at net D h (j ∷ js) [] i all l = absurd all
mixed_at net D h (j ∷ js) (mix ∷ mixes) zero all l = all.0
mixed_at net D h (j ∷ js) (mix ∷ mixes) (suc i) all l = mixed_at net D h js mixes i all.1 (omega arith)

-- the certificate of a trial that fits
pub record IsFitting (net : Network) (D e : ℕ) (h : List ℕ) (before : List Mix) (js : List ℕ) (cert : Cert) : Type 0 where
  pub rest : List Mix
  pub all : AllMixed net D h js rest
  pub same : certificate_with D e h (before ++ rest) ≡ cert

module _ (net : Network) (D e : ℕ) (h : List ℕ) where
  pub fitting : (js : List ℕ) (before : List Mix) (cert : Cert) → served_by net D e h before js ≡ Fits cert → IsFitting net D e h before js cert
  unfolding served_by
  fitting [] before cert s = record { rest = []; all = tt; same = ap (certificate_with D e h) (append-nil before) ∙ same_fits (certificate_with D e h before) cert s }
  fitting (j ∷ js) before cert s =
      fits_outcome D j (maximised (program net (junction_at net j) (map pos h)) TURN_LIMIT) _ cert s (λ o optimal most s'.
      (let r = fitting js (before ++ mix_of o ∷ []) cert s' in
      record {
        rest = mix_of o ∷ r.rest;
        all = (record { o = o; optimal = optimal; most = most; same = refl }, r.all);
        same = ap (certificate_with D e h) (sym (append_assoc before (mix_of o ∷ []) r.rest)) ∙ r.same;
      }))

  -- a trial is unfit at the junctions only where the value of a program is above the denominator
  pub never_unfit : (js : List ℕ) (before : List Mix) → AllByRecursion (λ j. has (junction_numbers net) j ≡ true) js →
      ((j : ℕ) → has (junction_numbers net) j ≡ true → (o : Optimum) → maximised (program net (junction_at net j) (map pos h)) TURN_LIMIT ≡ Optimal o → is_above_whole D o ≡ Some true → ⊥) →
      served_by net D e h before js ≡ Unfit → ⊥
  unfolding served_by
  never_unfit [] before all none s = cc
  never_unfit (j ∷ js) before all none s =
      unfit_outcome D j (maximised (program net (junction_at net j) (map pos h)) TURN_LIMIT) _ s (λ o optimal above. none j all.0 o optimal above) (λ o s'. never_unfit js (before ++ mix_of o ∷ []) all.1 none s')

-- ---- the last sweep
pub found_passes : (p : ℕ → Bool) (xs : List ℕ) (i : ℕ) → find p xs ≡ Some i → p i ≡ true
found_passes p [] i e = absurd (cc)
found_passes p (x ∷ xs) i e = go (found_passes p xs i) (p x) refl e
  where
    go : (find p xs ≡ Some i → p i ≡ true) → (b : Bool) → p x ≡ b → cond b (Some x) (find p xs) ≡ Some i → p i ≡ true
    go more true t s = ap p (sym (same_Some _ _ s)) ∙ t
    go more false t s = more s
