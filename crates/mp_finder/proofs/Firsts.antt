-- The first greens of a junction: those of the parts of its mix.
use Rattle.std.proofs.Common.{to_z-of_z, ◌≡◌, ◌≤◌, ◌<◌, ℕ, suc, ◌+◌, ◌*◌, List, [], ◌∷◌, ◌++◌, map, drop, length, get_or, ℤ, pos, negsuc, ◌*ℤ◌, ◌≤ℤ◌, unsigned_abs, Option, Some, None, option_map, option_and_then, refl, sym, ap, ◌∙◌, arith, append_assoc, append-nil, mul-le-mul, mul-le-mul_left}
use Rattle.std.proofs.lemmas.Int.{ints, unsigned_abs-mul}
use Rattle.std.proofs.lemmas.List.{drop_all, drop_more}
use Rattle.mp_num.specs.Checked.{within}
use Rattle.mp_num.specs.Passing.{each}
use Rattle.mp_num.proofs.CheckedLemmas.{within_some}
use Rattle.mp_model.specs.Certificate.{Mix}
use Rattle.mp_served.proofs.Places.{at_place}
use Rattle.mp_trial.specs.Sweeps.{rounded_up}
use Rattle.mp_trial.proofs.Rounding.{rounding}
use Rattle.mp_verdict.proofs.FlowNumbers.{above_one}
use Rattle.mp_finder.specs.Greens.{green_for, greens_for}
use Rattle.mp_finder.specs.Giving.{IsMixOver}

pub ruleset quoting = (to_z-of_z)

-- ---- one part
part_numbers : (v m : ℤ) (D : ℕ) → pos 0 ≤ℤ v → pos 1 ≤ℤ m → v ≤ℤ (m *ℤ pos D) → unsigned_abs v ≤ unsigned_abs m * D
part_numbers (pos v) (pos m) D a b le = let p : pos m *ℤ pos D ≡ pos (m * D) = refl in omega (arith, ints, le, p)
part_numbers (pos v) (negsuc m) D a b le = absurd (omega (arith, ints))
part_numbers (negsuc v) m D a b le = absurd (omega (arith, ints))

module _ (C D : ℕ) (some : 1 ≤ D) (mix : Mix) (over : IsMixOver D mix) where
  -- the products of a part, in natural numbers
  pub over_is : (v x : ℤ) → within (pos C *ℤ v) ≡ Some x → unsigned_abs x ≡ C * unsigned_abs v
  over_is v x e = ap unsigned_abs (within_some (pos C *ℤ v) x e) ∙ unsigned_abs-mul (pos C) v

  pub under_is : (y : ℤ) → within (mix.whole *ℤ pos D) ≡ Some y → unsigned_abs y ≡ unsigned_abs mix.whole * D
  under_is y e = ap unsigned_abs (within_some (mix.whole *ℤ pos D) y e) ∙ unsigned_abs-mul mix.whole (pos D)

  pub under_some : (y : ℤ) → within (mix.whole *ℤ pos D) ≡ Some y → 1 ≤ unsigned_abs y
  under_some y e = let p : 1 ≤ unsigned_abs mix.whole * D = mul-le-mul (above_one mix.whole over.whole) some in omega (arith, p, under_is y e)

  pub part_most : (i : ℕ) → i < length mix.parts → unsigned_abs (get_or mix.parts i (pos 0)) ≤ unsigned_abs mix.whole * D
  part_most i lt =
      let p = at_place (λ part. (pos 0 ≤ℤ part) × (part ≤ℤ (mix.whole *ℤ pos D))) (pos 0) mix.parts i lt over.parts in
      part_numbers (get_or mix.parts i (pos 0)) mix.whole D p.0 over.whole p.1

  pub green_few : (i : ℕ) (x y : ℤ) → i < length mix.parts → within (pos C *ℤ get_or mix.parts i (pos 0)) ≡ Some x → within (mix.whole *ℤ pos D) ≡ Some y → rounded_up (unsigned_abs x) (unsigned_abs y) ≤ C
  green_few i x y lt ex ey =
      let v = unsigned_abs (get_or mix.parts i (pos 0)) in
      let most : C * v ≤ C * (unsigned_abs mix.whole * D) = mul-le-mul_left C (part_most i lt) in
      let ey' : unsigned_abs y * C ≡ (unsigned_abs mix.whole * D) * C = ap (λ n. n * C) (under_is y ey) in
      (rounding (unsigned_abs x) (unsigned_abs y) C (under_some y ey)).1 (omega (arith, most, over_is (get_or mix.parts i (pos 0)) x ex, ey'))

-- ---- all parts
pub record Giving (C D : ℕ) (mix : Mix) (i : ℕ) (now : List ℕ) : Type 0 where
  pub rest : greens_for C D mix ≡ option_map (λ more. now ++ more) (each (green_for C D mix.whole) (drop i mix.parts))

mapped_nil : (o : Option (List ℕ)) → o ≡ option_map (λ more. [] ++ more) o
mapped_nil None = refl
mapped_nil (Some xs) = refl

mapped_cons : (now : List ℕ) (g : ℕ) (o : Option (List ℕ)) → option_map (λ more. now ++ more) (option_map (λ more. g ∷ more) o) ≡ option_map (λ more. (now ++ g ∷ []) ++ more) o
mapped_cons now g None = refl
mapped_cons now g (Some xs) = ap Some (sym (append_assoc now (g ∷ []) xs))

pub giving_start : (C D : ℕ) (mix : Mix) → Giving C D mix 0 []
giving_start C D mix = record { rest = mapped_nil (greens_for C D mix) }

module _ (C D : ℕ) (mix : Mix) (i : ℕ) (now : List ℕ) (s : Giving C D mix i now) (lt : i < length mix.parts) where
  giving_at : greens_for C D mix ≡ option_map (λ more. now ++ more) (option_and_then (λ g. option_map (λ more. g ∷ more) (each (green_for C D mix.whole) (drop (i + 1) mix.parts))) (green_for C D mix.whole (get_or mix.parts i (pos 0))))
  unfolding each
  giving_at = s.rest ∙ ap (λ ps. option_map (λ more. now ++ more) (each (green_for C D mix.whole) ps)) (drop_more mix.parts i (pos 0) lt)

  pub giving_more : (g : ℕ) → Some g ≡ green_for C D mix.whole (get_or mix.parts i (pos 0)) → Giving C D mix (i + 1) (now ++ g ∷ [])
  giving_more g e = record {
    rest = giving_at ∙ ap (λ o. option_map (λ more. now ++ more) (option_and_then (λ g. option_map (λ more. g ∷ more) (each (green_for C D mix.whole) (drop (i + 1) mix.parts))) o)) (sym e)
        ∙ mapped_cons now g (each (green_for C D mix.whole) (drop (i + 1) mix.parts));
  }

  pub giving_fails : None ≡ green_for C D mix.whole (get_or mix.parts i (pos 0)) → None ≡ greens_for C D mix
  giving_fails e = sym (giving_at ∙ ap (λ o. option_map (λ more. now ++ more) (option_and_then (λ g. option_map (λ more. g ∷ more) (each (green_for C D mix.whole) (drop (i + 1) mix.parts))) o)) (sym e))

pub giving_end : (C D : ℕ) (mix : Mix) (i : ℕ) (now : List ℕ) → Giving C D mix i now → length mix.parts ≤ i → Some now ≡ greens_for C D mix
unfolding each
giving_end C D mix i now s le = sym (s.rest ∙ ap (λ ps. option_map (λ more. now ++ more) (each (green_for C D mix.whole) ps)) (drop_all i mix.parts le) ∙ ap Some (append-nil now))

pub ruleset giving = (to_z-of_z, giving_start, giving_more, giving_fails, giving_end)
