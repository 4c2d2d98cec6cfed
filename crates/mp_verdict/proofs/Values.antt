-- What a calculation gives where it doesn't pass.
use Rattle.std.proofs.Common.{◌≡◌, ℕ, ℤ, pos, ◌+ℤ◌, ◌-ℤ◌, ◌*ℤ◌, ap₂, sym, ◌∙◌, List, [], ◌∷◌, sum_by, arith, Option, Some}
use Rattle.std.specs.List.{AllByRecursion}
use Rattle.std.proofs.lemmas.Int.{ints}
use Rattle.std.proofs.lemmas.Option.{option_and_then_some, same_Some}
use Rattle.std.proofs.lemmas.List.Sums.{sum_by-cons}
use Rattle.mp_num.specs.Passing.{stepped}
use Rattle.mp_num.proofs.CheckedLemmas.{within_some}
use Rattle.mp_num.specs.Operations.{times, plus, less, added, summed}

-- where the number is there, it is v
pub record Gives (o : Option ℤ) (v : ℤ) : Type 0 where
  pub at : (z : ℤ) → o ≡ Some z → z ≡ v

pub gives-some : (v : ℤ) → Gives (Some v) v
gives-some v = record { at = λ z e. sym (same_Some _ _ e) }

pub gives-times : (a b : Option ℤ) (v w : ℤ) → Gives a v → Gives b w → Gives (times a b) (v *ℤ w)
unfolding times
gives-times a b v w g h = record {
  at = λ z e.
      option_and_then_some _ a z e (λ x hx e'.
      option_and_then_some _ b z e' (λ y hy e''. within_some _ z e'' ∙ ap₂ (λ s t. s *ℤ t) (g.at x hx) (h.at y hy)));
}

pub gives-plus : (a b : Option ℤ) (v w : ℤ) → Gives a v → Gives b w → Gives (plus a b) (v +ℤ w)
unfolding plus
gives-plus a b v w g h = record {
  at = λ z e.
      option_and_then_some _ a z e (λ x hx e'.
      option_and_then_some _ b z e' (λ y hy e''. within_some _ z e'' ∙ ap₂ (λ s t. s +ℤ t) (g.at x hx) (h.at y hy)));
}

pub gives-less : (a b : Option ℤ) (v w : ℤ) → Gives a v → Gives b w → Gives (less a b) (v -ℤ w)
unfolding less
gives-less a b v w g h = record {
  at = λ z e.
      option_and_then_some _ a z e (λ x hx e'.
      option_and_then_some _ b z e' (λ y hy e''. within_some _ z e'' ∙ ap₂ (λ s t. s -ℤ t) (g.at x hx) (h.at y hy)));
}

pub gives-same : (a : Option ℤ) (v w : ℤ) → Gives a v → v ≡ w → Gives a w
gives-same a v w g e = record { at = λ z h. g.at z h ∙ e }

-- a sum of terms that are natural numbers
sum_from : (term : ℕ → Option ℤ) (t : ℕ → ℕ) (ks : List ℕ) (s : ℤ) → AllByRecursion (λ k. Gives (term k) (pos (t k))) ks → Gives (stepped (added term) s ks) (s +ℤ pos (sum_by t ks))
unfolding stepped
sum_from term t [] s h = gives-same _ _ _ (gives-some s) (omega (arith, ints))
sum_from term t (k ∷ ks) s h = record {
  at = λ z e.
      option_and_then_some _ (plus (Some s) (term k)) z e (λ next hn e'.
      (let first = (gives-plus (Some s) (term k) s (pos (t k)) (gives-some s) h.0).at next hn in
      let rest = (sum_from term t ks next h.1).at z e' in
      omega (arith, ints, first, rest, sum_by-cons t k ks)));
}

pub gives-sum : (term : ℕ → Option ℤ) (t : ℕ → ℕ) (ks : List ℕ) → AllByRecursion (λ k. Gives (term k) (pos (t k))) ks → Gives (summed term ks) (pos (sum_by t ks))
unfolding summed
gives-sum term t ks h = gives-same _ _ _ (sum_from term t ks (pos 0) h) (omega (arith, ints))
