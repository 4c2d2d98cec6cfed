-- What a calculation gives where it doesn't pass, and what a test of it decides.
use Rattle.std.proofs.Common.{◌≡◌, ℤ, pos, ◌+ℤ◌, ◌-ℤ◌, ◌*ℤ◌, ◌≤ℤ◌, int_lt, not, Bool, true, false, arith, refl, ap₂, sym, ◌∙◌, List, [], ◌∷◌, Option, Some, None, option_and_then}
use Rattle.std.proofs.lemmas.Int.{ints}
use Rattle.std.proofs.lemmas.Option.{option_and_then_some, same_Some}
use Rattle.mp_model.specs.Sums.{int_sum_by}
use Rattle.mp_num.specs.Passing.{stepped}
use Rattle.mp_num.proofs.CheckedLemmas.{within_some}
use Rattle.mp_num.specs.Operations.{times, plus, less, added, summed}
use Rattle.mp_cert.specs.Rules.{at_most}
use Rattle.mp_cert.specs.Rules.{at_least}

-- where the number is there, it is v
pub record Gives (o : Option ℤ) (v : ℤ) : Type 0 where
  pub at : (z : ℤ) → o ≡ Some z → z ≡ v

pub gives-some : (v : ℤ) → Gives (Some v) v
gives-some v = record { at = λ z e. sym (same_Some _ _ e) }

pub gives-times : (a b : Option ℤ) (v w : ℤ) → Gives a v → Gives b w → Gives (times a b) (v *ℤ w)
unfolding times
gives-times a b v w g h = record {
  at = λ z e.
      option_and_then_some _ a z e (λ x hx e'.
      option_and_then_some _ b z e' (λ y hy e''. within_some _ z e'' ∙ ap₂ (λ s t. s *ℤ t) (g.at x hx) (h.at y hy)));
}

pub gives-plus : (a b : Option ℤ) (v w : ℤ) → Gives a v → Gives b w → Gives (plus a b) (v +ℤ w)
unfolding plus
gives-plus a b v w g h = record {
  at = λ z e.
      option_and_then_some _ a z e (λ x hx e'.
      option_and_then_some _ b z e' (λ y hy e''. within_some _ z e'' ∙ ap₂ (λ s t. s +ℤ t) (g.at x hx) (h.at y hy)));
}

pub gives-less : (a b : Option ℤ) (v w : ℤ) → Gives a v → Gives b w → Gives (less a b) (v -ℤ w)
unfolding less
gives-less a b v w g h = record {
  at = λ z e.
      option_and_then_some _ a z e (λ x hx e'.
      option_and_then_some _ b z e' (λ y hy e''. within_some _ z e'' ∙ ap₂ (λ s t. s -ℤ t) (g.at x hx) (h.at y hy)));
}

pub gives-same : (a : Option ℤ) (v w : ℤ) → Gives a v → v ≡ w → Gives a w
gives-same a v w g e = record { at = λ z h. g.at z h ∙ e }

pub gives-then : (o : Option ℤ) (f : ℤ → Option ℤ) (v w : ℤ) → Gives o v → ((t : ℤ) → t ≡ v → Gives (f t) w) → Gives (option_and_then f o) w
gives-then o f v w g h = record { at = λ z e. option_and_then_some f o z e (λ t ht e'. (h t (g.at t ht)).at z e') }

run_gives : {X : Type 0} (term : X → Option ℤ) (v : X → ℤ) (acc : ℤ) (xs : List X) → ((x : X) → Gives (term x) (v x)) → Gives (stepped (added term) acc xs) (acc +ℤ int_sum_by v xs)
unfolding stepped
run_gives term v acc [] h = gives-same _ _ _ (gives-some acc) (omega (arith, ints))
run_gives term v acc (x ∷ xs) h =
    gives-then (plus (Some acc) (term x)) (λ t. stepped (added term) t xs) (acc +ℤ v x) (acc +ℤ (v x +ℤ int_sum_by v xs)) (gives-plus (Some acc) (term x) acc (v x) (gives-some acc) (h x))
    (λ t e. gives-same _ _ _ (run_gives term v t xs h) (omega (arith, ints, e)))

-- a sum gives the sum of what its terms give
pub gives-summed : {X : Type 0} (term : X → Option ℤ) (v : X → ℤ) (xs : List X) → ((x : X) → Gives (term x) (v x)) → Gives (summed term xs) (int_sum_by v xs)
unfolding summed
gives-summed term v xs h = gives-same _ _ _ (run_gives term v (pos 0) xs h) (omega (arith, ints))

-- a test that answers true shows P, and one that answers false shows that P doesn't hold
pub record Settles (o : Option Bool) (P : Type 0) : Type 0 where
  pub holds : o ≡ Some true → P
  pub fails : o ≡ Some false → ¬ P

not_lt : (x y : ℤ) → not (int_lt y x) ≡ true → x ≤ℤ y
not_lt x y e = grind (arith, ints)

lt_not : (x y : ℤ) → not (int_lt y x) ≡ false → x ≤ℤ y → ⊥
lt_not x y e l = grind (arith, ints)

pub settles-at_least : (limit x : ℤ) → Settles (at_least limit x) (limit ≤ℤ x)
settles-at_least limit x = record { holds = λ e. not_lt limit x (same_Some _ _ e); fails = λ e. lt_not limit x (same_Some _ _ e) }

settles-both : (x y v w : ℤ) → x ≡ v → y ≡ w → Settles (Some (not (int_lt y x))) (v ≤ℤ w)
settles-both x y v w ex ey = record {
  holds = λ e. let l = not_lt x y (same_Some _ _ e) in omega (arith, ints, l, ex, ey);
  fails = λ e p. lt_not x y (same_Some _ _ e) (omega (arith, ints, p, ex, ey));
}

pub settles-at_most : (a b : Option ℤ) (v w : ℤ) → Gives a v → Gives b w → Settles (at_most a b) (v ≤ℤ w)
unfolding at_most
settles-at_most None b v w g h = record { holds = λ e. absurd (cc); fails = λ e p. absurd (cc) }
settles-at_most (Some x) None v w g h = record { holds = λ e. absurd (cc); fails = λ e p. absurd (cc) }
settles-at_most (Some x) (Some y) v w g h = settles-both x y v w (g.at x refl) (h.at y refl)
