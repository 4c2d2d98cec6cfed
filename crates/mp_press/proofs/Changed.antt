-- A sum over distinct numbers where one term changes.
use Rattle.std.proofs.Common.{◌≡◌, ◌==◌, ◌≢◌, ◌≤◌, ℕ, ◌+◌, ◌*◌, Bool, true, false, ◌||◌, List, [], ◌∷◌, length, sum_by, arith, refl, sym, ◌∙◌, ap, eq-eqb, eqb-true}
use Rattle.std.specs.List.{AllByRecursion, IsDistinct}
use Rattle.std.proofs.lemmas.Bool.{or_left, or_right, false≢true, true≢false}
use Rattle.std.proofs.lemmas.List.Sums.{sum_by-cons}
use Rattle.mp_model.specs.Network.{has}
use Rattle.mp_laws.proofs.Lists.{each_in, eqb-flip}
use Rattle.mp_laws.proofs.Sums.{sum_by-same_at}
use Rattle.mp_laws.proofs.Distinct.{IsAbsent}

absent_has : (x : ℕ) (ks : List ℕ) → IsAbsent x ks → has ks x ≡ false
absent_has x [] h = refl
absent_has x (k ∷ ks) h = ap (λ b. b || has ks x) (eqb-flip x k false h.0) ∙ absent_has x ks h.1

pub sum_changed : (f g : ℕ → ℕ) (k : ℕ) (ks : List ℕ) → IsDistinct ◌==◌ ks → ((i : ℕ) → has ks i ≡ true → i ≢ k → g i ≡ f i) → has ks k ≡ true → sum_by g ks + f k ≡ sum_by f ks + g k
unfolding IsDistinct
sum_changed f g k [] d same h = absurd (false≢true h)
sum_changed f g k (i ∷ ks) d same h = go (i == k) refl (sum_changed f g k ks d.1 (λ m t. same m (or_right (i == m) (has ks m) t)))
  where
    apart : i ≡ k → (m : ℕ) → has ks m ≡ true → m ≢ k
    apart s m t x = true≢false (sym t ∙ ap (has ks) (x ∙ sym s) ∙ absent_has i ks d.0)

    go : (b : Bool) → (i == k) ≡ b → (has ks k ≡ true → sum_by g ks + f k ≡ sum_by f ks + g k) → sum_by g (i ∷ ks) + f k ≡ sum_by f (i ∷ ks) + g k
    go true e more =
        let s : i ≡ k = eqb-true i k e in
        let rest : sum_by g ks ≡ sum_by f ks = sum_by-same_at g f ks (each_in (λ m. g m ≡ f m) ks (λ m t. same m (or_right (i == m) (has ks m) t) (apart s m t))) in
        let one : f i ≡ f k = ap f s in
        let two : g i ≡ g k = ap g s in
        omega (arith, sum_by-cons g i ks, sum_by-cons f i ks, rest, one, two)
    go false e more =
        let tail = more (ap (λ b. b || has ks k) (sym e) ∙ h) in
        let here : g i ≡ f i = same i (or_left (i == i) (has ks i) (eq-eqb i i refl)) (λ x. true≢false (sym (eq-eqb i k x) ∙ e)) in
        omega (arith, sum_by-cons g i ks, sum_by-cons f i ks, tail, here)

-- a sum whose terms are few
pub sum_few : (f : ℕ → ℕ) (most : ℕ) (ks : List ℕ) → AllByRecursion (λ k. f k ≤ most) ks → sum_by f ks ≤ length ks * most
sum_few f most [] h = omega arith
sum_few f most (k ∷ ks) h = omega (arith, sum_by-cons f k ks, h.0, sum_few f most ks h.1)
