-- The outcome in place.
use Rattle.std.proofs.Common.{◌≡◌, ℕ, ◌+◌, ◌-◌, ◌*◌, ◌<◌, List, [], ◌∷◌, take, drop, get_or, Option, Some, None, ℤ, pos, ◌≤ℤ◌, refl, subst, ap, sym, ◌∙◌, arith, to_z-of_z}
use Rattle.std.proofs.lemmas.List.{drop-take, take-take}
use Rattle.mp_num.specs.Fraction.{Fraction, lowest_terms}
use Rattle.mp_num.specs.Row.{entry, rows_of}
use Rattle.mp_num.proofs.TableLemmas.{rows_first}
use Rattle.mp_simplex.specs.declared.table.Table.{Table}
use Rattle.mp_simplex.specs.Running.{rows_in, HasBasis}
use Rattle.mp_simplex.specs.Tableau.{row_of}
use Rattle.mp_simplex.specs.Outcome.{denominator, primal, ray, dual, numbers_over, denominator_over, Optimal, Ray, Passes, best_outcome, endless_outcome}

pub best_none : (n m done : ℕ) (rows : List (List ℤ)) (basis : List ℕ) → denominator n m rows basis ≡ None → best_outcome m n done rows basis (denominator n m rows basis) ≡ Passes done
best_none n m done rows basis e = rw e refl

pub best_passes : (n m done : ℕ) (rows : List (List ℤ)) (basis : List ℕ) (q : ℤ) → denominator n m rows basis ≡ Some q → primal n (1 + n + m) q rows basis ≡ None → best_outcome m n done rows basis (denominator n m rows basis) ≡ Passes done
best_passes n m done rows basis q e p = rw (e, p) refl

-- The dual's slice of row 0.
pub dual_slice : (m n width : ℕ) (cells : List ℤ) → width ≡ (1 + n + m) + 1 → dual m n (rows_of (1 + m) width cells) ≡ take (width - 1 - (1 + n)) (drop (1 + n) cells)
dual_slice m n width cells w =
    let one : row_of (rows_of (1 + m) width cells) 0 ≡ take width cells = ap (λ s. get_or s 0 []) (rows_first (1 + m) width cells (omega arith)) in
    let long : width ≡ (1 + n) + (m + 1) = omega arith in
    let size : width - 1 - (1 + n) ≡ m = omega arith in
    ap (λ s. take m (drop (1 + n) s)) (one ∙ ap (λ k. take k cells) long) ∙ ap (take m) (drop-take (1 + n) (m + 1) cells) ∙ take-take m (m + 1) (drop (1 + n) cells) (omega arith) ∙ ap (λ k. take k (drop (1 + n) cells)) (sym size)

pub ruleset duals = (dual_slice)

optimum_same : (p p' y y' : List ℤ) (d d' e e' : ℤ) (v v' : Fraction) (k : ℕ) → p ≡ p' → d ≡ d' → y ≡ y' → e ≡ e' → v ≡ v' →
    Optimal (record { primal = p; primal_den = d; dual = y; dual_den = e; value = v; pivots = k }) ≡ Optimal (record { primal = p'; primal_den = d'; dual = y'; dual_den = e'; value = v'; pivots = k })
optimum_same p p' y y' d d' e e' v v' k hp hd hy he hv = rw (hp, hd, hy, he, hv) refl

pub best_optimal : (n m done : ℕ) (rows : List (List ℤ)) (basis : List ℕ) (q o top : ℤ) (x y P Y : List ℤ) (d e : ℤ) (value : Fraction) → denominator n m rows basis ≡ Some q → primal n (1 + n + m) q rows basis ≡ Some x →
    y ≡ dual m n rows → o ≡ entry (row_of rows 0) 0 → top ≡ entry (row_of rows 0) (1 + n + m) → P ≡ numbers_over x q → d ≡ denominator_over x q → Y ≡ numbers_over y o → e ≡ denominator_over y o → value ≡ lowest_terms top o →
    best_outcome m n done rows basis (denominator n m rows basis) ≡ Optimal (record { primal = P; primal_den = d; dual = Y; dual_den = e; value = value; pivots = done })
best_optimal n m done rows basis q o top x y P Y d e value hq hx hy ho ht hp hd hY he hv =
    rw (hq, hx) (optimum_same _ _ _ _ _ _ _ _ _ _ done (sym hp) (sym hd) (sym (rw (hy, ho) at hY)) (sym (rw (hy, ho) at he)) (sym (rw (ht, ho) at hv)))

pub basis_factor : (t : Table) → HasBasis t → pos 1 ≤ℤ entry (row_of (rows_in t) 0) 0
basis_factor t b = subst (λ (k : ℕ). pos 1 ≤ℤ entry (row_of (rows_in t) 0) k) b.first (b.positive 0 (omega arith))

pub ruleset bests = (to_z-of_z, best_none, best_passes, best_optimal, basis_factor)

pub endless_none : (n m done j : ℕ) (rows : List (List ℤ)) (basis : List ℕ) → denominator n m rows basis ≡ None → endless_outcome n done j rows basis (denominator n m rows basis) ≡ Passes done
endless_none n m done j rows basis e = rw e refl

pub endless_passes : (n m done j : ℕ) (rows : List (List ℤ)) (basis : List ℕ) (q : ℤ) → denominator n m rows basis ≡ Some q → ray n j q rows basis ≡ None → endless_outcome n done j rows basis (denominator n m rows basis) ≡ Passes done
endless_passes n m done j rows basis q e p = rw (e, p) refl

pub endless_goes : (n m done j : ℕ) (rows : List (List ℤ)) (basis : List ℕ) (q : ℤ) (x : List ℤ) → denominator n m rows basis ≡ Some q → ray n j q rows basis ≡ Some x → endless_outcome n done j rows basis (denominator n m rows basis) ≡ Ray x
endless_goes n m done j rows basis q x e p = rw (e, p) refl

pub ruleset endlesses = (to_z-of_z, endless_none, endless_passes, endless_goes)
