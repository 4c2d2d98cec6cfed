-- The check in place.
use Rattle.std.proofs.Common.{Bool, true, false, ◌&&◌, zero-add, int_eq, ◌≡◌, ◌≢◌, ℕ, zero, suc, ◌+◌, ◌-◌, ◌*◌, ◌<◌, ◌≤◌, List, ◌∷◌, length, drop, get_or, Option, Some, None, option_map, option_and_then, ℤ, pos, ◌+ℤ◌, ◌*ℤ◌, ◌≤ℤ◌, refl, ap, ap₂, sym, ◌∙◌, subst, arith, to_z-of_z}
use Rattle.std.proofs.lemmas.List.{drop_more, drop_all}
use Rattle.std.proofs.lemmas.Nat.{mul-add-lt}
use Rattle.std.proofs.Math.Nat.{mul-one}
use Rattle.mp_num.specs.Checked.{within}
use Rattle.mp_num.specs.Passing.{stepped, counting}
use Rattle.mp_num.specs.Row.{entry}
use Rattle.mp_num.proofs.OutcomeLemmas.{length-counting, get_or-counting, run_cons}
use Rattle.mp_simplex.specs.Checking.{all_hold, and_then, both, has_value, same_products, product_added, plus_term, dot, HasTerms}

pub record Summing (count : ℕ) (u v : ℕ → ℤ) (k : ℕ) (sum : ℤ) : Type 0 where
  pub rest : dot count u v ≡ stepped (plus_term u v) sum (drop k (counting count 0))

pub summing_start : (count : ℕ) (u v : ℕ → ℤ) → Summing count u v 0 (pos 0)
unfolding dot
summing_start count u v = record { rest = refl }

summing_at : (count : ℕ) (u v : ℕ → ℤ) (k : ℕ) (sum : ℤ) → Summing count u v k sum → k < count → dot count u v ≡ option_and_then (λ t. stepped (plus_term u v) t (drop (k + 1) (counting count 0))) (plus_term u v sum k)
summing_at count u v k sum s h =
    let at : get_or (counting count 0) k 0 ≡ k = get_or-counting count 0 k 0 h ∙ omega arith in
    s.rest ∙ ap (stepped (plus_term u v) sum) (drop_more (counting count 0) k 0 (omega (arith, length-counting count 0)) ∙ ap (λ m. m ∷ drop (k + 1) (counting count 0)) at) ∙ run_cons _ sum k _

pub summing_more : (count : ℕ) (u v : ℕ → ℤ) (k : ℕ) (sum next : ℤ) → Summing count u v k sum → k < count → product_added sum (u k) (v k) ≡ Some next → Summing count u v (k + 1) next
summing_more count u v k sum next s h e = record { rest = summing_at count u v k sum s h ∙ rw e refl }

pub summing_passes : (count : ℕ) (u v : ℕ → ℤ) (k : ℕ) (sum : ℤ) → Summing count u v k sum → k < count → product_added sum (u k) (v k) ≡ None → dot count u v ≡ None
summing_passes count u v k sum s h e = summing_at count u v k sum s h ∙ rw e refl

pub summing_end : (count : ℕ) (u v : ℕ → ℤ) (k : ℕ) (sum : ℤ) → Summing count u v k sum → count ≤ k → dot count u v ≡ Some sum
unfolding stepped
summing_end count u v k sum s h = s.rest ∙ rw (drop_all k (counting count 0) (omega (arith, length-counting count 0))) refl

pub term_inside : (size start step count k : ℕ) → HasTerms size start step count → k < count → start + k * step < size
term_inside size start step count k h l = h.at k l

pub ruleset sums = (to_z-of_z, summing_start, summing_more, summing_passes, summing_end, term_inside)

pub row_terms : (m n i : ℕ) → i < m → HasTerms (m * n) (i * n) 1 n
row_terms m n i h = record { at = λ k l. omega (arith, mul-add-lt i n k m h l) }

pub column_terms : (m n k : ℕ) → k < n → HasTerms (m * n) k n m
column_terms m n k h = record { at = λ i l. omega (arith, mul-add-lt i n k m l h) }

pub plain_terms : (n : ℕ) → HasTerms n 0 1 n
plain_terms n = record { at = λ k l. omega arith }

pub ruleset rows = (to_z-of_z, row_terms)

pub ruleset columns = (to_z-of_z, column_terms)

value_goes : (n : ℕ) (c x : List ℤ) (d num den sum : ℤ) → dot n (entry c) (entry x) ≡ Some sum → has_value n c x d num den ≡ same_products (within (sum *ℤ den)) (within (num *ℤ d))
unfolding has_value
value_goes n c x d num den sum e = rw e refl

pub value_is : (n : ℕ) (c x : List ℤ) (d num den sum : ℤ) → dot n (λ k. entry c (0 + k * 1)) (entry x) ≡ Some sum → has_value n c x d num den ≡ same_products (within (sum *ℤ den)) (within (num *ℤ d))
value_is n c x d num den sum e = value_goes n c x d num den sum (simp (mul-one, zero-add) at e)

pub ruleset values = (to_z-of_z, plain_terms, value_is)

pub same_first_none : (o p : Option ℤ) → o ≡ None → same_products o p ≡ None
same_first_none o p e = rw e refl

pub same_second_none : (o p : Option ℤ) (l : ℤ) → o ≡ Some l → p ≡ None → same_products o p ≡ None
same_second_none o p l e f = rw (e, f) refl

pub same_both : (o p : Option ℤ) (l r : ℤ) → o ≡ Some l → p ≡ Some r → same_products o p ≡ Some (int_eq l r)
same_both o p l r e f = rw (e, f) refl

pub ruleset sames = (to_z-of_z, same_first_none, same_second_none, same_both)

-- the flags so far
pub record Holding (f : ℕ → Option Bool) (count k : ℕ) (ok : Bool) : Type 0 where
  pub rest : all_hold f count ≡ stepped (and_then f) ok (drop k (counting count 0))

pub holding_start : (f : ℕ → Option Bool) (count : ℕ) → Holding f count 0 true
unfolding all_hold
holding_start f count = record { rest = refl }

holding_at : (f : ℕ → Option Bool) (count k : ℕ) (ok : Bool) → Holding f count k ok → k < count → all_hold f count ≡ option_and_then (λ t. stepped (and_then f) t (drop (k + 1) (counting count 0))) (and_then f ok k)
holding_at f count k ok s h =
    let at : get_or (counting count 0) k 0 ≡ k = get_or-counting count 0 k 0 h ∙ omega arith in
    s.rest ∙ ap (stepped (and_then f) ok) (drop_more (counting count 0) k 0 (omega (arith, length-counting count 0)) ∙ ap (λ m. m ∷ drop (k + 1) (counting count 0)) at) ∙ run_cons _ ok k _

pub holding_more : (f : ℕ → Option Bool) (count k : ℕ) (ok next : Bool) → Holding f count k ok → k < count → both (Some ok) (f k) ≡ Some next → Holding f count (k + 1) next
holding_more f count k ok next s h e = record { rest = holding_at f count k ok s h ∙ ap (option_and_then (λ t. stepped (and_then f) t (drop (k + 1) (counting count 0)))) e }

pub holding_passes : (f : ℕ → Option Bool) (count k : ℕ) (ok : Bool) → Holding f count k ok → k < count → both (Some ok) (f k) ≡ None → all_hold f count ≡ None
holding_passes f count k ok s h e = holding_at f count k ok s h ∙ ap (option_and_then (λ t. stepped (and_then f) t (drop (k + 1) (counting count 0)))) e

pub holding_end : (f : ℕ → Option Bool) (count k : ℕ) (ok : Bool) → Holding f count k ok → count ≤ k → all_hold f count ≡ Some ok
unfolding stepped
holding_end f count k ok s h = s.rest ∙ rw (drop_all k (counting count 0) (omega (arith, length-counting count 0))) refl

pub ruleset alls = (to_z-of_z, holding_start, holding_more, holding_passes, holding_end)
