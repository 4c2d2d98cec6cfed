-- What is read off in place.
use Rattle.std.proofs.Common.{◌≡◌, ◌≢◌, ℕ, zero, suc, ◌+◌, ◌-◌, ◌*◌, ◌<◌, ◌≤◌, List, [], ◌∷◌, ◌++◌, length, take, drop, get_or, Option, Some, None, option_map, option_and_then, ℤ, pos, ◌-ℤ◌, ◌*ℤ◌, ◌≤ℤ◌, Bool, true, false, refl, ap, ap₂, sym, ◌∙◌, subst, arith, to_z-of_z, nat_eq, nat_lt, position, int_div, length-append, rules, IfSome}
use Rattle.std.proofs.lemmas.Int.{ints}
use Rattle.std.proofs.lemmas.List.{drop_more, drop_all, get_or_default}
use Rattle.mp_num.specs.Checked.{within}
use Rattle.mp_num.specs.Divisor.{reduced}
use Rattle.mp_num.specs.Multiple.{lcm_of}
use Rattle.mp_num.specs.Passing.{stepped, counting}
use Rattle.mp_num.specs.Row.{entry}
use Rattle.mp_num.proofs.OutcomeLemmas.{length-counting, get_or-counting, run_cons}
use Rattle.mp_num.proofs.MultipleLemmas.{lcm_positive}
use Rattle.mp_num.proofs.PassingLemmas.{before_nil, Pushing, pushing_start, pushing_more, pushing_passes, pushing_end}
use Rattle.mp_simplex.specs.declared.table.Table.{Table}
use Rattle.mp_simplex.specs.Running.{rows_in, right_in, HasBasis}
use Rattle.mp_simplex.specs.Tableau.{row_of}
use Rattle.mp_simplex.specs.Outcome.{scaled, denominator, basic_row, part_of, numbers_over, denominator_over, primal_at, primal, ray_at, ray}
use Rattle.mp_simplex.proofs.BasicLemmas.{found_basic}
use Rattle.mp_simplex.proofs.PivotLemmas.{length-reduced}

-- ---- the denominator
pub scaled_slack : (n : ℕ) (rows : List (List ℤ)) (basis : List ℕ) (q : ℤ) (r : ℕ) → n < get_or basis r 0 → scaled n rows basis q r ≡ Some q
scaled_slack n rows basis q r h = let t : nat_lt n (get_or basis r 0) ≡ true = grind (arith, h) in rw t refl

pub scaled_column : (n : ℕ) (rows : List (List ℤ)) (basis : List ℕ) (q : ℤ) (r : ℕ) → get_or basis r 0 ≤ n → scaled n rows basis q r ≡ lcm_of q (entry (row_of rows r) (get_or basis r 0))
scaled_column n rows basis q r l = let t : nat_lt n (get_or basis r 0) ≡ false = grind (arith, l) in rw t refl

pub basis_positive : (t : Table) (r : ℕ) → HasBasis t → r < 1 + t.constraints → pos 1 ≤ℤ entry (row_of (rows_in t) r) (get_or t.basis.items r 0)
basis_positive t r b h = b.positive r h

pub basis_inside : (t : Table) (r : ℕ) → HasBasis t → r < 1 + t.constraints → get_or t.basis.items r 0 < t.width
basis_inside t r b h = b.inside r h

pub scale_entry : (t : Table) (r k : ℕ) (e : ℤ) → HasBasis t → r < 1 + t.constraints → k ≡ get_or t.basis.items r k → e ≡ entry (row_of (rows_in t) r) k → pos 1 ≤ℤ e
scale_entry t r k e b h ek ee =
    let l : r < length t.basis.items = omega (arith, t.based) in
    let at : k ≡ get_or t.basis.items r 0 = ek ∙ get_or_default t.basis.items r k 0 l in
    rw (ee, at) (b.positive r h)

pub scale_positive : (o : Option ℤ) (q e : ℤ) → o ≡ lcm_of q e → pos 1 ≤ℤ q → pos 1 ≤ℤ e → IfSome o (λ p. pos 1 ≤ℤ p)
scale_positive None q e v h l = search rules
scale_positive (Some p) q e v h l = let r : pos 1 ≤ℤ p = lcm_positive q e p h l (sym v) in search rules

pub ruleset scales = (to_z-of_z, scaled_slack, scaled_column, basis_positive, basis_inside, scale_positive)

pub record Scaling (n m : ℕ) (rows : List (List ℤ)) (basis : List ℕ) (r : ℕ) (q : ℤ) : Type 0 where
  pub rest : denominator n m rows basis ≡ stepped (scaled n rows basis) q (drop (r - 1) (counting m 1))
  pub from_one : 1 ≤ r
  pub positive : pos 1 ≤ℤ q

pub scaling_start : (n m : ℕ) (rows : List (List ℤ)) (basis : List ℕ) → Scaling n m rows basis 1 (pos 1)
unfolding denominator
scaling_start n m rows basis = record { rest = refl; from_one = omega arith; positive = omega (arith, ints) }

scaling_at : (n m : ℕ) (rows : List (List ℤ)) (basis : List ℕ) (r : ℕ) (q : ℤ) → Scaling n m rows basis r q → r < 1 + m →
    denominator n m rows basis ≡ option_and_then (λ t. stepped (scaled n rows basis) t (drop (r + 1 - 1) (counting m 1))) (scaled n rows basis q r)
scaling_at n m rows basis r q s h =
    let one : 1 ≤ r = s.from_one in
    let l : r - 1 < length (counting m 1) = omega (arith, length-counting m 1) in
    let at : get_or (counting m 1) (r - 1) 0 ≡ r = get_or-counting m 1 (r - 1) 0 (omega arith) ∙ omega arith in
    let next : r - 1 + 1 ≡ r + 1 - 1 = omega arith in
    s.rest ∙ ap (stepped (scaled n rows basis) q) (drop_more (counting m 1) (r - 1) 0 l ∙ ap₂ (λ m' k. m' ∷ drop k (counting m 1)) at next) ∙ run_cons _ q r _

pub scaling_more : (n m : ℕ) (rows : List (List ℤ)) (basis : List ℕ) (r : ℕ) (q p : ℤ) → Scaling n m rows basis r q → r < 1 + m → scaled n rows basis q r ≡ Some p → pos 1 ≤ℤ p → Scaling n m rows basis (r + 1) p
scaling_more n m rows basis r q p s h e l = record { rest = scaling_at n m rows basis r q s (omega arith) ∙ rw e refl; from_one = omega arith; positive = l }

pub scaling_passes : (n m : ℕ) (rows : List (List ℤ)) (basis : List ℕ) (r : ℕ) (q : ℤ) → Scaling n m rows basis r q → r < 1 + m → scaled n rows basis q r ≡ None → denominator n m rows basis ≡ None
scaling_passes n m rows basis r q s h e = scaling_at n m rows basis r q s (omega arith) ∙ rw e refl

pub scaling_end : (n m : ℕ) (rows : List (List ℤ)) (basis : List ℕ) (r : ℕ) (q : ℤ) → Scaling n m rows basis r q → m < r → denominator n m rows basis ≡ Some q
unfolding stepped
scaling_end n m rows basis r q s h = s.rest ∙ rw (drop_all (r - 1) (counting m 1) (omega (arith, length-counting m 1))) refl

pub ruleset denominators = (to_z-of_z, scaling_start, scaling_more, scaling_passes, scaling_end)

-- ---- the values
pub primal_none : (right k : ℕ) (q : ℤ) (rows : List (List ℤ)) (basis : List ℕ) → basic_row k basis ≡ None → primal_at right q rows basis k ≡ Some (pos 0)
unfolding primal_at
primal_none right k q rows basis e = rw e refl

pub primal_some : (right k r : ℕ) (q : ℤ) (rows : List (List ℤ)) (basis : List ℕ) → basic_row k basis ≡ Some r → primal_at right q rows basis k ≡ part_of q (entry (row_of rows r) right) (entry (row_of rows r) k)
unfolding primal_at
primal_some right k r q rows basis e = rw e refl

pub found_row_inside : (t : Table) (k r : ℕ) → length t.basis.items ≡ 1 + t.constraints → basic_row k t.basis.items ≡ Some r → r < 1 + t.constraints
found_row_inside t k r l e = omega (arith, (found_basic t.basis.items k r e).0)

pub found_inside : (t : Table) (k r : ℕ) → length t.basis.items ≡ 1 + t.constraints → HasBasis t → basic_row k t.basis.items ≡ Some r → k < t.width
found_inside t k r l b e = omega (arith, (found_basic t.basis.items k r e).1, b.inside r (found_row_inside t k r l e))

pub found_positive : (t : Table) (k r : ℕ) → length t.basis.items ≡ 1 + t.constraints → HasBasis t → basic_row k t.basis.items ≡ Some r → pos 1 ≤ℤ entry (row_of (rows_in t) r) k
found_positive t k r l b e = subst (λ (m : ℕ). pos 1 ≤ℤ entry (row_of (rows_in t) r) m) (found_basic t.basis.items k r e).1 (b.positive r (found_row_inside t k r l e))

pub right_last : (t : Table) → t.columns + t.constraints + 1 ≡ right_in t
right_last t = omega arith

pub ruleset parts = (to_z-of_z)

pub ruleset values = (to_z-of_z, primal_none, primal_some, found_row_inside, found_inside, found_positive, right_last)

pub primal_start : (right n : ℕ) (q : ℤ) (rows : List (List ℤ)) (basis : List ℕ) → Pushing (primal_at right q rows basis) n 1 [] 0 []
primal_start right n q rows basis = pushing_start (primal_at right q rows basis) n 1 []

pub primal_more : (right n : ℕ) (q : ℤ) (rows : List (List ℤ)) (basis : List ℕ) (k : ℕ) (x : List ℤ) (v : ℤ) → Pushing (primal_at right q rows basis) n 1 [] k x → k < n → primal_at right q rows basis (k + 1) ≡ Some v →
    Pushing (primal_at right q rows basis) n 1 [] (k + 1) (x ++ v ∷ [])
primal_more right n q rows basis k x v s h e = pushing_more (primal_at right q rows basis) n 1 [] k (k + 1) x v s h (omega arith) e

pub primal_passes : (right n : ℕ) (q : ℤ) (rows : List (List ℤ)) (basis : List ℕ) (k : ℕ) (x : List ℤ) → Pushing (primal_at right q rows basis) n 1 [] k x → k < n → primal_at right q rows basis (k + 1) ≡ None → primal n right q rows basis ≡ None
unfolding primal
primal_passes right n q rows basis k x s h e = sym (before_nil _) ∙ pushing_passes (primal_at right q rows basis) n 1 [] k (k + 1) x s h (omega arith) e

pub primal_end : (right n : ℕ) (q : ℤ) (rows : List (List ℤ)) (basis : List ℕ) (k : ℕ) (x : List ℤ) → Pushing (primal_at right q rows basis) n 1 [] k x → n ≤ k → primal n right q rows basis ≡ Some x
unfolding primal
primal_end right n q rows basis k x s h = sym (before_nil _) ∙ pushing_end (primal_at right q rows basis) n 1 [] k x s h

pub ruleset primals = (to_z-of_z, primal_start, primal_more, primal_passes, primal_end)

pub ray_here : (j k : ℕ) (q : ℤ) (rows : List (List ℤ)) (basis : List ℕ) → basic_row k basis ≡ None → k ≡ j → ray_at j q rows basis k ≡ Some q
unfolding ray_at
ray_here j k q rows basis e h = let t : nat_eq k j ≡ true = grind (arith, h) in rw (e, t) refl

pub ray_elsewhere : (j k : ℕ) (q : ℤ) (rows : List (List ℤ)) (basis : List ℕ) → basic_row k basis ≡ None → k ≢ j → ray_at j q rows basis k ≡ Some (pos 0)
unfolding ray_at
ray_elsewhere j k q rows basis e h = let t : nat_eq k j ≡ false = grind (arith, h) in rw (e, t) refl

pub ray_fails : (j k r : ℕ) (q : ℤ) (rows : List (List ℤ)) (basis : List ℕ) → basic_row k basis ≡ Some r → part_of q (entry (row_of rows r) j) (entry (row_of rows r) k) ≡ None → ray_at j q rows basis k ≡ None
unfolding ray_at
ray_fails j k r q rows basis e v = rw (e, v) refl

pub ray_goes : (j k r : ℕ) (q : ℤ) (rows : List (List ℤ)) (basis : List ℕ) (x : ℤ) → basic_row k basis ≡ Some r → part_of q (entry (row_of rows r) j) (entry (row_of rows r) k) ≡ Some x → ray_at j q rows basis k ≡ within (pos 0 -ℤ x)
unfolding ray_at
ray_goes j k r q rows basis x e v = rw (e, v) refl

pub ruleset changes = (to_z-of_z, ray_here, ray_elsewhere, ray_fails, ray_goes, found_row_inside, found_inside, found_positive)

pub ray_start : (j n : ℕ) (q : ℤ) (rows : List (List ℤ)) (basis : List ℕ) → Pushing (ray_at j q rows basis) n 1 [] 0 []
ray_start j n q rows basis = pushing_start (ray_at j q rows basis) n 1 []

pub ray_more : (j n : ℕ) (q : ℤ) (rows : List (List ℤ)) (basis : List ℕ) (k : ℕ) (x : List ℤ) (v : ℤ) → Pushing (ray_at j q rows basis) n 1 [] k x → k < n → ray_at j q rows basis (k + 1) ≡ Some v →
    Pushing (ray_at j q rows basis) n 1 [] (k + 1) (x ++ v ∷ [])
ray_more j n q rows basis k x v s h e = pushing_more (ray_at j q rows basis) n 1 [] k (k + 1) x v s h (omega arith) e

pub ray_passes : (j n : ℕ) (q : ℤ) (rows : List (List ℤ)) (basis : List ℕ) (k : ℕ) (x : List ℤ) → Pushing (ray_at j q rows basis) n 1 [] k x → k < n → ray_at j q rows basis (k + 1) ≡ None → ray n j q rows basis ≡ None
unfolding ray
ray_passes j n q rows basis k x s h e = sym (before_nil _) ∙ pushing_passes (ray_at j q rows basis) n 1 [] k (k + 1) x s h (omega arith) e

pub ray_end : (j n : ℕ) (q : ℤ) (rows : List (List ℤ)) (basis : List ℕ) (k : ℕ) (x : List ℤ) → Pushing (ray_at j q rows basis) n 1 [] k x → n ≤ k → ray n j q rows basis ≡ Some x
unfolding ray
ray_end j n q rows basis k x s h = sym (before_nil _) ∙ pushing_end (ray_at j q rows basis) n 1 [] k x s h

pub ruleset rays = (to_z-of_z, ray_start, ray_more, ray_passes, ray_end)

-- ---- reduced together
pub numbers_cut : (x y : List ℤ) (q : ℤ) → y ≡ reduced (x ++ q ∷ []) → take (length x) y ≡ numbers_over x q
unfolding numbers_over
numbers_cut x y q e = ap (take (length x)) e

pub whole_length : (x y : List ℤ) (q : ℤ) → y ≡ reduced (x ++ q ∷ []) → length y ≡ length x + 1
whole_length x y q e = ap length e ∙ length-reduced (x ++ q ∷ []) ∙ length-append x (q ∷ [])

pub denominator_cut : (x y : List ℤ) (q d : ℤ) (n : ℕ) → y ≡ reduced (x ++ q ∷ []) → n ≡ length x → d ≡ get_or y n d → d ≡ denominator_over x q
unfolding denominator_over
denominator_cut x y q d n e l h =
    let inside : n < length y = omega (arith, whole_length x y q e) in
    h ∙ get_or_default y n d (pos 0) inside ∙ ap₂ (λ s k. get_or s k (pos 0)) e l

pub ruleset togethers = (to_z-of_z, numbers_cut, whole_length)
