use Rattle.mp_num.proofs.MultipleLemmas.{quotient_of}
use Rattle.std.proofs.Common.{◌≡◌, ◌≢◌, ℕ, ◌<◌, ◌≤◌, List, [], length, get_or, Some, option_and_then, ℤ, pos, ◌+ℤ◌, ◌-ℤ◌, ◌*ℤ◌, ◌≤ℤ◌, refl, ap, ap₂, sym, ◌∙◌, subst, arith, unsigned_abs, int_div, inl, inr, Bool, true, false, cond, nat_eq, nat_lt}
use Prim.Native.Nat.{◌∣◌}
use Rattle.std.proofs.lemmas.Int.{ints}
use Rattle.std.proofs.lemmas.Bool.{cases_eq, cases_lt}
use Rattle.std.proofs.lemmas.Option.{option_and_then_some, same_Some}
use Rattle.mp_num.specs.Checked.{within}
use Rattle.mp_num.proofs.CheckedLemmas.{within_some}
use Rattle.mp_num.proofs.Ring.{diff_of, differences, diff-eq, pos_diff}
use Rattle.mp_flow.specs.Answers.{pivot_of, denominator, kernel_at, kernel}
use Rattle.mp_flow.proofs.DiagonalLemmas.{IsCleared}
use Rattle.mp_flow.proofs.KernelLemmas.{kernel_later, kernel_here}
use Rattle.mp_flow.proofs.SolutionLemmas.{run_denominator}
use Rattle.mp_num.specs.Sums.{total}
use Rattle.mp_num.specs.Passing.{counting}
use Rattle.mp_num.specs.Row.{entry}
use Rattle.mp_num.proofs.SumLemmas.{total-same, total-one, total-zero, total-plus}
use Rattle.mp_num.proofs.OutcomeLemmas.{each_some, length-counting, get_or-counting}

kernel_before : (j : ℕ) (d : ℤ) (rows : List (List ℤ)) (i : ℕ) (v : ℤ) → i < j → kernel_at j d rows i ≡ Some v → v ≡ pos 0 -ℤ entry (get_or rows i []) j *ℤ int_div d (pivot_of rows i)
unfolding kernel_at
kernel_before j d rows i v h e =
    let a : nat_lt i j ≡ true = grind arith in
    let P = λ (b : Bool). cond b (option_and_then (λ v. within (pos 0 -ℤ v)) (within (entry (get_or rows i []) j *ℤ int_div d (pivot_of rows i)))) (cond (nat_eq i j) (Some d) (Some (pos 0))) ≡ Some v in
    option_and_then_some _ _ v (subst P a e) (λ u hu e'. within_some _ v e' ∙ ap (λ t. pos 0 -ℤ t) (within_some _ u hu))

value_law : (p q e : ℤ) → p *ℤ (pos 0 -ℤ e *ℤ q) +ℤ e *ℤ (p *ℤ q) ≡ pos 0
value_law p q e = rw (pos_diff 0, diff_of p, diff_of q, diff_of e) (simp differences (diff-eq _ _ _ _ (omega arith)))

split_law : (x y z : ℤ) → x ≡ y → z ≡ pos 0 → x +ℤ z ≡ y
split_law x y z e h = omega (arith, ints, e, h)

times_zero : (x : ℤ) → x *ℤ pos 0 ≡ pos 0
times_zero x = omega (arith, ints)

zero_times : (y : ℤ) → pos 0 *ℤ y ≡ pos 0
zero_times y = omega (arith, ints)

-- two values that may not be 0
total-two : (n i j : ℕ) (f : ℕ → ℤ) → i < n → j < n → i ≢ j → ((k : ℕ) → k < n → k ≢ i → k ≢ j → f k ≡ pos 0) → total n f ≡ f i +ℤ f j
total-two n i j f hi hj apart zero_else =
    let g : ℕ → ℤ = λ k. cond (nat_eq k i) (f k) (pos 0) in
    let h : ℕ → ℤ = λ k. cond (nat_eq k i) (pos 0) (f k) in
    let parts : (k : ℕ) → f k ≡ g k +ℤ h k = λ k. (elim (nat_eq k i) as (λ b. f k ≡ cond b (f k) (pos 0) +ℤ cond b (pos 0) (f k)) [ true ↦ omega (arith, ints) | false ↦ omega (arith, ints) ]) in
    let same_i : nat_eq i i ≡ true = grind arith in
    let diff_j : nat_eq j i ≡ false = grind arith in
    let gi : total n g ≡ f i = total-one n i g hi (λ k l other. (let t : nat_eq k i ≡ false = grind arith in rw t refl)) ∙ rw same_i refl in
    let hj' : total n h ≡ f j = total-one n j h hj (λ k l other. (elim (cases_eq k i) [ inl same ↦ (let t : nat_eq k i ≡ true = grind arith in rw t refl) | inr differ ↦ (let t : nat_eq k i ≡ false = grind arith in rw t (zero_else k l differ other)) ])) ∙ rw diff_j refl in
    total-same n f (λ k. g k +ℤ h k) (λ k _. parts k) ∙ total-plus n g h ∙ ap₂ (λ a b. a +ℤ b) gi hj'

-- no row from row j on has a number at column j
pub record IsStuck (j : ℕ) (rows : List (List ℤ)) : Type 0 where
  pub none : (r : ℕ) → j ≤ r → r < length rows → entry (get_or rows r []) j ≡ pos 0

-- the kernel's values solve each row of a table that is stuck
pub kernel_solves : (n j : ℕ) (rows : List (List ℤ)) (x : List ℤ) (d : ℤ) → j < n → length rows ≡ n → IsCleared j rows → IsStuck j rows →
    denominator j rows ≡ Some d → kernel n j d rows ≡ Some x → (r : ℕ) → r < n → total n (λ k. entry (get_or rows r []) k *ℤ entry x k) ≡ pos 0
unfolding denominator kernel
kernel_solves n j rows x d hj ln c s ed ek r hr =
    let row = get_or rows r [] in
    let den = run_denominator (counting j 0) rows (pos 1) d (omega (arith, ints)) (λ k l. (let m : k < j = omega (arith, length-counting j 0) in
    subst (λ (i : ℕ). pos 1 ≤ℤ pivot_of rows i) (sym (get_or-counting j 0 k 0 m ∙ omega arith)) (c.diagonal k m))) ed in
    let o = each_some (kernel_at j d rows) (counting n 0) x ek in
    let at : (k : ℕ) → k < n → kernel_at j d rows k ≡ Some (entry x k) = λ k l. ap (kernel_at j d rows) (sym (get_or-counting n 0 k 0 l ∙ omega arith)) ∙ o.at k 0 (pos 0) (omega (arith, length-counting n 0)) in
    let here : entry x j ≡ d = same_Some _ _ (sym (at j hj) ∙ kernel_here j d rows j refl) in
    let later : (k : ℕ) → j < k → k < n → entry x k ≡ pos 0 = λ k l m. same_Some _ _ (sym (at k m) ∙ kernel_later j d rows k l) in
    elim (cases_lt r j) [
      | inl early ↦
          (let p : ℤ = pivot_of rows r in
          let q : ℤ = int_div d p in
          let dp : d ≡ p *ℤ q = quotient_of d p (c.diagonal r early) (subst (λ (i : ℕ). unsigned_abs (pivot_of rows i) ∣ unsigned_abs d) (get_or-counting j 0 r 0 early ∙ omega arith) (den.divides r (omega (arith, length-counting j 0)))) in
          let value : entry x r ≡ pos 0 -ℤ entry row j *ℤ q = kernel_before j d rows r (entry x r) early (at r hr) in
          total-two n r j (λ k. entry row k *ℤ entry x k) hr hj (omega arith)
          (λ k l other apart. (elim (cases_lt k j) [
            | inl low ↦ ap (λ t. t *ℤ entry x k) (c.zeros r k low (λ e. other (sym e)) (omega arith)) ∙ zero_times (entry x k)
            | inr high ↦ ap (λ t. entry row k *ℤ t) (later k (omega arith) l) ∙ times_zero (entry row k)
          ]))
          ∙ ap₂ (λ u v. p *ℤ u +ℤ entry row j *ℤ v) value (here ∙ dp) ∙ value_law p q (entry row j))
      | inr late ↦ total-zero n (λ k. entry row k *ℤ entry x k) (λ k l. (elim (cases_lt k j) [
        | inl low ↦ ap (λ t. t *ℤ entry x k) (c.zeros r k low (omega arith) (omega arith)) ∙ zero_times (entry x k)
        | inr high ↦ elim (cases_eq k j) [
          | inl same ↦ rw same (ap (λ t. t *ℤ entry x j) (s.none r late (omega arith)) ∙ zero_times (entry x j))
          | inr other ↦ ap (λ t. entry row k *ℤ t) (later k (omega arith) l) ∙ times_zero (entry row k)
        ]
      ]))
    ]
