use Rattle.mp_num.specs.Row.{applied}
use Rattle.mp_num.proofs.MultipleLemmas.{lcm_divides, quotient_of}
use Rattle.std.proofs.Common.{◌≡◌, ◌≢◌, ℕ, zero, suc, ◌+◌, ◌*◌, ◌<◌, List, [], ◌∷◌, length, get_or, Option, Some, None, ℤ, pos, ◌+ℤ◌, ◌*ℤ◌, neg_ℤ, ◌≤ℤ◌, refl, ap, ap₂, sym, ◌∙◌, subst, arith, unsigned_abs, int_div, map, All, true, false, cond, nat_eq, nat_lt}
use Rattle.std.proofs.lemmas.Int.{ints}
use Rattle.std.proofs.lemmas.Nat.{mod-mul-add, div-mul-add, mul-add-lt}
use Rattle.std.proofs.lemmas.List.Elements.{All-from_get_or, All-map}
use Rattle.std.proofs.lemmas.List.{get_or-map, length-map}
use Rattle.std.proofs.lemmas.Option.{option_and_then_some, same_Some}
use Prim.Native.Nat.{◌∣◌}
use Rattle.std.proofs.Math.Nat.{dvd_trans, dvd_refl}
use Rattle.mp_num.specs.Checked.{within}
use Rattle.mp_num.specs.Divisor.{reduced}
use Rattle.mp_num.proofs.CheckedLemmas.{within_some}
use Rattle.mp_num.proofs.Ring.{diff_of, differences, diff-eq, diff-zero, mul_assocz}
use Rattle.mp_flow.specs.Elimination.{Solves, eliminated, Through, PassedAt, StuckAt, Elimination}
use Rattle.mp_flow.specs.Answers.{pivot_of, denominator, answer_at, answers, RowAnswered, Answers, solved, ended, finished, answered, stuck, kernel, kernel_found, Answer}
use Rattle.mp_flow.proofs.DiagonalLemmas.{IsCleared, cleared_eliminated, length_eliminated}
use Rattle.mp_flow.proofs.TheoremLemmas.{solves_eliminated}
use Rattle.mp_num.specs.Sums.{total}
use Rattle.mp_num.specs.Passing.{stepped, counting}
use Rattle.mp_num.specs.Row.{entry}
use Rattle.mp_num.specs.Multiple.{lcm_of}
use Rattle.mp_num.proofs.SumLemmas.{total-same, total-one, total-split, total-scale}
use Rattle.mp_num.proofs.RowLemmas.{reduced_multiple}
use Rattle.mp_num.proofs.OutcomeLemmas.{each_some, length-counting, get_or-counting}
use Rattle.mp_num.proofs.MultipleLemmas.{lcm_positive}

cross_law : (g x y : ℤ) → x *ℤ (g *ℤ y) ≡ (g *ℤ x) *ℤ y
cross_law g x y = rw (diff_of g, diff_of x, diff_of y) (simp differences (diff-eq _ _ _ _ (omega arith)))

-- d is a positive multiple of a number and of the pivots of these columns
pub record IsDenominator (js : List ℕ) (rows : List (List ℤ)) (start d : ℤ) : Type 0 where
  pub positive : pos 1 ≤ℤ d
  pub multiple : unsigned_abs start ∣ unsigned_abs d
  pub divides : (k : ℕ) → k < length js → unsigned_abs (pivot_of rows (get_or js k 0)) ∣ unsigned_abs d

divides_cons : (j : ℕ) (js : List ℕ) (rows : List (List ℤ)) (d : ℤ) → unsigned_abs (pivot_of rows j) ∣ unsigned_abs d →
    ((k : ℕ) → k < length js → unsigned_abs (pivot_of rows (get_or js k 0)) ∣ unsigned_abs d) →
    (k : ℕ) → k < length (j ∷ js) → unsigned_abs (pivot_of rows (get_or (j ∷ js) k 0)) ∣ unsigned_abs d
divides_cons j js rows d h r zero l = h
divides_cons j js rows d h r (suc k) l = r k (omega arith)

pub run_denominator : (js : List ℕ) (rows : List (List ℤ)) (start d : ℤ) → pos 1 ≤ℤ start → ((k : ℕ) → k < length js → pos 1 ≤ℤ pivot_of rows (get_or js k 0)) →
    stepped (λ d j. lcm_of d (pivot_of rows j)) start js ≡ Some d → IsDenominator js rows start d
unfolding stepped
run_denominator [] rows start d h p e = let same : start ≡ d = same_Some _ _ e in
    record { positive = subst (λ (t : ℤ). pos 1 ≤ℤ t) same h; multiple = subst (λ (t : ℤ). unsigned_abs start ∣ unsigned_abs t) same (dvd_refl (unsigned_abs start)); divides = λ k l. absurd (omega arith) }
run_denominator (j ∷ js) rows start d h p e =
    option_and_then_some _ (lcm_of start (pivot_of rows j)) d e (λ m hm e'.
    (let first : pos 1 ≤ℤ pivot_of rows j = p 0 (omega arith) in
    let two = lcm_divides start (pivot_of rows j) m hm in
    let r = run_denominator js rows m d (lcm_positive start (pivot_of rows j) m h first hm) (λ k l. p (suc k) (omega arith)) e' in
    record {
      positive = r.positive;
      multiple = dvd_trans (unsigned_abs start) two.0 r.multiple;
      divides = divides_cons j js rows d (dvd_trans (unsigned_abs (pivot_of rows j)) two.1 r.multiple) r.divides;
    }))

-- the values of right side s and the denominator in one list of values
abbrev pub extended : ℕ → ℕ → List ℤ → ℤ → ℕ → ℤ
extended n s x d k = cond (nat_lt k n) (entry x (s * n + k)) (cond (nat_eq k (n + s)) (neg_ℤ d) (pos 0))

neg_law : (r d : ℤ) → r *ℤ neg_ℤ d ≡ neg_ℤ (d *ℤ r)
neg_law r d = rw (diff_of r, diff_of d) (simp differences (diff-eq _ _ _ _ (omega arith)))

zero_times : (y : ℤ) → pos 0 *ℤ y ≡ pos 0
zero_times y = omega (arith, ints)

none_law : (x : ℤ) → x *ℤ pos 0 ≡ pos 0
none_law x = omega (arith, ints)

answered_law : (t d r : ℤ) → t +ℤ r *ℤ neg_ℤ d ≡ pos 0 → t ≡ d *ℤ r
answered_law t d r e = let m : r *ℤ neg_ℤ d ≡ neg_ℤ (d *ℤ r) = neg_law r d in omega (arith, ints, m, e)

pub extended-front : (n s : ℕ) (x : List ℤ) (d : ℤ) (k : ℕ) → k < n → extended n s x d k ≡ entry x (s * n + k)
extended-front n s x d k l = let i : nat_lt k n ≡ true = grind arith in rw i refl

pub extended-past : (n s : ℕ) (x : List ℤ) (d : ℤ) (k : ℕ) → k ≢ s → extended n s x d (n + k) ≡ pos 0
extended-past n s x d k h = let i : nat_lt (n + k) n ≡ false = grind arith in let j : nat_eq (n + k) (n + s) ≡ false = grind arith in rw (i, j) refl

pub extended-at : (n s : ℕ) (x : List ℤ) (d : ℤ) → extended n s x d (n + s) ≡ neg_ℤ d
extended-at n s x d = let i : nat_lt (n + s) n ≡ false = grind arith in let j : nat_eq (n + s) (n + s) ≡ true = grind arith in rw (i, j) refl

-- what solves the row in the extended sense answers it
pub answered_from_applied : (n rights s : ℕ) (row x : List ℤ) (d : ℤ) → s < rights → applied (n + rights) row (extended n s x d) ≡ pos 0 → RowAnswered n s row x d
answered_from_applied n rights s row x d h e =
    let f : ℕ → ℤ = λ k. entry row k *ℤ extended n s x d k in
    let front : total n f ≡ total n (λ j. entry row j *ℤ entry x (s * n + j)) = total-same n _ _ (λ k l. ap (λ t. entry row k *ℤ t) (extended-front n s x d k l)) in
    let back : total rights (λ k. f (n + k)) ≡ entry row (n + s) *ℤ neg_ℤ d =
    total-one rights s (λ k. f (n + k)) h (λ k l other. ap (λ t. entry row (n + k) *ℤ t) (extended-past n s x d k other) ∙ none_law (entry row (n + k))) ∙ ap (λ t. entry row (n + s) *ℤ t) (extended-at n s x d) in
    answered_law _ d (entry row (n + s)) (ap₂ (λ a b. a +ℤ b) (sym front) (sym back) ∙ sym (total-split n rights f) ∙ e)

value_law : (p q r : ℤ) → p *ℤ (r *ℤ q) +ℤ r *ℤ neg_ℤ (p *ℤ q) ≡ pos 0
value_law p q r = rw (diff_of p, diff_of q, diff_of r) (simp differences (diff-zero _ _ (omega arith)))

-- the answers solve the rows at the end
pub answers_solve : (n rights s : ℕ) (rows : List (List ℤ)) (x : List ℤ) (d : ℤ) → s < rights → length rows ≡ n → IsCleared n rows →
    denominator n rows ≡ Some d → answers n rights d rows ≡ Some x → (r : ℕ) → r < n → applied (n + rights) (get_or rows r []) (extended n s x d) ≡ pos 0
unfolding denominator answers answer_at
answers_solve n rights s rows x d hs ln c ed ea r hr =
    let row = get_or rows r [] in
    let y : ℕ → ℤ = extended n s x d in
    let f : ℕ → ℤ = λ k. entry row k *ℤ y k in
    let den = run_denominator (counting n 0) rows (pos 1) d (omega (arith, ints)) (λ k l. (let m : k < n = omega (arith, length-counting n 0) in
    subst (λ (j : ℕ). pos 1 ≤ℤ pivot_of rows j) (sym (get_or-counting n 0 k 0 m ∙ omega arith)) (c.diagonal k m))) ed in
    let p : ℤ = pivot_of rows r in
    let q : ℤ = int_div d p in
    let rhs : ℤ = entry row (n + s) in
    let dp : d ≡ p *ℤ q = quotient_of d p (c.diagonal r hr) (subst (λ (j : ℕ). unsigned_abs (pivot_of rows j) ∣ unsigned_abs d) (get_or-counting n 0 r 0 hr ∙ omega arith) (den.divides r (omega (arith, length-counting n 0)))) in
    let t : ℕ = s * n + r in
    let tn : t < rights * n = omega (arith, mul-add-lt s n r rights hs hr) in
    let o = each_some (answer_at n d rows) (counting (rights * n) 0) x ea in
    let at_t : get_or (counting (rights * n) 0) t 0 ≡ t = get_or-counting (rights * n) 0 t 0 tn ∙ omega arith in
    let value : entry x t ≡ rhs *ℤ q =
    within_some _ _ (sym (ap (answer_at n d rows) at_t ∙ ap₂ (λ m i. within (entry (get_or rows m []) (n + i) *ℤ int_div d (pivot_of rows m))) (mod-mul-add s n r hr) (div-mul-add s n r hr)) ∙ o.at t 0 (pos 0) (omega (arith, length-counting (rights * n) 0))) in
    let front : total n f ≡ p *ℤ (rhs *ℤ q) =
    total-one n r f hr (λ k l other. ap (λ u. u *ℤ y k) (c.zeros r k l (λ e. other (sym e)) (omega arith)) ∙ zero_times (y k))
    ∙ ap (λ u. p *ℤ u) (extended-front n s x d r hr ∙ value) in
    let back : total rights (λ k. f (n + k)) ≡ rhs *ℤ neg_ℤ (p *ℤ q) =
    total-one rights s (λ k. f (n + k)) hs (λ k l other. ap (λ u. entry row (n + k) *ℤ u) (extended-past n s x d k other) ∙ none_law (entry row (n + k)))
    ∙ ap (λ u. rhs *ℤ u) (extended-at n s x d ∙ ap neg_ℤ dp) in
    total-split n rights f ∙ ap₂ (λ a b. a +ℤ b) front back ∙ value_law p q rhs

-- the answers of an elimination that goes through solve each row of the beginning
pub solution_applied : (n rights s : ℕ) (rows final : List (List ℤ)) (x : List ℤ) (d : ℤ) → s < rights → length rows ≡ n → All (λ r. length r ≡ n + rights) rows → eliminated n 0 rows ≡ Through final →
    denominator n final ≡ Some d → answers n rights d final ≡ Some x → All (λ row. applied (n + rights) row (extended n s x d) ≡ pos 0) rows
unfolding Solves
solution_applied n rights s rows final x d hs ln widths e ed ea =
    let Z : List ℤ → Type 0 = λ r. applied (n + rights) r (extended n s x d) ≡ pos 0 in
    let none : IsCleared 0 rows = record { diagonal = λ r l. absurd (omega arith); zeros = λ r k l. absurd (omega arith) } in
    let same : 0 + n ≡ n = omega arith in
    let c : IsCleared n final = subst (λ (m : ℕ). IsCleared m final) same (cleared_eliminated (n + rights) n 0 rows final (omega arith) (omega arith) widths none e) in
    let ends : length final ≡ n = length_eliminated n 0 rows final (omega arith) e ∙ ln in
    let at_end : All Z final = All-from_get_or Z final [] (λ r l. answers_solve n rights s final x d hs ends c ed ea r (omega arith)) in
    solves_eliminated (n + rights) n 0 (extended n s x d) rows final (omega arith) widths e at_end

kernel_apart : (column : ℕ) (o : Option (List ℤ)) (x : List ℤ) (d : ℤ) → kernel_found column o ≡ Answer x d → ⊥
kernel_apart column None x d h = cc
kernel_apart column (Some k) x d h = cc

stuck_apart : (n j : ℕ) (rows : List (List ℤ)) (o : Option ℤ) (x : List ℤ) (d : ℤ) → stuck n j rows o ≡ Answer x d → ⊥
stuck_apart n j rows None x d h = cc
stuck_apart n j rows (Some e) x d h = kernel_apart (j + 1) (kernel n j e rows) x d h

answered_answer : (column : ℕ) (e : ℤ) (o : Option (List ℤ)) (x : List ℤ) (d : ℤ) → answered column e o ≡ Answer x d → (e ≡ d) × (o ≡ Some x)
answered_answer column e None x d h = absurd (cc)
answered_answer column e (Some y) x d h = (cc, cc)

finished_answer : (n rights : ℕ) (rows : List (List ℤ)) (o : Option ℤ) (x : List ℤ) (d : ℤ) → finished n rights rows o ≡ Answer x d → (o ≡ Some d) × (answers n rights d rows ≡ Some x)
finished_answer n rights rows None x d h = absurd (cc)
finished_answer n rights rows (Some e) x d h =
    let a = answered_answer (n + 1) e (answers n rights e rows) x d h in
    (ap Some a.0, ap (λ t. answers n rights t rows) (sym a.0) ∙ a.1)

pub ended_answer : (n rights : ℕ) (e : Elimination) (x : List ℤ) (d : ℤ) → ended n rights e ≡ Answer x d → (final : List (List ℤ)) × (e ≡ Through final) × (denominator n final ≡ Some d) × (answers n rights d final ≡ Some x)
ended_answer n rights (PassedAt j) x d h = absurd (cc)
ended_answer n rights (StuckAt j rows) x d h = absurd (stuck_apart n j rows (denominator j rows) x d h)
ended_answer n rights (Through rows) x d h = let f = finished_answer n rights rows (denominator n rows) x d h in (rows, refl, f.0, f.1)

reduced_solves : (width : ℕ) (y : ℕ → ℤ) (row : List ℤ) → applied width (reduced row) y ≡ pos 0 → applied width row y ≡ pos 0
reduced_solves width y row h =
    let m = reduced_multiple row in
    total-same width _ _ (λ k _. ap (λ t. t *ℤ y k) (m.1.at k) ∙ mul_assocz (pos m.0) (entry (reduced row) k) (y k))
    ∙ total-scale width (pos m.0) (λ k. entry (reduced row) k *ℤ y k) ∙ ap (λ t. pos m.0 *ℤ t) h ∙ none_law (pos m.0)

-- what the calculation of a system answers is right
pub solved_answers : (n rights : ℕ) (rows : List (List ℤ)) (x : List ℤ) (d : ℤ) → length rows ≡ n → All (λ r. length r ≡ n + rights) rows → solved n rights rows ≡ Answer x d → Answers n rights rows x d
unfolding solved
solved_answers n rights rows x d ln widths h s hs =
    let a = ended_answer n rights (eliminated n 0 (map reduced rows)) x d h in
    let W : List ℤ → Type 0 = λ r. length r ≡ n + rights in
    let Z : List ℤ → Type 0 = λ r. applied (n + rights) r (extended n s x d) ≡ pos 0 in
    let rw_widths : All W (map reduced rows) = All-map W reduced rows (λ k u l. (let m = reduced_multiple (get_or rows k u) in m.1.same_length ∙ widths k u l)) in
    let solved_rows : All Z (map reduced rows) = solution_applied n rights s (map reduced rows) a.0 x d hs (length-map rows reduced ∙ ln) rw_widths a.1 a.2 a.3 in
    λ k u l. answered_from_applied n rights s (get_or rows k u) x d hs
    (reduced_solves (n + rights) (extended n s x d) (get_or rows k u)
    (subst Z (get_or-map reduced rows k u u l) (solved_rows k u (omega (arith, length-map rows reduced)))))
