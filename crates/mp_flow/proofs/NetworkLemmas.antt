-- One solution of each of the two systems, and none that is negative.
use Rattle.std.proofs.Common.{◌≡◌, ℕ, zero, suc, ◌+◌, ◌*◌, ◌<◌, ◌≤◌, ℤ, pos, negsuc, ◌+ℤ◌, ◌-ℤ◌, ◌*ℤ◌, neg_ℤ, ◌≤ℤ◌, ap, ap₂, sym, ◌∙◌, arith, unsigned_abs}
use Rattle.std.proofs.lemmas.Int.{ints, unsigned_abs-mul}
use Rattle.mp_flow.proofs.RouteLemmas.{sum_below, IsRouting, covered_by_inflow, covered_by_next, sum-same}
use Rattle.mp_num.proofs.Ring.{diff_of, differences, diff-eq}
use Rattle.mp_num.proofs.SumLemmas.{total-same, total-combine}
use Rattle.mp_num.specs.Sums.{total}

abs_plus : (a b : ℤ) → unsigned_abs (a +ℤ b) ≤ unsigned_abs a + unsigned_abs b
abs_plus (pos m) (pos n) = omega (arith, ints)
abs_plus (pos m) (negsuc n) = omega (arith, ints)
abs_plus (negsuc m) (pos n) = omega (arith, ints)
abs_plus (negsuc m) (negsuc n) = omega (arith, ints)

-- the size of a sum is at most the sum of the sizes
pub abs_total : (n : ℕ) (f : ℕ → ℤ) → unsigned_abs (total n f) ≤ sum_below n (λ k. unsigned_abs (f k))
abs_total zero f = omega arith
abs_total (suc n) f = omega (arith, abs_plus (total n f) (f n), abs_total n f)

-- how far a number is below 0
abbrev pub lack : ℤ → ℕ
lack (pos n) = 0
lack (negsuc n) = suc n

scaled_lack : (s : ℕ) (z : ℤ) → neg_ℤ (pos s *ℤ z) ≤ℤ pos (s * lack z)
scaled_lack s (pos n) = omega (arith, ints)
scaled_lack s (negsuc n) = omega (arith, ints)

pub lack_total : (n : ℕ) (s : ℕ → ℕ) (f : ℕ → ℤ) → neg_ℤ (total n (λ k. pos (s k) *ℤ f k)) ≤ℤ pos (sum_below n (λ k. s k * lack (f k)))
lack_total zero s f = omega (arith, ints)
lack_total (suc n) s f = omega (arith, ints, lack_total n s f, scaled_lack (s n) (f n))

zero_abs : (x : ℤ) → unsigned_abs x ≡ 0 → x ≡ pos 0
zero_abs (pos n) e = ap pos e
zero_abs (negsuc n) e = absurd (omega arith)

zero_lack : (x : ℤ) → lack x ≡ 0 → pos 0 ≤ℤ x
zero_lack (pos n) e = omega (arith, ints)
zero_lack (negsuc n) e = absurd (omega arith)

-- a sum that a multiple equals covers the multiple of the size
abs_covered : (n whole : ℕ) (s : ℕ → ℕ) (x : ℤ) (z : ℕ → ℤ) → pos whole *ℤ x ≡ total n (λ l. pos (s l) *ℤ z l) → whole * unsigned_abs x ≤ sum_below n (λ l. s l * unsigned_abs (z l))
abs_covered n whole s x z e =
    let size : whole * unsigned_abs x ≡ unsigned_abs (total n (λ l. pos (s l) *ℤ z l)) = sym (unsigned_abs-mul (pos whole) x) ∙ ap unsigned_abs e in
    let terms : sum_below n (λ l. unsigned_abs (pos (s l) *ℤ z l)) ≡ sum_below n (λ l. s l * unsigned_abs (z l)) = sum-same n _ _ (λ l _. unsigned_abs-mul (pos (s l)) (z l)) in
    omega (arith, size, terms, abs_total n (λ l. pos (s l) *ℤ z l))

lack_covered_by : (whole c : ℕ) (x t b : ℤ) → pos 0 ≤ℤ b → pos whole *ℤ x ≡ t +ℤ b → neg_ℤ t ≤ℤ pos c → whole * lack x ≤ c
lack_covered_by whole c (pos n) t b hb e h = omega arith
lack_covered_by whole c (negsuc n) t b hb e h = omega (arith, ints, e)

-- ---- the systems over whole numbers
-- only zeros solve the system of the flows with nothing coming in
pub flow_unique : (n whole : ℕ) (share : ℕ → ℕ → ℕ) (outward : ℕ → ℕ) (z : ℕ → ℤ) → IsRouting n whole share outward →
    ((m : ℕ) → m < n → pos whole *ℤ z m ≡ total n (λ l. pos (share l m) *ℤ z l)) → (l : ℕ) → l < n → z l ≡ pos 0
flow_unique n whole share outward z r h l k =
    zero_abs (z l) (covered_by_inflow n whole share outward (λ l. unsigned_abs (z l)) r (λ m j. abs_covered n whole (λ l. share l m) (z m) z (h m j)) l k)

-- what solves it with something coming in is not negative
pub flow_positive : (n whole : ℕ) (share : ℕ → ℕ → ℕ) (outward : ℕ → ℕ) (f b : ℕ → ℤ) → IsRouting n whole share outward →
    ((m : ℕ) → m < n → pos 0 ≤ℤ b m) → ((m : ℕ) → m < n → pos whole *ℤ f m ≡ total n (λ l. pos (share l m) *ℤ f l) +ℤ b m) → (l : ℕ) → l < n → pos 0 ≤ℤ f l
flow_positive n whole share outward f b r hb h l k =
    zero_lack (f l) (covered_by_inflow n whole share outward (λ l. lack (f l)) r
    (λ m j. lack_covered_by whole _ (f m) _ (b m) (hb m j) (h m j) (lack_total n (λ l. share l m) f)) l k)

-- the same of the transposed system
pub worth_unique : (n whole : ℕ) (share : ℕ → ℕ → ℕ) (outward : ℕ → ℕ) (z : ℕ → ℤ) → IsRouting n whole share outward →
    ((l : ℕ) → l < n → pos whole *ℤ z l ≡ total n (λ m. pos (share l m) *ℤ z m)) → (l : ℕ) → l < n → z l ≡ pos 0
worth_unique n whole share outward z r h l k =
    zero_abs (z l) (covered_by_next n whole share outward (λ l. unsigned_abs (z l)) r (λ l j. abs_covered n whole (share l) (z l) z (h l j)) l k)

pub worth_positive : (n whole : ℕ) (share : ℕ → ℕ → ℕ) (outward : ℕ → ℕ) (x b : ℕ → ℤ) → IsRouting n whole share outward →
    ((l : ℕ) → l < n → pos 0 ≤ℤ b l) → ((l : ℕ) → l < n → pos whole *ℤ x l ≡ total n (λ m. pos (share l m) *ℤ x m) +ℤ b l) → (l : ℕ) → l < n → pos 0 ≤ℤ x l
worth_positive n whole share outward x b r hb h l k =
    zero_lack (x l) (covered_by_next n whole share outward (λ l. lack (x l)) r
    (λ l j. lack_covered_by whole _ (x l) _ (b l) (hb l j) (h l j) (lack_total n (share l) x)) l k)

-- ---- two solutions are the same fractions
scaled_law : (w e f d g : ℤ) → w *ℤ (e *ℤ f -ℤ d *ℤ g) ≡ e *ℤ (w *ℤ f) -ℤ d *ℤ (w *ℤ g)
scaled_law w e f d g = rw (diff_of w, diff_of e, diff_of f, diff_of d, diff_of g) (simp differences (diff-eq _ _ _ _ (omega arith)))

cancel_law : (e i d j b : ℤ) → e *ℤ (i +ℤ d *ℤ b) -ℤ d *ℤ (j +ℤ e *ℤ b) ≡ e *ℤ i -ℤ d *ℤ j
cancel_law e i d j b = rw (diff_of e, diff_of i, diff_of d, diff_of j, diff_of b) (simp differences (diff-eq _ _ _ _ (omega arith)))

difference_solves : (n : ℕ) (w : ℤ) (s : ℕ → ℤ) (f g : ℕ → ℤ) (d e b x y : ℤ) → w *ℤ x ≡ total n (λ k. s k *ℤ f k) +ℤ d *ℤ b → w *ℤ y ≡ total n (λ k. s k *ℤ g k) +ℤ e *ℤ b →
    w *ℤ (e *ℤ x -ℤ d *ℤ y) ≡ total n (λ k. s k *ℤ (e *ℤ f k -ℤ d *ℤ g k))
difference_solves n w s f g d e b x y h k =
    scaled_law w e x d y ∙ ap₂ (λ a c. e *ℤ a -ℤ d *ℤ c) h k ∙ cancel_law e (total n (λ k. s k *ℤ f k)) d (total n (λ k. s k *ℤ g k)) b
    ∙ sym (total-combine n e d (λ k. s k *ℤ f k) (λ k. s k *ℤ g k)) ∙ total-same n _ _ (λ k _. sym (scaled_law (s k) e (f k) d (g k)))

equal_from_zero : (a c : ℤ) → a -ℤ c ≡ pos 0 → a ≡ c
equal_from_zero a c e = omega (arith, ints, e)

pub flow_one : (n whole : ℕ) (share : ℕ → ℕ → ℕ) (outward : ℕ → ℕ) (f g b : ℕ → ℤ) (d e : ℤ) → IsRouting n whole share outward →
    ((m : ℕ) → m < n → pos whole *ℤ f m ≡ total n (λ l. pos (share l m) *ℤ f l) +ℤ d *ℤ b m) →
    ((m : ℕ) → m < n → pos whole *ℤ g m ≡ total n (λ l. pos (share l m) *ℤ g l) +ℤ e *ℤ b m) → (l : ℕ) → l < n → e *ℤ f l ≡ d *ℤ g l
flow_one n whole share outward f g b d e r hf hg l k =
    equal_from_zero (e *ℤ f l) (d *ℤ g l) (flow_unique n whole share outward (λ l. e *ℤ f l -ℤ d *ℤ g l) r
    (λ m j. difference_solves n (pos whole) (λ l. pos (share l m)) f g d e (b m) (f m) (g m) (hf m j) (hg m j)) l k)

pub worth_one : (n whole : ℕ) (share : ℕ → ℕ → ℕ) (outward : ℕ → ℕ) (f g b : ℕ → ℤ) (d e : ℤ) → IsRouting n whole share outward →
    ((l : ℕ) → l < n → pos whole *ℤ f l ≡ total n (λ m. pos (share l m) *ℤ f m) +ℤ d *ℤ b l) →
    ((l : ℕ) → l < n → pos whole *ℤ g l ≡ total n (λ m. pos (share l m) *ℤ g m) +ℤ e *ℤ b l) → (l : ℕ) → l < n → e *ℤ f l ≡ d *ℤ g l
worth_one n whole share outward f g b d e r hf hg l k =
    equal_from_zero (e *ℤ f l) (d *ℤ g l) (worth_unique n whole share outward (λ l. e *ℤ f l -ℤ d *ℤ g l) r
    (λ l j. difference_solves n (pos whole) (λ m. pos (share l m)) f g d e (b l) (f l) (g l) (hf l j) (hg l j)) l k)
