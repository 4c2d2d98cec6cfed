use Rattle.std.proofs.Common.{◌≡◌, ◌≢◌, ℤ, pos, negsuc, ◌+ℤ◌, ◌-ℤ◌, ◌*ℤ◌, ◌≤ℤ◌, ◌<ℤ◌, arith, ap, ◌∙◌}
use Rattle.std.specs.Int.{int_div_euclid, int_rem_euclid}
use Rattle.std.proofs.lemmas.Int.{ints}
use Rattle.mp_num.proofs.Ring.{diff_of, differences, diff-eq}

-- a number is its quotient times the divisor and a rest below the divisor
record IsSplit (a b q r : ℤ) : Type 0 where
  whole : a ≡ q *ℤ b +ℤ r
  low : pos 0 ≤ℤ r
  high : r <ℤ b

split_by : (a b : ℤ) → pos 1 ≤ℤ b → IsSplit a b (int_div_euclid a b) (int_rem_euclid a b)
split_by (pos a) (pos b) h = record { whole = omega (arith, ints); low = omega (arith, ints); high = omega (arith, ints) }
split_by (negsuc a) (pos b) h = record { whole = omega (arith, ints); low = omega (arith, ints); high = omega (arith, ints) }
split_by a (negsuc b) h = absurd (omega (arith, ints))

-- a quotient that is rounded up
pub record IsCeiling (a b q : ℤ) : Type 0 where
  pub at_least : a ≤ℤ (q *ℤ b)
  pub last_below : (q *ℤ b -ℤ b) <ℤ a

pub ceiling_exact : (a b : ℤ) → pos 1 ≤ℤ b → int_rem_euclid a b ≡ pos 0 → IsCeiling a b (int_div_euclid a b)
ceiling_exact a b h e =
    let s = split_by a b h in
    record { at_least = omega (arith, ints, s.whole, e); last_below = omega (arith, ints, s.whole, e) }

spread : (q u b : ℤ) → (q +ℤ u) *ℤ b ≡ q *ℤ b +ℤ u *ℤ b
spread q u b = rw (diff_of q, diff_of u, diff_of b) (simp differences (diff-eq _ _ _ _ (omega arith)))

once : (b : ℤ) → pos 1 *ℤ b ≡ b
once b = omega (arith, ints)

one_more : (q b : ℤ) → (q +ℤ pos 1) *ℤ b ≡ q *ℤ b +ℤ b
one_more q b = spread q (pos 1) b ∙ ap (λ t. q *ℤ b +ℤ t) (once b)

pub ceiling_above : (a b : ℤ) → pos 1 ≤ℤ b → int_rem_euclid a b ≢ pos 0 → IsCeiling a b (int_div_euclid a b +ℤ pos 1)
ceiling_above a b h ne =
    let s = split_by a b h in
    let more = one_more (int_div_euclid a b) b in
    record { at_least = omega (arith, ints, s.whole, s.high, more); last_below = omega (arith, ints, s.whole, s.low, ne, more) }
