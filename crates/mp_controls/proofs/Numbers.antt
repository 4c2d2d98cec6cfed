-- The arithmetic of the bound one lower. Here r is the share total times the rate length, z the sum of the
-- credit-and-burst terms, L the threshold, and x what the threshold leaves of D times the drift constant B.
use Rattle.std.proofs.Common.{◌≡◌, ℕ, ◌+◌, ◌-◌, ◌*◌, ◌≤◌, ◌<◌, arith, ap, ⊎_elim, ◌⊎◌, subst, sym, mul-le-mul, mul-le-mul_left, mul-le-mul_right}
use Rattle.std.proofs.Math.Nat.{le_of_mul-le-mul_left}
use Rattle.std.proofs.lemmas.Bool.{cases_lt}

cancel_below : (c a b : ℕ) → c * a < c * b → a < b
cancel_below c a b h = ⊎_elim (λ (x : a < b). x) (λ (x : b ≤ a). absurd (omega (arith, mul-le-mul_left c x))) (cases_lt a b)

square_below : (a b : ℕ) → a < b → a * a < b * b
square_below a b h = let n : a + 1 ≤ b = omega arith in omega (arith, mul-le-mul n n)

-- what is known of the numbers of a network with a burst and three movements, where the slack is at most 1
pub record Gentle (r z L D E B x : ℕ) : Type 0 where
  pub some : 1 ≤ r
  pub denominator : 1 ≤ D
  pub slack : E ≤ D
  pub burst : r ≤ z
  pub parts : D * B ≡ 2 * (r * r) * E * L + x
  pub left : x < 2 * (r * r) * E
  pub constant : 2 * r * z + 3 * (r * r) ≤ B

-- and where it is at least 1
pub record Steep (r z L D E B x : ℕ) : Type 0 where
  pub some : 1 ≤ r
  pub denominator : 1 ≤ D
  pub slack : D ≤ E
  pub burst : r ≤ z
  pub parts : D * B ≡ 2 * (r * r) * E * L + x
  pub left : x < 2 * (r * r) * E
  pub constant : 2 * r * D * E * z + 3 * (r * r) * (E * E) ≤ D * D * B

-- the threshold is at least 2
gentle_two : (r z L D E B x : ℕ) → Gentle r z L D E B x → 2 ≤ L
gentle_two r z L D E B x g =
    let a : 5 * (r * r) ≤ B = omega (arith, g.constant, mul-le-mul_left r g.burst) in
    let b : (r * r) * (E * (L + 1)) ≤ (r * r) * (D * (L + 1)) = mul-le-mul_left (r * r) (mul-le-mul_right (L + 1) g.slack) in
    let c : (D * (r * r)) * 5 < (D * (r * r)) * (2 * (L + 1)) = omega (arith, g.parts, g.left, b, mul-le-mul_left D a) in
    let d = cancel_below (D * (r * r)) 5 (2 * (L + 1)) c in
    omega arith

steep_two : (r z L D E B x : ℕ) → Steep r z L D E B x → 2 ≤ L
steep_two r z L D E B x g =
    let a : (r * r) * (D * E) ≤ (r * r) * (E * E) = mul-le-mul_left (r * r) (mul-le-mul_right E g.slack) in
    let b : (r * D * E) * r ≤ (r * D * E) * z = mul-le-mul_left (r * D * E) g.burst in
    let t : D * x < D * (2 * (r * r) * E) = let l = g.left in let n : x + 1 ≤ 2 * (r * r) * E = omega arith in let m = mul-le-mul_left D n in let o = g.denominator in omega (arith, m) in
    let c : ((r * r) * (D * E)) * 5 < ((r * r) * (D * E)) * (2 * (L + 1)) = omega (arith, a, b, t, g.constant, ap (λ n. D * n) g.parts) in
    let d = cancel_below ((r * r) * (D * E)) 5 (2 * (L + 1)) c in
    omega arith

-- the drift constant is not far above the threshold
gentle_constant : (r z L D E B x : ℕ) → Gentle r z L D E B x → 2 ≤ L → 3 * B ≤ 4 * (r * r) * (L * (L + 1))
gentle_constant r z L D E B x g two =
    let b : (r * r) * (E * (L + 1)) ≤ (r * r) * (D * (L + 1)) = mul-le-mul_left (r * r) (mul-le-mul_right (L + 1) g.slack) in
    let c : D * B ≤ D * (2 * (r * r) * (L + 1)) = let l = g.left in omega (arith, g.parts, b) in
    let d = le_of_mul-le-mul_left {k = D} c g.denominator in
    omega (arith, d, mul-le-mul_left ((r * r) * (L + 1)) two)

steep_constant : (r z L D E B x : ℕ) → Steep r z L D E B x → 3 * B ≤ 4 * (r * r) * (L * (L + 1))
steep_constant r z L D E B x g =
    let b : (r * D * E) * r ≤ (r * D * E) * z = mul-le-mul_left (r * D * E) g.burst in
    let t : D * x < D * (2 * (r * r) * E) = let l = g.left in let n : x + 1 ≤ 2 * (r * r) * E = omega arith in let m = mul-le-mul_left D n in let o = g.denominator in omega (arith, m) in
    let c : ((r * r) * E) * (3 * E) < ((r * r) * E) * (2 * D * L) = omega (arith, b, t, g.constant, ap (λ n. D * n) g.parts) in
    let d = cancel_below ((r * r) * E) (3 * E) (2 * D * L) c in
    let e : (2 * (r * r) * (L + 1)) * (3 * E) ≤ (2 * (r * r) * (L + 1)) * (2 * D * L) = mul-le-mul_left (2 * (r * r) * (L + 1)) (omega (arith, d)) in
    let f : D * (3 * B) ≤ D * (4 * (r * r) * (L * (L + 1))) = let l = g.left in omega (arith, g.parts, e) in
    le_of_mul-le-mul_left {k = D} f g.denominator

-- the sum of the terms is at most what the threshold weighs
gentle_terms : (r z L D E B x : ℕ) → Gentle r z L D E B x → D * z ≤ r * E * L
gentle_terms r z L D E B x g =
    let a : (2 * r) * (D * z) ≤ (2 * r) * (r * E * L) = let l = g.left in omega (arith, g.parts, mul-le-mul_left D g.constant, mul-le-mul_left (r * r) g.slack) in
    le_of_mul-le-mul_left {k = 2 * r} a (let s = g.some in omega arith)

steep_terms : (r z L D E B x : ℕ) → Steep r z L D E B x → D * z ≤ r * E * L
steep_terms r z L D E B x g =
    let t : D * x ≤ D * (2 * (r * r) * E) = let l = g.left in mul-le-mul_left D (omega arith) in
    let b : (r * r) * (D * E) ≤ (r * r) * (E * E) = mul-le-mul_left (r * r) (mul-le-mul_right E g.slack) in
    let a : (2 * r * E) * (D * z) ≤ (2 * r * E) * (r * D * L) = omega (arith, g.constant, t, b, ap (λ n. D * n) g.parts) in
    let e : 1 ≤ E = let s = g.slack in let d = g.denominator in omega arith in
    let c = le_of_mul-le-mul_left {k = 2 * r * E} a (omega (arith, mul-le-mul g.some e)) in
    omega (arith, c, mul-le-mul_left (r * L) g.slack)

-- the square at the threshold, where w is 2 L (D + E) less D
gentle_square : (r z L D E B x w : ℕ) → Gentle r z L D E B x → 2 ≤ L → w + D ≡ 2 * L * (D + E) →
    4 * (D * D) * (r * r * (L * L) + 2 * r * L * z + z * z) + 4 * D * x ≤ (r * w) * (r * w) + 8 * (D * D) * (r * r) * L
gentle_square r z L D E B x w g two e =
    let t = gentle_terms r z L D E B x g in
    let f1 = mul-le-mul_left (4 * D * L) (mul-le-mul_left D g.constant) in
    let f2 = mul-le-mul t t in
    let l : x ≤ 2 * (r * r) * E = let l = g.left in omega arith in
    let f3 = mul-le-mul_left (4 * D * L) l in
    let f4 = mul-le-mul_left (4 * D) l in
    let s1 = mul-le-mul_left (r * r * D * L) g.slack in
    let s2 = mul-le-mul_left (r * r * D) g.slack in
    let s3 = mul-le-mul_left (r * r * (D * D)) two in
    omega (arith, f1, f2, f3, f4, s1, s2, s3, ap (λ n. 4 * D * L * n) g.parts, ap (λ n. (r * r) * (n * n)) e, ap (λ n. (r * r) * (D * n)) e)

steep_square : (r z L D E B x w : ℕ) → Steep r z L D E B x → 2 ≤ L → w + D ≡ 2 * L * (D + E) →
    4 * (D * D) * (r * r * (L * L) + 2 * r * L * z + z * z) + 4 * D * x ≤ (r * w) * (r * w) + 8 * (D * D) * (r * r) * L
steep_square r z L D E B x w g two e =
    let t = steep_terms r z L D E B x g in
    let f1 = mul-le-mul_left (4 * L) g.constant in
    let f2 = mul-le-mul t t in
    let l : x ≤ 2 * (r * r) * E = let l = g.left in omega arith in
    let f3 = mul-le-mul_left (4 * D * L) l in
    let f4 = mul-le-mul_left (4 * D) l in
    let f5 = mul-le-mul_left (r * D * L * z) g.slack in
    let d : E ≡ D + (E - D) = let s = g.slack in omega arith in
    let s1 = mul-le-mul_left (r * r * (E - D) * E) two in
    let s2 = mul-le-mul_left (r * r * (D * D)) two in
    let s3 = mul-le-mul_left (r * r * (E - D)) g.slack in
    omega (arith, f1, f2, f3, f4, f5, s1, s2, s3, ap (λ n. 4 * D * L * n) g.parts, ap (λ n. (r * r) * (n * n)) e, ap (λ n. (r * r) * (D * n)) e, ap (λ n. (r * r) * (E * n)) d, ap (λ n. (r * r) * (L * E * n)) d, ap (λ n. (r * r) * (D * n)) d)

-- a corrected queue that the threshold queued can lead to
at_threshold : (r z L D E x w a t v : ℕ) → r ≤ v → 4 * (D * D) * (r * r * (L * L) + 2 * r * L * z + z * z) + 4 * D * x ≤ (r * w) * (r * w) + 8 * (D * D) * (r * r) * L → w + D ≡ 2 * L * (D + E) →
    a * a + 2 * r * L * v ≤ (r * L + z) * (r * L + z) + t → D * t ≤ x → D * (2 * a + r) ≤ 2 * L * (D * v + r * E)
at_threshold r z L D E x w a t v rv square e near left =
    ⊎_elim
    (λ (over : 2 * L * (D * v + r * E) < D * (2 * a + r)).
    let below : r * w < 2 * (D * a) = omega (arith, over, mul-le-mul_left (L * D) rv, ap (λ n. r * n) e) in
    let s = square_below (r * w) (2 * (D * a)) below in
    let n = mul-le-mul_left (D * D) near in
    let m = mul-le-mul_left D left in
    let o = mul-le-mul_left (D * D * r * L) rv in
    absurd (omega (arith, square, s, n, m, o)))
    (λ (h : D * (2 * a + r) ≤ 2 * L * (D * v + r * E)). h) (cases_lt (2 * L * (D * v + r * E)) (D * (2 * a + r)))

-- one that nothing queued can lead to, where the threshold is 2 + m and the terms sum to r + y
none_numbers : (r y m B a : ℕ) → 3 * B ≤ 4 * (r * r) * ((2 + m) * (2 + m + 1)) → a * a ≤ (r + y) * (r + y) + B → 2 * a + r ≤ r * ((2 + m) * (2 + m)) + 2 * (2 + m) * (r + y)
none_numbers r y m B a constant near =
    ⊎_elim
    (λ (over : r * ((2 + m) * (2 + m)) + 2 * (2 + m) * (r + y) < 2 * a + r).
    let below : r * (m * m + 6 * m + 7) + (4 + 2 * m) * y < 2 * a = omega (arith, over) in
    let s = square_below (r * (m * m + 6 * m + 7) + (4 + 2 * m) * y) (2 * a) below in
    absurd (omega (arith, s, near, constant)))
    (λ (h : 2 * a + r ≤ r * ((2 + m) * (2 + m)) + 2 * (2 + m) * (r + y)). h) (cases_lt (r * ((2 + m) * (2 + m)) + 2 * (2 + m) * (r + y)) (2 * a + r))

at_none : (r z L B a : ℕ) → r ≤ z → 2 ≤ L → 3 * B ≤ 4 * (r * r) * (L * (L + 1)) → a * a ≤ z * z + B → 2 * a + r ≤ r * (L * L) + 2 * L * z
at_none r z L B a rz two constant near =
    let e : L ≡ 2 + (L - 2) = omega arith in
    let d : z ≡ r + (z - r) = omega arith in
    let c : 3 * B ≤ 4 * (r * r) * ((2 + (L - 2)) * (2 + (L - 2) + 1)) = subst (λ n. 3 * B ≤ 4 * (r * r) * (n * (n + 1))) e constant in
    let n : a * a ≤ (r + (z - r)) * (r + (z - r)) + B = subst (λ n. a * a ≤ n * n + B) d near in
    subst (λ l. 2 * a + r ≤ r * (l * l) + 2 * l * z) (sym e) (subst (λ n. 2 * a + r ≤ r * ((2 + (L - 2)) * (2 + (L - 2))) + 2 * (2 + (L - 2)) * n) (sym d) (none_numbers r (z - r) (L - 2) B a c n))

-- so one vehicle more in a queue would still keep the square of its corrected queue a within the greatest drift value,
-- where u is the sum of the credit parts, v that of the rest, and G the burst part
one_more_numbers : (r z L D E B x w a u v G t : ℕ) → 1 ≤ D → r ≤ z → 2 ≤ L → D * B ≡ 2 * (r * r) * E * L + x → 3 * B ≤ 4 * (r * r) * (L * (L + 1)) →
    4 * (D * D) * (r * r * (L * L) + 2 * r * L * z + z * z) + 4 * D * x ≤ (r * w) * (r * w) + 8 * (D * D) * (r * r) * L → w + D ≡ 2 * L * (D + E) →
    z ≡ u + v → r ≤ v → G + u * u ≤ z * z → D * t ≤ x → (a * a ≤ (r * 0 + u) * (r * 0 + u) + G + B) ⊎ (a * a ≤ (r * L + u) * (r * L + u) + G + t) →
    (a + r) * (a + r) ≤ (r * L + z) * (r * L + z) + B
one_more_numbers r z L D E B x w a u v G t D_some rz two parts constant square e apart rv squares left cases =
    ⊎_elim
    (λ (none : a * a ≤ (r * 0 + u) * (r * 0 + u) + G + B).
    let h = at_none r z L B a rz two constant (omega (arith, none, squares)) in
    omega (arith, none, squares, mul-le-mul_left r h))
    (λ (many : a * a ≤ (r * L + u) * (r * L + u) + G + t).
    let near : a * a + 2 * r * L * v ≤ (r * L + z) * (r * L + z) + t = omega (arith, many, squares, ap (λ n. r * L * n) apart) in
    let h = at_threshold r z L D E x w a t v rv square e near left in
    le_of_mul-le-mul_left {k = D} (omega (arith, mul-le-mul_left D near, mul-le-mul_left r h, parts, left)) D_some)
    cases

pub gentle_one_more : (r z L D E B x a u v G t : ℕ) → Gentle r z L D E B x → z ≡ u + v → r ≤ v → G + u * u ≤ z * z → D * t ≤ x → (a * a ≤ (r * 0 + u) * (r * 0 + u) + G + B) ⊎ (a * a ≤ (r * L + u) * (r * L + u) + G + t) →
    (a + r) * (a + r) ≤ (r * L + z) * (r * L + z) + B
gentle_one_more r z L D E B x a u v G t g apart rv squares left cases =
    let two = gentle_two r z L D E B x g in
    let w = 2 * L * (D + E) - D in
    let e : w + D ≡ 2 * L * (D + E) = omega (arith, mul-le-mul_left D two) in
    one_more_numbers r z L D E B x w a u v G t g.denominator g.burst two g.parts (gentle_constant r z L D E B x g two) (gentle_square r z L D E B x w g two e) e apart rv squares left cases

pub steep_one_more : (r z L D E B x a u v G t : ℕ) → Steep r z L D E B x → z ≡ u + v → r ≤ v → G + u * u ≤ z * z → D * t ≤ x → (a * a ≤ (r * 0 + u) * (r * 0 + u) + G + B) ⊎ (a * a ≤ (r * L + u) * (r * L + u) + G + t) →
    (a + r) * (a + r) ≤ (r * L + z) * (r * L + z) + B
steep_one_more r z L D E B x a u v G t g apart rv squares left cases =
    let two = steep_two r z L D E B x g in
    let w = 2 * L * (D + E) - D in
    let e : w + D ≡ 2 * L * (D + E) = omega (arith, mul-le-mul_left D two) in
    one_more_numbers r z L D E B x w a u v G t g.denominator g.burst two g.parts (steep_constant r z L D E B x g) (steep_square r z L D E B x w g two e) e apart rv squares left cases
