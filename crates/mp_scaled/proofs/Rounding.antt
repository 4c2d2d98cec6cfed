-- Quotients that are rounded up.
use Rattle.std.proofs.Common.{◌≡◌, ◌≤◌, ◌<◌, ℕ, ◌+◌, ◌-◌, ◌*◌, ◌/◌, ◌%◌, arith, sym, ap, ◌∙◌, mul-le-mul}
use Rattle.std.proofs.lemmas.Nat.{div-add-mod', div-mul-add, mod_below}
use Rattle.mp_trial.specs.Sweeps.{rounded_up}

-- a product with a quotient, and the rest of it rounded up
pub split_round : (w b u e : ℕ) → 1 ≤ u → e + w * (b / u) + (w * (b % u) + (u - 1)) / u ≡ rounded_up (w * b + u * e) u
split_round w b u e h =
    let p : ℕ = b / u in
    let s : ℕ = b % u in
    let v : ℕ = u - 1 in
    let q : ℕ = (w * (b % u) + (u - 1)) / u in
    let r : ℕ = (w * (b % u) + (u - 1)) % u in
    let b_is : p * u + s ≡ b = div-add-mod' b u in
    let x_is : q * u + r ≡ w * s + v = div-add-mod' (w * (b % u) + (u - 1)) u in
    let small : r < u = mod_below (w * (b % u) + (u - 1)) u h in
    let product : w * (p * u + s) ≡ w * b = ap (λ n. w * n) b_is in
    let whole : w * b + u * e + v ≡ (e + w * p + q) * u + r = omega (arith, product, x_is) in
    sym (ap (λ n. n / u) whole ∙ div-mul-add (e + w * p + q) u r small)

-- a quotient is no greater than the number
pub quotient_few : (a u : ℕ) → 1 ≤ u → a / u ≤ a
quotient_few a u h = let p : (a / u) * 1 ≤ (a / u) * u = mul-le-mul (omega arith) h in omega (arith, div-add-mod' a u, p)

-- a share of a quotient by at least the share total
pub product_few : (w b u : ℕ) → w ≤ u → w * (b / u) ≤ b
product_few w b u h = let p : w * (b / u) ≤ u * (b / u) = mul-le-mul h (omega arith) in omega (arith, div-add-mod' b u, p)
