-- Quotients that are rounded up.
use Rattle.std.proofs.Common.{ℕ, ◌+◌, ◌-◌, ◌*◌, ◌≤◌, ◌<◌, arith, ⊎_elim, mul-le-mul_left}
use Rattle.std.proofs.Math.Nat.{div-mul-le_self, lt-mul-div-succ}
use Rattle.std.proofs.lemmas.Bool.{cases_lt}
use Rattle.mp_model.specs.GuardedBursts.{quotient_up}

pub quotient_holds : (x y : ℕ) → 1 ≤ y → x ≤ y * quotient_up x y
quotient_holds x y some = let h = lt-mul-div-succ (x + (y - 1)) some in omega arith

pub quotient_least : (x y n : ℕ) → 1 ≤ y → x ≤ y * n → quotient_up x y ≤ n
quotient_least x y n some le = ⊎_elim
    (λ (more : n < quotient_up x y).
    let a : quotient_up x y * y ≤ x + (y - 1) = div-mul-le_self (x + (y - 1)) y in
    let b : y * (n + 1) ≤ y * quotient_up x y = mul-le-mul_left y (omega arith) in
    absurd (omega arith))
    (λ (few : quotient_up x y ≤ n). few)
    (cases_lt n (quotient_up x y))
