-- Division rounded up.
use Rattle.std.proofs.Common.{◌≤◌, ◌<◌, ℕ, suc, ◌+◌, ◌-◌, ◌*◌, ◌/◌, arith, div-lt_iff_lt-mul}
use Rattle.mp_trial.specs.Laws.{RoundingLaw}
use Rattle.mp_trial.specs.Sweeps.{rounded_up}

to : (a b n : ℕ) → 1 ≤ b → rounded_up a b ≤ n → a ≤ b * n
to a b n some h =
    let below : (a + (b - 1)) / b < suc n = omega arith in
    let l : a + (b - 1) < suc n * b = (div-lt_iff_lt-mul {k = b} {x = a + (b - 1)} {y = suc n} some).0 below in
    omega (arith, l)

from : (a b n : ℕ) → 1 ≤ b → a ≤ b * n → rounded_up a b ≤ n
from a b n some h =
    let l : a + (b - 1) < suc n * b = omega arith in
    let below : (a + (b - 1)) / b < suc n = (div-lt_iff_lt-mul {k = b} {x = a + (b - 1)} {y = suc n} some).1 l in
    omega (arith, below)

pub rounding : RoundingLaw
rounding a b n some = (to a b n some, from a b n some)
