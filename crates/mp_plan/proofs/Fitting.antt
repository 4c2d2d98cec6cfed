-- What the exact arithmetic of signed numbers says of natural numbers.
use Rattle.std.proofs.Common.{◌≡◌, ℕ, ◌^◌, ◌<◌, Bool, true, false, cond, ℤ, pos, Some, None, refl, ap, arith}
use Rattle.std.specs.Prelude.{nat_lt}
use Rattle.std.proofs.lemmas.Bool.Decides.{nat_tests}
use Rattle.std.proofs.lemmas.Bool.{lt-ltb}
use Rattle.mp_num.specs.Checked.{within}
use Rattle.mp_plan.specs.Stated.{fitting}

-- what a number is that fits
pub record Fits128 (n : ℕ) (z : ℤ) : Type 0 where
  pub value : z ≡ pos n
  pub fits : n < 2 ^ 127
  pub some : fitting n ≡ Some n

pub some_fits : (n : ℕ) (z : ℤ) → within (pos n) ≡ Some z → Fits128 n z
unfolding within fitting
some_fits n z = go (nat_lt n (2 ^ 127)) refl
  where
    go : (b : Bool) → nat_lt n (2 ^ 127) ≡ b → cond b (Some (pos n)) None ≡ Some z → Fits128 n z
    go true e h = record { value = cc; fits = grind (arith, nat_tests); some = ap (λ b. cond b (Some n) None) e }
    go false e h = absurd (cc)

pub none_fits : (n : ℕ) → within (pos n) ≡ None → fitting n ≡ None
unfolding within fitting
none_fits n = go (nat_lt n (2 ^ 127)) refl
  where
    go : (b : Bool) → nat_lt n (2 ^ 127) ≡ b → cond b (Some (pos n)) None ≡ None → fitting n ≡ None
    go true e h = absurd (cc)
    go false e h = ap (λ b. cond b (Some n) None) e

pub fitting_is : (n m : ℕ) → fitting n ≡ Some m → m ≡ n
unfolding fitting
fitting_is n m = elim (nat_lt n (2 ^ 127)) as (λ b. cond b (Some n) None ≡ Some m → m ≡ n) [ true ↦ λ e. cc | false ↦ λ e. absurd (cc) ]

-- the other way round
pub fitting_low : (n m : ℕ) → fitting n ≡ Some m → n < 2 ^ 127
unfolding fitting
fitting_low n m = go (nat_lt n (2 ^ 127)) refl
  where
    go : (b : Bool) → nat_lt n (2 ^ 127) ≡ b → cond b (Some n) None ≡ Some m → n < 2 ^ 127
    go true e h = grind (arith, nat_tests)
    go false e h = absurd (cc)

pub low_fits : (n : ℕ) → n < 2 ^ 127 → fitting n ≡ Some n
unfolding fitting
low_fits n h = ap (λ b. cond b (Some n) None) (lt-ltb n (2 ^ 127) h)
