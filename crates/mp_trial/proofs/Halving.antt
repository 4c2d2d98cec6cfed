-- The search doesn't depend on how many halvings it may take, where these are enough.
use Rattle.std.proofs.Common.{◌≡◌, ◌≤◌, ◌<◌, ℕ, zero, suc, ◌+◌, ◌/◌, Bool, true, false, if◌then◌else◌, nat_lt, arith, refl, ltb-true, le-ltb, div-lt_iff_lt-mul, le-div_iff_mul-le}
use Rattle.mp_model.specs.Certificate.{Cert}
use Rattle.mp_trial.specs.Laws.{HalvingsLaw}
use Rattle.mp_trial.specs.Trials.{Trial, Fits, Unfit, Endless, PassesIn, LimitIn, trial}
use Rattle.mp_trial.specs.Search.{Scaled, Found, after_trial, middle, halved}

pub above_low : (lo hi : ℕ) → lo + 1 < hi → lo < middle lo hi
above_low lo hi h =
    let l : suc lo ≤ (lo + hi) / 2 = (le-div_iff_mul-le {k = 2} {x = suc lo} {y = lo + hi} (omega arith)).1 (omega arith) in
    omega (arith, l)

pub below_high : (lo hi : ℕ) → lo + 1 < hi → middle lo hi < hi
below_high lo hi h = (div-lt_iff_lt-mul {k = 2} {x = lo + hi} {y = hi} (omega arith)).1 (omega arith)

same_after : (e : ℕ) (t : Trial) (f g : Cert → Scaled) (x y : Scaled) → ((cert : Cert) → f cert ≡ g cert) → x ≡ y → after_trial e t f x ≡ after_trial e t g y
same_after e (Fits cert) f g x y h k = h cert
same_after e Unfit f g x y h k = k
same_after e Endless f g x y h k = refl
same_after e (PassesIn j) f g x y h k = refl
same_after e (LimitIn j) f g x y h k = refl

same_if : (b : Bool) (x y z : Scaled) → (b ≡ true → x ≡ y) → (if b then x else z) ≡ (if b then y else z)
same_if true x y z h = h refl
same_if false x y z h = refl

not_if : (b : Bool) (x z : Scaled) → b ≡ false → z ≡ (if b then x else z)
not_if true x z e = absurd (cc)
not_if false x z e = refl

pub enough : HalvingsLaw
unfolding halved
enough net D zero lo hi cert h = not_if (nat_lt (lo + 1) hi) _ (Found cert) (le-ltb (lo + 1) hi (omega arith))
enough net D (suc halvings) lo hi cert h =
    same_if (nat_lt (lo + 1) hi) _ _ (Found cert) (λ t.
    (let l : lo + 1 < hi = ltb-true (lo + 1) hi t in
    let a = above_low lo hi l in
    let b = below_high lo hi l in
    same_after (middle lo hi) (trial net D (middle lo hi)) _ _ _ _
    (λ c. enough net D halvings (middle lo hi) hi c (omega (arith, a, b, h, l)))
    (enough net D halvings lo (middle lo hi) cert (omega (arith, a, b, h, l)))))
