-- How often the stages of a plan are green.
use Rattle.std.proofs.Common.{◌≡◌, ℕ, zero, suc, ◌+◌, ◌-◌, ◌*◌, ◌≤◌, ◌<◌, Bool, true, cond, List, [], ◌∷◌, length, get_or, sum, arith, refl, sym, ◌∙◌, ap, subst, mul-le-mul_left}
use Rattle.std.proofs.lemmas.Bool.{lt-ltb, le-ltb}
use Rattle.std.proofs.lemmas.List.Sums.{sum_by-cons}
use Rattle.mp_model.specs.Lights.{greens_in}
use Rattle.mp_model.specs.Plans.{running_from}
use Rattle.mp_served.proofs.Rows.{add_none, add_next}

pub greens_split : (f : ℕ → Bool) (a n m : ℕ) → greens_in f a (n + m) ≡ greens_in f a n + greens_in f (a + n) m
greens_split f a n zero = ap (greens_in f a) (add_none n) ∙ omega arith
greens_split f a n (suc m) =
    let place : a + (n + m) ≡ a + n + m = omega arith in
    ap (greens_in f a) (sym (add_next n m)) ∙ ap (λ x. x + cond {A = ℕ} (f (a + (n + m))) 1 0) (greens_split f a n m)
    ∙ ap (λ u. greens_in f a n + greens_in f (a + n) m + cond {A = ℕ} (f u) 1 0) place ∙ omega arith

pub greens_same : (f h : ℕ → Bool) (a n : ℕ) → ((u : ℕ) → a ≤ u → u < a + n → f u ≡ h u) → greens_in f a n ≡ greens_in h a n
greens_same f h a zero same = refl
greens_same f h a (suc n) same =
    let more = greens_same f h a n (λ u low high. same u low (omega arith)) in
    let last = ap (λ b. cond {A = ℕ} b 1 0) (same (a + n) (omega arith) (omega arith)) in
    omega arith

greens_shift : (f h : ℕ → Bool) (g a n : ℕ) → ((t : ℕ) → f (g + t) ≡ h t) → greens_in f (g + a) n ≡ greens_in h a n
greens_shift f h g a zero same = refl
greens_shift f h g a (suc n) same =
    let place : g + a + n ≡ g + (a + n) = omega arith in
    let more = greens_shift f h g a n same in
    let last = ap (λ b. cond {A = ℕ} b 1 0) (ap f place ∙ same (a + n)) in
    omega arith

greens_all : (f : ℕ → Bool) (a n : ℕ) → ((u : ℕ) → a ≤ u → u < a + n → f u ≡ true) → greens_in f a n ≡ n
greens_all f a zero all = refl
greens_all f a (suc n) all =
    let more = greens_all f a n (λ u low high. all u low (omega arith)) in
    let last = ap (λ b. cond {A = ℕ} b 1 0) (all (a + n) (omega arith) (omega arith)) in
    omega arith

-- a stage runs for its green
pub stage_greens : (P : ℕ → Bool) (greens : List ℕ) (s m i : ℕ) → sum greens ≤ m → i < length greens → P (s + i) ≡ true → get_or greens i 0 ≤ greens_in (λ n. P (running_from s greens n)) 0 m
stage_greens P [] s m i fit lt is = absurd (omega arith)
stage_greens P (g ∷ gs) s m zero fit lt is =
    let f : ℕ → Bool = λ n. P (running_from s (g ∷ gs) n) in
    let all_sum = sum_by-cons (λ n. n) g gs in
    let parts : m ≡ g + (m - g) = omega arith in
    let place : s + 0 ≡ s = omega arith in
    let all : greens_in f 0 g ≡ g = greens_all f 0 g (λ u low high. ap (λ b. P (cond b s (running_from (s + 1) gs (u - g)))) (lt-ltb u g (omega arith)) ∙ sym (ap P place) ∙ is) in
    let split = ap (greens_in f 0) parts ∙ greens_split f 0 g (m - g) in
    omega arith
stage_greens P (g ∷ gs) s m (suc i) fit lt is =
    let f : ℕ → Bool = λ n. P (running_from s (g ∷ gs) n) in
    let h : ℕ → Bool = λ n. P (running_from (s + 1) gs n) in
    let all_sum = sum_by-cons (λ n. n) g gs in
    let parts : m ≡ g + (m - g) = omega arith in
    let place : s + suc i ≡ s + 1 + i = omega arith in
    let from : g + 0 ≡ g = omega arith in
    let from' : 0 + g ≡ g = omega arith in
    let later : (t : ℕ) → f (g + t) ≡ h t = λ t. (let back : g + t - g ≡ t = omega arith in ap (λ b. P (cond b s (running_from (s + 1) gs (g + t - g)))) (le-ltb (g + t) g (omega arith)) ∙ ap (λ n. P (running_from (s + 1) gs n)) back) in
    let more = stage_greens P gs (s + 1) (m - g) i (omega arith) (omega arith) (sym (ap P place) ∙ is) in
    let shift : greens_in f g (m - g) ≡ greens_in h 0 (m - g) = ap (λ a. greens_in f a (m - g)) (sym from) ∙ greens_shift f h g 0 (m - g) later in
    let split = ap (greens_in f 0) parts ∙ greens_split f 0 g (m - g) ∙ ap (λ a. greens_in f 0 g + greens_in f a (m - g)) from' in
    omega arith

-- over a cycle it does not matter where one begins
cycle_next : (f : ℕ → Bool) (C a : ℕ) → ((t : ℕ) → f (t + C) ≡ f t) → greens_in f (suc a) C ≡ greens_in f a C
cycle_next f C a again =
    let one : 1 + C ≡ suc C = omega arith in
    let first : a + 0 ≡ a = omega arith in
    let next : a + 1 ≡ suc a = omega arith in
    let e : greens_in f a (1 + C) ≡ greens_in f a 1 + greens_in f (a + 1) C = greens_split f a 1 C in
    let e' : greens_in f a (1 + C) ≡ greens_in f a (suc C) = ap (greens_in f a) one in
    let last = ap (λ b. cond {A = ℕ} b 1 0) (again a) in
    let head = ap (λ u. cond {A = ℕ} (f u) 1 0) first in
    let place = ap (λ u. greens_in f u C) next in
    omega arith

pub cycle_any : (f : ℕ → Bool) (C a : ℕ) → ((t : ℕ) → f (t + C) ≡ f t) → greens_in f a C ≡ greens_in f 0 C
cycle_any f C zero again = refl
cycle_any f C (suc a) again = cycle_next f C a again ∙ cycle_any f C a again

cycles : (f : ℕ → Bool) (C g r : ℕ) → ((a : ℕ) → g ≤ greens_in f a C) → (q a : ℕ) → q * g ≤ greens_in f a (q * C + r)
cycles f C g r each zero a = omega arith
cycles f C g r each (suc q) a =
    let parts : suc q * C + r ≡ C + (q * C + r) = omega arith in
    let split = ap (greens_in f a) parts ∙ greens_split f a C (q * C + r) in
    let here = each a in
    let more = cycles f C g r each q (a + C) in
    omega arith

-- what the greens of a row of periods serve
pub row_serves : (f : ℕ → Bool) (C g h flow q r n : ℕ) → ((a : ℕ) → g ≤ greens_in f a C) → C * h ≤ flow * g → n ≡ q * C + r → r ≤ C - 1 → (a : ℕ) → n * h ≤ flow * greens_in f a n + h * (C - 1)
row_serves f C g h flow q r n each serves is rest a =
    let greens : q * g ≤ greens_in f a n = subst (λ m. q * g ≤ greens_in f a m) (sym is) (cycles f C g r each q a) in
    let x = mul-le-mul_left q serves in
    let y = mul-le-mul_left flow greens in
    let z = mul-le-mul_left h rest in
    let w = ap (λ m. m * h) is in
    omega arith
