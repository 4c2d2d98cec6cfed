-- Sums over what stages owe, as they are added up and as one of them pays.
use Rattle.std.proofs.Common.{◌≡◌, ◌≢◌, ℕ, ◌+◌, ◌-◌, ◌*◌, ◌<◌, ◌≤◌, cond, nat_lt, List, length, set, get_or, take, sum, sum_by, Option, Some, None, arith, refl, ap, ap₂, ◌∙◌, ⊎_elim, mul-le-mul_left}
use Rattle.std.proofs.lemmas.Bool.{cases_lt, lt-ltb}
use Rattle.std.proofs.lemmas.Grind.{get_or-set_at}
use Rattle.std.proofs.lemmas.List.{length-set, get_or-set_other}
use Rattle.std.proofs.lemmas.List.Sums.{sum_by-set, sum_by_more}
use Rattle.mp_model.specs.Guard.{owing}
use Rattle.mp_model.specs.GuardedRun.{less_by, needed_in}
use Rattle.mp_model.specs.Network.{entry}

-- ---- a sum over the first of a list
pub record Summed (f : ℕ → ℕ) (most : ℕ) (xs : List ℕ) (i now : ℕ) : Type 0 where
  pub so_far : now ≡ sum_by f (take i xs)
  pub few : now ≤ most * i

pub summed_start : (f : ℕ → ℕ) (most : ℕ) (xs : List ℕ) → Summed f most xs 0 0
summed_start f most xs = record { so_far = refl; few = omega arith }

pub summed_more : (f : ℕ → ℕ) (most : ℕ) (xs : List ℕ) (i now x : ℕ) → Summed f most xs i now → i < length xs → x ≡ f (get_or xs i 0) → x ≤ most → Summed f most xs (i + 1) (now + x)
summed_more f most xs i now x s within is few = record { so_far = (let e = sum_by_more f xs i 0 within in omega (arith, s.so_far, e, is)); few = omega (arith, s.few, few) }

-- ---- one stage pays
pub owes_one : (n : ℕ) → 1 ≤ n → cond {A = ℕ} (nat_lt 0 n) 1 0 ≡ 1
owes_one n some = ap (λ b. cond {A = ℕ} b 1 0) (lt-ltb 0 n some)

pub owes_none : (n : ℕ) → n ≡ 0 → cond {A = ℕ} (nat_lt 0 n) 1 0 ≡ 0
owes_none n none = ap (λ m. cond {A = ℕ} (nat_lt 0 m) 1 0) none

pub at_most_one : (n : ℕ) → cond {A = ℕ} (nat_lt 0 n) 1 0 ≤ 1
at_most_one n = ⊎_elim (λ (lt : 0 < n). let e = owes_one n lt in omega arith) (λ (le : n ≤ 0). let e = owes_none n (omega arith) in omega arith) (cases_lt 0 n)

pub sum_paid : (owed : List ℕ) (p : ℕ) → 1 ≤ p → p ≤ length owed → sum (less_by owed (Some p)) + cond {A = ℕ} (nat_lt 0 (get_or owed (p - 1) 0)) 1 0 ≡ sum owed
sum_paid owed p low high =
    let e : sum (set owed (p - 1) (entry owed p - 1)) + get_or owed (p - 1) 0 ≡ sum owed + (entry owed p - 1) = sum_by-set (λ n. n) owed (p - 1) (entry owed p - 1) 0 (omega arith) in
    ⊎_elim
    (λ (lt : 0 < get_or owed (p - 1) 0). let o = owes_one (get_or owed (p - 1) 0) lt in omega arith)
    (λ (le : get_or owed (p - 1) 0 ≤ 0). let o = owes_none (get_or owed (p - 1) 0) (omega arith) in omega arith)
    (cases_lt 0 (get_or owed (p - 1) 0))

owing_paid : (owed : List ℕ) (p : ℕ) → 1 ≤ p → p ≤ length owed → owing (less_by owed (Some p)) + cond {A = ℕ} (nat_lt 0 (get_or owed (p - 1) 0)) 1 0 ≡ owing owed + cond {A = ℕ} (nat_lt 0 (get_or owed (p - 1) 0 - 1)) 1 0
owing_paid owed p low high = sum_by-set (λ n. cond (nat_lt 0 n) 1 0) owed (p - 1) (entry owed p - 1) 0 (omega arith)

pub owing_last : (owed : List ℕ) (p : ℕ) → 1 ≤ p → p ≤ length owed → get_or owed (p - 1) 0 ≡ 1 → owing (less_by owed (Some p)) + 1 ≡ owing owed
owing_last owed p low high one =
    let e = owing_paid owed p low high in
    let a : cond {A = ℕ} (nat_lt 0 (get_or owed (p - 1) 0)) 1 0 ≡ 1 = ap (λ n. cond {A = ℕ} (nat_lt 0 n) 1 0) one in
    let b : cond {A = ℕ} (nat_lt 0 (get_or owed (p - 1) 0 - 1)) 1 0 ≡ 0 = ap (λ n. cond {A = ℕ} (nat_lt 0 (n - 1)) 1 0) one in
    omega arith

pub owing_stays : (owed : List ℕ) (p : ℕ) → 1 ≤ p → p ≤ length owed → get_or owed (p - 1) 0 ≢ 1 → owing (less_by owed (Some p)) ≡ owing owed
owing_stays owed p low high other =
    let e = owing_paid owed p low high in
    let same = go (get_or owed (p - 1) 0) other in
    omega arith
  where
    go : (n : ℕ) → n ≢ 1 → cond {A = ℕ} (nat_lt 0 (n - 1)) 1 0 ≡ cond {A = ℕ} (nat_lt 0 n) 1 0
    go n h = ⊎_elim
        (λ (lt : 0 < n). let a = owes_one n lt in let b = owes_one (n - 1) (omega (arith, h)) in omega arith)
        (λ (le : n ≤ 0). let a = owes_none n (omega arith) in let b = owes_none (n - 1) (omega arith) in omega arith)
        (cases_lt 0 n)

pub less_length : (owed : List ℕ) (payer : Option ℕ) → length (less_by owed payer) ≡ length owed
less_length owed None = refl
less_length owed (Some p) = length-set owed (p - 1) (entry owed p - 1)

-- leaving stage s out
pub owing_without : (owed : List ℕ) (s : ℕ) → 1 ≤ s → s ≤ length owed → owing (set owed (s - 1) 0) + cond {A = ℕ} (nat_lt 0 (entry owed s)) 1 0 ≡ owing owed
owing_without owed s low high = let e = sum_by-set (λ n. cond (nat_lt 0 n) 1 0) owed (s - 1) 0 0 (omega arith) in omega arith

pub left_same : (owed : List ℕ) (p s : ℕ) → p ≡ s → 1 ≤ s → s ≤ length owed → entry (less_by owed (Some p)) s ≡ entry owed s - 1
left_same owed p s is low high = let place : s - 1 ≡ p - 1 = omega arith in get_or-set_at owed (p - 1) (s - 1) (entry owed p - 1) 0 place (omega arith) ∙ ap (λ n. entry owed n - 1) is

pub left_other : (owed : List ℕ) (p s : ℕ) → p ≢ s → 1 ≤ p → 1 ≤ s → entry (less_by owed (Some p)) s ≡ entry owed s
left_other owed p s other one low = get_or-set_other owed (p - 1) (s - 1) (entry owed p - 1) 0 (λ e. other (omega arith))

-- what is needed, from its parts
pub needed_from : (lost : ℕ) (owed : List ℕ) (s all count here : ℕ) → 1 ≤ s → s ≤ length owed → all ≡ sum owed → count ≡ owing owed → here ≡ cond {A = ℕ} (nat_lt 0 (entry owed s)) 1 0 → all + lost * (count - here) ≡ needed_in lost owed s
needed_from lost owed s all count here low high a b c =
    let e = owing_without owed s low high in
    let n : count - here ≡ owing (set owed (s - 1) 0) = omega arith in
    ap₂ (λ x y. x + lost * y) a n

pub here_few : (owed : List ℕ) (s count here : ℕ) → 1 ≤ s → s ≤ length owed → count ≡ owing owed → here ≡ cond {A = ℕ} (nat_lt 0 (entry owed s)) 1 0 → here ≤ count
here_few owed s count here low high b c = let e = owing_without owed s low high in omega arith

pub owing_some : (owed : List ℕ) (s : ℕ) → 1 ≤ s → s ≤ length owed → get_or owed (s - 1) 0 ≡ 1 → 1 ≤ owing owed
owing_some owed s low high one = let e = owing_last owed s low high one in omega arith

pub lost_few : (lost n : ℕ) → lost ≤ 1 → n ≤ 16 → lost * n ≤ 16
lost_few lost n a b = let p : n * lost ≤ n * 1 = mul-le-mul_left n a in omega arith

pub ruleset summings = (summed_start, summed_more)
