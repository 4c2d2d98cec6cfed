-- Loops over the stages of a junction and their greens.
use Rattle.std.proofs.Common.{◌≡◌, ℕ, ◌+◌, ◌-◌, ◌*◌, ◌^◌, ◌<◌, ◌≤◌, true, false, cond, ◌&&◌, nat_lt, List, [], ◌∷◌, length, drop, get_or, sum, arith, refl, ◌∙◌, ap}
use Rattle.std.specs.List.{list_all}
use Rattle.std.proofs.lemmas.List.{drop_more, drop_all}
use Rattle.std.proofs.lemmas.List.Sums.{sum_by-cons}
use Rattle.mp_model.specs.Guard.{is_always_green, owing, sum_with}
use Rattle.mp_model.specs.Network.{Junction, stage_at, entry, has}

-- ---- greens, and the changes to them
abbrev pub takes : ℕ → List ℕ → ℕ
takes lost xs = sum xs + lost * owing xs

takes-cons : (lost x : ℕ) (xs : List ℕ) → takes lost (x ∷ xs) ≡ (x + lost * cond {A = ℕ} (nat_lt 0 x) 1 0) + takes lost xs
takes-cons lost x xs = omega (arith, sum_by-cons (λ (n : ℕ). n) x xs, ap (λ n. lost * n) (sum_by-cons (λ n. cond {A = ℕ} (nat_lt 0 n) 1 0) x xs))

pub record Taking (lost : ℕ) (xs : List ℕ) (i now : ℕ) : Type 0 where
  pub rest : now + takes lost (drop i xs) ≡ takes lost xs
  pub few : now ≤ i * (10 ^ 20 + 1)

pub taking_start : (lost : ℕ) (xs : List ℕ) → Taking lost xs 0 0
taking_start lost xs = record { rest = omega arith; few = omega arith }

pub taking_more : (lost : ℕ) (xs : List ℕ) (i now x : ℕ) → Taking lost xs i now → i < length xs → x ≡ get_or xs i 0 + lost * cond {A = ℕ} (nat_lt 0 (get_or xs i 0)) 1 0 → x ≤ 10 ^ 20 + 1 → Taking lost xs (i + 1) (now + x)
taking_more lost xs i now x t within is few = record {
  rest = (let e : takes lost (drop i xs) ≡ (get_or xs i 0 + lost * cond {A = ℕ} (nat_lt 0 (get_or xs i 0)) 1 0) + takes lost (drop (i + 1) xs) = ap (takes lost) (drop_more xs i 0 within) ∙ takes-cons lost (get_or xs i 0) (drop (i + 1) xs) in omega (arith, t.rest, e, is));
  few = omega (arith, t.few, few);
}

pub taking_end : (lost : ℕ) (xs : List ℕ) (i now : ℕ) → Taking lost xs i now → length xs ≤ i → now ≡ takes lost xs
taking_end lost xs i now t past = let e : takes lost (drop i xs) ≡ 0 = ap (takes lost) (drop_all i xs past) ∙ omega arith in omega (arith, t.rest, e)

pub ruleset takings = (taking_start, taking_more, taking_end)

-- ---- a movement in all stages
pub record Passing (j : Junction) (k i : ℕ) : Type 0 where
  pub rest : is_always_green j k ≡ list_all (λ stage. has stage k) (drop i j.stages)

pub passing_start : (j : Junction) (k : ℕ) → Passing j k 0
passing_start j k = record { rest = refl }

passing_at : (j : Junction) (k i : ℕ) → Passing j k i → i < length j.stages → is_always_green j k ≡ (has (stage_at j (i + 1)) k && list_all (λ stage. has stage k) (drop (i + 1) j.stages))
passing_at j k i p within =
    let same : i ≡ (i + 1) - 1 = omega arith in
    p.rest ∙ ap (list_all (λ stage. has stage k)) (drop_more j.stages i [] within) ∙ ap (λ n. has (get_or j.stages n []) k && list_all (λ stage. has stage k) (drop (i + 1) j.stages)) same

pub passing_more : (j : Junction) (k i : ℕ) → Passing j k i → i < length j.stages → has (stage_at j (i + 1)) k ≡ true → Passing j k (i + 1)
passing_more j k i p within here = record { rest = passing_at j k i p within ∙ ap (λ b. b && list_all (λ stage. has stage k) (drop (i + 1) j.stages)) here }

pub passing_fails : (j : Junction) (k i : ℕ) → Passing j k i → i < length j.stages → has (stage_at j (i + 1)) k ≡ false → is_always_green j k ≡ false
passing_fails j k i p within here = passing_at j k i p within ∙ ap (λ b. b && list_all (λ stage. has stage k) (drop (i + 1) j.stages)) here

pub passing_end : (j : Junction) (k i : ℕ) → Passing j k i → length j.stages ≤ i → is_always_green j k ≡ true
passing_end j k i p past = p.rest ∙ ap (list_all (λ stage. has stage k)) (drop_all i j.stages past)

pub ruleset passings = (passing_start, passing_more, passing_fails, passing_end)

-- ---- the greens of the stages that hold a movement
pub record Withs (j : Junction) (greens : List ℕ) (k i now : ℕ) : Type 0 where
  pub rest : now + sum_with (drop i j.stages) (drop i greens) k ≡ sum_with j.stages greens k
  pub few : now ≤ i * 10 ^ 20

pub withs_start : (j : Junction) (greens : List ℕ) (k : ℕ) → Withs j greens k 0 0
withs_start j greens k = record { rest = omega arith; few = omega arith }

pub withs_more : (j : Junction) (greens : List ℕ) (k i now x : ℕ) → Withs j greens k i now → i < length j.stages → length greens ≡ length j.stages
    → x ≡ cond {A = ℕ} (has (stage_at j (i + 1)) k) (entry greens (i + 1)) 0 → x ≤ 10 ^ 20 → Withs j greens k (i + 1) (now + x)
withs_more j greens k i now x w within size is few =
    let same : (i + 1) - 1 ≡ i = omega arith in
    let here : x ≡ cond {A = ℕ} (has (get_or j.stages i []) k) (get_or greens i 0) 0 = is ∙ ap (λ n. cond {A = ℕ} (has (get_or j.stages n []) k) (get_or greens n 0) 0) same in
    let e : sum_with (drop i j.stages) (drop i greens) k ≡ cond {A = ℕ} (has (get_or j.stages i []) k) (get_or greens i 0) 0 + sum_with (drop (i + 1) j.stages) (drop (i + 1) greens) k =
    ap (λ ss. sum_with ss (drop i greens) k) (drop_more j.stages i [] within) ∙ ap (λ ns. sum_with (get_or j.stages i [] ∷ drop (i + 1) j.stages) ns k) (drop_more greens i 0 (omega arith)) in
    record { rest = omega (arith, w.rest, e, here); few = omega (arith, w.few, few) }

pub withs_end : (j : Junction) (greens : List ℕ) (k i now : ℕ) → Withs j greens k i now → length j.stages ≤ i → now ≡ sum_with j.stages greens k
withs_end j greens k i now w past = let e : sum_with (drop i j.stages) (drop i greens) k ≡ 0 = ap (λ ss. sum_with ss (drop i greens) k) (drop_all i j.stages past) in omega (arith, w.rest, e)

pub ruleset withs = (withs_start, withs_more, withs_end)
