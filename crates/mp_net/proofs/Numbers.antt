-- Chains over the numbers from 1, as the rules ask them.
use Rattle.std.proofs.Common.{◌≡◌, ℕ, zero, suc, ◌+◌, ◌-◌, ◌*◌, ◌^◌, ◌≤◌, ◌<◌, Bool, true, false, cond, List, [], ◌∷◌, Option, filter, sum_by, refl, sym, ◌∙◌, arith}
use Rattle.std.proofs.lemmas.Iterator.{YieldsList-from_range}
use Rattle.std.proofs.lemmas.Iterator.Adapters.{option_map_id}
use Rattle.std.proofs.lemmas.Iterator.Search.{find_from_yields_List, any_from_yields_List}
use Rattle.std.proofs.lemmas.List.Sums.{sum_by-cons}
use Rattle.std.proofs.iter.Yields.{nat_range_steps}
use Rattle.std.specs.Bool.{⊤}
use Rattle.std.specs.Fn.{Called, CalledAt}
use Rattle.std.specs.Iterator.{YieldsThen}
use Rattle.std.specs.List.{find, list_any, range_with_len, FoldsTo}
use Rattle.std.specs.Option.{MatchOption}
use Rattle.std.specs.declared.ops.Range.{Range}
use denote.Param.Members.{Mut}
use denote.Ref.{Bor}

-- the first number from 1 that passes a test
pub found : {F : Type 0} {g : Mut F (Bor ℕ × Unit {0}) Bool} {f : F} {r : Option ℕ} {end : ℕ} (test : ℕ → Bool) (n : ℕ) (u : Range ℕ) → end - 1 ≡ n
    → (xs : List ℕ) × (j : F) × YieldsThen nat_range_steps (record { start = 1; end = end }) xs r u × FoldsTo (λ p x q. CalledAt g p x false q) f xs j × MatchOption r ⊤ (λ x. (h : F) × CalledAt g j x true h)
    → ((x : ℕ) (b : Bool) (q : F) → CalledAt g f x b q → (q ≡ f) × (b ≡ test x)) → r ≡ find test (range_with_len 1 n)
found {f = f} {r = r} {end = end} test n u e ran k = sym (option_map_id r) ∙ find_from_yields_List test u f r ran (YieldsList-from_range 1 end n refl e) k

-- whether a number from 1 passes a test
pub asked : {F : Type 0} {g : Mut F (ℕ × Unit {0}) Bool} {f : F} {r : Bool} {end : ℕ} (test : ℕ → Bool) (n : ℕ) (u : Range ℕ) → end - 1 ≡ n
    → (xs : List ℕ) × (o : Option ℕ) × (j : F) × YieldsThen nat_range_steps (record { start = 1; end = end }) xs o u × FoldsTo (λ p x q. Called g p (x, tt) false q) f xs j × MatchOption o (r ≡ false) (λ x. (r ≡ true) × ((h : F) × Called g j (x, tt) true h))
    → ((x : ℕ) (b : Bool) (q : F) → Called g f (x, tt) b q → (q ≡ f) × (b ≡ test x)) → r ≡ list_any test (range_with_len 1 n)
asked {f = f} {r = r} {end = end} test n u e ran k = any_from_yields_List test u f r ran (YieldsList-from_range 1 end n refl e) k

-- the numbers of a range that pass, with one more number
filter-range_more : (p : ℕ → Bool) (f : ℕ → ℕ) (a n : ℕ) → sum_by f (filter p (range_with_len a (n + 1))) ≡ sum_by f (filter p (range_with_len a n)) + cond {A = ℕ} (p (a + n)) (f (a + n)) 0
filter-range_more p f a zero = let e : a + 0 ≡ a = omega arith in rw e (one (p a))
  where
    one : (b : Bool) → sum_by f (cond {A = List ℕ} b (a ∷ []) []) ≡ 0 + cond {A = ℕ} b (f a) 0
    one true = sum_by-cons f a [] ∙ omega arith
    one false = refl
filter-range_more p f a (suc n) =
    let e : a + suc n ≡ a + 1 + n = omega arith in
    let same : suc n + 1 ≡ suc (n + 1) = omega arith in
    rw (same, e) (one (p a) (filter p (range_with_len (a + 1) (n + 1))) (filter p (range_with_len (a + 1) n)) (cond {A = ℕ} (p (a + 1 + n)) (f (a + 1 + n)) 0) (filter-range_more p f (a + 1) n))
  where
    one : (b : Bool) (xs ys : List ℕ) (c : ℕ) → sum_by f xs ≡ sum_by f ys + c → sum_by f (cond {A = List ℕ} b (a ∷ xs) xs) ≡ sum_by f (cond {A = List ℕ} b (a ∷ ys) ys) + c
    one true xs ys c h = omega (arith, h, sum_by-cons f a xs, sum_by-cons f a ys)
    one false xs ys c h = h

-- the sum of what a function gives at the numbers below i that pass, each below 2 ^ 32
pub record SummedTo (p : ℕ → Bool) (f : ℕ → ℕ) (i sum : ℕ) : Type 0 where
  pub same : sum ≡ sum_by f (filter p (range_with_len 1 (i - 1)))
  pub small : sum ≤ (i - 1) * 2 ^ 32

pub SummedTo-start : (p : ℕ → Bool) (f : ℕ → ℕ) → SummedTo p f 1 0
SummedTo-start p f = record { same = refl; small = omega arith }

SummedTo-more : (p : ℕ → Bool) (f : ℕ → ℕ) (i sum more : ℕ) → SummedTo p f i sum → 1 ≤ i → more ≡ cond {A = ℕ} (p i) (f i) 0 → more < 2 ^ 32 → SummedTo p f (i + 1) (sum + more)
SummedTo-more p f i sum more h low same few =
    let e : i + 1 - 1 ≡ i - 1 + 1 = omega arith in
    let b : sum + more ≤ (i - 1 + 1) * 2 ^ 32 = omega (arith, h.small) in
    let at : 1 + (i - 1) ≡ i = omega arith in
    let step : sum + more ≡ sum_by f (filter p (range_with_len 1 (i - 1))) + cond {A = ℕ} (p (1 + (i - 1))) (f (1 + (i - 1))) 0 = rw (at, ← same, ← h.same) in
    record { same = rw e (step ∙ sym (filter-range_more p f 1 (i - 1))); small = rw e b }

pub SummedTo-hit : (p : ℕ → Bool) (f : ℕ → ℕ) (i sum x : ℕ) → SummedTo p f i sum → 1 ≤ i → p i ≡ true → x ≡ f i → x < 2 ^ 32 → SummedTo p f (i + 1) (sum + x)
SummedTo-hit p f i sum x h low passes same few = SummedTo-more p f i sum x h low (rw (passes, same)) few

pub SummedTo-miss : (p : ℕ → Bool) (f : ℕ → ℕ) (i sum : ℕ) → SummedTo p f i sum → 1 ≤ i → p i ≡ false → SummedTo p f (i + 1) sum
SummedTo-miss p f i sum h low other =
    let same : sum + 0 ≡ sum = omega arith in
    rw same at (SummedTo-more p f i sum 0 h low (rw other) (omega arith))

pub ruleset summed = (SummedTo-start, SummedTo-hit, SummedTo-miss)
