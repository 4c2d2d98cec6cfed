-- What a period takes from what the stages of a movement owe.
use Rattle.std.proofs.Common.{◌≡◌, ◌==◌, ℕ, zero, suc, ◌+◌, ◌-◌, ◌≤◌, ◌<◌, Bool, true, false, cond, not, ◌&&◌, ◌||◌, nat_lt, List, [], ◌∷◌, length, get_or, sum, find, set, Option, Some, None, arith, refl, sym, ◌∙◌, ap, eqb-true, eq-eqb, zero-le}
use Rattle.std.specs.List.{list_all}
use Rattle.std.proofs.lemmas.Bool.{or_left, or_right, true≢false, false≢true}
use Rattle.std.proofs.lemmas.List.{length-set}
use Rattle.std.proofs.lemmas.List.Sums.{sum_by-cons}
use Rattle.mp_laws.proofs.Lists.{in_numbers}
use Rattle.mp_model.specs.Guard.{is_always_green, sum_with}
use Rattle.mp_model.specs.GuardedRun.{Account, is_change, is_idle, less_by, paid, is_green}
use Rattle.mp_model.specs.Network.{Junction, stage_at, stage_numbers, has, entry}

-- writing one number changes the sum where its stage holds the movement
pub sum_with_set : (stages : List (List ℕ)) (owed : List ℕ) (k i x : ℕ) → i < length owed → length owed ≡ length stages →
    sum_with stages (set owed i x) k + cond (has (get_or stages i []) k) (get_or owed i 0) 0 ≡ sum_with stages owed k + cond (has (get_or stages i []) k) x 0
sum_with_set [] [] k i x lt e = absurd (omega arith)
sum_with_set [] (o ∷ owed) k i x lt e = absurd (omega arith)
sum_with_set (stage ∷ stages) [] k i x lt e = absurd (omega arith)
sum_with_set (stage ∷ stages) (o ∷ owed) k zero x lt e = omega arith
sum_with_set (stage ∷ stages) (o ∷ owed) k (suc i) x lt e = let more = sum_with_set stages owed k i x (omega arith) (omega arith) in omega arith

-- the stages of a movement owe at most what all owe
pub sum_with_le : (stages : List (List ℕ)) (owed : List ℕ) (k : ℕ) → sum_with stages owed k ≤ sum owed
sum_with_le [] owed k = zero-le
sum_with_le (stage ∷ stages) [] k = zero-le
sum_with_le (stage ∷ stages) (o ∷ owed) k = let more = sum_with_le stages owed k in one (has stage k) more
  where
    one : (b : Bool) → sum_with stages owed k ≤ sum owed → cond b o 0 + sum_with stages owed k ≤ sum (o ∷ owed)
    one true h = let e : sum (o ∷ owed) ≡ o + sum owed = sum_by-cons (λ n. n) o owed in omega arith
    one false h = let e : sum (o ∷ owed) ≡ o + sum owed = sum_by-cons (λ n. n) o owed in omega arith

pub both : (x y : Bool) → (x && y) ≡ true → (x ≡ true) × (y ≡ true)
both true y e = (refl, e)
both false y e = absurd (false≢true e)

-- a test that each passes passes at one that is there
all_pass : (p : ℕ → Bool) (k : ℕ) (xs : List ℕ) → list_all p xs ≡ true → has xs k ≡ true → p k ≡ true
all_pass p k [] all in' = absurd (false≢true in')
all_pass p k (x ∷ xs) all in' = let b = both (p x) (list_all p xs) all in go (all_pass p k xs b.1) b.0 (x == k) refl
  where
    go : (has xs k ≡ true → p k ≡ true) → p x ≡ true → (b : Bool) → (x == k) ≡ b → p k ≡ true
    go more now true e = ap p (sym (eqb-true x k e)) ∙ now
    go more now false e = more (sym (ap (λ b. b || has xs k) e) ∙ in')

-- a stage that holds a movement which is counted, and isn't always green, is not idle
holds_none : (j : Junction) (counts : ℕ → ℕ) (owed : List ℕ) (s k : ℕ) → is_always_green j k ≡ false → 1 ≤ counts k → is_idle j counts owed s ≡ true → (b : Bool) → has (stage_at j s) k ≡ b → b ≡ false
holds_none j counts owed s k not_always counted idle false e = refl
holds_none j counts owed s k not_always counted idle true e =
    let all = (both (nat_lt 0 (entry owed s)) (list_all (λ k. is_always_green j k || counts k == 0) (stage_at j s)) idle).1 in
    let test = all_pass (λ k. is_always_green j k || counts k == 0) k (stage_at j s) all e in
    let zero_count : (counts k == 0) ≡ true = sym (ap (λ b. b || counts k == 0) not_always) ∙ test in
    let is : counts k ≡ 0 = eqb-true (counts k) 0 zero_count in
    absurd (omega arith)

-- what is found passes, and is one of the list
pub found_passes : (p : ℕ → Bool) (xs : List ℕ) (r : ℕ) → find p xs ≡ Some r → (p r ≡ true) × (has xs r ≡ true)
found_passes p [] r e = cc
found_passes p (x ∷ xs) r e = go (found_passes p xs r) (p x) refl e
  where
    go : (find p xs ≡ Some r → (p r ≡ true) × (has xs r ≡ true)) → (b : Bool) → p x ≡ b → cond b (Some x) (find p xs) ≡ Some r → (p r ≡ true) × (has (x ∷ xs) r ≡ true)
    go more true t f = let is : x ≡ r = cc in (ap p (sym is) ∙ t, or_left (x == r) (has xs r) (eq-eqb x r is))
    go more false t f = let m = more f in (m.0, or_right (x == r) (has xs r) m.1)

-- What paying does to what the stages of movement k owe: at most one is taken, and where the stage that pays does not hold k, nothing.
pub record Pays (stages : List (List ℕ)) (before after : List ℕ) (k : ℕ) (green : Bool) : Type 0 where
  pub length : length after ≡ length before
  pub falls : sum_with stages after k ≤ sum_with stages before k
  pub one : sum_with stages before k ≤ sum_with stages after k + 1
  pub earned : sum_with stages before k ≤ sum_with stages after k + cond green 1 0

pays_nothing : (stages : List (List ℕ)) (owed : List ℕ) (k : ℕ) (green : Bool) → Pays stages owed owed k green
pays_nothing stages owed k green = record { length = refl; falls = omega arith; one = omega arith; earned = omega arith }

less_one : (h : Bool) (a b o : ℕ) → a + cond h o 0 ≡ b + cond h (o - 1) 0 → (a ≤ b) × (b ≤ a + 1) × (h ≡ false → b ≤ a)
less_one true a b o e = (omega arith, omega arith, λ n. absurd (true≢false n))
less_one false a b o e = (omega arith, omega arith, λ n. omega arith)

pays_stage : (j : Junction) (owed : List ℕ) (r k : ℕ) (green : Bool) → length owed ≡ length j.stages → 1 ≤ r → r ≤ length j.stages → (has (stage_at j r) k ≡ true → green ≡ true) → Pays j.stages owed (less_by owed (Some r)) k green
pays_stage j owed r k green len low high why =
    let changed = sum_with_set j.stages owed k (r - 1) (entry owed r - 1) (omega arith) len in
    let less = less_one (has (stage_at j r) k) (sum_with j.stages (less_by owed (Some r)) k) (sum_with j.stages owed k) (entry owed r) changed in
    record {
      length = length-set owed (r - 1) (entry owed r - 1);
      falls = less.0;
      one = less.1;
      earned = earned (has (stage_at j r) k) refl green why less.1 less.2;
    }
  where
    earned : (b : Bool) → has (stage_at j r) k ≡ b → (g : Bool) → (has (stage_at j r) k ≡ true → g ≡ true) → sum_with j.stages owed k ≤ sum_with j.stages (less_by owed (Some r)) k + 1 →
        (has (stage_at j r) k ≡ false → sum_with j.stages owed k ≤ sum_with j.stages (less_by owed (Some r)) k) → sum_with j.stages owed k ≤ sum_with j.stages (less_by owed (Some r)) k + cond g 1 0
    earned true e true w one none = one
    earned true e false w one none = absurd (false≢true (w e))
    earned false e g w one none = let le = none e in omega arith

-- at no change the stage that is taken gives its movements green
no_change_green : (lost : ℕ) (j : Junction) (before : Option ℕ) (s k : ℕ) → not (is_change lost before s) ≡ true → has (stage_at j s) k ≡ true → is_green lost j before s k ≡ true
no_change_green lost j None s k kept in' = in'
no_change_green lost j (Some r) s k kept in' = ap (λ b. b && (not (is_change lost (Some r) s) || has (stage_at j r) k)) in' ∙ ap (λ b. b || has (stage_at j r) k) kept

-- a period in which k is counted takes nothing from what its stages owe, unless k is green
pub pays_when_counted : (lost : ℕ) (j : Junction) (counts : ℕ → ℕ) (account : Account) (s k : ℕ) → length account.owed ≡ length j.stages → 1 ≤ s → s ≤ length j.stages → is_always_green j k ≡ false → 1 ≤ counts k →
    Pays j.stages account.owed (paid lost j counts account s) k (is_green lost j account.before s k)
pays_when_counted lost j counts account s k len low high not_always counted = go (not (is_change lost account.before s)) (nat_lt 0 (entry account.owed s)) refl
  where
    idle : (found : Option ℕ) → find (is_idle j counts account.owed) (stage_numbers j) ≡ found → Pays j.stages account.owed (less_by account.owed found) k (is_green lost j account.before s k)
    idle None e = pays_nothing j.stages account.owed k (is_green lost j account.before s k)
    idle (Some r) e =
        let f = found_passes (is_idle j counts account.owed) (stage_numbers j) r e in
        let range = in_numbers (length j.stages) r f.1 in
        pays_stage j account.owed r k (is_green lost j account.before s k) len range.0 (omega (arith, range.1))
        (λ holds. absurd (false≢true (sym (holds_none j counts account.owed r k not_always counted f.0 (has (stage_at j r) k) refl) ∙ holds)))

    go : (kept owes : Bool) → not (is_change lost account.before s) ≡ kept → Pays j.stages account.owed (less_by account.owed (cond (kept && owes) (Some s) (find (is_idle j counts account.owed) (stage_numbers j)))) k (is_green lost j account.before s k)
    go true true e = pays_stage j account.owed s k (is_green lost j account.before s k) len low high (λ holds. no_change_green lost j account.before s k e holds)
    go true false e = idle (find (is_idle j counts account.owed) (stage_numbers j)) refl
    go false owes e = idle (find (is_idle j counts account.owed) (stage_numbers j)) refl

-- any period takes at most one
pub pays_at_most_one : (lost : ℕ) (j : Junction) (counts : ℕ → ℕ) (account : Account) (s k : ℕ) → length account.owed ≡ length j.stages → 1 ≤ s → s ≤ length j.stages → Pays j.stages account.owed (paid lost j counts account s) k true
pays_at_most_one lost j counts account s k len low high = go (not (is_change lost account.before s) && nat_lt 0 (entry account.owed s))
  where
    idle : (found : Option ℕ) → find (is_idle j counts account.owed) (stage_numbers j) ≡ found → Pays j.stages account.owed (less_by account.owed found) k true
    idle None e = pays_nothing j.stages account.owed k true
    idle (Some r) e =
        let f = found_passes (is_idle j counts account.owed) (stage_numbers j) r e in
        let range = in_numbers (length j.stages) r f.1 in
        pays_stage j account.owed r k true len range.0 (omega (arith, range.1)) (λ holds. refl)

    go : (stage : Bool) → Pays j.stages account.owed (less_by account.owed (cond stage (Some s) (find (is_idle j counts account.owed) (stage_numbers j)))) k true
    go true = pays_stage j account.owed s k true len low high (λ holds. refl)
    go false = idle (find (is_idle j counts account.owed) (stage_numbers j)) refl
