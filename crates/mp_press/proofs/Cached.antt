-- What is queued on each link where a count changes, and the counts that are large.
use Rattle.std.proofs.Common.{◌≡◌, ◌==◌, ◌≢◌, ◌≤◌, ◌<◌, ℕ, zero, suc, ◌+◌, ◌-◌, ◌*◌, ◌^◌, Bool, true, false, cond, List, [], ◌∷◌, length, get_or, set, replicate, sum_by, Option, None, Some, arith, refl, sym, ◌∙◌, ap, subst, map, pos, eq-eqb, eqb-true, ⊎_elim, mul-zero, mul-le-mul}
use Rattle.std.specs.Prelude.{nat_le}
use Rattle.std.specs.List.{All, AllByRecursion}
use Rattle.std.proofs.lemmas.Bool.{true≢false, le-leb, cases_lt}
use Rattle.std.proofs.lemmas.List.Elements.{All-from_recursion, All-replicate}
use Rattle.std.proofs.lemmas.List.{length-set}
use Rattle.std.proofs.lemmas.List.Sums.{sum_by-cons, sum_by-set}
use Rattle.mp_model.specs.Network.{Network, entry, to_of, from_of, share_of, out_of, out_of_target, has, movement_numbers}
use Rattle.mp_model.specs.NetworkRules.{IsNetwork, IsAcceptable}
use Rattle.mp_model.specs.Pressure.{queued_downstream}
use Rattle.mp_laws.proofs.Lists.{all_of, at_in, each_in, filter_has, filter_sub, has_filter}
use Rattle.mp_laws.proofs.Sums.{terms_le, sum_by-same_at}
use Rattle.mp_press.specs.Queues.{naturals, AreCounts}
use Rattle.mp_press.specs.LinkSums.{AreSums}
use Rattle.mp_press.specs.Written.{HasEach, IsAmong, entry_at}
use Rattle.mp_press.specs.Presses.{queued_on}
use Rattle.mp_press.specs.Weighed.{one_if_large, large_in}
use Rattle.mp_press.proofs.Known.{among, to_known, from_known, share_few, few_kept, kept_differ, has_numbers}
use Rattle.mp_press.proofs.Writes.{entry-set_same, entry-set_other}
use Rattle.mp_press.proofs.Changed.{sum_changed, sum_few}

-- what is queued downstream stands in a table of the links
pub downstream_in : (net : Network) → IsNetwork net → (q : ℕ → ℕ) (table : List ℕ) → HasEach (queued_on net q) (length net.links) table → (k : ℕ) → IsAmong (length net.movements) k → entry_at table (to_of net k) ≡ queued_downstream net q k
downstream_in net ok q table each k h = go (to_of net k) (to_known net ok k)
  where
    go : (to : Option ℕ) → ((l : ℕ) → IsAmong (length net.movements) k → to ≡ Some l → IsAmong (length net.links) l) → entry_at table to ≡ sum_by (λ j. share_of net j * q j) (out_of_target net to)
    go None t = refl
    go (Some l) t = let i = t l h refl in each l i.0 i.1

-- no sum is large where no count is above a bound
pub queued_few : (net : Network) → IsAcceptable net → (most : ℕ) (q : ℕ → ℕ) → ((k : ℕ) → q k ≤ most) → (l : ℕ) → queued_on net q l ≤ 512 * (1000 * most)
queued_few net ok most q few l =
    let p : ℕ → Bool = λ k. from_of net k == l in
    let each : AllByRecursion (λ k. share_of net k * q k ≤ 1000 * most) (out_of net l) =
    each_in (λ k. share_of net k * q k ≤ 1000 * most) (out_of net l) (λ k h.
    let share = share_few net ok.network k (among (length net.movements) k (filter_sub p (movement_numbers net) k h)) in
    let within : share_of net k ≤ 1000 = omega (arith, share, ok.range.shares) in
    mul-le-mul within (few k)) in
    let many : length (out_of net l) ≤ 512 = omega (arith, few_kept p (length net.movements), ok.range.movements) in
    let same : 1000 * most ≤ 1000 * most = omega arith in
    let all : length (out_of net l) * (1000 * most) ≤ 512 * (1000 * most) = mul-le-mul many same in
    omega (arith, sum_few (λ k. share_of net k * q k) (1000 * most) (out_of net l) each, all)

pub downstream_few : (net : Network) → IsAcceptable net → (most : ℕ) (q : ℕ → ℕ) → ((k : ℕ) → q k ≤ most) → (k : ℕ) → queued_downstream net q k ≤ 512 * (1000 * most)
downstream_few net ok most q few k = go (to_of net k)
  where
    go : (to : Option ℕ) → sum_by (λ j. share_of net j * q j) (out_of_target net to) ≤ 512 * (1000 * most)
    go None = omega arith
    go (Some l) = queued_few net ok most q few l

-- where the count of movement k changes, so does what is queued on the link that it leaves
module _ (net : Network) (ok : IsNetwork net) (counts : List ℕ) (size : length counts ≡ length net.movements) (k v : ℕ) (known : IsAmong (length net.movements) k) where
  abbrev pub after : List ℕ
  after = set counts (k - 1) v

  other : (i : ℕ) → i ≢ k → IsAmong (length net.movements) i → entry after i ≡ entry counts i
  other i ne h = entry-set_other counts k i v (λ e. ne (sym e)) known.0 (omega (arith, size, known)) h.0

  here : entry after k ≡ v
  here = entry-set_same counts k k v refl known.0 (omega (arith, size, known))

  term : (l i : ℕ) → has (out_of net l) i ≡ true → i ≢ k → share_of net i * entry after i ≡ share_of net i * entry counts i
  term l i h ne = ap (λ n. share_of net i * n) (other i ne (among (length net.movements) i (filter_sub (λ k. from_of net k == l) (movement_numbers net) i h)))

  -- movement k is one of those out of its link
  stands : has (out_of net (from_of net k)) k ≡ true
  stands = has_filter (λ i. from_of net i == from_of net k) k (movement_numbers net) (has_numbers (length net.movements) k known) (eq-eqb (from_of net k) (from_of net k) refl)

  pub there : share_of net k * entry counts k ≤ queued_on net (entry counts) (from_of net k)
  there = let f : ℕ → ℕ = λ k. share_of net k * entry counts k in at_in (λ m. f m ≤ sum_by f (out_of net (from_of net k))) k (out_of net (from_of net k)) stands (terms_le f (out_of net (from_of net k)))

  on_link : queued_on net (entry after) (from_of net k) ≡ queued_on net (entry counts) (from_of net k) + share_of net k * v - share_of net k * entry counts k
  on_link =
      let l = from_of net k in
      let sums = sum_changed (λ k. share_of net k * entry counts k) (λ k. share_of net k * entry after k) k (out_of net l) (kept_differ (λ k. from_of net k == l) (length net.movements)) (term l) stands in
      let new : share_of net k * entry after k ≡ share_of net k * v = ap (λ n. share_of net k * n) here in
      omega (arith, sums, new)

  elsewhere : (l : ℕ) → l ≢ from_of net k → queued_on net (entry after) l ≡ queued_on net (entry counts) l
  elsewhere l ne = sum_by-same_at (λ k. share_of net k * entry after k) (λ k. share_of net k * entry counts k) (out_of net l)
      (each_in _ (out_of net l) (λ i h. term l i h (λ e. ne (sym (eqb-true (from_of net i) l (filter_has (λ k. from_of net k == l) (movement_numbers net) i h)) ∙ ap (from_of net) e))))

  pub sums_after : (sums : List ℕ) → AreSums net (entry counts) sums → (w : ℕ) → w ≡ entry sums (from_of net k) + share_of net k * v - share_of net k * entry counts k → AreSums net (entry after) (set sums (from_of net k - 1) w)
  sums_after sums are w e = record {
    size = length-set sums (from_of net k - 1) w ∙ are.size;
    each = λ l some few. go l some few (l == from_of net k) refl;
  }
    where
      from : IsAmong (length net.links) (from_of net k)
      from = from_known net ok k known

      go : (l : ℕ) → 1 ≤ l → l ≤ length net.links → (b : Bool) → (l == from_of net k) ≡ b → entry (set sums (from_of net k - 1) w) l ≡ queued_on net (entry after) l
      go l some few true t =
          let same : from_of net k ≡ l = sym (eqb-true l (from_of net k) t) in
          entry-set_same sums (from_of net k) l w same from.0 (omega (arith, from, are.size)) ∙ e
          ∙ ap (λ n. n + share_of net k * v - share_of net k * entry counts k) (are.each (from_of net k) from.0 from.1)
          ∙ sym on_link ∙ ap (queued_on net (entry after)) same
      go l some few false t =
          let ne : from_of net k ≡ l → ⊥ = λ x. true≢false (sym (eq-eqb l (from_of net k) (sym x)) ∙ t) in
          entry-set_other sums (from_of net k) l w ne from.0 (omega (arith, from, are.size)) some
          ∙ are.each l some few ∙ sym (elsewhere l (λ x. ne (sym x)))

-- no count of a list without large ones is large
pub none_large : (counts : List ℕ) → (let z : ℕ = 0 in large_in counts ≡ z) → All (λ q. q < 2 ^ 31) counts
none_large counts h = All-from_recursion (λ q. q < 2 ^ 31) counts (go counts h)
  where
    small : (q : ℕ) → one_if_large q ≤ 0 → q < 2 ^ 31
    small q h = go (nat_le (2 ^ 31) q) refl h
      where
        go : (b : Bool) → nat_le (2 ^ 31) q ≡ b → cond {A = ℕ} b 1 0 ≤ 0 → q < 2 ^ 31
        go true e h = absurd (omega arith)
        go false e h = ⊎_elim (λ (l : q < 2 ^ 31). l) (λ (g : 2 ^ 31 ≤ q). absurd (true≢false (sym (le-leb (2 ^ 31) q g) ∙ e))) (cases_lt q (2 ^ 31))

    go : (counts : List ℕ) → (let z : ℕ = 0 in large_in counts ≡ z) → AllByRecursion (λ q. q < 2 ^ 31) counts
    go [] h = tt
    go (q ∷ qs) h = (small q (omega (arith, sum_by-cons one_if_large q qs)), go qs (omega (arith, sum_by-cons one_if_large q qs)))

pub one_few : (n : ℕ) → one_if_large n ≤ 1
one_few n = go (nat_le (2 ^ 31) n)
  where
    go : (b : Bool) → cond {A = ℕ} b 1 0 ≤ 1
    go true = omega arith
    go false = omega arith

-- there are no more large counts than counts
pub large_few : (counts : List ℕ) → large_in counts ≤ length counts
large_few counts = omega (arith, sum_few one_if_large 1 counts (all_of (λ q. one_if_large q ≤ 1) one_few counts))

-- how many are large where one count changes
pub large_after : (counts : List ℕ) (k v : ℕ) → IsAmong (length counts) k → large_in counts + one_if_large v - one_if_large (entry counts k) ≡ large_in (set counts (k - 1) v)
large_after counts k v h = omega (arith, sum_by-set one_if_large counts (k - 1) v 0 (omega (arith, h)))

-- counts that are all 0
pub zero_naturals : (m : ℕ) → naturals (replicate m (pos 0)) ≡ replicate m 0
zero_naturals zero = refl
zero_naturals (suc m) = ap (λ xs. 0 ∷ xs) (zero_naturals m)

zeros_positive : (m : ℕ) → map pos (replicate m 0) ≡ replicate m (pos 0)
zeros_positive zero = refl
zeros_positive (suc m) = ap (λ xs. pos 0 ∷ xs) (zeros_positive m)

pub zeros_count : (m : ℕ) → AreCounts (replicate m (pos 0))
zeros_count m = record {
  none_negative = ap (map pos) (zero_naturals m) ∙ zeros_positive m;
  few = subst (All (λ q. q ≤ 2 ^ 90)) (sym (zero_naturals m)) (All-replicate (λ q. q ≤ 2 ^ 90) m 0 (omega arith));
}
