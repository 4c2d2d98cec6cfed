-- What is queued on each link, summed over the first movements.
use Rattle.std.proofs.Common.{◌≡◌, ◌==◌, ◌≤◌, ◌<◌, ℕ, zero, suc, ◌+◌, ◌-◌, ◌*◌, ◌^◌, Bool, true, false, cond, List, length, get_or, set, replicate, sum_by, arith, refl, sym, ◌∙◌, ap, eq-eqb, eqb-true}
use Rattle.std.proofs.lemmas.Bool.{true≢false}
use Rattle.std.proofs.lemmas.List.{length-set, length-replicate}
use Rattle.std.proofs.lemmas.List.FromFn.{length-range_with_len}
use Rattle.mp_model.specs.Network.{Network, entry, from_of, share_of, movement_numbers, numbers_to}
use Rattle.mp_model.specs.NetworkRules.{IsNetwork, IsAcceptable}
use Rattle.mp_laws.proofs.Lists.{each_in}
use Rattle.mp_laws.proofs.Sums.{sum_by-filter}
use Rattle.mp_press.specs.LinkSums.{AreSums}
use Rattle.mp_press.specs.Written.{HasEach, IsAmong}
use Rattle.mp_press.proofs.Known.{among, from_known, share_few}
use Rattle.mp_press.proofs.Sums.{numbers_more, product_fits}
use Rattle.mp_press.proofs.Writes.{entry-set_same, entry-set_other}
use Rattle.mp_press.proofs.Changed.{sum_few}

-- what movement k adds to what is queued on link l
abbrev pub part_on : Network → (ℕ → ℕ) → ℕ → ℕ → ℕ
part_on net q l k = cond (from_of net k == l) (share_of net k * q k) 0

-- the sums over the first i movements
pub record SumsTo (net : Network) (q : ℕ → ℕ) (i : ℕ) (sums : List ℕ) : Type 0 where
  pub size : length sums ≡ length net.links
  pub each : HasEach (λ l. sum_by (part_on net q l) (numbers_to i)) (length net.links) sums

zero_at : (m i : ℕ) → let z : ℕ = 0 in get_or (replicate m z) i z ≡ z
zero_at zero i = refl
zero_at (suc m) zero = refl
zero_at (suc m) (suc i) = zero_at m i

-- before the first movement all are 0
pub sums_start : (net : Network) (q : ℕ → ℕ) (n : ℕ) → n ≡ length net.links → SumsTo net q 0 (replicate n 0)
sums_start net q n e = record {
  size = length-replicate {A = ℕ} n 0 ∙ e;
  each = λ l some few. zero_at n (l - 1);
}

-- one more movement adds to the link that it leaves
pub sums_more : (net : Network) → IsNetwork net → (q : ℕ → ℕ) (i : ℕ) (sums : List ℕ) → i < length net.movements → SumsTo net q i sums → (w : ℕ) → w ≡ entry sums (from_of net (i + 1)) + share_of net (i + 1) * q (i + 1) → SumsTo net q (i + 1) (set sums (from_of net (i + 1) - 1) w)
sums_more net ok q i sums lt to w e = record {
  size = length-set sums (from_of net (i + 1) - 1) w ∙ to.size;
  each = λ l some few. go l some few (from_of net (i + 1) == l) refl;
}
  where
    from : IsAmong (length net.links) (from_of net (i + 1))
    from = from_known net ok (i + 1) (omega arith, omega arith)

    go : (l : ℕ) → 1 ≤ l → l ≤ length net.links → (b : Bool) → (from_of net (i + 1) == l) ≡ b → entry (set sums (from_of net (i + 1) - 1) w) l ≡ sum_by (part_on net q l) (numbers_to (i + 1))
    go l some few true t =
        let same : from_of net (i + 1) ≡ l = eqb-true (from_of net (i + 1)) l t in
        let part : part_on net q l (i + 1) ≡ share_of net (i + 1) * q (i + 1) = ap (λ b. cond {A = ℕ} b (share_of net (i + 1) * q (i + 1)) 0) t in
        let was : entry sums (from_of net (i + 1)) ≡ sum_by (part_on net q l) (numbers_to i) = ap (entry sums) same ∙ to.each l some few in
        let now : entry (set sums (from_of net (i + 1) - 1) w) l ≡ w = entry-set_same sums (from_of net (i + 1)) l w same from.0 (omega (arith, from, to.size)) in
        omega (arith, now, e, was, part, numbers_more (part_on net q l) i)
    go l some few false t =
        let ne : from_of net (i + 1) ≡ l → ⊥ = λ x. true≢false (sym (eq-eqb (from_of net (i + 1)) l x) ∙ t) in
        let part : part_on net q l (i + 1) ≡ 0 = ap (λ b. cond {A = ℕ} b (share_of net (i + 1) * q (i + 1)) 0) t in
        let was : entry sums l ≡ sum_by (part_on net q l) (numbers_to i) = to.each l some few in
        let now : entry (set sums (from_of net (i + 1) - 1) w) l ≡ entry sums l = entry-set_other sums (from_of net (i + 1)) l w ne from.0 (omega (arith, from, to.size)) some in
        omega (arith, now, was, part, numbers_more (part_on net q l) i)

-- no such sum is large
pub sums_few : (net : Network) → IsAcceptable net → (q : ℕ → ℕ) → ((k : ℕ) → q k ≤ 2 ^ 90) → (i : ℕ) (sums : List ℕ) → i ≤ length net.movements → SumsTo net q i sums → (l : ℕ) → IsAmong (length net.links) l → entry sums l ≤ 2 ^ 110
sums_few net ok q few i sums le to l known =
    let each = each_in (λ k. part_on net q l k ≤ 1000 * 2 ^ 90) (numbers_to i) (λ k h. let m = among i k h in one k (omega (arith, m), omega (arith, m))) in
    omega (arith, to.each l known.0 known.1, sum_few (part_on net q l) (1000 * 2 ^ 90) (numbers_to i) each, length-range_with_len 1 i, ok.range.movements)
  where
    one : (k : ℕ) → IsAmong (length net.movements) k → part_on net q l k ≤ 1000 * 2 ^ 90
    one k h = go (from_of net k == l)
      where
        go : (b : Bool) → cond {A = ℕ} b (share_of net k * q k) 0 ≤ 1000 * 2 ^ 90
        go true = product_fits (share_of net k) (q k) (omega (arith, share_few net ok.network k h, ok.range.shares)) (few k)
        go false = omega arith

-- behind the last movement they are what is queued
pub sums_end : (net : Network) (q : ℕ → ℕ) (i : ℕ) (sums : List ℕ) → i ≡ length net.movements → SumsTo net q i sums → AreSums net q sums
sums_end net q i sums e to = record {
  size = to.size;
  each = λ l some few. to.each l some few ∙ ap (λ n. sum_by (part_on net q l) (numbers_to n)) e ∙ sym (sum_by-filter (λ k. from_of net k == l) (λ k. share_of net k * q k) (movement_numbers net));
}
