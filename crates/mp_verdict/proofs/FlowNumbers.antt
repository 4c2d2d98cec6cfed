-- The flows and the worths of a network as natural numbers.
use Rattle.std.proofs.Common.{◌≡◌, ℕ, ◌+◌, ◌-◌, ◌*◌, ◌≤◌, List, length, sum_by, Option, Some, None, ℤ, pos, negsuc, ◌+ℤ◌, ◌*ℤ◌, ◌≤ℤ◌, unsigned_abs, arith, refl, ◌∙◌, ap, All}
use Rattle.std.specs.List.{AllByRecursion}
use Rattle.std.proofs.lemmas.Int.{ints}
use Rattle.std.proofs.lemmas.List.Elements.{recursion_from_All}
use Rattle.mp_model.specs.Sums.{int_sum_by}
use Rattle.mp_model.specs.Network.{Network, link_numbers, link_at, from_of, to_of, share_of, into_link, out_of}
use Rattle.mp_model.specs.Certificate.{int_entry}
use Rattle.mp_laws.proofs.Lists.{each_in, at_in, at_index}
use Rattle.mp_flow.specs.Systems.{Flows, Worths, AreFlows, AreWorths, IsBalancedFlow, IsBalancedWorth, onward}
use Rattle.mp_verdict.specs.Worst.{naturals_in, IsFlow, IsWorth, ahead}
use Rattle.mp_verdict.proofs.Falls.{ints-same_in}
use Rattle.mp_verdict.proofs.Signed.{ints-pos, mul_posℤ}

pub abs_is : (z : ℤ) → pos 0 ≤ℤ z → z ≡ pos (unsigned_abs z)
abs_is (pos n) h = refl
abs_is (negsuc n) h = absurd (omega (arith, ints))

pub above_one : (z : ℤ) → pos 1 ≤ℤ z → 1 ≤ unsigned_abs z
above_one (pos n) h = omega (arith, ints)
above_one (negsuc n) h = absurd (omega (arith, ints))

pub positive_is : (z : ℤ) → pos 1 ≤ℤ z → z ≡ pos (unsigned_abs z)
positive_is z h = abs_is z (omega (arith, ints))

pub entry_sign : (xs : List ℤ) → All (λ v. pos 0 ≤ℤ v) xs → (l : ℕ) → pos 0 ≤ℤ int_entry xs l
entry_sign xs h l = at_index (λ v. pos 0 ≤ℤ v) (pos 0) xs (l - 1) (recursion_from_All (λ v. pos 0 ≤ℤ v) xs h) (omega (arith, ints))

row_numbers : (W F S D r : ℕ) (f s d : ℤ) → f ≡ pos F → s ≡ pos S → d ≡ pos D → pos W *ℤ f ≡ s +ℤ d *ℤ pos r → W * F ≡ S + D * r
row_numbers W F S D r f s d ef es ed e =
    let a : pos W *ℤ f ≡ pos (W * F) = ap (λ t. pos W *ℤ t) ef ∙ mul_posℤ W F in
    let b : d *ℤ pos r ≡ pos (D * r) = ap (λ t. t *ℤ pos r) ed ∙ mul_posℤ D r in
    omega (arith, ints, a, b, es, e)

shares_sum : (net : Network) (v : ℕ → ℤ) (V : ℕ → ℕ) → ((j : ℕ) → v j ≡ pos (V j)) → (js : List ℕ) → int_sum_by (λ j. pos (share_of net j) *ℤ v j) js ≡ pos (sum_by (λ j. share_of net j * V j) js)
shares_sum net v V h js =
    ints-same_in (λ j. pos (share_of net j) *ℤ v j) (λ j. pos (share_of net j * V j)) js (λ j i. ap (λ t. pos (share_of net j) *ℤ t) (h j) ∙ mul_posℤ (share_of net j) (V j))
    ∙ ints-pos (λ j. share_of net j * V j) js

flow_row : (net : Network) (f : List ℤ) (d : ℤ) (elsewhere l : ℕ) → All (λ v. pos 0 ≤ℤ v) f → pos 1 ≤ℤ d → IsBalancedFlow net f d elsewhere l →
    net.shares * naturals_in f l ≡ sum_by (λ j. share_of net j * naturals_in f (from_of net j)) (into_link net l) + unsigned_abs d * elsewhere
flow_row net f d elsewhere l sign one e =
    row_numbers net.shares (naturals_in f l) (sum_by (λ j. share_of net j * naturals_in f (from_of net j)) (into_link net l)) (unsigned_abs d) elsewhere
    (int_entry f l) (int_sum_by (λ j. pos (share_of net j) *ℤ int_entry f (from_of net j)) (into_link net l)) d
    (abs_is (int_entry f l) (entry_sign f sign l))
    (shares_sum net (λ j. int_entry f (from_of net j)) (λ j. naturals_in f (from_of net j)) (λ j. abs_is (int_entry f (from_of net j)) (entry_sign f sign (from_of net j))) (into_link net l))
    (positive_is d one) e

pub flow_is : (net : Network) (flows : Flows) → AreFlows net flows → IsFlow net (unsigned_abs flows.d) (naturals_in flows.rate) (naturals_in flows.unit)
flow_is net flows a = record {
  some = above_one flows.d a.denominator;
  rate = each_in (λ l. net.shares * naturals_in flows.rate l ≡ sum_by (λ j. share_of net j * naturals_in flows.rate (from_of net j)) (into_link net l) + unsigned_abs flows.d * (net.shares * (link_at net l).rate)) (link_numbers net)
      (λ l i. flow_row net flows.rate flows.d (net.shares * (link_at net l).rate) l a.rate_sign a.denominator (at_in (λ l. IsBalancedFlow net flows.rate flows.d (net.shares * (link_at net l).rate) l) l (link_numbers net) i a.rate_balance));
  unit = each_in (λ l. net.shares * naturals_in flows.unit l ≡ sum_by (λ j. share_of net j * naturals_in flows.unit (from_of net j)) (into_link net l) + unsigned_abs flows.d * (net.shares * length (into_link net l))) (link_numbers net)
      (λ l i. flow_row net flows.unit flows.d (net.shares * length (into_link net l)) l a.unit_sign a.denominator (at_in (λ l. IsBalancedFlow net flows.unit flows.d (net.shares * length (into_link net l)) l) l (link_numbers net) i a.unit_balance));
}

pub onward_is : (x : List ℤ) → All (λ v. pos 0 ≤ℤ v) x → (to : Option ℕ) → onward x to ≡ pos (ahead (naturals_in x) to)
onward_is x h None = refl
onward_is x h (Some l) = abs_is (int_entry x l) (entry_sign x h l)

-- where u has what the values bring to the links
pub worth_is : (net : Network) (u : List ℤ) (worths : Worths) (Z : ℕ → ℕ) → AreWorths net u worths → AllByRecursion (λ l. int_entry u l ≡ pos (sum_by (λ k. share_of net k * Z k) (out_of net l))) (link_numbers net) →
    IsWorth net (unsigned_abs worths.d) Z (naturals_in worths.x)
worth_is net u worths Z a h = record {
  some = above_one worths.d a.denominator;
  row = each_in (λ l. net.shares * naturals_in worths.x l ≡ sum_by (λ k. share_of net k * ahead (naturals_in worths.x) (to_of net k)) (out_of net l) + unsigned_abs worths.d * sum_by (λ k. share_of net k * Z k) (out_of net l)) (link_numbers net)
      (λ l i.
      (let row = at_in (IsBalancedWorth net u worths.x worths.d) l (link_numbers net) i a.balance in
      let U = sum_by (λ k. share_of net k * Z k) (out_of net l) in
      let right = at_in (λ l. int_entry u l ≡ pos (sum_by (λ k. share_of net k * Z k) (out_of net l))) l (link_numbers net) i h in
      row_numbers net.shares (naturals_in worths.x l) (sum_by (λ k. share_of net k * ahead (naturals_in worths.x) (to_of net k)) (out_of net l)) (unsigned_abs worths.d) U
      (int_entry worths.x l) (int_sum_by (λ k. pos (share_of net k) *ℤ onward worths.x (to_of net k)) (out_of net l)) worths.d
      (abs_is (int_entry worths.x l) (entry_sign worths.x a.sign l))
      (shares_sum net (λ k. onward worths.x (to_of net k)) (λ k. ahead (naturals_in worths.x) (to_of net k)) (λ k. onward_is worths.x a.sign (to_of net k)) (out_of net l))
      (positive_is worths.d a.denominator)
      (row ∙ ap (λ t. int_sum_by (λ k. pos (share_of net k) *ℤ onward worths.x (to_of net k)) (out_of net l) +ℤ worths.d *ℤ t) right)));
}
