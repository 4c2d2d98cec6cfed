-- The calculated vector is the vector of the law, divided by a number.
use Rattle.std.proofs.Common.{◌≡◌, ◌==◌, ℕ, suc, ◌+◌, ◌-◌, ◌*◌, ◌≤◌, ◌<◌, Bool, true, false, cond, List, [], ◌∷◌, length, get_or, sum_by, ℤ, pos, negsuc, ◌+ℤ◌, ◌*ℤ◌, ◌≤ℤ◌, unsigned_abs, Some, arith, refl, sym, ◌∙◌, ap, ap₂, subst, mul-le-mul, All}
use Rattle.std.specs.List.{AllByRecursion}
use Rattle.std.proofs.lemmas.Int.{ints}
use Rattle.std.proofs.lemmas.List.Elements.{All-from_get_or}
use Rattle.std.proofs.lemmas.List.FromFn.{length-range_with_len, get_or-range_with_len, get_or-map-range_with_len}
use Rattle.std.proofs.lemmas.Option.{option_and_then_some}
use Rattle.mp_model.specs.Network.{Network, numbers_to, link_numbers, movement_numbers, junction_at, from_of, to_of, share_of, out_of, own, has}
use Rattle.mp_model.specs.NetworkRules.{IsNetwork}
use Rattle.mp_model.specs.Certificate.{int_entry}
use Rattle.mp_laws.proofs.Lists.{in_numbers, each_in, filter_sub, all_places, at_number, all_in}
use Rattle.mp_num.specs.Divisor.{reduced}
use Rattle.mp_num.specs.Passing.{each}
use Rattle.mp_num.proofs.OutcomeLemmas.{option_map_some, each_some}
use Rattle.mp_num.proofs.RowLemmas.{reduced_multiple}
use Rattle.mp_flow.specs.Systems.{Worths, stated_worths, onward}
use Rattle.mp_num.specs.Operations.{times, num}
use Rattle.mp_verdict.specs.Game.{Score}
use Rattle.mp_verdict.specs.Vector.{value_beside, spread, link_value, link_values, vector_entry, vector_by, vector_of}
use Rattle.mp_verdict.specs.Worst.{naturals_in, IsWorth, IsDivided, against}
use Rattle.mp_verdict.proofs.Plain.{values_of}
use Rattle.mp_verdict.proofs.Signed.{mul_posℤ}
use Rattle.mp_verdict.proofs.Values.{Gives, gives-some, gives-times, gives-plus, gives-same, gives-sum}
use Rattle.mp_verdict.proofs.FlowNumbers.{abs_is, positive_is, onward_is, worth_is}
use Rattle.mp_verdict.proofs.RatesAt.{factor_sign}
use Rattle.mp_verdict.proofs.Sound.{weights_of}
use Rattle.mp_verdict.proofs.StatedFlows.{worths_are}

beside_is : (ks : List ℕ) (zs : List ℤ) (k : ℕ) → AllByRecursion (λ z. pos 0 ≤ℤ z) zs → value_beside ks zs k ≡ pos (values_of ks zs k)
beside_is [] zs k h = refl
beside_is (m ∷ ms) [] k h = refl
beside_is (m ∷ ms) (z ∷ zs) k h = go (m == k) (beside_is ms zs k h.1)
  where
    go : (b : Bool) → value_beside ms zs k ≡ pos (values_of ms zs k) → cond b z (value_beside ms zs k) ≡ pos (cond b (unsigned_abs z) (values_of ms zs k))
    go true e = abs_is z h.0
    go false e = e

spread_is : (net : Network) (st : Score) (k : ℕ) → AllByRecursion (λ z. pos 0 ≤ℤ z) st.values → has (movement_numbers net) k ≡ true → int_entry (spread net st) k ≡ pos (weights_of net st k)
unfolding spread
spread_is net st k h i =
    let b = in_numbers (length net.movements) k i in
    get_or-map-range_with_len (value_beside (own net (junction_at net st.junction)) st.values) 1 (length net.movements) (k - 1) k (pos 0) (omega (arith, b)) (omega (arith, b))
    ∙ beside_is (own net (junction_at net st.junction)) st.values k h

natural_factor : (K n : ℕ) (r : ℤ) → 1 ≤ K → pos n ≡ pos K *ℤ r → n ≡ K * unsigned_abs r
natural_factor K n (pos r) some e = omega (arith, ints, mul_posℤ K r, e)
natural_factor K n (negsuc r) some e = absurd (omega (arith, ints, e, mul-le-mul some (let l : 1 ≤ suc r = omega arith in l)))

module _ (net : Network) (ok : IsNetwork net) (st : Score) (sign : AllByRecursion (λ z. pos 0 ≤ℤ z) st.values) where
  -- what the values bring to the links
  brought : (l : ℕ) → Gives (link_value net (spread net st) l) (pos (sum_by (λ k. share_of net k * weights_of net st k) (out_of net l)))
  unfolding link_value
  brought l =
      gives-sum (λ k. times (num (share_of net k)) (Some (int_entry (spread net st) k))) (λ k. share_of net k * weights_of net st k) (out_of net l)
      (each_in (λ k. Gives (times (num (share_of net k)) (Some (int_entry (spread net st) k))) (pos (share_of net k * weights_of net st k))) (out_of net l)
      (λ k i. gives-same _ _ _ (gives-times (num (share_of net k)) (Some (int_entry (spread net st) k)) (pos (share_of net k)) (int_entry (spread net st) k) (gives-some _) (gives-some _))
      (ap (λ t. pos (share_of net k) *ℤ t) (spread_is net st k sign (filter_sub (λ k. from_of net k == l) (movement_numbers net) k i)) ∙ mul_posℤ (share_of net k) (weights_of net st k))))

  pub record IsBrought (u : List ℤ) : Type 0 where
    pub count : length u ≡ length net.links
    pub at : (l : ℕ) → has (link_numbers net) l ≡ true → int_entry u l ≡ pos (sum_by (λ k. share_of net k * weights_of net st k) (out_of net l))
    pub signs : All (λ v. pos 0 ≤ℤ v) u

  pub brought_is : (u : List ℤ) → link_values net (spread net st) ≡ Some u → IsBrought u
  unfolding link_values
  brought_is u e =
      let o = each_some (link_value net (spread net st)) (link_numbers net) u e in
      let n = length-range_with_len 1 (length net.links) in
      let place : (i : ℕ) → i < length net.links → get_or u i (pos 0) ≡ pos (sum_by (λ k. share_of net k * weights_of net st k) (out_of net (1 + i))) =
      λ i l. (let here : get_or (link_numbers net) i 0 ≡ 1 + i = get_or-range_with_len 1 (length net.links) i 0 l in
      (brought (1 + i)).at (get_or u i (pos 0)) (subst (λ m. link_value net (spread net st) m ≡ Some (get_or u i (pos 0))) here (o.at i 0 (pos 0) (omega (arith, l, n))))) in
      record {
        count = o.same_length ∙ n;
        at = λ l i. (let b = in_numbers (length net.links) l i in let same : 1 + (l - 1) ≡ l = omega (arith, b) in
            place (l - 1) (omega (arith, b)) ∙ ap (λ m. pos (sum_by (λ k. share_of net k * weights_of net st k) (out_of net m))) same);
        signs = All-from_get_or (λ v. pos 0 ≤ℤ v) u (pos 0) (λ i l. subst (λ (t : ℤ). pos 0 ≤ℤ t) (sym (place i (let c = o.same_length in omega (arith, l, c, n)))) (omega (arith, ints)));
      }

  entry_gives : (worths : Worths) (k : ℕ) → pos 1 ≤ℤ worths.d → All (λ v. pos 0 ≤ℤ v) worths.x → has (movement_numbers net) k ≡ true →
      Gives (vector_entry net (spread net st) worths k) (pos (against net (unsigned_abs worths.d) (weights_of net st) (naturals_in worths.x) k))
  unfolding vector_entry
  entry_gives worths k one positive i =
      let z = int_entry (spread net st) k in
      let Z = weights_of net st k in
      let D = unsigned_abs worths.d in
      gives-same _ _ _ (gives-plus (times (Some z) (Some worths.d)) (Some (onward worths.x (to_of net k))) (z *ℤ worths.d) (onward worths.x (to_of net k)) (gives-times (Some z) (Some worths.d) z worths.d (gives-some _) (gives-some _)) (gives-some _))
      (ap₂ (λ a b. a +ℤ b) (ap₂ (λ a b. a *ℤ b) (spread_is net st k sign i) (positive_is worths.d one) ∙ mul_posℤ Z D) (onward_is worths.x positive (to_of net k)))

  -- the vector, and the worths that it comes from
  pub record IsVectorOf (p : List ℤ) : Type 0 where
    pub d : ℕ
    pub x : ℕ → ℕ
    pub worth : IsWorth net d (weights_of net st) x
    pub divided : IsDivided net (against net d (weights_of net st) x) (naturals_in p)
    pub count : length p ≡ length net.movements
    pub signs : AllByRecursion (λ v. pos 0 ≤ℤ v) p

  by_is : (worths : Worths) (p : List ℤ) → IsWorth net (unsigned_abs worths.d) (weights_of net st) (naturals_in worths.x) → pos 1 ≤ℤ worths.d → All (λ v. pos 0 ≤ℤ v) worths.x → vector_by net (spread net st) worths ≡ Some p → IsVectorOf p
  unfolding vector_by
  by_is worths p worth one positive e =
      let D = unsigned_abs worths.d in
      let X = naturals_in worths.x in
      let P : List ℤ → Type 0 = λ p. IsVectorOf p in
      option_map_some _ (each (vector_entry net (spread net st) worths) (movement_numbers net)) p e (λ big hb e'.
      (let m = reduced_multiple big in
      let o = each_some (vector_entry net (spread net st) worths) (movement_numbers net) big hb in
      let n = length-range_with_len 1 (length net.movements) in
      let value : (i : ℕ) → i < length net.movements → has (movement_numbers net) (1 + i) ≡ true → pos (against net D (weights_of net st) X (1 + i)) ≡ pos m.0 *ℤ get_or (reduced big) i (pos 0) =
      λ i l h. (let here : get_or (movement_numbers net) i 0 ≡ 1 + i = get_or-range_with_len 1 (length net.movements) i 0 l in
      sym ((entry_gives worths (1 + i) one positive h).at (get_or big i (pos 0)) (subst (λ k. vector_entry net (spread net st) worths k ≡ Some (get_or big i (pos 0))) here (o.at i 0 (pos 0) (omega (arith, l, n))))) ∙ m.1.at i) in
      subst P (sym e')
      (record {
        d = D;
        x = X;
        worth = worth;
        divided = record {
          factor = m.0;
          some = m.1.above;
          at = λ k i. (let b = in_numbers (length net.movements) k i in
              let same : 1 + (k - 1) ≡ k = omega (arith, b) in
              natural_factor m.0 (against net D (weights_of net st) X k) (get_or (reduced big) (k - 1) (pos 0)) m.1.above
              (subst (λ (t : ℕ). pos (against net D (weights_of net st) X t) ≡ pos m.0 *ℤ get_or (reduced big) (k - 1) (pos 0)) same (value (k - 1) (omega (arith, b)) (subst (λ (t : ℕ). has (movement_numbers net) t ≡ true) (sym same) i))));
        };
        count = m.1.same_length ∙ o.same_length ∙ n;
        signs = all_places (λ v. pos 0 ≤ℤ v) (pos 0) (reduced big)
            (λ i l. (let long = m.1.same_length in let c = o.same_length in
            let inside : i < length net.movements = omega (arith, l, long, c, n) in
            factor_sign m.0 (against net D (weights_of net st) X (1 + i)) (get_or (reduced big) i (pos 0)) m.1.above (value i inside (in_list i (length net.movements) inside))));
      })))
    where
      in_list : (i n : ℕ) → i < n → has (numbers_to n) (1 + i) ≡ true
      in_list i n l = let e : suc i ≡ 1 + i = omega arith in subst (λ (m : ℕ). has (numbers_to n) m ≡ true) e (at_number (λ k. has (numbers_to n) k ≡ true) n i l (all_in (numbers_to n)))

  pub vector_is : (p : List ℤ) → vector_of net st ≡ Some p → IsVectorOf p
  unfolding vector_of
  vector_is p e =
      option_and_then_some _ (link_values net (spread net st)) p e (λ u hu e1.
      option_and_then_some _ (stated_worths net u) p e1 (λ worths hw e2.
      (let b = brought_is u hu in
      let a = worths_are net ok u b.count b.signs worths hw in
      by_is worths p (worth_is net u worths (weights_of net st) a (each_in (λ l. int_entry u l ≡ pos (sum_by (λ k. share_of net k * weights_of net st k) (out_of net l))) (link_numbers net) b.at)) a.denominator a.sign e2)))
