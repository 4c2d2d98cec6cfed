-- The movements of a junction alone keep the score sound.
use Rattle.std.proofs.Common.{◌≡◌, ◌==◌, ℕ, ◌+◌, ◌-◌, ◌*◌, ◌≤◌, ◌<◌, Bool, true, false, cond, List, [], ◌∷◌, length, map, sum_by, ℤ, pos, ◌-ℤ◌, ◌*ℤ◌, ◌≤ℤ◌, ◌<ℤ◌, unsigned_abs, Option, Some, None, arith, refl, sym, ◌∙◌, ap, subst, mul-le-mul}
use Rattle.std.specs.List.{AllByRecursion}
use Rattle.std.specs.declared.cmp.Ordering.{Ordering}
use Rattle.std.specs.Ordering.{int_cmp}
use Rattle.std.proofs.lemmas.Cmp.{int_ranked}
use Rattle.std.proofs.lemmas.Int.{ints}
use Rattle.std.proofs.lemmas.Bool.{false≢true}
use Rattle.std.proofs.lemmas.Option.{option_and_then_some, same_Some}
use Rattle.std.proofs.lemmas.List.Sums.{sum_by-cons}
use Rattle.mp_model.specs.Network.{Network, Junction, movement_numbers, junction_at, from_of, share_of, flow_of, own, stands_in, has}
use Rattle.mp_model.specs.NetworkRules.{IsNetwork}
use Rattle.mp_laws.proofs.PlainCertificate.{plain_parts_with}
use Rattle.mp_laws.proofs.Sums.{sum_by-same, there}
use Rattle.mp_laws.proofs.Distinct.{range_distinct}
use Rattle.mp_num.specs.Checked.{within, compared}
use Rattle.mp_num.specs.Fraction.{Fraction, IsLowest, lowest_terms}
use Rattle.mp_num.specs.Passing.{stepped}
use Rattle.mp_num.proofs.CheckedLemmas.{within_some}
use Rattle.mp_num.proofs.FracLemmas.{lowest_terms_of}
use Rattle.mp_num.proofs.OutcomeLemmas.{option_map_some}
use Rattle.mp_num.proofs.Ring.{diff_of, differences, diff-eq}
use Rattle.mp_flow.specs.Systems.{Flows, AreFlows}
use Rattle.mp_verdict.specs.Worst.{rate_weight, unit_weight, IsSlackOf, IsWorst}
use Rattle.mp_num.specs.Operations.{times, less, num}
use Rattle.mp_verdict.specs.Rates.{period_unit, rate_need, unit_need}
use Rattle.mp_verdict.specs.Game.{Score, fraction_of, slack_alone, is_less, is_lower, alone, taken, tried}
use Rattle.mp_verdict.proofs.Plain.{CarriesAt, asked, unit_asked, values_of}
use Rattle.mp_verdict.proofs.Signed.{mul_posℤ}
use Rattle.mp_verdict.proofs.Falls.{good_at}
use Rattle.mp_verdict.proofs.Reduce.{of_filter}
use Rattle.mp_verdict.proofs.Carrying.{carries_lower}
use Rattle.mp_verdict.proofs.Values.{Gives, gives-some, gives-times, gives-less, gives-same}
use Rattle.mp_verdict.proofs.FlowNumbers.{positive_is, above_one}
use Rattle.mp_verdict.proofs.RatesAt.{d_of, f_of, g_of, period_gives, rate_gives, unit_gives}
use Rattle.mp_verdict.proofs.Places.{values_outside, filter_test, sum_one}
use Rattle.mp_verdict.proofs.Alone.{alone_is, unit_term, top_alone}
use Rattle.mp_verdict.proofs.Sound.{IsSound, IsSoundAt}

-- a fraction of two given numbers
pub fraction_is : (n d : Option ℤ) (v : ℤ) (T : ℕ) (a : Fraction) → Gives n v → Gives d (pos T) → 1 ≤ T → fraction_of n d ≡ Some a → IsLowest a.num a.den × (a.num *ℤ pos T ≡ v *ℤ a.den)
unfolding fraction_of
fraction_is n d v T a gn gd some e =
    option_and_then_some _ n a e (λ x hx e'.
    option_map_some _ d a e' (λ y hy e''.
    (let ey : y ≡ pos T = gd.at y hy in
    let ex : x ≡ v = gn.at x hx in
    let one : pos 1 ≤ℤ y = omega (arith, ints, ey) in
    let l = lowest_terms_of x y one in
    let P : Fraction → Type 0 = λ b. IsLowest b.num b.den × (b.num *ℤ pos T ≡ v *ℤ b.den) in
    subst P (sym e'') (l.lowest, ap (λ t. (lowest_terms x y).num *ℤ t) (sym ey) ∙ l.same ∙ ap (λ t. t *ℤ (lowest_terms x y).den) ex))))

commuted : (a b : ℤ) → a *ℤ b ≡ b *ℤ a
commuted a b = rw (diff_of a, diff_of b) (simp differences (diff-eq _ _ _ _ (omega arith)))

-- as the law has it
pub slack_is : (net : Network) (c : ℕ) (f g Z : ℕ → ℕ) (z : ℕ) (a : Fraction) → IsLowest a.num a.den → a.num *ℤ pos (net.per * unit_weight net c g Z) ≡ (pos (net.shares * net.per * c * z) -ℤ pos (rate_weight net f Z)) *ℤ a.den →
    IsSlackOf net c f g Z z a.num (unsigned_abs a.den)
slack_is net c f g Z z a l e = record {
  some = above_one a.den l.positive;
  equal = ap (λ t. t *ℤ (pos (net.shares * net.per * c * z) -ℤ pos (rate_weight net f Z))) (sym (positive_is a.den l.positive)) ∙ commuted a.den (pos (net.shares * net.per * c * z) -ℤ pos (rate_weight net f Z)) ∙ sym e;
}

-- a lower slack by the comparison is lower
less_than : (o : Ordering) (x y : ℤ) → o ≡ int_cmp x y → is_less o ≡ true → x <ℤ y
less_than Ordering.Less x y e h = int_ranked x y Ordering.Less e
less_than Ordering.Equal x y e h = absurd (false≢true h)
less_than Ordering.Greater x y e h = absurd (false≢true h)

compared_some : {P : Type 0} (p q : Option ℤ) (o : Ordering) → compared p q ≡ Some o → ((x y : ℤ) → p ≡ Some x → q ≡ Some y → o ≡ int_cmp x y → P) → P
compared_some (Some x) (Some y) o e h = h x y refl refl (sym (same_Some _ _ e))
compared_some (Some x) None o e h = absurd (cc)
compared_some None q o e h = absurd (cc)

lower_is : (a b : Fraction) (r : Bool) → is_lower a b ≡ Some r → r ≡ true → (a.num *ℤ b.den) <ℤ (b.num *ℤ a.den)
unfolding is_lower
lower_is a b r e t =
    option_map_some _ (compared (within (a.num *ℤ b.den)) (within (b.num *ℤ a.den))) r e (λ o ho e'.
    compared_some (within (a.num *ℤ b.den)) (within (b.num *ℤ a.den)) o ho (λ x y hx hy e''.
    (let l = less_than o x y e'' (sym e' ∙ t) in
    subst (λ (s : ℤ). s <ℤ (b.num *ℤ a.den)) (within_some _ x hx) (subst (λ (s : ℤ). x <ℤ s) (within_some _ y hy) l))))

-- a junction without movements carries every slack
zero_parts : (stages : List (List ℕ)) → sum_by (λ y. y) (map (λ (t : List ℕ). 0) stages) ≡ 0
zero_parts [] = refl
zero_parts (t ∷ ts) = omega (arith, sum_by-cons (λ y. y) 0 (map (λ (t : List ℕ). 0) ts), zero_parts ts)

zero_lengths : (stages : List (List ℕ)) → length {A = ℕ} (map (λ (t : List ℕ). 0) stages) ≡ length stages
zero_lengths [] = refl
zero_lengths (t ∷ ts) = omega (arith, zero_lengths ts)

pub carries_none : (net : Network) (c : ℕ) (f g : ℕ → ℕ) (e : ℤ) (q : ℕ) (j : Junction) → own net j ≡ [] → CarriesAt net c f g e q j
carries_none net c f g e q j none =
    let parts : List ℕ = map (λ (t : List ℕ). 0) j.stages in
    let P : List ℕ → Type 0 = λ ks. AllByRecursion (λ k. (pos 1 *ℤ asked net c f g e q k) ≤ℤ pos (flow_of net k * plain_parts_with j.stages parts k)) ks in
    record { plan = record { whole = 1; parts = parts }; whole = omega arith; lengths = zero_lengths j.stages; mass = omega (arith, zero_parts j.stages); serve = subst P (sym none) tt }

alone_sign : (k : ℕ) (ks : List ℕ) → AllByRecursion (λ z. pos 0 ≤ℤ z) (alone k ks)
alone_sign k [] = tt
alone_sign k (m ∷ ks) = (one (m == k), alone_sign k ks)
  where
    one : (b : Bool) → pos 0 ≤ℤ cond b (pos 1) (pos 0)
    one true = omega (arith, ints)
    one false = omega (arith, ints)

module _ (net : Network) (ok : IsNetwork net) (flows : Flows) (are : AreFlows net flows) where
  pub unit_one : (k : ℕ) → 1 ≤ net.per * unit_asked net (d_of flows) (g_of flows) k
  unit_one k =
      let a = mul-le-mul ok.shares (above_one flows.d are.denominator) in
      let b : 1 ≤ unit_asked net (d_of flows) (g_of flows) k = omega (arith, a) in
      mul-le-mul ok.per b

  -- the slack of a movement alone
  alone_slack : (j : Junction) (k : ℕ) (a : Fraction) → has (own net j) k ≡ true → slack_alone net flows k ≡ Some a →
      IsLowest a.num a.den × IsSlackOf net (d_of flows) (f_of flows) (g_of flows) (values_of (own net j) (alone k (own net j))) (flow_of net k) a.num (unsigned_abs a.den)
  unfolding slack_alone
  alone_slack j k a h e =
      let Z = values_of (own net j) (alone k (own net j)) in
      let in' = of_filter (stands_in j) k (movement_numbers net) h in
      let is = alone_is k (own net j) h in
      let x = share_of net k * f_of flows (from_of net k) in
      let u = unit_asked net (d_of flows) (g_of flows) k in
      let one : (t : ℕ → ℕ) → sum_by (λ m. t m * Z m) (movement_numbers net) ≡ t k = λ t.
      sum_by-same (λ m. t m * Z m) (λ m. cond (k == m) (t m) 0) (λ m. ap (λ n. t m * n) (is m) ∙ unit_term (t m) (k == m)) (movement_numbers net)
      ∙ sum_one t k (movement_numbers net) (range_distinct 1 (length net.movements)) in' in
      let rates : rate_weight net (f_of flows) Z ≡ x = one (λ m. share_of net m * f_of flows (from_of net m)) in
      let units : unit_weight net (d_of flows) (g_of flows) Z ≡ u = one (λ m. unit_asked net (d_of flows) (g_of flows) m) in
      let Y = net.shares * net.per * d_of flows in
      let r = fraction_is (less (times (period_unit net flows) (num (flow_of net k))) (rate_need net flows k)) (times (num net.per) (unit_need net flows k)) (pos (Y * flow_of net k) -ℤ pos x) (net.per * u) a
      (gives-less (times (period_unit net flows) (num (flow_of net k))) (rate_need net flows k) (pos (Y * flow_of net k)) (pos x) (gives-same _ _ _ (gives-times (period_unit net flows) (num (flow_of net k)) (pos Y) (pos (flow_of net k)) (period_gives net flows are) (gives-some _)) (mul_posℤ Y (flow_of net k))) (rate_gives net flows are k))
      (gives-same _ _ _ (gives-times (num net.per) (unit_need net flows k) (pos net.per) (pos u) (gives-some _) (unit_gives net flows are k)) (mul_posℤ net.per u)) (unit_one k) e in (
        r.0,
        slack_is net (d_of flows) (f_of flows) (g_of flows) Z (flow_of net k) a r.0
            (ap (λ n. a.num *ℤ pos (net.per * n)) units ∙ r.1 ∙ ap (λ n. (pos (Y * flow_of net k) -ℤ pos n) *ℤ a.den) (sym rates)),
      )

  -- the score that it makes
  alone_worst : (n k : ℕ) (a : Fraction) → (1 ≤ n) × (n ≤ length net.junctions) → has (own net (junction_at net n)) k ≡ true → slack_alone net flows k ≡ Some a →
      IsLowest a.num a.den × IsWorst net (d_of flows) (f_of flows) (g_of flows) n (values_of (own net (junction_at net n)) (alone k (own net (junction_at net n)))) (flow_of net k) a.num (unsigned_abs a.den)
  alone_worst n k a l h e =
      let j = junction_at net n in
      let r = alone_slack j k a h e in
      let Z = values_of (own net j) (alone k (own net j)) in
      let is = alone_is k (own net j) h in
      let in' = of_filter (stands_in j) k (movement_numbers net) h in (
        r.0,
        record {
          is_junction = l;
          outside = λ m i o. values_outside net j (alone k (own net j)) m o;
          top = top_alone net k Z is j (good_at net net.junctions (n - 1) (omega (arith, l)) ok.stages) (filter_test (stands_in j) k (movement_numbers net) h);
          some = (let b = sum_by-same Z (λ m. cond (k == m) 1 0) is (movement_numbers net) in let c = there (λ m. 1) k (movement_numbers net) in' in omega (arith, b, c));
          slack = r.1;
        },
      )

  -- a score with a slack that is not higher keeps what was carried
  lower_from : (a b : Fraction) → IsLowest a.num a.den → IsLowest b.num b.den → (a.num *ℤ b.den) ≤ℤ (b.num *ℤ a.den) → (a.num *ℤ pos (unsigned_abs b.den)) ≤ℤ (b.num *ℤ pos (unsigned_abs a.den))
  lower_from a b la lb h =
      let ea : a.den ≡ pos (unsigned_abs a.den) = positive_is a.den la.positive in
      let eb : b.den ≡ pos (unsigned_abs b.den) = positive_is b.den lb.positive in
      subst (λ (t : ℤ). (a.num *ℤ t) ≤ℤ (b.num *ℤ pos (unsigned_abs a.den))) eb (subst (λ (t : ℤ). (a.num *ℤ b.den) ≤ℤ (b.num *ℤ t)) ea h)

  chosen : (n k : ℕ) (a : Fraction) (old : Score) → n < length net.junctions → has (own net (junction_at net (n + 1))) k ≡ true → slack_alone net flows k ≡ Some a → IsSound net flows n old →
      (b : Bool) → (b ≡ true → (a.num *ℤ old.slack.den) <ℤ (old.slack.num *ℤ a.den)) →
      IsSoundAt net flows n (taken (record { slack = a; junction = n + 1; values = alone k (own net (junction_at net (n + 1))) }) old b)
  chosen n k a old l h e sound true lt =
      let w = alone_worst (n + 1) k a (omega arith, omega arith) h e in
      let less = lt refl in
      let low = lower_from a old.slack w.0 sound.lowest (omega (arith, ints, less)) in
      record {
        whole = flow_of net k;
        lowest = w.0;
        worst = w.1;
        values = alone_sign k (own net (junction_at net (n + 1)));
        carries = λ i some m. carries_lower net (d_of flows) (f_of flows) (g_of flows) old.slack.num (unsigned_abs old.slack.den) a.num (unsigned_abs a.den) (junction_at net i) sound.worst.slack.some low (sound.carries i some m);
      }
  chosen n k a old l h e sound false lt = sound

  tried_sound : (n k : ℕ) (score next : Option Score) → n < length net.junctions → has (own net (junction_at net (n + 1))) k ≡ true → IsSoundAt net flows n score →
      tried net flows (n + 1) (own net (junction_at net (n + 1))) score k ≡ Some next → IsSoundAt net flows n next
  unfolding tried
  tried_sound n k None next l h sound e =
      option_and_then_some _ (slack_alone net flows k) next e (λ a ha e'.
      (let w = alone_worst (n + 1) k a (omega arith, omega arith) h ha in
      subst (IsSoundAt net flows n) (same_Some _ _ e')
      (record {
        whole = flow_of net k;
        lowest = w.0;
        worst = w.1;
        values = alone_sign k (own net (junction_at net (n + 1)));
        carries = λ i some m. carries_none net (d_of flows) (f_of flows) (g_of flows) a.num (unsigned_abs a.den) (junction_at net i) (sound i some m);
      })))
  tried_sound n k (Some old) next l h sound e =
      option_and_then_some _ (slack_alone net flows k) next e (λ a ha e'.
      option_map_some _ (is_lower a old.slack) next e' (λ b hb e''.
      subst (IsSoundAt net flows n) (sym e'') (chosen n k a old l h ha sound b (lower_is a old.slack b hb))))

  pub run_sound : (n : ℕ) (ks : List ℕ) (score next : Option Score) → n < length net.junctions → AllByRecursion (λ k. has (own net (junction_at net (n + 1))) k ≡ true) ks → IsSoundAt net flows n score →
      stepped (tried net flows (n + 1) (own net (junction_at net (n + 1)))) score ks ≡ Some next → IsSoundAt net flows n next
  unfolding stepped
  run_sound n [] score next l h sound e = subst (IsSoundAt net flows n) (same_Some _ _ e) sound
  run_sound n (k ∷ ks) score next l h sound e =
      option_and_then_some _ (tried net flows (n + 1) (own net (junction_at net (n + 1))) score k) next e (λ mid hm e'.
      run_sound n ks mid next l h.1 (tried_sound n k score mid l h.0 sound hm) e')
