-- What the calculations of the rates give.
use Rattle.std.proofs.Common.{◌≡◌, ℕ, suc, ◌+◌, ◌-◌, ◌*◌, ◌≤◌, ◌<◌, List, ◌∷◌, length, get_or, ℤ, pos, negsuc, ◌+ℤ◌, ◌*ℤ◌, ◌≤ℤ◌, unsigned_abs, Some, arith, refl, sym, ◌∙◌, ap, ap₂, subst, mul-le-mul, length-drop}
use Rattle.std.proofs.lemmas.Int.{ints}
use Rattle.std.proofs.lemmas.Option.{option_and_then_some}
use Rattle.std.proofs.lemmas.List.{get_or-drop}
use Rattle.std.proofs.lemmas.List.FromFn.{length-range_with_len, get_or-range_with_len}
use Rattle.mp_model.specs.Network.{Network, movement_numbers, from_of, share_of}
use Rattle.mp_model.specs.Certificate.{int_entry}
use Rattle.mp_laws.proofs.Lists.{in_numbers}
use Rattle.mp_num.specs.Divisor.{reduced}
use Rattle.mp_num.specs.Fraction.{Fraction}
use Rattle.mp_num.specs.Passing.{each}
use Rattle.mp_num.proofs.Ring.{diff_of, differences, diff-eq}
use Rattle.mp_num.proofs.RowLemmas.{reduced_multiple}
use Rattle.mp_num.proofs.OutcomeLemmas.{option_map_some, each_some}
use Rattle.mp_flow.specs.Systems.{Flows, AreFlows}
use Rattle.mp_num.specs.Operations.{times, num}
use Rattle.mp_verdict.specs.Rates.{Rates, period_unit, rate_need, unit_need, need_at, rates_in, rate_row, rates_at}
use Rattle.mp_verdict.specs.Worst.{naturals_in}
use Rattle.mp_verdict.proofs.Plain.{AreRates, asked, unit_asked}
use Rattle.mp_verdict.proofs.Signed.{mul_posℤ}
use Rattle.mp_verdict.proofs.Values.{Gives, gives-some, gives-times, gives-plus, gives-same}
use Rattle.mp_verdict.proofs.FlowNumbers.{abs_is, positive_is, entry_sign}

-- the flows as natural numbers
abbrev pub d_of : Flows → ℕ
d_of flows = unsigned_abs flows.d

abbrev pub f_of : Flows → ℕ → ℕ
f_of flows = naturals_in flows.rate

abbrev pub g_of : Flows → ℕ → ℕ
g_of flows = naturals_in flows.unit

pub need_law : (x q H u : ℕ) (e : ℤ) → pos x *ℤ pos q +ℤ ((pos H *ℤ e) *ℤ pos u) ≡ pos (x * q) +ℤ (e *ℤ pos (H * u))
need_law x q H u e = ap₂ (λ a b. a +ℤ b) (mul_posℤ x q) (turned e (pos H) (pos u) ∙ ap (λ t. e *ℤ t) (mul_posℤ H u))
  where
    turned : (e h u : ℤ) → (h *ℤ e) *ℤ u ≡ e *ℤ (h *ℤ u)
    turned e h u = rw (diff_of e, diff_of h, diff_of u) (simp differences (diff-eq _ _ _ _ (omega arith)))

whole_law : (x q K : ℕ) (d : ℤ) → 1 ≤ K → pos x *ℤ pos q ≡ pos K *ℤ d → x * q ≡ K * unsigned_abs d
whole_law x q K (pos d) some e = omega (arith, ints, mul_posℤ x q, mul_posℤ K d, e)
whole_law x q K (negsuc d) some e = absurd (omega (arith, ints, mul_posℤ x q, e, mul-le-mul some (let l : 1 ≤ suc d = omega arith in l)))

pub factor_sign : (K n : ℕ) (h : ℤ) → 1 ≤ K → pos n ≡ pos K *ℤ h → pos 0 ≤ℤ h
factor_sign K n (pos h) some e = omega (arith, ints)
factor_sign K n (negsuc h) some e = absurd (omega (arith, ints, e, mul-le-mul some (let l : 1 ≤ suc h = omega arith in l)))

-- what the rates at a slack are
pub record IsRates (net : Network) (flows : Flows) (slack : Fraction) (q : ℕ) (rates : Rates) : Type 0 where
  pub are : AreRates net (d_of flows) (f_of flows) (g_of flows) slack.num q (unsigned_abs rates.d) rates.e (int_entry rates.h)
  pub sign : pos 0 ≤ℤ rates.d
  pub count : length rates.h ≡ length net.movements

module _ (net : Network) (flows : Flows) (are : AreFlows net flows) where
  pub period_gives : Gives (period_unit net flows) (pos (net.shares * net.per * d_of flows))
  unfolding period_unit
  period_gives =
      gives-same _ _ _ (gives-times (times (num net.shares) (num net.per)) (Some flows.d) (pos net.shares *ℤ pos net.per) flows.d (gives-times (num net.shares) (num net.per) (pos net.shares) (pos net.per) (gives-some _) (gives-some _)) (gives-some _))
      (ap₂ (λ s t. s *ℤ t) (mul_posℤ net.shares net.per) (positive_is flows.d are.denominator) ∙ mul_posℤ (net.shares * net.per) (d_of flows))

  pub rate_gives : (k : ℕ) → Gives (rate_need net flows k) (pos (share_of net k * f_of flows (from_of net k)))
  unfolding rate_need
  rate_gives k =
      let x = int_entry flows.rate (from_of net k) in
      gives-same _ _ _ (gives-times (num (share_of net k)) (Some x) (pos (share_of net k)) x (gives-some _) (gives-some _))
      (ap (λ t. pos (share_of net k) *ℤ t) (abs_is x (entry_sign flows.rate are.rate_sign (from_of net k))) ∙ mul_posℤ (share_of net k) (f_of flows (from_of net k)))

  pub unit_gives : (k : ℕ) → Gives (unit_need net flows k) (pos (unit_asked net (d_of flows) (g_of flows) k))
  unfolding unit_need
  unit_gives k =
      let w = share_of net k in
      let x = int_entry flows.unit (from_of net k) in
      let g = g_of flows (from_of net k) in
      gives-same _ _ _ (gives-plus (times (num w) (Some x)) (times (num net.shares) (Some flows.d)) (pos w *ℤ x) (pos net.shares *ℤ flows.d) (gives-times (num w) (Some x) (pos w) x (gives-some _) (gives-some _)) (gives-times (num net.shares) (Some flows.d) (pos net.shares) flows.d (gives-some _) (gives-some _)))
      (ap₂ (λ a b. a +ℤ b)
      (ap (λ t. pos w *ℤ t) (abs_is x (entry_sign flows.unit are.unit_sign (from_of net k))) ∙ mul_posℤ w g)
      (ap (λ t. pos net.shares *ℤ t) (positive_is flows.d are.denominator) ∙ mul_posℤ net.shares (d_of flows))
      ∙ plus_posℤ (w * g) (net.shares * d_of flows))
    where
      plus_posℤ : (a b : ℕ) → pos a +ℤ pos b ≡ pos (a + b)
      plus_posℤ a b = refl

  -- the need at a slack
  pub need_gives : (slack : Fraction) (q k : ℕ) → slack.den ≡ pos q → Gives (need_at net flows slack k) (asked net (d_of flows) (f_of flows) (g_of flows) slack.num q k)
  unfolding need_at
  need_gives slack q k e =
      let x = share_of net k * f_of flows (from_of net k) in
      let u = unit_asked net (d_of flows) (g_of flows) k in
      gives-same _ _ _
      (gives-plus (times (rate_need net flows k) (Some slack.den)) (times (times (num net.per) (Some slack.num)) (unit_need net flows k)) (pos x *ℤ slack.den) ((pos net.per *ℤ slack.num) *ℤ pos u)
      (gives-times (rate_need net flows k) (Some slack.den) (pos x) slack.den (rate_gives k) (gives-some _))
      (gives-times (times (num net.per) (Some slack.num)) (unit_need net flows k) (pos net.per *ℤ slack.num) (pos u) (gives-times (num net.per) (Some slack.num) (pos net.per) slack.num (gives-some _) (gives-some _)) (unit_gives k)))
      (ap (λ t. pos x *ℤ t +ℤ ((pos net.per *ℤ slack.num) *ℤ pos u)) e ∙ need_law x q net.per u slack.num)

  row_rates : (slack : Fraction) (q : ℕ) (row : List ℤ) → slack.den ≡ pos q → rate_row net flows slack ≡ Some row → IsRates net flows slack q (rates_in (reduced row))
  unfolding rate_row
  row_rates slack q row den e =
      let G = net.shares * net.per * d_of flows in
      let P : List ℤ → Type 0 = λ row. IsRates net flows slack q (rates_in (reduced row)) in
      option_and_then_some _ (times (period_unit net flows) (Some slack.den)) row e (λ d hd e1.
      option_and_then_some _ (times (period_unit net flows) (Some slack.num)) row e1 (λ x hx e2.
      option_map_some _ (each (need_at net flows slack) (movement_numbers net)) row e2 (λ needs hn e3.
      (let big : List ℤ = d ∷ x ∷ needs in
      let m = reduced_multiple big in
      let K = m.0 in
      let small = reduced big in
      let dv : d ≡ pos G *ℤ slack.den = (gives-times (period_unit net flows) (Some slack.den) (pos G) slack.den period_gives (gives-some _)).at d hd in
      let xv : x ≡ pos G *ℤ slack.num = (gives-times (period_unit net flows) (Some slack.num) (pos G) slack.num period_gives (gives-some _)).at x hx in
      let o = each_some (need_at net flows slack) (movement_numbers net) needs hn in
      let first : pos G *ℤ pos q ≡ pos K *ℤ get_or small 0 (pos 0) = ap (λ t. pos G *ℤ t) (sym den) ∙ sym dv ∙ m.1.at 0 in
      let n = length-range_with_len 1 (length net.movements) in
      subst P (sym e3)
      (record {
        are = record {
          factor = K;
          some = m.1.above;
          whole = whole_law G q K (get_or small 0 (pos 0)) m.1.above first;
          excess = sym xv ∙ m.1.at 1;
          rate = λ k i.
              (let b = in_numbers (length net.movements) k i in
              let l : k - 1 < length (movement_numbers net) = omega (arith, b, n) in
              let here : get_or (movement_numbers net) (k - 1) 0 ≡ k = get_or-range_with_len 1 (length net.movements) (k - 1) 0 (omega (arith, b)) ∙ omega (arith, b) in
              let value = (need_gives slack q k den).at (get_or needs (k - 1) (pos 0)) (subst (λ n. need_at net flows slack n ≡ Some (get_or needs (k - 1) (pos 0))) here (o.at (k - 1) 0 (pos 0) l)) in
              let place : suc (suc (k - 1)) ≡ 2 + (k - 1) = omega arith in
              sym value ∙ m.1.at (suc (suc (k - 1))) ∙ ap (λ n. pos K *ℤ get_or small n (pos 0)) place ∙ ap (λ t. pos K *ℤ t) (sym (get_or-drop 2 small (k - 1) (pos 0))));
        };
        sign = factor_sign K (G * q) (get_or small 0 (pos 0)) m.1.above (sym (mul_posℤ G q) ∙ first);
        count = (let long = m.1.same_length in let c = o.same_length in let s = length-drop 2 small in omega (arith, long, c, s, n));
      })))))

  pub rates_are : (slack : Fraction) (q : ℕ) (rates : Rates) → slack.den ≡ pos q → rates_at net flows slack ≡ Some rates → IsRates net flows slack q rates
  unfolding rates_at
  rates_are slack q rates den e =
      option_map_some _ (rate_row net flows slack) rates e (λ row hr e1. subst (IsRates net flows slack q) (sym e1) (row_rates slack q row den hr))
