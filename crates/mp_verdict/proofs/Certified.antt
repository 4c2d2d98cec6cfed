-- The certificate at the game's end.
use Rattle.std.proofs.Common.{◌≡◌, ℕ, zero, suc, ◌+◌, ◌-◌, ◌*◌, ◌≤◌, ◌<◌, true, List, length, get_or, sum_by, ℤ, pos, ◌+ℤ◌, ◌*ℤ◌, ◌≤ℤ◌, unsigned_abs, Some, arith, sym, ◌∙◌, ap, subst, mul-le-mul}
use Rattle.std.specs.Int.{IsGcd}
use Rattle.std.proofs.lemmas.Int.{ints}
use Rattle.std.proofs.lemmas.List.FromFn.{length-range_with_len, get_or-range_with_len}
use Rattle.mp_model.specs.Network.{Network, movement_numbers, junction_numbers, junction_at, from_of, share_of, rate_before, into_link, own, has}
use Rattle.mp_model.specs.NetworkRules.{IsNetwork}
use Rattle.mp_model.specs.Certificate.{Mix, no_mix, int_entry, MeetsRules, Certifies}
use Rattle.mp_model.specs.Slack.{IsSlack}
use Rattle.mp_laws.proofs.Lists.{in_numbers}
use Rattle.mp_num.specs.Divisor.{gcd_of}
use Rattle.mp_num.proofs.DivisorLemmas.{IsGcd-gcd_of}
use Rattle.mp_flow.specs.declared.network.Place.{Place}
use Rattle.mp_flow.specs.Systems.{Flows, AreFlows}
use Rattle.mp_simplex.specs.declared.Optimum.{Optimum}
use Rattle.mp_simplex.specs.Outcome.{Optimal, maximised}
use Rattle.mp_verdict.specs.Stated.{Reached}
use Rattle.mp_verdict.specs.Rates.{Rates, rates_at}
use Rattle.mp_verdict.specs.Program.{program, optimum_at}
use Rattle.mp_verdict.specs.Game.{Score}
use Rattle.mp_verdict.specs.declared.TheConstants.{TURN_LIMIT}
use Rattle.mp_verdict.specs.Mixes.{mix_of, mixed, mixes, certificate_of}
use Rattle.mp_verdict.proofs.Plain.{AreRates, asked, unit_asked, values_of}
use Rattle.mp_verdict.proofs.Signed.{mul_posℤ}
use Rattle.mp_verdict.proofs.Falls.{good_at}
use Rattle.mp_verdict.proofs.Carrying.{carried_mass}
use Rattle.mp_verdict.proofs.FlowNumbers.{abs_is, positive_is, flow_is}
use Rattle.mp_verdict.proofs.RatesAt.{d_of, f_of, g_of, IsRates, rates_are, factor_sign}
use Rattle.mp_verdict.proofs.Solved.{IsSolved, plan_of}
use Rattle.mp_verdict.proofs.Programs.{solved_by}
use Rattle.mp_verdict.proofs.Sound.{IsSound}
use Rattle.mp_verdict.proofs.Reaching.{then_reached, same_reached, optimum_reached, each_is}
use Rattle.mp_verdict.proofs.Balance.{balance_is, whole_some, slack_same}
use Rattle.mp_verdict.proofs.NaturalRules.{IsSolvedMix, meets_solved}

need_natural : (x a u : ℕ) → pos x +ℤ (pos a *ℤ pos u) ≡ pos (x + a * u)
need_natural x a u = omega (arith, ints, mul_posℤ a u)

le-of_eq : (m n : ℕ) → m ≡ n → m ≤ n
le-of_eq m n e = omega arith

some_excess : (E q a D : ℕ) → E * q ≡ a * D → 1 ≤ a → 1 ≤ D → 1 ≤ E
some_excess zero q a D e ha hd = absurd (omega (arith, e, mul-le-mul ha hd))
some_excess (suc E) q a D e ha hd = omega arith

-- the mix of a junction comes from an optimum of its program
pub record IsMixOf (net : Network) (rates : Rates) (j : ℕ) (mix : Mix) : Type 0 where
  pub o : Optimum
  pub optimal : maximised (program net (junction_at net j) rates.h) TURN_LIMIT ≡ Optimal o
  pub same : mix ≡ mix_of o

mix_is : (net : Network) (rates : Rates) (j : ℕ) (mix : Mix) → mixed net rates j ≡ Reached mix → IsMixOf net rates j mix
unfolding mixed
mix_is net rates j mix e =
    let outcome = maximised (program net (junction_at net j) rates.h) TURN_LIMIT in
    then_reached (optimum_at (Place.Mix j) j outcome) _ mix e (λ o ho e1. (let s : mix_of o ≡ mix = same_reached (mix_of o) mix e1 in record { o = o; optimal = optimum_reached (Place.Mix j) j outcome o ho; same = sym s }))

record AreMixes (net : Network) (rates : Rates) (list : List Mix) : Type 0 where
  count : length list ≡ length net.junctions
  at : (j : ℕ) → has (junction_numbers net) j ≡ true → IsMixOf net rates j (get_or list (j - 1) no_mix)

mixes_are : (net : Network) (rates : Rates) (list : List Mix) → mixes net rates ≡ Reached list → AreMixes net rates list
unfolding mixes
mixes_are net rates list e =
    let o = each_is (mixed net rates) (junction_numbers net) list e in
    let n = length-range_with_len 1 (length net.junctions) in
    record {
      count = o.same_length ∙ n;
      at = λ j i. (let b = in_numbers (length net.junctions) j i in
          let l : j - 1 < length (junction_numbers net) = omega (arith, b, n) in
          let here : get_or (junction_numbers net) (j - 1) 0 ≡ j = get_or-range_with_len 1 (length net.junctions) (j - 1) 0 (omega (arith, b)) ∙ omega (arith, b) in
          mix_is net rates j (get_or list (j - 1) no_mix) (subst (λ (m : ℕ). mixed net rates m ≡ Reached (get_or list (j - 1) no_mix)) here (o.at (j - 1) 0 no_mix l)));
    }

module _ (net : Network) (ok : IsNetwork net) (flows : Flows) (are : AreFlows net flows) (st : Score) (n : ℕ) (above : st.slack.num ≡ pos (suc n)) (sound : IsSound net flows (length net.junctions) st)
    (rates : Rates) (there : rates_at net flows st.slack ≡ Some rates) (list : List Mix) (mixed_list : mixes net rates ≡ Reached list) where
  abbrev hn : ℕ → ℕ
  hn k = unsigned_abs (int_entry rates.h k)

  abbrev qn : ℕ
  qn = unsigned_abs st.slack.den

  is_rates : IsRates net flows st.slack qn rates
  is_rates = rates_are net flows are st.slack qn rates (positive_is st.slack.den sound.lowest.positive) there

  rate_sign : (k : ℕ) → has (movement_numbers net) k ≡ true → pos 0 ≤ℤ int_entry rates.h k
  rate_sign k i =
      let x = share_of net k * f_of flows (from_of net k) * qn in
      let u = net.per * unit_asked net (d_of flows) (g_of flows) k in
      factor_sign is_rates.are.factor (x + suc n * u) (int_entry rates.h k) is_rates.are.some
      (sym (need_natural x (suc n) u) ∙ ap (λ t. pos x +ℤ (t *ℤ pos u)) (sym above) ∙ is_rates.are.rate k i)

  excess_sign : pos 0 ≤ℤ rates.e
  excess_sign =
      let G = net.shares * net.per * d_of flows in
      factor_sign is_rates.are.factor (G * suc n) rates.e is_rates.are.some (sym (mul_posℤ G (suc n)) ∙ ap (λ t. pos G *ℤ t) (sym above) ∙ is_rates.are.excess)

  natural_rates : AreRates net (d_of flows) (f_of flows) (g_of flows) (pos (suc n)) qn (unsigned_abs rates.d) (pos (unsigned_abs rates.e)) (λ k. pos (hn k))
  natural_rates = record {
    factor = is_rates.are.factor;
    some = is_rates.are.some;
    whole = is_rates.are.whole;
    excess = ap (λ t. pos (net.shares * net.per * d_of flows) *ℤ t) (sym above) ∙ is_rates.are.excess ∙ ap (λ t. pos is_rates.are.factor *ℤ t) (abs_is rates.e excess_sign);
    rate = λ k i. ap (λ t. asked net (d_of flows) (f_of flows) (g_of flows) t qn k) (sym above) ∙ is_rates.are.rate k i ∙ ap (λ t. pos is_rates.are.factor *ℤ t) (abs_is (int_entry rates.h k) (rate_sign k i));
  }

  d_is : rates.d ≡ pos (unsigned_abs rates.d)
  d_is = abs_is rates.d is_rates.sign

  whole_one : 1 ≤ unsigned_abs rates.d
  whole_one = whole_some net ok (d_of flows) (f_of flows) (g_of flows) (flow_is net flows are) (suc n) qn sound.worst.slack.some (unsigned_abs rates.d) (unsigned_abs rates.e) hn natural_rates

  slack_equal : unsigned_abs rates.e * qn ≡ suc n * unsigned_abs rates.d
  slack_equal = slack_same net ok (d_of flows) (f_of flows) (g_of flows) (flow_is net flows are) (suc n) qn sound.worst.slack.some (unsigned_abs rates.d) (unsigned_abs rates.e) hn natural_rates

  all_mixes : AreMixes net rates list
  all_mixes = mixes_are net rates list mixed_list

  solved_at : (j : ℕ) → (i : has (junction_numbers net) j ≡ true) → IsSolved net (junction_at net j) (int_entry rates.h) (all_mixes.at j i).o
  solved_at j i = let b = in_numbers (length net.junctions) j i in
      solved_by net (junction_at net j) rates.h ok (good_at net net.junctions (j - 1) (omega (arith, b)) ok.stages) TURN_LIMIT (all_mixes.at j i).o (all_mixes.at j i).optimal

  solved_mix : (j : ℕ) → has (junction_numbers net) j ≡ true → IsSolvedMix net (certificate_of rates list) (unsigned_abs rates.d) j
  solved_mix j i =
      let b = in_numbers (length net.junctions) j i in
      let o = (all_mixes.at j i).o in
      let s = solved_at j i in
      record {
        o = o;
        same = (all_mixes.at j i).same;
        solved = s;
        mass = carried_mass net (d_of flows) (f_of flows) (g_of flows) st.slack.num qn (unsigned_abs rates.d) rates.e (int_entry rates.h) (junction_at net j) (values_of (own net (junction_at net j)) o.primal) (unsigned_abs o.primal_den) (plan_of o) is_rates.are s.optimum (sound.carries j b.0 (omega (arith, b)));
      }

  -- the certificate meets the rules
  meets : MeetsRules net (certificate_of rates list)
  meets = meets_solved net ok (certificate_of rates list) (unsigned_abs rates.d) (unsigned_abs rates.e) hn is_rates.count all_mixes.count d_is (abs_is rates.e excess_sign) whole_one
      (λ k i. abs_is (int_entry rates.h k) (rate_sign k i)) solved_mix
      (λ k i. le-of_eq (share_of net k * (unsigned_abs rates.d * rate_before net k + net.per * sum_by hn (into_link net (from_of net k))) + net.shares * net.per * unsigned_abs rates.e) (net.shares * net.per * hn k)
      (balance_is net ok (d_of flows) (f_of flows) (g_of flows) (flow_is net flows are) (suc n) qn sound.worst.slack.some (unsigned_abs rates.d) (unsigned_abs rates.e) hn natural_rates k i))

  pub certifies : Certifies net (certificate_of rates list)
  certifies = record {
    rules = meets;
    excess = (let one = some_excess (unsigned_abs rates.e) qn (suc n) (unsigned_abs rates.d) slack_equal (omega arith) whole_one in let e = abs_is rates.e excess_sign in omega (arith, ints, e, one));
  }

  gcd_turned : (a b : ℕ) → gcd_of b a ≡ 1 → IsGcd a b 1
  gcd_turned a b e = let g = subst (λ (m : ℕ). IsGcd b a m) e (IsGcd-gcd_of b a) in (g.1, g.0, λ x p q. g.2 x q p)

  pub has_slack : IsSlack (certificate_of rates list) (suc n) qn
  has_slack = record {
    lowest = record { denominator = sound.worst.slack.some; coprime = gcd_turned (suc n) qn (ap (λ t. gcd_of qn (unsigned_abs t)) (sym above) ∙ sound.lowest.lowest) };
    equal = ap (λ t. pos (suc n) *ℤ t) d_is ∙ mul_posℤ (suc n) (unsigned_abs rates.d) ∙ ap pos (sym slack_equal) ∙ sym (mul_posℤ (unsigned_abs rates.e) qn) ∙ ap (λ t. t *ℤ pos qn) (sym (abs_is rates.e excess_sign));
  }
