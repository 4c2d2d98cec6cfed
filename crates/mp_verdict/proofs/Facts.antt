-- The five facts.
use Rattle.std.proofs.Common.{◌≡◌, ℕ, ◌+◌, ◌*◌, ◌/◌, ◌≤◌, true, List, [], ◌∷◌, length, sum_by, Option, Some, None, arith, refl, sym, ◌∙◌, ap, mul-zero}
use Rattle.std.proofs.Math.Nat.{mul-div_cancel_left}
use Rattle.std.specs.Prelude.{IfSome}
use Rattle.std.proofs.lemmas.List.Sums.{sum_by-cons}
use Rattle.mp_model.specs.Network.{Network, movement_numbers, link_numbers, link_at, from_of, to_of, share_of, rate_before, into_link, out_of, out_of_target, has}
use Rattle.mp_model.specs.NetworkRules.{IsNetwork}
use Rattle.mp_model.specs.Pressure.{queued_downstream, positive_weight}
use Rattle.mp_model.specs.Load.{load}
use Rattle.mp_laws.proofs.Sums.{sum_by-same, sum_by-same_at, sum_by-add, sum_by-mul}
use Rattle.mp_laws.proofs.Exchange.{exchange}
use Rattle.mp_laws.proofs.Lists.{at_in, each_in}
use Rattle.mp_verdict.specs.Worst.{IsFlow, IsWorth, ahead, against, rate_weight, unit_weight}

pub mul_cancel : (a b c : ℕ) → 1 ≤ a → a * b ≡ a * c → b ≡ c
mul_cancel a b c h e = sym (mul-div_cancel_left b h) ∙ ap (λ x. x / a) e ∙ mul-div_cancel_left c h

-- terms that agree at the elements
pub sum_by-same_in : (f g : ℕ → ℕ) (xs : List ℕ) → ((x : ℕ) → has xs x ≡ true → f x ≡ g x) → sum_by f xs ≡ sum_by g xs
sum_by-same_in f g xs h = sum_by-same_at f g xs (each_in (λ x. f x ≡ g x) xs h)

pub sum_by-ones : (xs : List ℕ) → sum_by (λ x. 1) xs ≡ length xs
sum_by-ones [] = refl
sum_by-ones (x ∷ xs) = omega (arith, sum_by-cons (λ (x : ℕ). 1) x xs, sum_by-ones xs)

spread_term : (w z x d : ℕ) → w * (z * d + x) ≡ w * x + d * (w * z)
spread_term w z x d = omega arith

unit_term : (W c n w p G S one : ℕ) → W * G ≡ S + c * (W * n) → one ≡ n → W * (w * G * p) ≡ (w * p) * S + W * c * ((w * p) * one)
unit_term W c n w p G S one e o = omega (arith, ap (λ t. w * p * t) e, ap (λ t. W * c * (w * p) * t) o)

unit_numbers : (W c d uz ux z x uq q count inflow weight : ℕ) → 1 ≤ W → W * uq ≡ inflow + W * c * count → inflow ≡ W * ux → count ≡ W * x → uq ≡ d * uz + ux → q ≡ d * z + x → weight ≡ uz + W * c * z → W * c * q ≡ d * weight
unit_numbers W c d uz ux z x uq q count inflow weight some e1 e2 e3 e4 e5 e6 =
    mul_cancel W (W * c * q) (d * weight) some (omega (arith, e1, e2, ap (λ n. W * c * n) e3, ap (λ n. W * n) e4, ap (λ n. W * (W * c) * n) e5, ap (λ n. W * d * n) e6))

rate_term : (W d n w p F S : ℕ) → W * F ≡ S + d * (W * n) → W * (w * F * p) ≡ (w * p) * S + W * d * (p * w * n)
rate_term W d n w p F S e = omega (arith, ap (λ t. w * p * t) e)

module _ (net : Network) (ok : IsNetwork net) (d : ℕ) (Z x : ℕ → ℕ) (worth : IsWorth net d Z x) where
  -- the worth of a link is the mean of what waits there
  pub fact1 : (l : ℕ) → has (link_numbers net) l ≡ true → sum_by (λ k. share_of net k * against net d Z x k) (out_of net l) ≡ net.shares * x l
  fact1 l h =
      let terms = sum_by-same (λ k. share_of net k * against net d Z x k) (λ k. share_of net k * ahead x (to_of net k) + d * (share_of net k * Z k)) (λ k. spread_term (share_of net k) (Z k) (ahead x (to_of net k)) d) (out_of net l) in
      let split = sum_by-add (λ k. share_of net k * ahead x (to_of net k)) (λ k. d * (share_of net k * Z k)) (out_of net l) in
      let factor = sum_by-mul d (λ k. share_of net k * Z k) (out_of net l) in
      let row = at_in (λ l. net.shares * x l ≡ sum_by (λ k. share_of net k * ahead x (to_of net k)) (out_of net l) + d * sum_by (λ k. share_of net k * Z k) (out_of net l)) l (link_numbers net) h worth.row in
      omega (arith, terms, split, factor, row)

  queued_to : (to : Option ℕ) → IfSome to (λ l. has (link_numbers net) l ≡ true) → sum_by (λ j. share_of net j * against net d Z x j) (out_of_target net to) ≡ net.shares * ahead x to
  queued_to None h = sym (mul-zero net.shares)
  queued_to (Some l) h = fact1 l h

  -- what waits behind a movement
  pub queued_is : (k : ℕ) → has (movement_numbers net) k ≡ true → queued_downstream net (against net d Z x) k ≡ net.shares * ahead x (to_of net k)
  queued_is k h = queued_to (to_of net k) (at_in (λ k. IfSome (to_of net k) (λ l. has (link_numbers net) l ≡ true)) k (movement_numbers net) h ok.to)

  -- the weight of a movement
  pub fact2 : (k : ℕ) → has (movement_numbers net) k ≡ true → net.shares * against net d Z x k ≡ queued_downstream net (against net d Z x) k + net.shares * d * Z k
  fact2 k h = omega (arith, queued_is k h)

  pub push_is : (k : ℕ) → has (movement_numbers net) k ≡ true → positive_weight net (against net d Z x) k ≡ net.shares * d * Z k
  push_is k h = omega (arith, fact2 k h)

  in_links : (k : ℕ) → has (movement_numbers net) k ≡ true → has (link_numbers net) (from_of net k) ≡ true
  in_links k h = at_in (λ k. has (link_numbers net) (from_of net k) ≡ true) k (movement_numbers net) h ok.from

  -- a sum over the movements of what comes into their links, against the worths behind them
  turned : (y : ℕ → ℕ) → sum_by (λ k. (share_of net k * against net d Z x k) * sum_by y (into_link net (from_of net k))) (movement_numbers net) ≡ net.shares * sum_by (λ j. y j * ahead x (to_of net j)) (movement_numbers net)
  turned y =
      exchange net y (λ k. share_of net k * against net d Z x k)
      ∙ sum_by-same_in (λ j. y j * queued_downstream net (against net d Z x) j) (λ j. net.shares * (y j * ahead x (to_of net j))) (movement_numbers net)
      (λ j h. let q = queued_is j h in omega (arith, ap (λ n. y j * n) q))
      ∙ sum_by-mul net.shares (λ j. y j * ahead x (to_of net j)) (movement_numbers net)

  module _ (c : ℕ) (f g : ℕ → ℕ) (flow : IsFlow net c f g) where
    whole_rate : sum_by (λ k. share_of net k * f (from_of net k) * against net d Z x k) (movement_numbers net) ≡ d * rate_weight net f Z + sum_by (λ j. share_of net j * f (from_of net j) * ahead x (to_of net j)) (movement_numbers net)
    whole_rate =
        let ks = movement_numbers net in
        let u : ℕ → ℕ = λ k. share_of net k * f (from_of net k) in
        let terms = sum_by-same (λ k. u k * against net d Z x k) (λ k. d * (u k * Z k) + u k * ahead x (to_of net k)) (λ k. omega arith) ks in
        let split = sum_by-add (λ k. d * (u k * Z k)) (λ k. u k * ahead x (to_of net k)) ks in
        let factor = sum_by-mul d (λ k. u k * Z k) ks in
        omega (arith, terms, split, factor)

    -- the two systems are transposes of each other
    pub fact3 : c * load net (against net d Z x) ≡ d * rate_weight net f Z
    fact3 =
        let ks = movement_numbers net in
        let W = net.shares in
        let q = against net d Z x in
        let y : ℕ → ℕ = λ j. share_of net j * f (from_of net j) in
        let inflow : ℕ → ℕ = λ k. (share_of net k * q k) * sum_by y (into_link net (from_of net k)) in
        let each = sum_by-same_in (λ k. W * (share_of net k * f (from_of net k) * q k)) (λ k. inflow k + W * c * (q k * share_of net k * rate_before net k)) ks
        (λ k h. rate_term W c (rate_before net k) (share_of net k) (q k) (f (from_of net k)) (sum_by y (into_link net (from_of net k)))
        (at_in (λ l. W * f l ≡ sum_by y (into_link net l) + c * (W * (link_at net l).rate)) (from_of net k) (link_numbers net) (in_links k h) flow.rate)) in
        let split = sum_by-add inflow (λ k. W * c * (q k * share_of net k * rate_before net k)) ks in
        let out = sum_by-mul W (λ k. share_of net k * f (from_of net k) * q k) ks in
        let loads = sum_by-mul (W * c) (λ k. q k * share_of net k * rate_before net k) ks in
        let turn = turned y in
        let whole = ap (λ n. W * n) whole_rate in
        mul_cancel W (c * load net q) (d * rate_weight net f Z) ok.shares (omega (arith, each, split, out, loads, turn, whole))

    -- the same of one unit of slack on every movement
    pub fact4 : net.shares * c * sum_by (against net d Z x) (movement_numbers net) ≡ d * unit_weight net c g Z
    fact4 =
        let ks = movement_numbers net in
        let W = net.shares in
        let q = against net d Z x in
        let u : ℕ → ℕ = λ j. share_of net j * g (from_of net j) in
        let X : ℕ → ℕ = λ k. ahead x (to_of net k) in
        let inflow : ℕ → ℕ = λ k. (share_of net k * q k) * sum_by u (into_link net (from_of net k)) in
        let count : ℕ → ℕ = λ k. (share_of net k * q k) * sum_by (λ j. 1) (into_link net (from_of net k)) in
        let each = sum_by-same_in (λ k. W * (u k * q k)) (λ k. inflow k + W * c * count k) ks
        (λ k h. let row = at_in (λ l. W * g l ≡ sum_by u (into_link net l) + c * (W * length (into_link net l))) (from_of net k) (link_numbers net) (in_links k h) flow.unit in
        let ones = sum_by-ones (into_link net (from_of net k)) in
        unit_term W c (length (into_link net (from_of net k))) (share_of net k) (q k) (g (from_of net k)) (sum_by u (into_link net (from_of net k))) (sum_by (λ j. 1) (into_link net (from_of net k))) row ones) in
        let split = sum_by-add inflow (λ k. W * c * count k) ks in
        let out = sum_by-mul W (λ k. u k * q k) ks in
        let counted = sum_by-mul (W * c) count ks in
        let turn = turned u in
        let turn1 = ap (λ n. W * c * n) (turned (λ j. 1) ∙ ap (λ n. W * n) (sum_by-same (λ j. 1 * X j) X (λ j. omega arith) ks)) in
        let sum_terms = sum_by-same (λ k. u k * q k) (λ k. d * (u k * Z k) + u k * X k) (λ k. omega arith) ks in
        let sum_split = sum_by-add (λ k. d * (u k * Z k)) (λ k. u k * X k) ks in
        let sum_factor = sum_by-mul d (λ k. u k * Z k) ks in
        let all_terms = sum_by-same q (λ k. d * Z k + X k) (λ k. omega arith) ks in
        let all_split = sum_by-add (λ k. d * Z k) X ks in
        let all_factor = sum_by-mul d Z ks in
        let weigh_terms = sum_by-same (λ k. (u k + W * c) * Z k) (λ k. u k * Z k + W * c * Z k) (λ k. omega arith) ks in
        let weigh_split = sum_by-add (λ k. u k * Z k) (λ k. W * c * Z k) ks in
        let weigh_factor = sum_by-mul (W * c) Z ks in
        unit_numbers W c d (sum_by (λ k. u k * Z k) ks) (sum_by (λ k. u k * X k) ks) (sum_by Z ks) (sum_by X ks) (sum_by (λ k. u k * q k) ks) (sum_by q ks) (sum_by count ks) (sum_by inflow ks) (unit_weight net c g Z) ok.shares
        (sym out ∙ each ∙ split ∙ ap (λ n. sum_by inflow ks + n) counted) turn (turned (λ j. 1) ∙ ap (λ n. W * n) (sum_by-same (λ j. 1 * X j) X (λ j. omega arith) ks))
        (sum_terms ∙ sum_split ∙ ap (λ n. n + sum_by (λ k. u k * X k) ks) sum_factor) (all_terms ∙ all_split ∙ ap (λ n. n + sum_by X ks) all_factor) (weigh_terms ∙ weigh_split ∙ ap (λ n. sum_by (λ k. u k * Z k) ks + n) weigh_factor)
