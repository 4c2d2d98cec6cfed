-- Surpluses of one round, and of all vehicles.
use Rattle.std.proofs.Common.{◌≡◌, ◌==◌, ℕ, ◌+◌, ◌*◌, ◌/◌, ◌%◌, ◌≤◌, true, arith, refl, sym, ◌∙◌, ap, mod-lt, div-add-mod', eq-eqb}
use Rattle.std.specs.List.{AllByRecursion}
use Rattle.mp_laws.proofs.Credits.{again}
use Rattle.mp_laws.proofs.LinkSplits.{link_splits}
use Rattle.mp_laws.proofs.Lists.{at_in, each_in, has_filter}
use Rattle.mp_model.specs.Lights.{HasSurplus}
use Rattle.mp_model.specs.Network.{Network, movement_numbers, link_numbers, from_of, share_of, out_of, has}
use Rattle.mp_model.specs.NetworkRules.{IsNetwork}
use Rattle.mp_model.specs.Split.{split_counts, IsSplit}
use Rattle.mp_model.specs.Step.{joined}
use Rattle.mp_served.specs.Surplus.{HasRoundSurplus}

-- over plain numbers: a rounds before, c rounds of the vehicles
rounds_add : (W w a c u v r e s t : ℕ) → s ≡ w * (a + c) + v → t ≡ w * a + u → W * v ≤ W * u + w * r + e → W * s ≤ W * t + w * (c * W + r) + e
rounds_add W w a c u v r e s t x y h = omega (arith, ap (λ n. W * n) x, ap (λ n. W * n) y)

module _ (net : Network) (ok : IsNetwork net) (k : ℕ) (in' : has (movement_numbers net) k ≡ true) where
  pub split_is : IsSplit net.shares (share_of net) (out_of net (from_of net k))
  split_is = at_in (λ l. IsSplit net.shares (share_of net) (out_of net l)) (from_of net k) (link_numbers net) (at_in (λ k. has (link_numbers net) (from_of net k) ≡ true) k (movement_numbers net) in' ok.from) (link_splits net ok)

  pub goes : (m r : ℕ) → joined net (from_of net k) (m * net.shares + r) k ≡ share_of net k * m + joined net (from_of net k) r k
  goes m r =
      let split = split_is in
      at_in (λ i. split_counts net.shares (share_of net) (out_of net (from_of net k)) (m * net.shares + r) i ≡ share_of net i * m + split_counts net.shares (share_of net) (out_of net (from_of net k)) r i) k (out_of net (from_of net k))
      (has_filter (λ i. from_of net i == from_of net k) k (movement_numbers net) in' (eq-eqb (from_of net k) (from_of net k) refl)) (again net.shares (share_of net) (out_of net (from_of net k)) split.sums split.some split.distinct m r)

  pub whole : (surplus : ℕ) → HasRoundSurplus net k surplus → HasSurplus net k surplus
  whole surplus round n r =
      let W = net.shares in
      let a = n / W in
      let c = r / W in
      let parts_n : a * W + n % W ≡ n = div-add-mod' n W in
      let parts_r : c * W + r % W ≡ r = div-add-mod' r W in
      let parts : (a + c) * W + (n % W + r % W) ≡ n + r = omega arith in
      let here = round (n % W) (r % W) (mod-lt n ok.shares) (mod-lt r ok.shares) in
      let s : joined net (from_of net k) (n + r) k ≡ share_of net k * (a + c) + joined net (from_of net k) (n % W + r % W) k = ap (λ m. joined net (from_of net k) m k) (sym parts) ∙ goes (a + c) (n % W + r % W) in
      let t : joined net (from_of net k) n k ≡ share_of net k * a + joined net (from_of net k) (n % W) k = ap (λ m. joined net (from_of net k) m k) (sym parts_n) ∙ goes a (n % W) in
      let all = rounds_add W (share_of net k) a c (joined net (from_of net k) (n % W) k) (joined net (from_of net k) (n % W + r % W) k) (r % W) surplus (joined net (from_of net k) (n + r) k) (joined net (from_of net k) n k) s t here in
      omega (arith, all, ap (λ m. share_of net k * m) parts_r)

pub surpluses : (net : Network) → IsNetwork net → AllByRecursion (λ k. (surplus : ℕ) → HasRoundSurplus net k surplus → HasSurplus net k surplus) (movement_numbers net)
surpluses net ok = each_in (λ k. (surplus : ℕ) → HasRoundSurplus net k surplus → HasSurplus net k surplus) (movement_numbers net) (λ k in'. whole net ok k in')
