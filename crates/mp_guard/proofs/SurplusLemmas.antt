-- The surplus of a movement is its greatest credit of a round less its least.
use Rattle.std.proofs.Common.{◌≡◌, ◌==◌, ℕ, ◌+◌, ◌-◌, ◌*◌, ◌≤◌, ◌<◌, max, min, true, false, ◌||◌, ◌≢◌, List, length, drop, get_or, map, slice_index, arith, refl, sym, ◌∙◌, ap, ⊎_elim, eq-eqb, ne_eqb, mul-le-mul_left}
use Rattle.std.proofs.lemmas.Bool.{cases_lt, false≢true}
use Rattle.std.proofs.lemmas.List.{drop_more, drop_all, get_or-map, length-map}
use Rattle.mp_served.proofs.Surplus.{goes, split_is, whole}
use Rattle.mp_served.specs.Surplus.{HasRoundSurplus}
use Rattle.mp_laws.proofs.Credits.{lower}
use Rattle.mp_laws.proofs.Lists.{at_in, each_in, has_filter, in_numbers}
use Rattle.mp_laws.proofs.Sums.{terms_le}
use Rattle.mp_model.specs.Guard.{IsSurplus}
use Rattle.mp_model.specs.Network.{Network, movement_numbers, from_of, share_of, out_of, has, entry}
use Rattle.mp_model.specs.NetworkRules.{IsNetwork, IsAcceptable}
use Rattle.mp_model.specs.Step.{joined}
use Rattle.mp_net.proofs.Filled.{FilledTo}
use Rattle.mp_guard.specs.Surpluses.{AreSurpluses}
use Rattle.mp_feed.specs.Counts.{gained, places_of}
use Rattle.mp_step.proofs.Moves.{parts_are}
use Rattle.mp_step.specs.Standing.{shares_in}

-- f goes from low to high over the numbers below n, and takes both
pub record Spans (f : ℕ → ℕ) (n high low : ℕ) : Type 0 where
  pub above : (m : ℕ) → m < n → f m ≤ high
  pub below : (m : ℕ) → m < n → low ≤ f m
  pub top : ℕ
  pub top_in : top < n
  pub is_top : f top ≡ high
  pub bottom : ℕ
  pub bottom_in : bottom < n
  pub is_bottom : f bottom ≡ low

pub spans_start : (f : ℕ → ℕ) (x : ℕ) → f 0 ≡ x → Spans f 1 x x
spans_start f x is =
    let at : (m : ℕ) → m < 1 → f m ≡ x = λ m within. (let z : m ≡ 0 = omega arith in ap f z ∙ is) in
    record { above = λ m within. omega (arith, at m within); below = λ m within. omega (arith, at m within); top = 0; top_in = omega arith; is_top = is; bottom = 0; bottom_in = omega arith; is_bottom = is }

pub spans_more : (f : ℕ → ℕ) (n high low x : ℕ) → Spans f n high low → f n ≡ x → Spans f (n + 1) (max high x) (min low x)
spans_more f n high low x s is =
    let at : (m : ℕ) → n ≤ m → m < n + 1 → f m ≡ x = λ m low' high'. (let e : m ≡ n = omega arith in ap f e ∙ is) in
    let higher : (m : ℕ) → m < n + 1 → f m ≤ max high x = λ m within. ⊎_elim (λ (lt : m < n). omega (arith, s.above m lt)) (λ (ge : n ≤ m). omega (arith, at m ge within)) (cases_lt m n) in
    let lower' : (m : ℕ) → m < n + 1 → min low x ≤ f m = λ m within. ⊎_elim (λ (lt : m < n). omega (arith, s.below m lt)) (λ (ge : n ≤ m). omega (arith, at m ge within)) (cases_lt m n) in
    let a : (t : ℕ) × (t < n + 1) × (f t ≡ max high x) = ⊎_elim (λ (lt : high < x). (n, omega arith, omega (arith, is))) (λ (ge : x ≤ high). (s.top, omega (arith, s.top_in), omega (arith, s.is_top))) (cases_lt high x) in
    let b : (t : ℕ) × (t < n + 1) × (f t ≡ min low x) = ⊎_elim (λ (lt : x < low). (n, omega arith, omega (arith, is))) (λ (ge : low ≤ x). (s.bottom, omega (arith, s.bottom_in), omega (arith, s.is_bottom))) (cases_lt x low) in
    record { above = higher; below = lower'; top = a.0; top_in = a.1; is_top = a.2; bottom = b.0; bottom_in = b.1; is_bottom = b.2 }

-- over plain numbers: credits within one round, and past its end
within_round : (W w n r u v a b e high low : ℕ) → a + W * u ≡ w * n + W → b + W * v ≡ w * (n + r) + W → a ≤ high → low ≤ b → e ≡ high - low → W * v ≤ W * u + w * r + e
within_round W w n r u v a b e high low x y p q s = omega arith

past_round : (W w n r m u v a b e high low t : ℕ) → a + W * u ≡ w * n + W → b + W * v ≡ w * m + W → n + r ≡ W + m → t ≡ w + v → a ≤ high → low ≤ b → e ≡ high - low → W * t ≤ W * u + w * r + e
past_round W w n r m u v a b e high low t x y whole is p q s = omega (arith, ap (λ i. w * i) whole, ap (λ i. W * i) is)

least_gap : (W w top bottom u v a b e t n : ℕ) → a + W * u ≡ w * top + W → b + W * v ≡ w * bottom + W → t ≡ w + v → top < W → bottom < W → W * t ≤ W * u + w * (W + bottom - top) + n → a - b ≤ n
least_gap W w top bottom u v a b e t n x y is p q h =
    let gap : (W + bottom - top) + top ≡ W + bottom = omega arith in
    omega (arith, ap (λ i. w * i) gap, ap (λ i. W * i) is, h)

-- the credit of movement k after n vehicles, with the share total beside it
abbrev pub credited : Network → ℕ → ℕ → ℕ
credited net k n = (share_of net k * n + net.shares) - net.shares * joined net (from_of net k) n k

-- what a splitter gives at the place of movement k
places_give : (net : Network) (ok : IsNetwork net) (l : ℕ) → (1 ≤ l) × (l ≤ length net.links) → (shares got : List ℕ) (n : ℕ) → shares ≡ shares_in net l → got ≡ map (gained shares 0 n) (places_of shares) → got ≡ map (λ k. joined net l (0 + n) k - joined net l 0 k) (out_of net l)
places_give net ok l known shares got n e is = is ∙ parts_are net ok l known shares e 0 n

pub got_is : (net : Network) (ok : IsNetwork net) (l : ℕ) → (1 ≤ l) × (l ≤ length net.links) → (shares got : List ℕ) (m n place k : ℕ) → shares ≡ shares_in net l → got ≡ map (gained shares 0 m) (places_of shares) → m ≡ n
    → place < length (out_of net l) → slice_index (out_of net l) place ≡ k → slice_index got place ≡ joined net l n k
got_is net ok l known shares got m n place k e is same within here =
    let f : ℕ → ℕ = λ k. joined net l (0 + m) k - joined net l 0 k in
    let whole : 0 + m ≡ n = omega (arith, same) in
    let none : joined net l 0 k ≡ 0 = refl in
    ap (λ g. slice_index g place) (places_give net ok l known shares got m e is) ∙ get_or-map f (out_of net l) place 0 0 within ∙ ap f here
    ∙ omega (arith, none, ap (λ i. joined net l i k) whole)

pub got_length : (net : Network) (ok : IsNetwork net) (l : ℕ) → (1 ≤ l) × (l ≤ length net.links) → (shares got : List ℕ) (n : ℕ) → shares ≡ shares_in net l → got ≡ map (gained shares 0 n) (places_of shares) → length got ≡ length (out_of net l)
got_length net ok l known shares got n e is = ap length (places_give net ok l known shares got n e is) ∙ length-map (out_of net l) (λ k. joined net l (0 + n) k - joined net l 0 k)

-- a number that is left is ahead
pub has_left : (xs : List ℕ) (i k : ℕ) → has (drop i xs) k ≡ true → i < length xs
has_left xs i k left = ⊎_elim (λ (lt : i < length xs). lt) (λ (ge : length xs ≤ i). absurd (false≢true (sym (ap (λ ys. has ys k) (drop_all i xs ge)) ∙ left))) (cases_lt i (length xs))

pub has_step : (xs : List ℕ) (i k : ℕ) → has (drop i xs) k ≡ true → get_or xs i 0 ≢ k → has (drop (i + 1) xs) k ≡ true
has_step xs i k left other =
    let here : has (drop i xs) k ≡ (get_or xs i 0 == k || has (drop (i + 1) xs) k) = ap (λ ys. has ys k) (drop_more xs i 0 (has_left xs i k left)) in
    let no : (get_or xs i 0 == k) ≡ false = ne_eqb (get_or xs i 0) k other in
    ap (λ b. b || has (drop (i + 1) xs) k) (sym no) ∙ sym here ∙ left

module _ (net : Network) (ok : IsNetwork net) (k : ℕ) (in' : has (movement_numbers net) k ≡ true) where
  abbrev j : ℕ → ℕ
  j n = joined net (from_of net k) n k

  some_credit : (n : ℕ) → net.shares * j n + 1 ≤ share_of net k * n + net.shares
  some_credit n = let split = split_is net ok k in' in lower net.shares (share_of net) (out_of net (from_of net k)) split.sums split.some split.distinct n k

  pub credited_is : (n : ℕ) → credited net k n + net.shares * j n ≡ share_of net k * n + net.shares
  credited_is n = omega (arith, some_credit n)

  pub count_small : (n : ℕ) → net.shares * j n ≤ share_of net k * n + net.shares
  count_small n = omega (arith, some_credit n)

  pub credited_from : (n x : ℕ) → x + net.shares * j n ≡ share_of net k * n + net.shares → credited net k n ≡ x
  credited_from n x is = omega (arith, is)

  next_round : (b : ℕ) → j (net.shares + b) ≡ share_of net k + j b
  next_round b =
      let one : 1 * net.shares + b ≡ net.shares + b = omega arith in
      let share : share_of net k * 1 ≡ share_of net k = omega arith in
      sym (ap j one) ∙ goes net ok k in' 1 b ∙ ap (λ s. s + j b) share

  round : (high low : ℕ) → Spans (credited net k) net.shares high low → HasRoundSurplus net k (high - low)
  round high low s n r n_in r_in = ⊎_elim
      (λ (lt : n + r < net.shares). within_round net.shares (share_of net k) n r (j n) (j (n + r)) (credited net k n) (credited net k (n + r)) (high - low) high low (credited_is n) (credited_is (n + r)) (s.above n n_in) (s.below (n + r) lt) refl)
      (λ (ge : net.shares ≤ n + r).
      let m : ℕ = n + r - net.shares in
      let parts : n + r ≡ net.shares + m = omega arith in
      let is : j (n + r) ≡ share_of net k + j m = ap j parts ∙ next_round m in
      past_round net.shares (share_of net k) n r m (j n) (j m) (credited net k n) (credited net k m) (high - low) high low (j (n + r)) (credited_is n) (credited_is m) parts is (s.above n n_in) (s.below m (omega arith)) refl)
      (cases_lt (n + r) net.shares)

  pub surplus_is : (high low surplus : ℕ) → Spans (credited net k) net.shares high low → surplus ≡ high - low → IsSurplus net k surplus
  surplus_is high low surplus s same =
      let is : IsSurplus net k (high - low) = record {
        holds = whole net ok k in' (high - low) (round high low s);
        least = λ n holds.
            let m : ℕ = net.shares + s.bottom - s.top in
            let parts : s.top + m ≡ net.shares + s.bottom = let t = s.top_in in omega arith in
            let h : net.shares * j (s.top + m) ≤ net.shares * j s.top + share_of net k * m + n = holds s.top m in
            let t : j (s.top + m) ≡ share_of net k + j s.bottom = ap j parts ∙ next_round s.bottom in
            let gap = least_gap net.shares (share_of net k) s.top s.bottom (j s.top) (j s.bottom) (credited net k s.top) (credited net k s.bottom) (high - low) (j (s.top + m)) n (credited_is s.top) (credited_is s.bottom) t s.top_in s.bottom_in h in
            omega (arith, gap, s.is_top, s.is_bottom);
      } in
      rw same is

  pub share_small : share_of net k ≤ net.shares
  share_small =
      let here : has (out_of net (from_of net k)) k ≡ true = has_filter (λ i. from_of net i == from_of net k) k (movement_numbers net) in' (eq-eqb (from_of net k) (from_of net k) refl) in
      let split = split_is net ok k in' in
      omega (arith, split.sums, at_in _ k (out_of net (from_of net k)) here (terms_le (share_of net) (out_of net (from_of net k))))

  few_round : HasRoundSurplus net k (net.shares * net.shares + net.shares)
  few_round n r n_in r_in =
      let a : share_of net k * n ≤ share_of net k * net.shares = mul-le-mul_left (share_of net k) (omega arith) in
      let b : net.shares * share_of net k ≤ net.shares * net.shares = mul-le-mul_left net.shares share_small in
      omega (arith, some_credit (n + r), a, b)

  pub surplus_small : (surplus : ℕ) → IsSurplus net k surplus → surplus ≤ net.shares * net.shares + net.shares
  surplus_small surplus is = is.least (net.shares * net.shares + net.shares) (whole net ok k in' (net.shares * net.shares + net.shares) few_round)

pub own_out : (net : Network) (k : ℕ) → has (movement_numbers net) k ≡ true → has (out_of net (from_of net k)) k ≡ true
own_out net k in' = has_filter (λ i. from_of net i == from_of net k) k (movement_numbers net) in' (eq-eqb (from_of net k) (from_of net k) refl)

-- all surpluses, and how great they are
pub are_surpluses : (net : Network) (i : ℕ) (rows : List ℕ) → FilledTo (IsSurplus net) i rows → i ≡ length net.movements + 1 → AreSurpluses net rows
are_surpluses net i rows filled end = record {
  count = omega (arith, filled.count);
  each = each_in (λ k. IsSurplus net k (entry rows k)) (movement_numbers net) (λ k in'. let range = in_numbers (length net.movements) k in' in filled.each k (omega (arith, range.0)) (omega (arith, range.1)) 0);
}

pub surplus_few : (net : Network) → IsAcceptable net → (surpluses : List ℕ) → AreSurpluses net surpluses → (k : ℕ) → has (movement_numbers net) k ≡ true → entry surpluses k ≤ 1001000
surplus_few net ok surpluses are k in' =
    let small = surplus_small net ok.network k in' (entry surpluses k) (at_in (λ k. IsSurplus net k (entry surpluses k)) k (movement_numbers net) in' are.each) in
    let shares = ok.range.shares in
    let square = mul-le-mul_left net.shares shares in
    omega arith
