-- How much a sweep adds to the sum of all bursts.
use Rattle.std.proofs.Common.{replicate, ◌≡◌, ◌==◌, ℕ, zero, suc, ◌+◌, ◌-◌, ◌*◌, ◌^◌, ◌≤◌, ◌<◌, cond, List, [], ◌∷◌, ◌++◌, length, drop, filter, get_or, map, slice_index, sum_by, Bool, true, false, Option, Some, None, arith, refl, sym, ◌∙◌, ap, ap₂, subst, ⊎_elim, mul-le-mul_left}
use Rattle.std.specs.List.{AllByRecursion, IsDistinct, range_with_len}
use Rattle.std.proofs.Math.Nat.{le_of_mul-le-mul_left, div-mul-le_self}
use Rattle.std.proofs.lemmas.Bool.{cases_lt}
use Rattle.std.proofs.lemmas.List.{length-map, drop_more}
use Rattle.std.proofs.lemmas.List.FromFn.{length-range_with_len, map-range_with_len_more}
use Rattle.std.proofs.lemmas.List.Sums.{sum_by-cons}
use Rattle.mp_laws.proofs.Distinct.{one_at, range_distinct}
use Rattle.mp_laws.proofs.Lists.{at_in, each_in, at_index, eqb-flip, numbered}
use Rattle.mp_laws.proofs.Sums.{sum_by-mul, sum_by-add, sum_by-zero, sum_by-same, sum_by-same_at, sum_by-le, sum_by-le_at, sum_by-swap, sum_by-filter, there}
use Rattle.mp_model.specs.Guard.{Guard, Guards, IsSurplus, crowd, guarded_rate, red}
use Rattle.mp_model.specs.GuardedBursts.{quotient_up, least_holding, sweep, swept, AreAtRest}
use Rattle.mp_model.specs.Network.{Network, Link, Movement, movement_numbers, link_numbers, numbers_to, link_at, entry, from_of, to_of, goes_to, has, into_link, out_of, share_of, flow_of, start_of, no_link, no_movement}
use Rattle.mp_model.specs.NetworkRules.{IsNetwork, IsAcceptable}
use Rattle.mp_cert.proofs.PlaceLemmas.{in_list}
use Rattle.mp_guard.specs.Bursts.{AreBursts}
use Rattle.mp_guard.specs.Surpluses.{AreSurpluses}
use Rattle.mp_guard.proofs.RuleLemmas.{Adding, mul-le}
use Rattle.mp_guard.proofs.SurplusLemmas.{surplus_small}

-- one entry more of a list that is filled in order
pub mapped_more : (f : ℕ → ℕ) (i x : ℕ) (xs next : List ℕ) → xs ≡ map f (numbers_to i) → x ≡ f (i + 1) → next ≡ xs ++ x ∷ [] → next ≡ map f (numbers_to (i + 1))
mapped_more f i x xs next so_far is more = more ∙ ap₂ (λ ys y. ys ++ y ∷ []) so_far is ∙ sym (map-range_with_len_more f 1 i (i + 1) (omega arith))

sum_by-const : {X : Type 0} (c : ℕ) (xs : List X) → sum_by (λ (x : X). c) xs ≡ length xs * c
sum_by-const c [] = omega arith
sum_by-const c (x ∷ xs) = omega (arith, sum_by-cons (λ y. c) x xs, sum_by-const c xs)

-- a sum over the movements, each term with its link, is at most that link by link
by_link : (net : Network) → IsNetwork net → (f : ℕ → ℕ → ℕ) → sum_by (λ k. f (from_of net k) k) (movement_numbers net) ≤ sum_by (λ l. sum_by (f l) (out_of net l)) (link_numbers net)
by_link net ok f =
    let each = sum_by-le_at (λ k. f (from_of net k) k) (λ k. sum_by (λ l. cond (from_of net k == l) (f l k) 0) (link_numbers net)) (movement_numbers net)
    (each_in (λ k. f (from_of net k) k ≤ sum_by (λ l. cond (from_of net k == l) (f l k) 0) (link_numbers net)) (movement_numbers net) (λ k in'. there (λ l. f l k) (from_of net k) (link_numbers net) (at_in (λ k. has (link_numbers net) (from_of net k) ≡ true) k (movement_numbers net) in' ok.from))) in
    let swap = sum_by-swap (λ k l. cond (from_of net k == l) (f l k) 0) (movement_numbers net) (link_numbers net) in
    let filter' = sum_by-same (λ l. sum_by (λ k. cond (from_of net k == l) (f l k) 0) (movement_numbers net)) (λ l. sum_by (f l) (out_of net l)) (λ l. sym (sum_by-filter (λ k. from_of net k == l) (f l) (movement_numbers net))) (link_numbers net) in
    omega (arith, each, swap, filter')

target_sum : (ls : List ℕ) → IsDistinct ◌==◌ ls → (to : Option ℕ) → (v : ℕ) → sum_by (λ l. cond (goes_to to l) v 0) ls ≤ v
target_sum ls d None v = omega (arith, sum_by-zero ls)
target_sum ls d (Some m) v =
    let flip = sum_by-same (λ l. cond (l == m) v 0) (λ l. cond (m == l) v 0) (λ l. ap (λ b. cond b v 0) (eqb-flip m l (m == l) refl)) ls in
    omega (arith, flip, one_at m (λ l. v) ls d)

-- each movement goes into one link at most
into_sum : (net : Network) (y : ℕ → ℕ) → sum_by (λ l. sum_by y (into_link net l)) (link_numbers net) ≤ sum_by y (movement_numbers net)
into_sum net y =
    let tests = sum_by-same (λ l. sum_by y (into_link net l)) (λ l. sum_by (λ k. cond (goes_to (to_of net k) l) (y k) 0) (movement_numbers net)) (λ l. sum_by-filter (λ k. goes_to (to_of net k) l) y (movement_numbers net)) (link_numbers net) in
    let swap = sum_by-swap (λ l k. cond (goes_to (to_of net k) l) (y k) 0) (link_numbers net) (movement_numbers net) in
    let each = sum_by-le (λ k. sum_by (λ l. cond (goes_to (to_of net k) l) (y k) 0) (link_numbers net)) y (λ k. target_sum (link_numbers net) (range_distinct 1 _) (to_of net k) (y k)) (movement_numbers net) in
    omega (arith, tests, swap, each)

quotient_small : (x y : ℕ) → y * quotient_up x y ≤ x + y
quotient_small x y = let a : quotient_up x y * y ≤ x + (y - 1) = div-mul-le_self (x + (y - 1)) y in omega arith

-- over plain numbers: one term of a sweep
term : (y W d w X e h c p start q x : ℕ) → y ≡ W * d → x ≡ d * (w * X + e) + W * h * p → y * q ≤ x + y → e ≤ W * W + W → W ≤ 1000 → h ≤ c * d → c ≤ 1000 → p ≤ 7200 → start ≤ 1000000 → y * (start + q) ≤ d * (w * X) + y * 8201002
term y W d w X e h c p start q x unit is quotient small shares rate flow periods starts =
    let a : d * e ≤ d * (W * W + W) = mul-le-mul_left d small in
    let b : (W * d) * (W + 1) ≤ (W * d) * 1001 = mul-le-mul_left (W * d) (omega arith) in
    let c1 : d * c ≤ d * 1000 = mul-le-mul_left d flow in
    let c2 : W * h ≤ W * (d * 1000) = mul-le-mul_left W (omega arith) in
    let c3 : (W * h) * p ≤ (W * h) * 7200 = mul-le-mul_left (W * h) periods in
    let s : y * start ≤ y * 1000000 = mul-le-mul_left y starts in
    let u1 : y * 1001 ≡ (W * d) * 1001 = ap (λ n. n * 1001) unit in
    omega arith

add_up : (y W d a b n s : ℕ) → y ≡ W * d → 1 ≤ y → y * n ≤ d * (W * (a + b)) + 512 * (y * 8201002) → a ≤ 1280000 → b ≤ s → n ≤ s + 4300000000
add_up y W d a b n s unit some h few le =
    let e : y * (a + b) ≡ (W * d) * (a + b) = ap (λ t. t * (a + b)) unit in
    let f : y * (a + b) ≤ y * (1280000 + s) = mul-le-mul_left y (omega arith) in
    le_of_mul-le-mul_left {k = y} (omega arith) some

pub red_small : (net : Network) (guard : Guard) → Guards net guard → (k : ℕ) → red net guard k ≤ 3600
red_small net guard guards k = omega (arith, guards.cycle.1)

module _ (net : Network) (ok : IsAcceptable net) (guard : Guard) (guards : Guards net guard) (surplus : ℕ → ℕ) (surpluses : AllByRecursion (λ k. IsSurplus net k (surplus k)) (movement_numbers net)) where
  network : IsNetwork net
  network = ok.network

  abbrev unit : ℕ
  unit = net.shares * guard.denominator

  pub unit_some : 1 ≤ net.shares * guard.denominator
  unit_some = let a = network.shares in let b : net.shares * 1 ≤ net.shares * guard.denominator = mul-le-mul_left net.shares guards.denominator.0 in omega arith

  pub flow_small : (k : ℕ) → flow_of net k ≤ 1000
  flow_small k = at_index (λ (m : Movement). m.flow ≤ 1000) no_movement net.movements (k - 1) ok.range.flows (omega arith)

  pub start_small : (k : ℕ) → start_of net k ≤ 1000000
  start_small k = at_index (λ (m : Movement). m.start ≤ 1000000) no_movement net.movements (k - 1) ok.range.starts (omega arith)

  pub burst_small : (l : ℕ) → (link_at net l).burst ≤ 10000
  burst_small l = at_index (λ (link : Link). link.burst ≤ 10000) no_link net.links (l - 1) ok.range.bursts (omega arith)

  -- what reaches link l at once
  abbrev reaching : List ℕ → ℕ → ℕ
  reaching b l = (link_at net l).burst + sum_by (entry b) (into_link net l)

  sweep_term : (b : List ℕ) (k : ℕ) → has (movement_numbers net) k ≡ true → unit * least_holding net guard (surplus k) b k (2 * red net guard k) ≤ guard.denominator * (share_of net k * reaching b (from_of net k)) + unit * 8201002
  sweep_term b k in' =
      let x : ℕ = crowd net guard (surplus k) b k + net.shares * guarded_rate guard k * (2 * red net guard k) in
      term unit net.shares guard.denominator (share_of net k) (reaching b (from_of net k)) (surplus k) (guarded_rate guard k) (flow_of net k) (2 * red net guard k) (start_of net k) (quotient_up x unit) x
      refl refl (quotient_small x unit) (surplus_small net network k in' (surplus k) (at_in (λ k. IsSurplus net k (surplus k)) k (movement_numbers net) in' surpluses)) ok.range.shares
      (at_in (λ k. guarded_rate guard k ≤ flow_of net k * guard.denominator) k (movement_numbers net) in' guards.flows) (flow_small k) (omega (arith, red_small net guard guards k)) (start_small k)

  shares_sum : (X : ℕ → ℕ) → sum_by (λ k. share_of net k * X (from_of net k)) (movement_numbers net) ≤ net.shares * sum_by X (link_numbers net)
  shares_sum X =
      let links = by_link net network (λ l k. share_of net k * X l) in
      let each = sum_by-same_at (λ l. sum_by (λ k. share_of net k * X l) (out_of net l)) (λ l. net.shares * X l) (link_numbers net)
      (each_in (λ l. sum_by (λ k. share_of net k * X l) (out_of net l) ≡ net.shares * X l) (link_numbers net)
      (λ l in'. sum_by-same (λ k. share_of net k * X l) (λ k. X l * share_of net k) (λ k. omega arith) (out_of net l) ∙ sum_by-mul (X l) (share_of net) (out_of net l)
      ∙ ap (λ t. X l * t) (at_in (λ l. sum_by (share_of net) (out_of net l) ≡ net.shares) l (link_numbers net) in' network.split) ∙ omega arith)) in
      omega (arith, links, each, sum_by-mul net.shares X (link_numbers net))

  pub sweep_sum : (b : List ℕ) → sum_by (entry (sweep net guard surplus b)) (movement_numbers net) ≤ sum_by (entry b) (movement_numbers net) + 4300000000
  sweep_sum b =
      let ms : List ℕ = movement_numbers net in
      let n : ℕ → ℕ = λ k. least_holding net guard (surplus k) b k (2 * red net guard k) in
      let entries = sum_by-same_at (entry (sweep net guard surplus b)) n ms (each_in (λ k. entry (sweep net guard surplus b) k ≡ n k) ms (λ k in'. numbered n (length net.movements) k in')) in
      let terms = sum_by-le_at (λ k. unit * n k) (λ k. guard.denominator * (share_of net k * reaching b (from_of net k)) + unit * 8201002) ms (each_in (λ k. unit * n k ≤ guard.denominator * (share_of net k * reaching b (from_of net k)) + unit * 8201002) ms (sweep_term b)) in
      let left = sum_by-mul unit n ms in
      let right = sum_by-add (λ k. guard.denominator * (share_of net k * reaching b (from_of net k))) (λ k. unit * 8201002) ms in
      let shared = sum_by-mul guard.denominator (λ k. share_of net k * reaching b (from_of net k)) ms in
      let spread : guard.denominator * sum_by (λ k. share_of net k * reaching b (from_of net k)) ms ≤ guard.denominator * (net.shares * sum_by (reaching b) (link_numbers net)) = mul-le-mul_left guard.denominator (shares_sum (reaching b)) in
      let size : length ms ≤ 512 = omega (arith, length-range_with_len 1 (length net.movements), ok.range.movements.1) in
      let const' = sum_by-const (unit * 8201002) ms in
      let const : (unit * 8201002) * length ms ≤ (unit * 8201002) * 512 = mul-le-mul_left (unit * 8201002) size in
      let parts = sum_by-add (λ l. (link_at net l).burst) (λ l. sum_by (entry b) (into_link net l)) (link_numbers net) in
      let bursts = sum_by-le (λ l. (link_at net l).burst) (λ l. 10000) burst_small (link_numbers net) in
      let links = sum_by-const 10000 (link_numbers net) in
      let few : length (link_numbers net) ≤ 128 = omega (arith, length-range_with_len 1 (length net.links), ok.range.links.1) in
      let split : guard.denominator * (net.shares * sum_by (reaching b) (link_numbers net)) ≡ guard.denominator * (net.shares * (sum_by (λ l. (link_at net l).burst) (link_numbers net) + sum_by (λ l. sum_by (entry b) (into_link net l)) (link_numbers net))) = ap (λ t. guard.denominator * (net.shares * t)) parts in
      let total = add_up unit net.shares guard.denominator (sum_by (λ l. (link_at net l).burst) (link_numbers net)) (sum_by (λ l. sum_by (entry b) (into_link net l)) (link_numbers net)) (sum_by n ms) (sum_by (entry b) ms) refl unit_some (omega arith) (omega arith) (into_sum net (entry b)) in
      omega arith

  pub swept_sum : (n : ℕ) → sum_by (entry (swept net guard surplus n)) (movement_numbers net) ≤ n * 4300000000
  swept_sum zero =
      let none = sum_by-same_at (entry (swept net guard surplus 0)) (λ k. 0) (movement_numbers net) (each_in (λ k. entry (swept net guard surplus 0) k ≡ 0) (movement_numbers net) (λ k in'. numbered (λ k. 0) (length net.movements) k in')) in
      omega (arith, none, sum_by-zero (movement_numbers net))
  swept_sum (suc n) = omega (arith, swept_sum n, sweep_sum (swept net guard surplus n))

-- ---- what the code asks of lists
pub swept_length : (net : Network) (guard : Guard) (surplus : ℕ → ℕ) (n : ℕ) → length (swept net guard surplus n) ≡ length net.movements
swept_length net guard surplus zero = length-map (movement_numbers net) (λ k. 0) ∙ length-range_with_len 1 (length net.movements)
swept_length net guard surplus (suc n) = length-map (movement_numbers net) (λ k. least_holding net guard (surplus k) (swept net guard surplus n) k (2 * red net guard k)) ∙ length-range_with_len 1 (length net.movements)

pub found_few : (net : Network) → IsAcceptable net → (guard : Guard) → Guards net guard → (surpluses bursts : List ℕ) → AreSurpluses net surpluses → (n : ℕ) → n < 131072 → bursts ≡ swept net guard (entry surpluses) n → sum_by (entry bursts) (movement_numbers net) ≤ 2 ^ 50
found_few net ok guard guards surpluses bursts are n few is =
    let s = swept_sum net ok guard guards (entry surpluses) are.each n in
    let e : sum_by (entry bursts) (movement_numbers net) ≡ sum_by (entry (swept net guard (entry surpluses) n)) (movement_numbers net) = ap (λ bs. sum_by (entry bs) (movement_numbers net)) is in
    omega (arith, s, e, few)

pub filter_sum : (f : ℕ → ℕ) (p : ℕ → Bool) (xs : List ℕ) → sum_by f (filter p xs) ≤ sum_by f xs
filter_sum f p xs = omega (arith, sum_by-filter p f xs, sum_by-le (λ x. cond (p x) (f x) 0) f (λ x. kept (p x) (f x)) xs)
  where
    kept : (b : Bool) (v : ℕ) → cond b v 0 ≤ v
    kept true v = omega arith
    kept false v = omega arith

pub into_below : (net : Network) (bursts : List ℕ) (l : ℕ) → sum_by (entry bursts) (into_link net l) ≤ sum_by (entry bursts) (movement_numbers net)
into_below net bursts l = filter_sum (entry bursts) (λ k. goes_to (to_of net k) l) (movement_numbers net)

pub adding_below : (f : ℕ → ℕ) (most : ℕ) (xs : List ℕ) (i now : ℕ) → Adding f most xs i now → i < length xs → now + f (get_or xs i 0) ≤ sum_by f xs
adding_below f most xs i now a within =
    let e : sum_by f (drop i xs) ≡ f (get_or xs i 0) + sum_by f (drop (i + 1) xs) = ap (sum_by f) (drop_more xs i 0 within) ∙ sum_by-cons f (get_or xs i 0) (drop (i + 1) xs) in
    omega (arith, a.rest, e)

pub reds_give : (net : Network) (guard : Guard) (reds : List ℕ) (i : ℕ) → reds ≡ map (red net guard) (movement_numbers net) → i < length net.movements → slice_index reds i ≡ red net guard (i + 1)
reds_give net guard reds i is within =
    let same : i ≡ (i + 1) - 1 = omega arith in
    ap (λ rs. slice_index rs i) is ∙ ap (λ n. slice_index (map (red net guard) (movement_numbers net)) n) same ∙ numbered (red net guard) (length net.movements) (i + 1) (in_list (length net.movements) (i + 1) (omega arith) (omega arith))

pub reds_length : (net : Network) (guard : Guard) (reds : List ℕ) → reds ≡ map (red net guard) (movement_numbers net) → length reds ≡ length net.movements
reds_length net guard reds is = ap length is ∙ length-map (movement_numbers net) (red net guard) ∙ length-range_with_len 1 (length net.movements)

pub quotient_few : (x y : ℕ) → 1 ≤ y → quotient_up x y ≤ x + y
quotient_few x y some = let a = quotient_small x y in let b : quotient_up x y * 1 ≤ quotient_up x y * y = mul-le-mul_left (quotient_up x y) some in omega arith

pub coming_small : (s r p : ℕ) → s ≤ 1000 → r ≤ 1000000000000 → p ≤ 7201 → s * r * p ≤ 7201000000000000000
coming_small s r p a b c = let d = mul-le (s * r) p (1000 * 1000000000000) 7201 (mul-le s r 1000 1000000000000 a b) c in omega arith

-- ---- so many sweeps were made, none of which left its list as it was
pub record Sweeping (net : Network) (guard : Guard) (surplus : ℕ → ℕ) (n : ℕ) (now : List ℕ) : Type 0 where
  pub found : now ≡ swept net guard surplus n
  pub none : (i : ℕ) → i < n → ¬ AreAtRest net guard surplus (swept net guard surplus i)

pub sweeping_start : (net : Network) (guard : Guard) (surplus : ℕ → ℕ) (n : ℕ) (xs : List ℕ) → n ≡ length net.movements → xs ≡ replicate {A = ℕ} n 0 → Sweeping net guard surplus 0 xs
sweeping_start net guard surplus n xs size is = record {
  found = is ∙ ap (λ m. replicate {A = ℕ} m 0) size ∙ repeated (length net.movements) 1;
  none = λ i within. absurd (omega arith);
}
  where
    repeated : (n a : ℕ) → replicate {A = ℕ} n 0 ≡ map (λ k. 0) (range_with_len a n)
    repeated zero a = refl
    repeated (suc n) a = ap (λ xs. 0 ∷ xs) (repeated n (a + 1))

pub sweeping_more : (net : Network) (guard : Guard) (surplus : ℕ → ℕ) (n : ℕ) (now before next : List ℕ) → Sweeping net guard surplus n now → before ≡ now → next ≡ sweep net guard surplus before → ¬ (next ≡ now) → Sweeping net guard surplus (n + 1) next
sweeping_more net guard surplus n now before next s same after other =
    let one : suc n ≡ n + 1 = omega arith in
    let whole : next ≡ sweep net guard surplus (swept net guard surplus n) = after ∙ ap (sweep net guard surplus) (same ∙ s.found) in
    let here : ¬ AreAtRest net guard surplus (swept net guard surplus n) = λ rest. other (whole ∙ rest ∙ sym s.found) in
    record {
      found = whole ∙ ap (swept net guard surplus) one;
      none = λ i within. ⊎_elim (λ (lt : i < n). s.none i lt) (λ (ge : n ≤ i). (let e : n ≡ i = omega arith in subst (λ m. ¬ AreAtRest net guard surplus (swept net guard surplus m)) e here)) (cases_lt i n);
    }

pub sweeping_rests : (net : Network) (guard : Guard) (surpluses : List ℕ) (n : ℕ) (now before next : List ℕ) → Sweeping net guard (entry surpluses) n now → n < 131072 → before ≡ now → next ≡ sweep net guard (entry surpluses) before → next ≡ now → AreBursts net guard surpluses now
sweeping_rests net guard surpluses n now before next s few same after is = record {
  sweeps = n;
  few = few;
  found = s.found;
  rest = ap (sweep net guard (entry surpluses)) (sym same) ∙ sym after ∙ is;
}

pub ruleset sweepings = (sweeping_start)
