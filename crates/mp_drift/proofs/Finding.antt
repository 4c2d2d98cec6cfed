-- What the stated calculation of the greatest drift value finds, and what the bounds from it are.
use Rattle.std.proofs.Common.{◌≡◌, ℕ, ◌+◌, ◌*◌, ◌/◌, ◌^◌, ◌<◌, ◌≤◌, max, ℤ, pos, ◌≤ℤ◌, List, [], ◌∷◌, map, Option, Some, None, option_map, option_and_then, refl, ap, ap₂, sym, ◌∙◌, subst, arith, inl, inr, ◌⊎◌}
use Rattle.std.specs.List.{All, AllByRecursion}
use Rattle.std.proofs.lemmas.Int.{ints}
use Rattle.std.proofs.lemmas.Nat.{mul-le}
use Rattle.std.proofs.lemmas.Bool.{cases_lt}
use Rattle.std.proofs.lemmas.List.Elements.{All-from_recursion, All-head, All-tail}
use Rattle.mp_model.specs.Network.{Network, movement_numbers}
use Rattle.mp_model.specs.Bounds.{drift_constant, start_drift, queue_threshold, greatest_drift, queue_bound, IsRoot, AreBounds, HasRoom}
use Rattle.mp_drift.specs.Stated.{fitting, unit_of, credit_sum, threshold_from, greatest_from}
use Rattle.mp_drift.specs.Bounded.{IsReached, IsFound}
use Rattle.mp_drift.proofs.Fitting.{fitting_is}

-- a calculation that goes on finds a value before
record Through {X Y : Type 0} (f : X → Option Y) (o : Option X) (y : Y) : Type 0 where
  value : X
  is : o ≡ Some value
  then : f value ≡ Some y

through : {X Y : Type 0} (f : X → Option Y) (o : Option X) (y : Y) → option_and_then f o ≡ Some y → Through f o y
through f None y h = absurd (cc)
through f (Some x) y h = record { value = x; is = refl; then = h }

mapped : {X Y : Type 0} (f : X → Y) (o : Option X) (y : Y) → option_map f o ≡ Some y → Through (λ x. Some (f x)) o y
mapped f None y h = absurd (cc)
mapped f (Some x) y h = record { value = x; is = refl; then = h }

threshold_is : (factor drift E D total : ℕ) → threshold_from factor drift E D ≡ Some total → total ≡ D * drift / (factor * E)
unfolding threshold_from
threshold_is factor drift E D total h =
    let p = through (λ above. option_map (λ below. above / below) (fitting (factor * E))) (fitting (D * drift)) total h in
    let q = mapped (λ below. p.value / below) (fitting (factor * E)) total p.then in
    let above : p.value ≡ D * drift = fitting_is (D * drift) p.value p.is in
    let below : q.value ≡ factor * E = fitting_is (factor * E) q.value q.is in
    let quotient : p.value / q.value ≡ total = cc (q.then) in
    sym quotient ∙ ap₂ ◌/◌ above below

greatest_is : (unit credits drift starts threshold v : ℕ) → greatest_from unit credits drift starts threshold ≡ Some v → v ≡ max ((unit * threshold + credits) * (unit * threshold + credits) + drift) starts
unfolding greatest_from
greatest_is unit credits drift starts threshold v h =
    let p = through (λ few. option_and_then (λ root. option_and_then (λ square. option_map (λ v. max v starts) (fitting (square + drift))) (fitting (root * root))) (fitting (few + credits))) (fitting (unit * threshold)) v h in
    let q = through (λ root. option_and_then (λ square. option_map (λ v. max v starts) (fitting (square + drift))) (fitting (root * root))) (fitting (p.value + credits)) v p.then in
    let r = through (λ square. option_map (λ v. max v starts) (fitting (square + drift))) (fitting (q.value * q.value)) v q.then in
    let m = mapped (λ v. max v starts) (fitting (r.value + drift)) v r.then in
    let few : p.value ≡ unit * threshold = fitting_is (unit * threshold) p.value p.is in
    let root : q.value ≡ unit * threshold + credits = fitting_is (p.value + credits) q.value q.is ∙ ap (λ n. n + credits) few in
    let square : r.value ≡ (unit * threshold + credits) * (unit * threshold + credits) = fitting_is (q.value * q.value) r.value r.is ∙ ap (λ n. n * n) root in
    let risen : m.value ≡ (unit * threshold + credits) * (unit * threshold + credits) + drift = fitting_is (r.value + drift) m.value m.is ∙ ap (λ n. n + drift) square in
    let greater : max m.value starts ≡ v = cc (m.then) in
    sym greater ∙ ap (λ n. max n starts) risen

-- what was reached is the threshold and the greatest drift value from a drift constant and a factor
pub reached : (net : Network) (factor drift E D total vmax : ℕ) → threshold_from factor drift E D ≡ Some total → greatest_from (unit_of net) (credit_sum net) drift (start_drift net) total ≡ Some vmax → IsReached net factor drift E D total vmax
reached net factor drift E D total vmax t g = record {
  total_is = threshold_is factor drift E D total t;
  vmax_is = greatest_is (unit_of net) (credit_sum net) drift (start_drift net) total vmax g;
  stated = ap (option_and_then (greatest_from (unit_of net) (credit_sum net) drift (start_drift net))) t ∙ g;
}

-- what was found is the threshold and the greatest drift value of the model
pub found : (net : Network) (E D total vmax : ℕ) → IsReached net (2 * (unit_of net * unit_of net)) (drift_constant net) E D total vmax → IsFound net E D total vmax
found net E D total vmax r =
    let total_is : total ≡ queue_threshold net E D = r.total_is in
    let vmax_is : vmax ≡ greatest_drift net E D =
    r.vmax_is
    ∙ ap (λ n. max ((unit_of net * n + credit_sum net) * (unit_of net * n + credit_sum net) + drift_constant net) (start_drift net)) total_is in
    record {
      total_is = total_is;
      vmax_is = vmax_is;
      stated = r.stated ∙ ap (λ n. Some n) vmax_is;
    }

pub map_pos : (f : ℕ → ℕ) (xs : List ℕ) → map (λ k. pos (f k)) xs ≡ map pos (map f xs)
map_pos f [] = refl
map_pos f (x ∷ xs) = ap (λ ys. pos (f x) ∷ ys) (map_pos f xs)

pub room_there : (bounds : List ℕ) → All (λ b. b ≤ℤ pos (2 ^ 62)) (map pos bounds) → HasRoom bounds
room_there [] h = tt
room_there (b ∷ bs) h = (omega (arith, ints, All-head (λ z. z ≤ℤ pos (2 ^ 62)) (pos b) (map pos bs) h), room_there bs (All-tail (λ z. z ≤ℤ pos (2 ^ 62)) (pos b) (map pos bs) h))

room_seen : (bounds : List ℕ) → HasRoom bounds → AllByRecursion (λ b. b ≤ℤ pos (2 ^ 62)) (map pos bounds)
room_seen [] h = tt
room_seen (b ∷ bs) h = let low : b ≤ 2 ^ 62 = h.0 in (omega (arith, ints), room_seen bs h.1)

pub all_have_room : (bounds : List ℕ) → HasRoom bounds → All (λ b. b ≤ℤ pos (2 ^ 62)) (map pos bounds)
all_have_room bounds h = All-from_recursion (λ b. b ≤ℤ pos (2 ^ 62)) (map pos bounds) (room_seen bounds h)

-- a root of a number of 127 bits has at most 64
pub root_few : (r v : ℕ) → r * r ≤ v → v < 2 ^ 127 → r ≤ 2 ^ 64
root_few r v low high = go (cases_lt (2 ^ 64) r)
  where
    go : (2 ^ 64 < r) ⊎ (r ≤ 2 ^ 64) → r ≤ 2 ^ 64
    go (inl h) = let great : 2 ^ 64 * 2 ^ 64 ≤ r * r = mul-le (2 ^ 64) (2 ^ 64) r r (omega arith) (omega arith) in absurd (omega arith)
    go (inr h) = h

-- the listed numbers are the bounds
pub record Listed (net : Network) (E D : ℕ) (numbers : List ℤ) : Type 0 where
  pub bounds : List ℕ
  pub listed : numbers ≡ map pos bounds
  pub are : AreBounds net E D bounds

pub listed : (net : Network) (E D vmax root : ℕ) (numbers : List ℤ) → numbers ≡ map (λ k. pos (queue_bound net root k)) (movement_numbers net) → vmax ≡ greatest_drift net E D → root * root ≤ vmax → vmax < (root + 1) * (root + 1) → Listed net E D numbers
listed net E D vmax root numbers e v low high = record {
  bounds = map (queue_bound net root) (movement_numbers net);
  listed = e ∙ map_pos (queue_bound net root) (movement_numbers net);
  are = record {
    root = root;
    is_root = let P : ℕ → Type 0 = IsRoot root in subst P v (record { within = low; most = high });
    are = refl;
  };
}
