-- A period from the phases is the step of each state that the run stands at.
use Rattle.std.proofs.Common.{◌≡◌, ◌≤◌, ◌<◌, ℕ, zero, suc, ◌+◌, ◌-◌, ◌*◌, ◌%◌, List, None, [], ◌∷◌, length, map, replicate, sum, sum_by, pos, ℤ, get_or, arith, refl, sym, ◌∙◌, ap, subst}
use Rattle.std.specs.List.{All, AllByRecursion, range_with_len}
use Rattle.std.proofs.lemmas.List.Elements.{All-from_get_or}
use Rattle.std.proofs.Math.Nat.{mod-add-mod, zero-mod}
use Rattle.std.proofs.lemmas.List.{length-map, length-replicate}
use Rattle.std.proofs.lemmas.List.FromFn.{length-range_with_len, fill_by_all}
use Rattle.std.proofs.lemmas.List.Sums.{sum-map}
use Rattle.mp_model.specs.Network.{Network, movement_numbers, link_numbers, link_at, numbers_to, from_of, start_of, entry}
use Rattle.mp_model.specs.NetworkRules.{IsNetwork, IsInRange}
use Rattle.mp_model.specs.Arrivals.{arrivals_of}
use Rattle.mp_model.specs.Step.{State, received_by, got_by, new_queue, departing_by, step_by}
use Rattle.mp_model.specs.Run.{opening}
use Rattle.mp_laws.proofs.Lists.{at_in, each_in}
use Rattle.mp_laws.proofs.Lists.{numbered}
use Rattle.mp_laws.proofs.Order.{joined_same, map-same}
use Rattle.mp_press.specs.Queues.{naturals, NoneNegative}
use Rattle.mp_press.proofs.Writes.{numbers_by_all}
use Rattle.mp_feed.specs.Fill.{Fill}
use Rattle.mp_step.proofs.Stages.{get_or-replicate}
use Rattle.mp_step.proofs.Above.{then_within}
use Rattle.mp_step.proofs.Conserving.{passing_conserves}
use Rattle.mp_step.proofs.Entering.{enter_few}
use Rattle.mp_step.specs.BucketLevels.{level_then, first_above, buckets_of}
use Rattle.mp_step.specs.OpenStep.{closed_by, ArePasses}
use Rattle.mp_step.specs.Standing.{Standing, splits_of, IsOn, Stands, as_state}

pub map-map : (f g : ℕ → ℕ) (xs : List ℕ) → map f (map g xs) ≡ map (λ x. f (g x)) xs
map-map f g [] = refl
map-map f g (x ∷ xs) = ap (λ ys. f (g x) ∷ ys) (map-map f g xs)

-- the phase of a link after a period
phase_after : (net : Network) (st : Standing) (y : ℕ → ℕ) (counts : List ℕ) → AllByRecursion (λ l. entry (closed_by net st y counts).phases l ≡ (entry st.phases l + got_by net y (arrivals_of net counts) l) % net.shares) (link_numbers net)
phase_after net st y counts =
    let r : ℕ → ℕ = λ l. entry st.phases l + got_by net y (arrivals_of net counts) l in
    each_in _ (link_numbers net) (λ l h. ap (λ ps. entry ps l) (map-map (λ n. n % net.shares) r (link_numbers net)) ∙ numbered (λ l. r l % net.shares) (length net.links) l h)

pub stands_after : (net : Network) → IsNetwork net → (st : Standing) (y : ℕ → ℕ) (counts : List ℕ) (state : State) → Stands net st state → Stands net (closed_by net st y counts) (step_by net y (arrivals_of net counts) state)
stands_after net ok st y counts state s =
    let a = arrivals_of net counts in
    let r : ℕ → ℕ = got_by net y a in
    record {
      queues =
          map-same (λ k. new_queue net (entry st.queues k) (y k) (entry st.phases (from_of net k)) (r (from_of net k)) k) (λ k. new_queue net (entry st.queues k) (y k) (received_by state (from_of net k)) (r (from_of net k)) k) (movement_numbers net)
          (each_in _ (movement_numbers net) (λ k h. ap (λ n. entry st.queues k - y k + n) (joined_same net ok (entry st.phases) (received_by state) r s.phases k h)))
          ∙ ap (λ q. map (λ k. new_queue net (entry q k) (y k) (received_by state (from_of net k)) (r (from_of net k)) k) (movement_numbers net)) s.queues;
      phases = each_in _ (link_numbers net) (λ l h.
          at_in (λ l. entry (closed_by net st y counts).phases l ≡ (entry st.phases l + r l) % net.shares) l (link_numbers net) h (phase_after net st y counts)
          ∙ ap (λ p. (p + r l) % net.shares) (at_in (λ l. entry st.phases l ≡ received_by state l % net.shares) l (link_numbers net) h s.phases)
          ∙ mod-add-mod (received_by state l) net.shares (r l)
          ∙ ap (λ n. n % net.shares) (sym (numbered (λ l. received_by state l + r l) (length net.links) l h)));
      period = ap (λ n. n + 1) s.period;
      total_in = ap (λ n. n + sum_by a (link_numbers net)) s.total_in;
      total_out = ap (λ n. n + departing_by net y) s.total_out;
    }

below : (n w : ℕ) → 1 ≤ w → n % w < w
below n w h = omega arith

queues_after : (net : Network) (st : Standing) (y : ℕ → ℕ) (counts : List ℕ) → length (closed_by net st y counts).queues ≡ length net.movements
queues_after net st y counts = length-map (movement_numbers net) _ ∙ length-range_with_len 1 (length net.movements)

pub on_after : (net : Network) → IsNetwork net → IsInRange net → (st : Standing) (y : ℕ → ℕ) (counts : List ℕ) → IsOn net st → first_above net (entry st.levels) counts ≡ None → IsOn net (closed_by net st y counts)
on_after net ok range st y counts on none =
    let r : ℕ → ℕ = λ l. entry st.phases l + got_by net y (arrivals_of net counts) l in
    record {
      queues = queues_after net st y counts;
      phases = length-map (map r (link_numbers net)) (λ n. n % net.shares) ∙ length-map (link_numbers net) r ∙ length-range_with_len 1 (length net.links);
      phase_in = each_in (λ l. entry (closed_by net st y counts).phases l < net.shares) (link_numbers net) (λ l h.
          let e = at_in (λ l. entry (closed_by net st y counts).phases l ≡ r l % net.shares) l (link_numbers net) h (phase_after net st y counts) in
          let b = below (r l) net.shares ok.shares in
          omega arith);
      levels = length-map (link_numbers net) (level_then net (entry st.levels) counts) ∙ length-range_with_len 1 (length net.links);
      within = each_in (λ l. entry (closed_by net st y counts).levels l ≤ net.per * (link_at net l).burst) (link_numbers net) (λ l h.
          subst (λ n. n ≤ net.per * (link_at net l).burst) (sym (numbered (level_then net (entry st.levels) counts) (length net.links) l h))
          (at_in (λ l. level_then net (entry st.levels) counts l ≤ net.per * (link_at net l).burst) l (link_numbers net) h (then_within net (entry st.levels) counts on.within none)));
      few = omega (arith, on.few, enter_few net ok range (entry st.levels) counts on.within none);
      splits = on.splits;
      buckets = on.buckets;
    }

sum_numbers : (xs : List ℕ) (n : ℕ) → length xs ≡ n → sum_by (entry xs) (numbers_to n) ≡ sum xs
sum_numbers xs n size = sym (sum-map (entry xs) (numbers_to n)) ∙ ap sum (sym (numbers_by_all (entry xs) xs n size (λ k h l. refl)))

-- what entered has departed or is queued, after a period as before
pub closed_conserves : (net : Network) → IsNetwork net → (st : Standing) (y : ℕ → ℕ) (counts : List ℕ) → IsOn net st → ArePasses net (entry st.queues) y → st.total_in ≡ st.total_out + sum st.queues →
    (closed_by net st y counts).total_in ≡ (closed_by net st y counts).total_out + sum (closed_by net st y counts).queues
closed_conserves net ok st y counts on passes before =
    let after = closed_by net st y counts in
    let m = length net.movements in
    omega (
      arith,
      passing_conserves net ok y (arrivals_of net counts) (as_state st) passes (omega (arith, sum_numbers st.queues m on.queues)),
      sum_numbers after.queues m (queues_after net st y counts),
    )

-- a list of zeros has 0 at each number
zeros : (z a n : ℕ) → replicate n z ≡ map (λ k. z) (range_with_len a n)
zeros z a zero = refl
zeros z a (suc n) = ap (λ xs. z ∷ xs) (zeros z (a + 1) n)

shifted : (f : ℕ → ℤ) (a n : ℕ) → map (λ j. f (j + 1)) (range_with_len a n) ≡ map f (range_with_len (a + 1) n)
shifted f a zero = refl
shifted f a (suc n) = ap (λ xs. f (a + 1) ∷ xs) (shifted f (a + 1) n)

-- a list by its places, from 0, where the numbers go from 1
pub from_places : (f : ℕ → ℤ) (xs : List ℤ) (n : ℕ) → length xs ≡ n → ((j : ℕ) → j < n → get_or xs j (pos 0) ≡ f (j + 1)) → xs ≡ map f (numbers_to n)
from_places f xs n e h = fill_by_all (λ j. f (j + 1)) xs n (pos 0) e h ∙ shifted f 0 n

pub start_naturals : (f : ℕ → ℕ) (ks : List ℕ) → naturals (map (λ k. pos (f k)) ks) ≡ map f ks
start_naturals f [] = refl
start_naturals f (k ∷ ks) = ap (λ xs. f k ∷ xs) (start_naturals f ks)

pub start_positive : (f : ℕ → ℕ) (ks : List ℕ) → NoneNegative (map (λ k. pos (f k)) ks)
start_positive f [] = refl
start_positive f (k ∷ ks) = ap (λ xs. pos (f k) ∷ xs) (start_positive f ks)

-- a run opens with its start queues, where nothing was received
abbrev pub opened : List ℕ → List ℕ → List ℕ → ℕ → List (List ℕ) → List Fill → Standing
opened qs ps ls entered splits buckets = record { queues = qs; phases = ps; levels = ls; period = 0; total_in = entered; total_out = 0; splits = splits; buckets = buckets }

pub no_entries : (xs : List ℕ) (n : ℕ) → xs ≡ replicate n 0 → (l : ℕ) → entry xs l ≡ 0
no_entries xs n e l = ap (λ xs. entry xs l) e ∙ get_or-replicate n (l - 1)

pub opens : (net : Network) → IsNetwork net → (qs ps ls : List ℕ) (entered : ℕ) (splits : List (List ℕ)) (buckets : List Fill) → qs ≡ map (start_of net) (movement_numbers net) → entered ≡ sum_by (start_of net) (movement_numbers net) → ps ≡ replicate (length net.links) 0 → ls ≡ replicate (length net.links) 0 →
    splits ≡ splits_of net → buckets ≡ buckets_of net → IsOn net (opened qs ps ls entered splits buckets) × Stands net (opened qs ps ls entered splits buckets) (opening net)
opens net ok qs ps ls entered splits buckets q t p v s b = (
  record {
    queues = ap length q ∙ length-map (movement_numbers net) (start_of net) ∙ length-range_with_len 1 (length net.movements);
    phases = ap length p ∙ length-replicate {A = ℕ} (length net.links) 0;
    phase_in = each_in (λ l. entry ps l < net.shares) (link_numbers net) (λ l h. omega (arith, no_entries ps (length net.links) p l, ok.shares));
    levels = ap length v ∙ length-replicate {A = ℕ} (length net.links) 0;
    within = each_in (λ l. entry ls l ≤ net.per * (link_at net l).burst) (link_numbers net) (λ l h. omega (arith, no_entries ls (length net.links) v l));
    few = omega (arith, t);
    splits = s;
    buckets = b;
  },
  record {
    queues = q;
    phases = each_in _ (link_numbers net) (λ l h. no_entries ps (length net.links) p l ∙ sym (ap (λ n. n % net.shares) (numbered (λ l. 0) (length net.links) l h) ∙ zero-mod net.shares));
    period = refl;
    total_in = t;
    total_out = refl;
  },
)

-- queues of 0
pub zeros_positive : (n : ℕ) → NoneNegative (replicate n (pos 0))
zeros_positive zero = refl
zeros_positive (suc n) = ap (λ xs. pos 0 ∷ xs) (zeros_positive n)

pub zeros_naturals : (n : ℕ) → naturals (replicate n (pos 0)) ≡ replicate n 0
zeros_naturals zero = refl
zeros_naturals (suc n) = ap (λ xs. 0 ∷ xs) (zeros_naturals n)

pub zeros_few : (most n : ℕ) → 0 < most → All (λ x. x < most) (replicate n 0)
zeros_few most n h = All-from_get_or (λ x. x < most) (replicate n 0) 0 (λ i lt. omega (arith, h, get_or-replicate n i))
