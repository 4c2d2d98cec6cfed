-- Start queues: facts of movements by cases of theirs, and whether there is one.
use Rattle.std.proofs.Common.{◌≡◌, ℕ, ◌+◌, ◌-◌, ◌≤◌, ◌<◌, zero, suc, Bool, true, false, nat_lt, List, [], ◌∷◌, length, drop, refl, sym, ◌∙◌, arith}
use Rattle.std.proofs.lemmas.Grind.{common_steps}
use Rattle.std.proofs.lemmas.Bool.Decides.{nat_tests}
use Rattle.std.specs.List.{list_any, AllByRecursion}
use Rattle.std.proofs.lemmas.List.{drop_more}
use Rattle.mp_model.specs.Network.{Movement, Network, no_movement, movement_at}
use Rattle.mp_netfile.proofs.Spotless.{or_none}
use Rattle.mp_netfile.specs.Printed.{has_start_queue}

-- ---- a fact of movements, by their start queues

-- a movement with another start queue
abbrev pub starting : Movement → ℕ → Movement
starting m n = record { name = m.name; from = m.from; to = m.to; share = m.share; flow = m.flow; start = n }

pub by_start : (P : Movement → Type 0) (m : Movement) → P (starting m 0) → ((n : ℕ) → P (starting m (suc n))) → P m
by_start P m none some = go m.start
  where
    go : (n : ℕ) → P (starting m n)
    go zero = none
    go (suc n) = some n

-- ---- whether there is one

-- a movement has a start queue
abbrev pub starts : Movement → Bool
starts m = nat_lt 0 m.start

pub not_above : (n : ℕ) → nat_lt 0 n ≡ false → n ≤ 0
not_above n h = grind (arith, nat_tests)

-- where no movement has a start queue, each has none
pub none_starts : (ms : List Movement) → list_any starts ms ≡ false → AllByRecursion (λ m. starts m ≡ false) ms
none_starts [] h = tt
none_starts (m ∷ ms) h = let both = or_none (starts m) (list_any starts ms) h in (both.0, none_starts ms both.1)

-- the movements from number k on have a start queue where some movement has one
pub record StartsFrom (net : Network) (k : ℕ) : Type 0 where
  pub same : has_start_queue net ≡ list_any starts (drop (k - 1) net.movements)

pub StartsFrom-start : (net : Network) → StartsFrom net 1
StartsFrom-start net = record { same = refl }

left : (net : Network) (k : ℕ) → 1 ≤ k → k ≤ length net.movements → drop (k - 1) net.movements ≡ movement_at net k ∷ drop (k + 1 - 1) net.movements
left net k low high = let next : k - 1 + 1 ≡ k + 1 - 1 = omega arith in rw (← next) (drop_more net.movements (k - 1) no_movement (omega arith))

pub StartsFrom-more : (net : Network) (k : ℕ) → StartsFrom net k → 1 ≤ k → k ≤ length net.movements → nat_lt 0 (movement_at net k).start ≡ false → StartsFrom net (k + 1)
StartsFrom-more net k h low high none = record { same = h.same ∙ rw (left net k low high, none) refl }

pub StartsFrom-hit : (net : Network) (k : ℕ) → StartsFrom net k → 1 ≤ k → k ≤ length net.movements → nat_lt 0 (movement_at net k).start ≡ true → true ≡ has_start_queue net
StartsFrom-hit net k h low high some = sym (h.same ∙ rw (left net k low high, some) refl)

none_past : {A : Type 0} (xs : List A) (i : ℕ) → length xs ≤ i → drop i xs ≡ []
none_past xs i h = grind (arith, common_steps)

pub StartsFrom-none : (net : Network) (k : ℕ) → StartsFrom net k → length net.movements < k → false ≡ has_start_queue net
StartsFrom-none net k h past = sym (h.same ∙ rw (none_past net.movements (k - 1) (omega arith)) refl)

pub ruleset starts_from = (StartsFrom-start, StartsFrom-more, StartsFrom-hit, StartsFrom-none)
