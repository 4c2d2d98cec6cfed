-- The law on the queue of one movement: since when somebody has been waiting (Lindley 1952).
use Rattle.std.specs.Prelude.{◌≡◌, ◌≤◌, ℕ, suc, ◌+◌, ◌*◌, min, Bool, cond}
use Rattle.mp_model.specs.Lights.{IsWaiting, greens_in}

-- Of a movement, q is its queue at the beginning of each period and came is how many have joined it until then; a period in which it is green passes the lesser of its flow and its queue, and another passes 0.
pub record IsServed (flow : ℕ) (green : ℕ → Bool) (q came : ℕ → ℕ) : Type 0 where
  pub none : came 0 ≡ 0
  pub moves : (t : ℕ) → q (suc t) + cond (green t) (min flow (q t)) 0 + came t ≡ q t + came (suc t)

-- At the beginning of period t nobody waits; or somebody has waited since the beginning of the period behind some period s, and the queue is at most what joined since s began, less what the greens behind s serve; or somebody has always waited, and the queue is at most the first queue and what joined, less what the greens serve.
pub data Busy (flow : ℕ) (green : ℕ → Bool) (q came : ℕ → ℕ) (t : ℕ) : Type 0 where
  nobody : q t ≡ 0 → Busy flow green q came t
  since : (s n : ℕ) → s + 1 + n ≡ t → IsWaiting q (s + 1) n → q t + flow * greens_in green (s + 1) n + came s ≤ came t → Busy flow green q came t
  always : IsWaiting q 0 t → q t + flow * greens_in green 0 t ≤ q 0 + came t → Busy flow green q came t

-- This holds of every movement that is served so, at each period.
abbrev pub BusyLaw : Type 0
BusyLaw = (flow : ℕ) (green : ℕ → Bool) (q came : ℕ → ℕ) → IsServed flow green q came → (t : ℕ) → Busy flow green q came t
