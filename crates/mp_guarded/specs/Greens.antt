-- The laws on how often a movement is green under a guard.
use Rattle.std.specs.Prelude.{◌≡◌, ◌≤◌, ◌<◌, ℕ, ◌+◌, ◌-◌, ◌*◌, Bool, List, length}
use Rattle.mp_model.specs.Guard.{Guard, GreensFit, given_of}
use Rattle.mp_model.specs.GuardedRun.{IsCandidate, account_at, is_green}
use Rattle.mp_model.specs.Lights.{greens_in}
use Rattle.mp_model.specs.Network.{Junction}

-- A junction keeps to its greens in the first T periods, by the counts and the stages of each: they are one per stage, they fit into the cycle, and each stage is a candidate.
pub record KeepsGreens (guard : Guard) (greens : List ℕ) (j : Junction) (counts : ℕ → ℕ → ℕ) (stages : ℕ → ℕ) (T : ℕ) : Type 0 where
  pub some : 1 ≤ guard.cycle
  pub one_each : length greens ≡ length j.stages
  pub fit : GreensFit guard greens
  pub candidates : (t : ℕ) → t < T → IsCandidate guard j (counts t) t (account_at guard greens j counts stages t) (stages t)

-- Movement k of the junction is green in period t.
abbrev pub is_green_at : Guard → List ℕ → Junction → (ℕ → ℕ → ℕ) → (ℕ → ℕ) → ℕ → ℕ → Bool
is_green_at guard greens j counts stages k t = is_green guard.lost j (account_at guard greens j counts stages t).before (stages t) k

-- Somebody of movement k is counted in each of the n periods from a on.
abbrev pub IsCounted : (ℕ → ℕ → ℕ) → ℕ → ℕ → ℕ → Type 0
IsCounted counts k a n = (u : ℕ) → a ≤ u → u < a + n → 1 ≤ counts u k

-- Over any periods at whose beginnings somebody of a movement is counted, at whatever place of a cycle they begin and end, what its greens serve falls short of a rate that its given periods serve over a cycle by at most the rate for twice the periods that it is not given.
abbrev pub GreensLaw : Type 0
GreensLaw = (guard : Guard) (greens : List ℕ) (j : Junction) (counts : ℕ → ℕ → ℕ) (stages : ℕ → ℕ) (T : ℕ) → KeepsGreens guard greens j counts stages T → (k a n : ℕ) → a + n ≤ T → IsCounted counts k a n →
    (rate flow : ℕ) → rate ≤ flow → guard.cycle * rate ≤ flow * given_of guard.cycle j greens k →
    n * rate ≤ flow * greens_in (is_green_at guard greens j counts stages k) a n + 2 * (rate * (guard.cycle - given_of guard.cycle j greens k))

-- So one of so many periods and one more is green, where the movement is given some.
abbrev pub WaitLaw : Type 0
WaitLaw = (guard : Guard) (greens : List ℕ) (j : Junction) (counts : ℕ → ℕ → ℕ) (stages : ℕ → ℕ) (T : ℕ) → KeepsGreens guard greens j counts stages T → (k a : ℕ) → 1 ≤ given_of guard.cycle j greens k →
    let wait : ℕ = 2 * (guard.cycle - given_of guard.cycle j greens k) in
    a + (wait + 1) ≤ T → IsCounted counts k a (wait + 1) → 1 ≤ greens_in (is_green_at guard greens j counts stages k) a (wait + 1)
