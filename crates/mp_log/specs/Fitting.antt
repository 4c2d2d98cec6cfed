-- What a period line may hold.
use Rattle.std.specs.Prelude.{◌≡◌, ◌≤◌, ◌<◌, ◌^◌, ℕ, ℤ, pos, List, length, map, All}
use Rattle.mp_model.specs.declared.limits.TheConstants.{MOST_LINES}

-- A period line fits a buffer where its lists are no longer than those of the largest network, its period is at most 2^48, its arrivals have at most 9 digits, its stages are at most 16, and its queues are from 0 to 2^85.
pub record FitsLine (period : ℕ) (arrivals stages : List ℕ) (queues : List ℤ) : Type 0 where
  pub counts : List ℕ
  pub none_negative : queues ≡ map pos counts
  pub period_in : period ≤ MOST_LINES
  pub few_arrivals : length arrivals ≤ 128
  pub few_stages : length stages ≤ 64
  pub few_queues : length queues ≤ 512
  pub arrivals_in : All (λ a. a < 10 ^ 9) arrivals
  pub stages_in : All (λ s. s ≤ 16) stages
  pub queues_in : All (λ q. q ≤ 2 ^ 85) counts
