-- What an answer may hold.
use Rattle.std.specs.Prelude.{◌≤◌, ℕ, ℤ, List, length, All}
use Rattle.mp_control.specs.Input.{AreSmall}

-- An answer fits a buffer where its lists are no longer than those of the largest network, its counts have at most 9 digits, and its stages are at most 16.
pub record FitsAnswer (counts : List ℤ) (stages : List ℕ) : Type 0 where
  pub small : AreSmall counts
  pub few_counts : length counts ≤ 512
  pub few_stages : length stages ≤ 64
  pub stages_in : All (λ s. s ≤ 16) stages
