-- What stands at the front of the line of a period.
use Rattle.std.specs.Prelude.{◌≡◌, ◌<◌, ◌^◌, ◌++◌, ◌∷◌, [], ℕ, List, length, All, codes, decimal}
use Rattle.mp_model.specs.Log.{spaced}

-- A field ends where a space stands behind it, or nothing.
abbrev pub EndsField : List ℕ → Type 0
EndsField [] = Unit {0}
EndsField (b ∷ bs) = b ≡ 32

-- A line begins as the line of a period with these counts, as many as links are fed and each below 10^9, where the period, the counts and the field `s` stand at its front.
pub record BeginsPeriod (line : List ℕ) (period fed : ℕ) (counts : List ℕ) : Type 0 where
  pub count : length counts ≡ fed
  pub digits : All (λ a. a < 10 ^ 9) counts
  pub rest : List ℕ
  pub whole : EndsField rest
  pub text : line ≡ codes "p " ++ decimal period ++ codes " a" ++ spaced counts ++ codes " s" ++ rest

-- Bytes begin with these counts, as many as links are fed and each below 10^9, and the field `s` behind them.
pub record BeginsCounts (bytes : List ℕ) (fed : ℕ) (counts : List ℕ) : Type 0 where
  pub count : length counts ≡ fed
  pub digits : All (λ a. a < 10 ^ 9) counts
  pub rest : List ℕ
  pub whole : EndsField rest
  pub text : bytes ≡ spaced counts ++ codes " s" ++ rest

-- Bytes begin with a space and this count, below 10^9, and the rest behind it begins with a space.
pub record BeginsCount (bytes : List ℕ) (count : ℕ) (rest : List ℕ) : Type 0 where
  pub digits : count < 10 ^ 9
  pub more : List ℕ
  pub spaced_rest : rest ≡ 32 ∷ more
  pub text : bytes ≡ 32 ∷ decimal count ++ rest
