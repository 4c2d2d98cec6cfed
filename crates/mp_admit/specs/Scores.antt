-- Where the game stands, as the code keeps it.
use Rattle.std.specs.Prelude.{◌≡◌, ◌≤◌, ℕ, List, length, ℤ, pos, ◌≤ℤ◌, All, Bool, true, Option, Some, None, option_map}
use Rattle.mp_num.specs.Fraction.{Fraction}
use Rattle.mp_model.specs.Sums.{int_sum_by}
use Rattle.mp_model.specs.Network.{Network, junction_at, own}
use Rattle.mp_verdict.specs.Game.{Score, is_lower}
use Rattle.mp_admit.specs.declared.score.Score.{Score as Kept}

-- This is the score that the code keeps.
abbrev pub score_of : Kept → Score
score_of kept = record { slack = kept.slack; junction = kept.junction; values = kept.values }

-- This is the score that the code keeps, where there is one.
abbrev pub scores_of : Option Kept → Option Score
scores_of kept = option_map score_of kept

-- Values are those of a junction where there is one of at least 0 for each of its movements.
pub record AreValues (net : Network) (j : ℕ) (values : List ℤ) : Type 0 where
  pub size : length values ≡ length (own net (junction_at net j))
  pub sign : All (λ z. pos 0 ≤ℤ z) values

-- Values ask for something where their sum is at least 1.
abbrev pub AskSome : List ℤ → Type 0
AskSome values = pos 1 ≤ℤ int_sum_by (λ (z : ℤ). z) values

-- A score is one of a network where its junction is one of the network and its values are those of the junction.
pub record StandsIn (net : Network) (kept : Kept) : Type 0 where
  pub junction : (1 ≤ kept.junction) × (kept.junction ≤ length net.junctions)
  pub values : AreValues net kept.junction kept.values

-- Where there is a score, it is one of a network.
abbrev pub IfStands : Network → Option Kept → Type 0
IfStands net None = Unit {0}
IfStands net (Some kept) = StandsIn net kept

-- A slack is lower than that of a score, or there is none yet.
abbrev pub lower_than : Fraction → Option Score → Option Bool
lower_than slack None = Some true
lower_than slack (Some old) = is_lower slack old.slack
